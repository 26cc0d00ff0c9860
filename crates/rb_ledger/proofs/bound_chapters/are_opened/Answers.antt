use Rattle.rb_ledger.proofs.BindingSteps.{opened-exact}
use Rattle.rb_ledger.proofs.bound_chapters.are_opened.Goals as goal

pub returns-then-opens_empty_ring : goal.returns-then-opens_empty_ring
returns-then-opens_empty_ring c = record { exact = opened-exact c.args.chapters.now c.in-Some.first.now c.in-Some.rest.now c.args.last.now c.opens_empty_ring-in-Some.result c.each_meets.result c.in-Some.ensures.cases.0 c.requires.numbered c.opens_empty_ring-in-Some.ensures.exact c.if-opens_empty_ring.true c.each_meets.ensures.exact }
