use Rattle.rb_ledger.proofs.BindingSteps.{goes-exact}
use Rattle.rb_ledger.proofs.bound_chapters.go_on.Goals as goal

pub returns : goal.returns
returns c = record { exact = goes-exact c.args.chapters.now c.args.last.now c.are_opened.result c.requires.legal c.are_opened.ensures.exact }
