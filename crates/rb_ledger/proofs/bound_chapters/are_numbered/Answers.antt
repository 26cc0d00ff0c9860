use Rattle.rb_ledger.proofs.BindingSteps.{numbers-exact, numbers-fail}
use Rattle.rb_ledger.proofs.bound_chapters.are_numbered.Goals as goal

pub returns-then-are_numbered_upward : goal.returns-then-are_numbered_upward
returns-then-are_numbered_upward c = record { exact = numbers-exact c.args.chapters.now c.args.last.now c.are_numbered_upward.result c.number.result c.are_numbered_upward.ensures.numbered c.if-are_numbered_upward.true c.number.ensures.number }

pub returns-else-are_numbered_upward : goal.returns-else-are_numbered_upward
returns-else-are_numbered_upward c = record { exact = numbers-fail c.args.chapters.now c.args.last.now c.are_numbered_upward.result c.are_numbered_upward.ensures.numbered c.if-are_numbered_upward.false }
