use Rattle.std.proofs.Common.{subst}
use Rattle.rb_verifier.specs.Annotation.{state_at}
use Rattle.rb_cost.specs.declared.path_quantity.Quantity.TheVariants.{Records}
use Rattle.rb_cost.specs.Paths.{IsPath, IsMost}
use Rattle.rb_cost.specs.inner.Pass.{total, weight_at}
use Rattle.rb_cost.proofs.Unasked.{unasked}
use Rattle.rb_cost.proofs.program_cost.most_bytes.Goals as goal

pub returns-then-records-eq0 : goal.returns-then-records-eq0
returns-then-records-eq0 c =
    unasked c.args.program.now (state_at c.args.states.now) c.args.ring
    (subst (IsMost (IsPath c.args.program.now) (total (weight_at (Records c.args.ring) c.args.program.now (state_at c.args.states.now)))) c.if-records-eq0.true c.requires.records)
