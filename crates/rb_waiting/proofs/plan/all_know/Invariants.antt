use Rattle.std.proofs.Common.{◌≤◌, take}
use Rattle.std.specs.Prelude.{All}
use Rattle.rb_run_cost.specs.CallCosts.{IsVerified}
use Rattle.rb_waiting.proofs.plan.all_know.Given as goal

abbrev pub invariant-loop-program : goal.invariant-loop-program
invariant-loop-program l = record {
  known : All (λ p. l.rings ≤ p.rings) (take l.program-index l.programs);
  verified : All IsVerified (take l.program-index l.programs);
}
