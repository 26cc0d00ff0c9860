use Rattle.std.proofs.Common.{◌≤◌}
use Rattle.rb_verifier.specs.Subject.{Subject}
use Rattle.rb_run_cost.specs.CallCosts.{IsVerified}
use Rattle.rb_waiting.proofs.Sums.{all_more, all_taken}
use Rattle.rb_waiting.proofs.plan.all_know.Goals as goal

pub loop-program-preserved : goal.loop-program-preserved
loop-program-preserved c =
    let i = c.loop-program.program-index in
    let p = c.program-item.result in
    record {
      known = all_more (λ (s : Subject). c.args.rings ≤ s.rings) c.args.programs.now i p c.loop-program-test.true c.program-item.is c.loop-program.invariant.known (c.knows.ensures.value.0 c.if-not-knows.false);
      verified = all_more IsVerified c.args.programs.now i p c.loop-program-test.true c.program-item.is c.loop-program.invariant.verified c.is_verified.ensures;
    }

pub returns-clause-known : goal.returns-clause-known
returns-clause-known c = λ _. all_taken (λ (s : Subject). c.args.rings ≤ s.rings) c.args.programs.now c.loop-program.program-index c.loop-program.auto.program-index-end c.loop-program-test.false c.loop-program.invariant.known

pub returns-clause-verified : goal.returns-clause-verified
returns-clause-verified c = λ _. all_taken IsVerified c.args.programs.now c.loop-program.program-index c.loop-program.auto.program-index-end c.loop-program-test.false c.loop-program.invariant.verified
