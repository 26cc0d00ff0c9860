use Rattle.std.proofs.Common.{◌≡◌, ◌++◌, ◌∷◌, [], sym, subst, rules}
use Rattle.std.specs.List.{AllZip}
use Rattle.std.proofs.Common.{map, take, ◌+◌}
use Rattle.rb_script.specs.Programs.{IsWorkersProgram}
use Rattle.rb_script.specs.Scripts.{worker_text}
use Rattle.rb_script.proofs.WorkerPrograms.{programs-more, programs-fault}
use Rattle.rb_script.proofs.programs.programs_of.Goals as goal

pub returns-in-Err-clause-fault : goal.returns-in-Err-clause-fault
returns-in-Err-clause-fault c =
    programs-fault c.args.rings c.args.workers.now c.loop-worker.worker-index c.worker-item.result c.worker-item.is c.loop-worker-test.true c.loop-worker.programs.items c.loop-worker.invariant c.in-Err.fault c.in-Err.ensures.fault

pub loop-worker-preserved : goal.loop-worker-preserved
loop-worker-preserved c =
    let pushed : c.push.new.self.items ≡ c.loop-worker.programs.items ++ c.in-Ok.program ∷ [] = search rules in
    subst (λ l. AllZip (IsWorkersProgram c.args.rings) (map worker_text (take (c.loop-worker.worker-index + 1) c.args.workers.now)) l) (sym pushed) (
    programs-more c.args.rings c.args.workers.now c.loop-worker.worker-index c.worker-item.result c.worker-item.is c.loop-worker-test.true c.loop-worker.programs.items c.loop-worker.invariant c.in-Ok.program c.in-Ok.ensures.program
    )
