use Rattle.std.proofs.Common.{rules, ◌≡◌, ◌+◌, take, get_or, sym, subst}
use Rattle.std.specs.List.{AllZip}
use Rattle.rb_world.specs.OpenedWorlds.{IsStarted}
use Rattle.rb_world.proofs.ListSteps.{zip-more}
use Rattle.rb_world.proofs.world_setup.start_machines.Goals as goal

pub loop-worker-preserved : goal.loop-worker-preserved
loop-worker-preserved c =
    let item = c.worker-item.result in
    let same : item ≡ get_or c.args.workers.now c.loop-worker.worker-index item = search rules in
    let here = subst (λ x. IsStarted x c.start_machine.result) same c.start_machine.ensures.started in
    subst (AllZip IsStarted (take (c.loop-worker.worker-index + 1) c.args.workers.now)) (sym c.in_ok-push.ensures.items)
    (zip-more IsStarted c.args.workers.now c.loop-worker.worker-index c.loop-worker.machines.items item c.start_machine.result c.loop-worker-test.true here c.loop-worker.invariant)
