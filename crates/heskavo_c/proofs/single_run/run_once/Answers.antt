use Rattle.std.proofs.Common.{ℕ, ◌<◌, sym, subst}
use Rattle.rb_history.specs.TapeBytes.{AreItemsFrom}
use Rattle.heskavo_c.specs.Runs.{IsDrained, items_left}
use Rattle.heskavo_c.proofs.RunEnd.{run-ends}
use Rattle.heskavo_c.proofs.single_run.run_once.Goals as goal

pub value_of-value-requires-clause-there : goal.value_of-value-requires-clause-there
value_of-value-requires-clause-there c = (run-ends c.args.program.now c.args.context.now c.args.size c.in_ok-world.world c.requires.size c.in_ok-world.ensures.ran).there

pub value_of-value-requires-clause-ended : goal.value_of-value-requires-clause-ended
value_of-value-requires-clause-ended c = (run-ends c.args.program.now c.args.context.now c.args.size c.in_ok-world.world c.requires.size c.in_ok-world.ensures.ran).ended

pub tapes_of-requires-clause-follow : goal.tapes_of-requires-clause-follow
tapes_of-requires-clause-follow c =
    subst (λ n. (ring : ℕ) → ring < n → AreItemsFrom c.args.size 0 (items_left c.in_ok-world.world ring)) (sym c.rings.ensures)
    (run-ends c.args.program.now c.args.context.now c.args.size c.in_ok-world.world c.requires.size c.in_ok-world.ensures.ran).follow

pub tapes_of-requires-clause-drained : goal.tapes_of-requires-clause-drained
tapes_of-requires-clause-drained c =
    subst (λ n. (ring : ℕ) → ring < n → IsDrained c.in_ok-world.world ring) (sym c.rings.ensures)
    (run-ends c.args.program.now c.args.context.now c.args.size c.in_ok-world.world c.requires.size c.in_ok-world.ensures.ran).drained
