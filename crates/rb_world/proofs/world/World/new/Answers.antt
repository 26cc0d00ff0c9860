use Rattle.rb_world.specs.WorldValue.{WorldValue}
use Rattle.rb_world.specs.declared.world_fault.WorldOpenFault.TheVariants as fault
use Rattle.rb_world.proofs.Refusals.{refused-exactly}
use Rattle.rb_world.proofs.Openings.{held-opening, opening-world}
use Rattle.rb_world.proofs.world.World.new.Goals as goal

pub invariant_of-result : goal.invariant_of-result
invariant_of-result c =
    let v : WorldValue = record { rings = c.in-Ok.opened.items; machines = c.in-Ok-start_machines.machines.items } in
    held-opening c.args.rings.now c.args.workers.now v (record { rings_are = c.in-Ok.ensures.opened; machines_are = c.in-Ok-start_machines.ensures.started }) c.in_default.ensures.allowed.ring_count

pub returns-clause-opening : goal.returns-clause-opening
returns-clause-opening c =
    let v : WorldValue = record { rings = c.in-Ok.opened.items; machines = c.in-Ok-start_machines.machines.items } in
    opening-world c.args.rings.now c.args.workers.now v (record { rings_are = c.in-Ok.ensures.opened; machines_are = c.in-Ok-start_machines.ensures.started })

pub returns-in-Err-clause-ring : goal.returns-in-Err-clause-ring
returns-in-Err-clause-ring c = refused-exactly c.args.rings.now c.args.workers.now c.in-Err.fault fault.Ring c.in-Err.ensures.refused

pub returns-in-Err-clause-context_length : goal.returns-in-Err-clause-context_length
returns-in-Err-clause-context_length c = refused-exactly c.args.rings.now c.args.workers.now c.in-Err.fault fault.ContextLength c.in-Err.ensures.refused

pub returns-in-Err-clause-ring_count : goal.returns-in-Err-clause-ring_count
returns-in-Err-clause-ring_count c = refused-exactly c.args.rings.now c.args.workers.now c.in-Err.fault fault.Rings c.in-Err.ensures.refused

pub returns-in-Err-clause-worker_count : goal.returns-in-Err-clause-worker_count
returns-in-Err-clause-worker_count c = refused-exactly c.args.rings.now c.args.workers.now c.in-Err.fault fault.Workers c.in-Err.ensures.refused

pub returns-in-Err-clause-chapter : goal.returns-in-Err-clause-chapter
returns-in-Err-clause-chapter c = refused-exactly c.args.rings.now c.args.workers.now c.in-Err.fault fault.Chapter c.in-Err.ensures.refused

pub returns-in-Err-clause-memory : goal.returns-in-Err-clause-memory
returns-in-Err-clause-memory c = λ is. (refused-exactly c.args.rings.now c.args.workers.now c.in-Err.fault fault.Memory c.in-Err.ensures.refused).0 is
