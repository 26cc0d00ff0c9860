-- Why a world is not opened or not run: the first refusal that applies.
use Rattle.std.specs.Prelude.{List, All, length}
use Rattle.rb_history.specs.RingModel.{IsWorkerCount}
use Rattle.rb_world.specs.declared.actor.Actor.{Actor}
use Rattle.rb_world.specs.declared.world_setup.RingSetup.{RingSetup}
use Rattle.rb_world.specs.declared.world_setup.WorkerSetup.{WorkerSetup}
use Rattle.rb_world.specs.declared.world_fault.WorldFault.{WorldFault}
use Rattle.rb_world.specs.declared.world_fault.WorldFault.TheVariants.{UnknownActor, Memory}
use Rattle.rb_world.specs.declared.world_fault.WorldOpenFault.{WorldOpenFault}
use Rattle.rb_world.specs.declared.world_fault.WorldOpenFault.TheVariants as fault
use Rattle.rb_world.specs.OpenedWorlds.{AreRings, HaveContexts, HaveRings, HaveRooms, MayOpen}
use Rattle.rb_world.specs.WorldRuns.{IsFirstUnknown}
use Rattle.rb_world.specs.WorldValue.{WorldValue, IsThere}

-- `Memory` is returned only if the world may be opened
abbrev pub IsOpenRefusal : List RingSetup → List WorkerSetup → WorldOpenFault → Type 0
IsOpenRefusal rings workers fault.Ring = ¬ AreRings rings
IsOpenRefusal rings workers fault.ContextLength = AreRings rings × ¬ HaveContexts workers
IsOpenRefusal rings workers fault.Rings = AreRings rings × HaveContexts workers × ¬ HaveRings (length rings) workers
IsOpenRefusal rings workers fault.Workers =
    AreRings rings × HaveContexts workers × HaveRings (length rings) workers × ¬ IsWorkerCount (length workers)
IsOpenRefusal rings workers fault.Chapter =
    AreRings rings × HaveContexts workers × HaveRings (length rings) workers × IsWorkerCount (length workers) × ¬ HaveRooms rings
IsOpenRefusal rings workers fault.Memory = MayOpen rings workers

-- `Memory` is returned only if all actors exist
abbrev pub IsRefusedRun : WorldValue → List Actor → WorldFault → Type 0
IsRefusedRun v actors (UnknownActor place) = IsFirstUnknown v actors place
IsRefusedRun v actors Memory = All (IsThere v) actors
