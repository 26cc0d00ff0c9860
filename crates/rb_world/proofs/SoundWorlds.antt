-- Invariants that every turn of a world preserves.
use Rattle.std.proofs.Common.{◌≡◌, ℕ, ◌<◌, Some, length, get_or, ap, ◌∙◌}
use Rattle.std.specs.Prelude.{option_map}
use Rattle.rb_history.specs.Calls.{IsBusy}
use Rattle.rb_interp.specs.MachineState.{MachineState}
use Rattle.rb_interp.specs.StoredMemory.{held_record}
use Rattle.rb_world.specs.declared.actor.Actor.{Actor}
use Rattle.rb_world.specs.Worlds.{WorkerState}
use Rattle.rb_world.specs.OpeningWorld.{IsActor}
use Rattle.rb_world.specs.EveryInterleaving.{HoldsRecord, IsBusyAsHeld, IsWellRun}
use Rattle.rb_world.proofs.WholeRuns.{leads-on, reached-well}
use Rattle.rb_chapter_ring.specs.declared.ring_record.RingRecord.{RingRecord}
use Rattle.rb_world.specs.declared.turn_done.TurnDone.{TurnDone}
use Rattle.rb_world.specs.WorldValue.{WholeWorld, place_of, worker_of, shown_world}
use Rattle.rb_world.specs.TurnsDone.{IsWholeTurn}
use Rattle.rb_world.specs.inner.FittingWorlds.{IsFitting, IsSoundWorld}
use Rattle.rb_world.proofs.WorkerTurns.{get-map}

-- a record that a worker holds is busy at its ring
pub busy-held : (v : WholeWorld) (w : ℕ) (m : MachineState RingRecord) → IsSoundWorld v → w < length v.machines → m ≡ get_or v.machines w m → (id : ℕ) (x : RingRecord) → held_record id m.records ≡ Some x
    → (n : ℕ) × IsBusy ((shown_world v).rings x.ring).ring.history x.reservation.granted.pos w x.reservation.granted.serial n
busy-held v w m sound inside is id x held =
    let now : (shown_world v).workers w ≡ worker_of m = get-map v.machines w m inside is in
    let holds : HoldsRecord ((shown_world v).workers w) id x.ring x.reservation.granted.pos x.reservation.granted.serial = record { held = ap (λ (y : WorkerState). y.held id) now ∙ ap (option_map place_of) held } in
    let well : IsWellRun sound.reached.actors sound.reached.events (shown_world v) = reached-well (shown_world v) sound.reached in
    let busy : IsBusyAsHeld (shown_world v) w id x.ring x.reservation.granted.pos x.reservation.granted.serial = well.held_are_busy w id x.ring x.reservation.granted.pos x.reservation.granted.serial inside holds in
    (length busy.0, busy.2)

-- a turn leaves a sound world if the result is fitting
pub sound-after : (old new : WholeWorld) (actor : Actor) (done : TurnDone) → IsSoundWorld old → IsActor (length old.machines) actor → IsWholeTurn actor old done new → IsFitting new → IsSoundWorld new
sound-after old new actor done sound inside turned fits = record {
  fitting = fits;
  reached = leads-on (shown_world old) (shown_world new) actor turned.0 sound.reached inside turned.2;
}
