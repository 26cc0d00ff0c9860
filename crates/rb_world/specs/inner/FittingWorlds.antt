-- Invariants of a world between turns.
use Rattle.std.specs.Prelude.{ℕ, ◌≡◌, ◌<◌, ◌≤◌, List, Some, length, map}
use Rattle.std.specs.List.{slice_index_or, AllByRecursion}
use Rattle.rb_history.specs.RoomRule.{Setup}
use Rattle.rb_interp.specs.MachineState.{MachineState}
use Rattle.rb_interp.specs.StoredMemory.{held_record}
use Rattle.rb_world.specs.Worlds.{WorldRing}
use Rattle.rb_world.specs.EveryInterleaving.{IsReachedWorld}
use Rattle.rb_chapter_ring.specs.declared.ring_record.RingRecord.{RingRecord}
use Rattle.rb_world.specs.WorldValue.{WholeWorld, shown_world}

-- the worker's records were granted to it, by rings that exist
abbrev pub AreOwn : (w rings : ℕ) → List (ℕ × RingRecord) → Type 0
AreOwn w rings records = (id : ℕ) (x : RingRecord) → held_record id records ≡ Some x → (x.ring < rings) × (x.reservation.granted.worker ≡ w)

abbrev pub setups_of : List WorldRing → List Setup
setups_of rings = map (λ s. s.ring.setup) rings

-- every ring was opened for this many workers
abbrev pub AreFor : ℕ → List Setup → Type 0
AreFor workers setups = AllByRecursion (λ u. u.workers ≡ workers) setups

-- every ring has a seat for the worker
abbrev pub AreOpenTo : ℕ → List Setup → Type 0
AreOpenTo w setups = AllByRecursion (λ u. w < u.workers) setups

-- the rings are opened for these workers, every program uses rings that exist, and every worker holds records granted
-- to it
pub record IsFitting (v : WholeWorld) : Type 0 where
  pub rings : AreFor (length v.machines) (setups_of v.rings)
  pub programs : (w : ℕ) (m : MachineState RingRecord) → w < length v.machines → m ≡ slice_index_or v.machines w m → m.program.rings ≤ length v.rings
  pub own : (w : ℕ) (m : MachineState RingRecord) → w < length v.machines → m ≡ slice_index_or v.machines w m → AreOwn w (length v.rings) m.records

-- the world also was reached by turns from an opening of verified programs
pub record IsSoundWorld (v : WholeWorld) : Type 0 where
  pub fitting : IsFitting v
  pub reached : IsReachedWorld (shown_world v)
