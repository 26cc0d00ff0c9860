-- The records that workers hold are out in their hands.
use Rattle.std.specs.Prelude.{ℕ, ◌≡◌, ◌<◌, ◌⊎◌, List, [], Some, length, map}
use Rattle.std.specs.List.{slice_index_or}
use Rattle.rb_history.specs.Calls.{IsBusy}
use Rattle.rb_chapter_ring.specs.declared.out_record.OutRecord.{OutRecord}
use Rattle.rb_chapter_ring.specs.Hands.{HandBook, hand_at, out_record}
use Rattle.rb_interp.specs.MachineState.{MachineState}
use Rattle.rb_interp.specs.StoredMemory.{held_record}
use Rattle.rb_chapter_ring.specs.declared.ring_record.RingRecord.{RingRecord}
use Rattle.rb_world.specs.WorldValue.{KeptRing, WorldValue, no_kept_ring, ring_at, whole_world, world_ring}
use Rattle.rb_world.specs.inner.FittingWorlds.{IsSoundWorld}

-- the ring, worker and hand in which a record is said to be out, and the record's numbers
pub record Mark : Type 0 where
  pub ring : ℕ
  pub worker : ℕ
  pub hand : ℕ
  pub out : OutRecord

abbrev pub mark_of : RingRecord → Mark
mark_of x = record {
  ring = x.ring;
  worker = x.reservation.granted.worker;
  hand = x.reservation.hand;
  out = out_record x.reservation.granted.pos x.reservation.granted.serial (length x.reservation.granted.bytes);
}

abbrev pub hands_shown : KeptRing → HandBook
hands_shown s = s.ring.state.hands

abbrev pub books_of : List KeptRing → List HandBook
books_of rings = map hands_shown rings

-- the record is out there
abbrev pub IsOutIn : List HandBook → Mark → Type 0
IsOutIn books m = hand_at (slice_index_or books m.ring []) m.worker m.hand ≡ Some m.out

-- every record that is held satisfies P
abbrev pub AllHeld : (Mark → Type 0) → List (ℕ × RingRecord) → Type 0
AllHeld P records = (id : ℕ) (x : RingRecord) → held_record id records ≡ Some x → P (mark_of x)

abbrev pub AreInHand : List HandBook → List (ℕ × RingRecord) → Type 0
AreInHand books records = AllHeld (IsOutIn books) records

-- the record was held before
abbrev pub WasHeld : List (ℕ × RingRecord) → Mark → Type 0
WasHeld records m = (id : ℕ) × (x : RingRecord) × (held_record id records ≡ Some x) × (mark_of x ≡ m)

-- every record that is now held was held before, or is out at the ring with this number
abbrev pub HoldsOldOrOut : ℕ → HandBook → List (ℕ × RingRecord) → List (ℕ × RingRecord) → Type 0
HoldsOldOrOut r book old new = AllHeld (λ m. WasHeld old m ⊎ ((m.ring ≡ r) × (hand_at book m.worker m.hand ≡ Some m.out))) new

abbrev pub HoldsEachOldOrOut : List HandBook → List (ℕ × RingRecord) → List (ℕ × RingRecord) → Type 0
HoldsEachOldOrOut books old new = AllHeld (λ m. WasHeld old m ⊎ IsOutIn books m) new

-- ---- what a turn leaves in hands

-- what was out in a hand is still out in it
abbrev pub StaysOut : HandBook → HandBook → Type 0
StaysOut old new = (w h : ℕ) (o : OutRecord) → hand_at old w h ≡ Some o → hand_at new w h ≡ Some o

-- what was out in a hand, and is still busy, is still out in it
abbrev pub KeepsInHand : KeptRing → KeptRing → Type 0
KeepsInHand old new =
    (w h : ℕ) (o : OutRecord) (n : ℕ) → hand_at (hands_shown old) w h ≡ Some o → IsBusy (world_ring new).ring.history o.pos w o.serial n
    → hand_at (hands_shown new) w h ≡ Some o

abbrev pub KeepsEachInHand : List KeptRing → List KeptRing → Type 0
KeepsEachInHand old new = (r : ℕ) → r < length new → KeepsInHand (slice_index_or old r no_kept_ring) (slice_index_or new r no_kept_ring)

-- ---- a world

-- the records of every worker are out in its hands
abbrev pub AllInHand : WorldValue → Type 0
AllInHand v = (w : ℕ) (m : MachineState RingRecord) → w < length v.machines → m ≡ slice_index_or v.machines w m → AreInHand (books_of v.rings) m.records

-- every ring's tag is its number
abbrev pub AreTagged : WorldValue → Type 0
AreTagged v = (r : ℕ) → r < length v.rings → (ring_at v r).ring.tag ≡ r

-- the world was reached by turns from an opening of verified programs, the records that workers hold are out in their
-- hands, and every ring's tag is its number
pub record IsHeldWorld (v : WorldValue) : Type 0 where
  pub sound : IsSoundWorld (whole_world v)
  pub in_hand : AllInHand v
  pub tagged : AreTagged v
