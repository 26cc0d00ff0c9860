-- What the calls on a shared ring do and return at one point of its whole history, besides those that rb_ledger
-- defines; and what a result adds to a seat's counts and bytes (own).
use Rattle.std.specs.Prelude.{◌≡◌, ◌≢◌, ℕ, ◌+◌, ◌≤◌, ◌<◌, ◌↔◌, List, Option, Some, None, length, replicate, slice_set as set, Result, Ok, Err}
use Rattle.std.specs.FinMap.{insert}
use Rattle.rb_history.specs.declared.answers.Notice.{Notice}
use Rattle.rb_history.specs.declared.answers.Notice.TheVariants.{Due}
use Rattle.rb_history.specs.declared.tally.Tally.{Tally}
use Rattle.rb_history.specs.ReservationModel.{Granted}
use Rattle.rb_history.specs.NoticesAndQueries.{IsDue}
use Rattle.rb_history.specs.Counting.{counts_of}
use Rattle.rb_history.specs.WorkerCounts.{tally_of}
use Rattle.rb_history.specs.RingModel.{Ring, Contents}
use Rattle.rb_history.specs.Calls.{Grants, FindsFull, Outputs, producer_now, consumer_now}
use Rattle.rb_chapter_ring.specs.declared.faults.ReserveFault.{ReserveFault}
use Rattle.rb_chapter_ring.specs.declared.faults.ReserveFault.TheVariants.{Full, Flags, ChapterFull, Foreign, HandsFull}
use Rattle.rb_chapter_ring.specs.OpenedRing.{capped_counts}
use Rattle.rb_chapter_ring.specs.declared.out_record.OutRecord.{OutRecord}
use Rattle.rb_chapter_ring.specs.Hands.{Hands, in_hand, out_record}
use Rattle.rb_chapter_ring.specs.HandGranted.{HandGranted}
use Rattle.rb_ledger.specs.Seats.{Shared, WorkerSeat}
use Rattle.rb_ledger.specs.EntryRoom.{MayLogGrant, MayLogRefusal, FindsNoEntryRoom}
use Rattle.rb_shared_ring.specs.declared.audit.Audit.{Audit}

-- ---- the calls, by their arguments and results, on a ring whose chapters have this room for entries and whose first
-- `cut` entries were handed out

-- The reason why no record of n bytes was granted to the worker. Full, which is logged: the ring has no room for the
-- record, and the chapter has room for the entry of a refusal. ChapterFull, which changes nothing: there is no room for
-- the entries that would be logged. Foreign and HandsFull are returned before the call reaches the ring.
abbrev pub RefusesInRoom : (room cut : ℕ) → Ring → Ring → ℕ → ℕ → ReserveFault → Type 0
RefusesInRoom room cut old new w n Full = FindsFull old new w n × MayLogRefusal room cut w old
RefusesInRoom room cut old new w n ChapterFull = FindsNoEntryRoom room cut old new w n
RefusesInRoom room cut old new w n Flags = new ≡ old
RefusesInRoom room cut old new w n Foreign = ⊥
RefusesInRoom room cut old new w n HandsFull = ⊥

-- a record is granted if the ring has room for it, and the chapter for all entries that it will log
abbrev pub ReservesInRoom : (room cut : ℕ) → ℕ → ℕ → Result Granted (ReserveFault × List ℕ) → Ring → Ring → Type 0
ReservesInRoom room cut w n (Ok r) old new = Grants old new w n r.pos r.serial × MayLogGrant room cut old × (r.worker ≡ w) × (r.bytes ≡ replicate n 0)
ReservesInRoom room cut w n (Err e) old new = RefusesInRoom room cut old new w n e.0 × (e.0 ≢ Flags)

abbrev pub OutputsInRoom : (room cut : ℕ) → ℕ → List ℕ → ℕ → Result Notice (ReserveFault × List ℕ) → Ring → Ring → Type 0
OutputsInRoom room cut w bytes flags (Ok notice) old new =
    Outputs old new w bytes × MayLogGrant room cut old × ((notice ≡ Due) ↔ IsDue (consumer_now old) (producer_now old) flags) × (flags ≤ 3)
OutputsInRoom room cut w bytes flags (Err e) old new = RefusesInRoom room cut old new w (length bytes) e.0 × ((e.0 ≡ Flags) ↔ (3 < flags))

-- The positions, the counts, and the counts of the worker's entries are those of the whole history. The refusal count
-- of all workers saturates at 2^64 - 1.
pub record Audits (w : ℕ) (a : Audit) (old new : Ring) : Type 0 where
  pub producer_is : a.producer ≡ producer_now old
  pub consumer_is : a.consumer ≡ consumer_now old
  pub counts_are : a.counts ≡ capped_counts (counts_of old.history)
  pub own_is : a.own ≡ tally_of w old.history
  pub same : new ≡ old

-- the result is this refusal
abbrev pub IsRefusedInRoomAs : {T : Type 0} → ReserveFault → Result T (ReserveFault × List ℕ) → Type 0
IsRefusedInRoomAs fault (Ok _) = ⊥
IsRefusedInRoomAs fault (Err e) = e.0 ≡ fault

-- ---- what a result adds to a seat's counts and bytes

-- a refusal that is logged is counted
abbrev pub refused_in_room_by : Tally → ReserveFault → Tally
refused_in_room_by t Full = record t { refused = t.refused + 1 }
refused_in_room_by t Flags = t
refused_in_room_by t ChapterFull = t
refused_in_room_by t Foreign = t
refused_in_room_by t HandsFull = t

abbrev pub reserved_in_room_by : Tally → Result Granted (ReserveFault × List ℕ) → Tally
reserved_in_room_by t (Ok r) = record t { made = t.made + 1 }
reserved_in_room_by t (Err e) = refused_in_room_by t e.0

abbrev pub output_in_room_by : Tally → Result Notice (ReserveFault × List ℕ) → Tally
output_in_room_by t (Ok _) = record t { made = t.made + 1; submitted = t.submitted + 1 }
output_in_room_by t (Err e) = refused_in_room_by t e.0

-- an output adds its bytes, at the position of its record
abbrev pub sent_by_output_in_room : Contents → ℕ → List ℕ → Result Notice (ReserveFault × List ℕ) → Contents
sent_by_output_in_room sent p bytes (Ok _) = insert sent p bytes
sent_by_output_in_room sent p bytes (Err e) = sent

-- ---- a seat's hands

-- the granted record, without the ring's tag and the hand
abbrev pub granted_in : {E : Type 0} → Result HandGranted E → Result Granted E
granted_in (Ok r) = Ok r.granted
granted_in (Err e) = Err e

-- a granted record is in this hand
abbrev pub hands_reserved : {E : Type 0} → Hands → ℕ → ℕ → Result HandGranted E → Hands
hands_reserved hands hand n (Ok r) = set hands hand (Some (out_record r.granted.pos r.granted.serial n))
hands_reserved hands hand n (Err e) = hands

-- a granted record is in the hand that the reservation names
abbrev pub hands_after_reserve : {E : Type 0} → Hands → ℕ → Result HandGranted E → Hands
hands_after_reserve hands n (Ok r) = set hands r.hand (Some (out_record r.granted.pos r.granted.serial n))
hands_after_reserve hands n (Err e) = hands

-- the position of the record in a hand
abbrev pub position_of : Option OutRecord → Option ℕ
position_of None = None
position_of (Some o) = Some o.pos

-- The seat may commit the reservation at the ring: all three have the same tag, the worker is the seat's, and the
-- seat's hand with the reservation's number holds its position, serial and length.
pub record IsInSeatsHand (ring : Shared) (seat : WorkerSeat) (r : HandGranted) : Type 0 where
  pub seat_is : seat.tag ≡ ring.tag
  pub tag_is : r.tag ≡ seat.tag
  pub worker_is : r.granted.worker ≡ seat.worker
  pub out : in_hand seat.hands r.hand ≡ Some (out_record r.granted.pos r.granted.serial (length r.granted.bytes))
