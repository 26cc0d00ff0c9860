-- What a list of stored records shows, and what a take of one of them returns.
use Rattle.std.specs.Prelude.{ℕ, ◌≡◌, ◌==◌, ◌&&◌, Bool, true, false, List, Option, Some, None, length}
use Rattle.std.specs.List.{filter_map}
use Rattle.std.specs.FinMap.{from_entries}
use Rattle.rb_history.specs.ReservationModel.{Granted}
use Rattle.rb_history.specs.declared.stored_records.StoredRecord.{StoredRecord}
use Rattle.rb_history.specs.declared.stored_records.RecordState.{RecordState}
use Rattle.rb_history.specs.declared.stored_records.RecordState.TheVariants.{Reserved, Submitted, Discarded as DiscardedState}
use Rattle.rb_history.specs.declared.answers.Taken.{Taken}
use Rattle.rb_history.specs.declared.answers.Taken.TheVariants.{Event, Skipped}
use Rattle.rb_history.specs.History.{Shown, Status}
use Rattle.rb_history.specs.History.Status.{Busy, Waiting, Discarded}
use Rattle.rb_history.specs.RingModel.{Contents}

abbrev pub state_status : RecordState → Status
state_status Reserved = Busy
state_status (Submitted s) = Waiting
state_status DiscardedState = Discarded

abbrev pub shown_record : StoredRecord → Shown
shown_record s = record { pos = s.pos; len = s.len; worker = s.worker; serial = s.serial; status = state_status s.state }

abbrev pub state_bytes : ℕ → RecordState → Option (ℕ × List ℕ)
state_bytes p (Submitted s) = Some (p, s)
state_bytes p _ = None

abbrev pub record_bytes : StoredRecord → Option (ℕ × List ℕ)
record_bytes s = state_bytes s.pos s.state

-- the bytes of the waiting records, by position
abbrev pub contents_of : List StoredRecord → Contents
contents_of stored = from_entries (filter_map record_bytes stored)

-- a submitted record has as many bytes as its length
abbrev pub SizedAs : ℕ → RecordState → Type 0
SizedAs n (Submitted s) = length s ≡ n
SizedAs n _ = Unit {0}

abbrev pub IsSized : StoredRecord → Type 0
IsSized s = SizedAs s.len s.state

-- the number of entries that a record will still log: its commit and its take, or only its take
abbrev pub entries_owed : Status → ℕ
entries_owed Busy = 2
entries_owed _ = 1

abbrev pub is_reserved_state : RecordState → Bool
is_reserved_state Reserved = true
is_reserved_state _ = false

abbrev pub is_submitted_state : RecordState → Bool
is_submitted_state (Submitted s) = true
is_submitted_state _ = false

-- the record is busy and has the four numbers of the reservation
abbrev pub is_reserved_by : Granted → StoredRecord → Bool
is_reserved_by r s = is_reserved_state s.state && (s.pos == r.pos) && (s.worker == r.worker) && (s.serial == r.serial) && (s.len == length r.bytes)

abbrev pub taken_of : StoredRecord → RecordState → Taken
taken_of s (Submitted b) = Event s.pos s.worker s.serial b
taken_of s Reserved = Skipped s.pos s.len
taken_of s DiscardedState = Skipped s.pos s.len

-- what a take of the record returns
abbrev pub IsTakenOf : StoredRecord → Taken → Type 0
IsTakenOf s t = t ≡ taken_of s s.state
