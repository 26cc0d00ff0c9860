-- What each call on a shared ring does and returns, at one point of the ring's history (own).
use Rattle.std.specs.Prelude.{◌≡◌, ◌≢◌, ℕ, ◌+◌, ◌<◌, ◌≤◌, ◌↔◌, List, length, replicate, Result, Ok, Err}
use Rattle.std.specs.FinMap.{insert}
use Rattle.rb_history.specs.Span.{span}
use Rattle.rb_history.specs.declared.answers.Notice.{Notice}
use Rattle.rb_history.specs.declared.answers.Notice.TheVariants.{Due}
use Rattle.rb_history.specs.declared.answers.NoGrant.{NoGrant}
use Rattle.rb_history.specs.declared.answers.NoGrant.TheVariants.{Full, Memory, Flags}
use Rattle.rb_history.specs.declared.answers.Taken.{Taken}
use Rattle.rb_history.specs.declared.answers.Taken.TheVariants.{Event, Skipped, BusyFront, Empty}
use Rattle.rb_history.specs.ReservationModel.{Granted}
use Rattle.rb_history.specs.NoticesAndQueries.{IsDue, query_answer}
use Rattle.rb_history.specs.RingModel.{Ring, Contents}
use Rattle.rb_history.specs.Calls.{Grants, Refuses, Outputs, Submits, Discards, Strays, Takes, HasBusyFront, AllTaken, producer_now, consumer_now}
use Rattle.rb_history.specs.declared.tally.Tally.{Tally}
use Rattle.rb_ledger.specs.Roles.{Role, Book, book_of, ExtendsSeen}
use Rattle.rb_ledger.specs.Ledger.{IsRing}

-- One call under the lock, by a role that had seen `before` and afterwards has seen `after`. When the lock was
-- acquired, the ring was at some point: its history began with `before`, and what others had added since has no entry
-- of the role's own. There the ring of one thread made the call, which left the ring as the role has then seen it.
pub record LockedCall (role : Role) (before after : Book) (call : Ring → Ring → Type 0) : Type 0 where
  pub point : Ring
  pub left : Ring
  pub goes_on : ExtendsSeen role before (book_of point)
  pub was_ring : IsRing point
  pub called : call point left
  pub is_ring : IsRing left
  pub seen : after ≡ book_of left

-- ---- the calls, by their worker, arguments and result

abbrev pub Reserves : ℕ → ℕ → Result Granted (NoGrant × List ℕ) → Ring → Ring → Type 0
Reserves w n (Ok r) old new = Grants old new w n r.pos r.serial × (r.worker ≡ w) × (r.bytes ≡ replicate n 0)
Reserves w n (Err e) old new = Refuses old new w n e.0 × (e.0 ≢ Flags)

abbrev pub SubmitsAt : Granted → ℕ → Result Notice Granted → Ring → Ring → Type 0
SubmitsAt r flags (Ok notice) old new = Submits old new r × ((notice ≡ Due) ↔ IsDue (consumer_now old) r.pos flags)
SubmitsAt r flags (Err s) old new = Strays old new r

abbrev pub DiscardsAt : Granted → ℕ → Result Notice Granted → Ring → Ring → Type 0
DiscardsAt r flags (Ok notice) old new = Discards old new r × ((notice ≡ Due) ↔ IsDue (consumer_now old) r.pos flags)
DiscardsAt r flags (Err s) old new = Strays old new r

abbrev pub OutputsAt : ℕ → List ℕ → ℕ → Result Notice (NoGrant × List ℕ) → Ring → Ring → Type 0
OutputsAt w bytes flags (Ok notice) old new = Outputs old new w bytes × ((notice ≡ Due) ↔ IsDue (consumer_now old) (producer_now old) flags) × (flags ≤ 3)
OutputsAt w bytes flags (Err e) old new = Refuses old new w (length bytes) e.0 × ((e.0 ≡ Flags) ↔ (3 < flags))

abbrev pub TakesAt : Taken → Ring → Ring → Type 0
TakesAt t old new = Takes old new t × ((t ≡ BusyFront) ↔ HasBusyFront old) × ((t ≡ Empty) ↔ AllTaken old)

abbrev pub Queries : ℕ → ℕ → Ring → Ring → Type 0
Queries what answer old new = (new ≡ old) × (answer ≡ query_answer old.setup old.history what)

-- ---- what a result adds to a seat's counts and bytes

abbrev pub refused_by : Tally → NoGrant → Tally
refused_by t Full = record t { refused = t.refused + 1 }
refused_by t Memory = t
refused_by t Flags = t

abbrev pub reserved_by : Tally → Result Granted (NoGrant × List ℕ) → Tally
reserved_by t (Ok r) = record t { made = t.made + 1 }
reserved_by t (Err e) = refused_by t e.0

abbrev pub output_by : Tally → Result Notice (NoGrant × List ℕ) → Tally
output_by t (Ok _) = record t { made = t.made + 1; submitted = t.submitted + 1 }
output_by t (Err e) = refused_by t e.0

abbrev pub submitted_by : Tally → Result Notice Granted → Tally
submitted_by t (Ok _) = record t { submitted = t.submitted + 1 }
submitted_by t (Err s) = t

abbrev pub discarded_by : Tally → Result Notice Granted → Tally
discarded_by t (Ok _) = record t { discarded = t.discarded + 1 }
discarded_by t (Err s) = t

-- an output adds its bytes, at the position of its record
abbrev pub sent_by_output : Contents → ℕ → List ℕ → Result Notice (NoGrant × List ℕ) → Contents
sent_by_output sent p bytes (Ok _) = insert sent p bytes
sent_by_output sent p bytes (Err e) = sent

-- an event adds its bytes to what was received
abbrev pub got_by : Contents → Taken → Contents
got_by got (Event p w k bytes) = insert got p bytes
got_by got _ = got

abbrev pub events_in : Taken → ℕ
events_in (Event p w k bytes) = 1
events_in _ = 0

abbrev pub skips_in : Taken → ℕ
skips_in (Skipped p n) = 1
skips_in _ = 0

-- how far a take advances the consumer position
abbrev pub span_in : Taken → ℕ
span_in (Event p w k bytes) = span (length bytes)
span_in (Skipped p n) = span n
span_in BusyFront = 0
span_in Empty = 0

-- what was taken was at this position
abbrev pub IsTakenAt : ℕ → Taken → Type 0
IsTakenAt at (Event p w k bytes) = p ≡ at
IsTakenAt at (Skipped p n) = p ≡ at
IsTakenAt at BusyFront = Unit {0}
IsTakenAt at Empty = Unit {0}
