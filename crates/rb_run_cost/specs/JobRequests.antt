-- The requests for records, granted and refused, that a job leaves in the histories of its rings (own).
use Rattle.std.specs.Prelude.{◌≡◌, ◌⊎◌, ℕ, zero, ◌==◌, pos, Bool, true, false, List, [], ◌∷◌, ◌++◌, filter_map, slice_get, Option, Some, None, if◌then◌else◌}
use Rattle.rb_history.specs.declared.entries.Entry.{Entry}
use Rattle.rb_history.specs.declared.entries.Entry.TheVariants.{Res, Full}
use Rattle.rb_interp.specs.declared.completed_call.Done.{Done}
use Rattle.rb_interp.specs.declared.completed_call.Done.TheVariants.{Reserve, Output}
use Rattle.rb_interp.specs.AnsweredCalls.{AnsweredCall, notes_of}
use Rattle.rb_ledger.specs.Seats.{WorkerSeat}
use Rattle.rb_chapter_ring.specs.declared.ring_record.RingRecord.{RingRecord}
use Rattle.rb_jobs.specs.SeatHelpers.{SeatsLead, is_no_record}

-- ---- requests in a history

-- a request for a record of this length, granted or refused
pub record Request : Type 0 where
  pub len : ℕ
  pub granted : Bool

-- the request of an entry, if it is this worker's
abbrev pub request_of : ℕ → Entry → Option Request
request_of w (Res v k n p) = if v == w then Some (record { len = n; granted = true }) else None
request_of w (Full v n) = if v == w then Some (record { len = n; granted = false }) else None
request_of w e = None

-- a worker's requests in a history, in order
abbrev pub requests_of : ℕ → List Entry → List Request
requests_of w h = filter_map (request_of w) h

-- ---- requests that calls leave

-- a request at ring `r`, as seen in the history of ring `ring`: none if they differ
abbrev pub request_at : ℕ → ℕ → ℕ → Bool → List Request
request_at ring r len granted = if r == ring then record { len = len; granted = granted } ∷ [] else []

-- the request that a call leaves in a ring's history if it got a record
abbrev pub granted_by : ℕ → Done → List Request
granted_by ring (Reserve r len flags true) = request_at ring r len true
granted_by ring (Output r len flags (pos zero)) = request_at ring r len true
granted_by ring call = []

-- The request that a call may leave if it got none. It leaves none if the chapter was full or no memory could be
-- allocated.
abbrev pub refused_by : ℕ → Done → List Request
refused_by ring (Reserve r len zero false) = request_at ring r len false
refused_by ring (Output r len flags answer) = if is_no_record answer then request_at ring r len false else []
refused_by ring call = []

abbrev pub MayLeave : ℕ → Done → List Request → Type 0
MayLeave ring call left = (left ≡ granted_by ring call) ⊎ (left ≡ granted_by ring call ++ refused_by ring call)

-- calls, in order, leave these requests in a ring's history
abbrev pub AreLeft : ℕ → List Done → List Request → Type 0
AreLeft ring [] left = left ≡ []
AreLeft ring (call ∷ more) left = (first : List Request) × (rest : List Request) × (left ≡ first ++ rest) × MayLeave ring call first × AreLeft ring more rest

-- Between two states of a worker's seat at a ring, exactly these requests of the worker were appended to the history
-- that the seat has seen.
pub record AddsRequests (before after : WorkerSeat) (left : List Request) : Type 0 where
  pub same_worker : after.worker ≡ before.worker
  pub requests : requests_of before.worker after.seen.history ≡ requests_of before.worker before.seen.history ++ left

-- At a ring, the calls led from one state of a worker's seat to another, and left these requests there.
pub record LeavesRequests (ring : ℕ) (calls : List Done) (before : WorkerSeat) (new : List WorkerSeat) : Type 0 where
  pub after : WorkerSeat
  pub left : List Request
  pub is_there : slice_get new ring ≡ Some after
  pub adds : AddsRequests before after left
  pub are_left : AreLeft ring calls left

-- Calls that lead from one state of a worker's seats to another leave their requests in the rings' histories: at each
-- ring, the worker's requests are its earlier ones followed by those of the calls, in order.
abbrev pub CallsLeaveRequests : Type 0
CallsLeaveRequests =
    (old new : List WorkerSeat) (calls : List (AnsweredCall RingRecord)) (unlogged ring : ℕ) (before : WorkerSeat) → SeatsLead old calls unlogged new
    → slice_get old ring ≡ Some before → LeavesRequests ring (notes_of calls) before new
