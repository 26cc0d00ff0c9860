-- The effect of a program's helper calls on the rings of an engine (bpf-helpers(7)), and sequences of calls that lead
-- from one state of the rings to another (own).
use Rattle.std.specs.Prelude.{ℕ, ◌≡◌, ◌≢◌, ◌+◌, ◌↔◌, ℤ, pos, neg_ℤ, Bool, true, false, List, [], ◌∷◌, ◌++◌, length, slice_get, slice_set, Option, Some, None, nat_lt}
use Rattle.rb_history.specs.declared.answers.Notice.{Notice}
use Rattle.rb_chapter_ring.specs.CountedFrom.{query_answer_from}
use Rattle.rb_chapter_ring.specs.HandRing.{HandRing, HasInHand}
use Rattle.rb_chapter_ring.specs.RecordEnds.{EndsFromHand}
use Rattle.rb_chapter_ring.specs.declared.record_end.RecordEnd.{RecordEnd}
use Rattle.rb_chapter_ring.specs.declared.record_end.RecordEnd.TheVariants as end
use Rattle.rb_interp.specs.ErrorNumbers.{EAGAIN, EINVAL}
use Rattle.rb_interp.specs.AnsweredCalls.{AnsweredCall, Reserved, Submitted, Discarded, SentOut, Queried, MayAnswerOutput, note_of}
use Rattle.rb_interp.specs.declared.completed_call.Done.{Done}
use Rattle.rb_engine.specs.RingCalls.{Grants, IsNotSent, IsRefused, Outputs}
use Rattle.rb_engine.specs.RingTurns.{AfterTurn}
use Rattle.rb_chapter_ring.specs.declared.ring_record.RingRecord.{RingRecord}

-- ---- one of several rings

-- there is a ring with this number, on which the call had this effect; the other rings did not change
pub record AtRing (ring : ℕ) (Did : HandRing → HandRing → Type 0) (old new : List HandRing) : Type 0 where
  pub before : HandRing
  pub after : HandRing
  pub before_is : slice_get old ring ≡ Some before
  pub new_is : new ≡ slice_set old ring after
  pub did : Did before after

-- there is a ring with this number, which has this property
pub record OfRing (ring : ℕ) (Holds : HandRing → Type 0) (rings : List HandRing) : Type 0 where
  pub asked : HandRing
  pub asked_is : slice_get rings ring ≡ Some asked
  pub holds : Holds asked

-- the record is in its hand at its ring, and was granted to worker 0, the engine
pub record IsStillOut (rings : List HandRing) (r : RingRecord) : Type 0 where
  pub ring : HandRing
  pub ring_is : slice_get rings r.ring ≡ Some ring
  pub worker_is : r.reservation.granted.worker ≡ 0
  pub out : HasInHand ring r.reservation.hand r.reservation.granted

-- the name of a record: the number of its ring, and its hand there
abbrev pub record_name : RingRecord → ℕ × ℕ
record_name r = (r.ring, r.reservation.hand)

-- ---- the calls

-- A reserve returned a record of this ring, or null. With flags other than 0 it returned null, and nothing changed.
abbrev pub ReserveAnswered : (ring n flags : ℕ) → Option RingRecord → List HandRing → List HandRing → Type 0
ReserveAnswered ring n flags (Some r) old new = (flags ≡ 0) × (r.ring ≡ ring) × AtRing ring (AfterTurn (Grants n r.reservation)) old new
ReserveAnswered ring n flags None old new = (flags ≡ 0 → AtRing ring (IsRefused n) old new) × (flags ≢ 0 → new ≡ old)

-- A submit or discard took the record if and only if the record is in its hand at its ring, and ended it there.
-- Otherwise nothing changed.
pub record EndAnswered (how : RecordEnd) (r : RingRecord) (taken : Bool) (old new : List HandRing) : Type 0 where
  pub exact : (taken ≡ true) ↔ IsStillOut old r
  pub ends : taken ≡ true → AtRing r.ring (EndsFromHand how r.reservation.hand r.reservation.granted) old new
  pub hands_back : taken ≡ false → new ≡ old

-- an output with this answer; unknown flags change nothing
pub record OutputAnswered (ring : ℕ) (bytes : List ℕ) (flags : ℕ) (answer : ℤ) (old new : List HandRing) : Type 0 where
  pub answer_is : MayAnswerOutput flags answer
  pub sent : answer ≡ pos 0 → AtRing ring (λ b a. (notice : Notice) × AfterTurn (Outputs bytes flags notice) b a) old new
  pub refused : answer ≡ neg_ℤ EAGAIN → AtRing ring (IsNotSent (length bytes)) old new
  pub no_step : answer ≡ neg_ℤ EINVAL → new ≡ old

-- the ring answered a query, which changed nothing
pub record QueryAnswered (ring what answer : ℕ) (old new : List HandRing) : Type 0 where
  pub told : OfRing ring (λ v. answer ≡ query_answer_from v.ring.chapter.opening v.ring.chapter.entries what) old
  pub same : new ≡ old

-- the call was made at the rings, with its answer
abbrev pub CallsRings : AnsweredCall RingRecord → List HandRing → List HandRing → Type 0
CallsRings (Reserved ring n flags answer) old new = ReserveAnswered ring n flags answer old new
CallsRings (Submitted r flags taken) old new = EndAnswered end.Submit r taken old new
CallsRings (Discarded r flags taken) old new = EndAnswered end.Discard r taken old new
CallsRings (SentOut ring bytes flags answer) old new = OutputAnswered ring bytes flags answer old new
CallsRings (Queried ring what answer) old new = QueryAnswered ring what answer old new

-- these calls, the oldest first, lead from the first state of the rings to the second
abbrev pub RingsLead : List HandRing → List (AnsweredCall RingRecord) → List HandRing → Type 0
RingsLead old [] new = new ≡ old
RingsLead old (call ∷ more) new = (mid : List HandRing) × CallsRings call old mid × RingsLead mid more new

-- ---- the helpers of an engine

-- the rings, the calls of the run so far, and the number of further calls for which there is room
pub record RunRings : Type 0 where
  pub rings : List HandRing
  pub trace : List Done
  pub room : ℕ

-- there is a ring with this number
abbrev pub has_number : RunRings → ℕ → Bool
has_number h ring = nat_lt ring (length h.rings)

-- one call was made at one of the rings, and appended to the trace with its answer
pub record CallsHelpers (call : AnsweredCall RingRecord) (old new : RunRings) : Type 0 where
  pub trace_is : new.trace ≡ old.trace ++ note_of call ∷ []
  pub room_is : new.room + 1 ≡ old.room
  pub did : CallsRings call old.rings new.rings

abbrev pub Leads : RunRings → List (AnsweredCall RingRecord) → RunRings → Type 0
Leads start [] now = now ≡ start
Leads start (call ∷ more) now = (mid : RunRings) × CallsHelpers call start mid × Leads mid more now
