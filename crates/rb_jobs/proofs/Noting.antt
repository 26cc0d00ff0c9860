-- A call that was made with a seat and appended to the trace is a call of the helpers.
use Rattle.std.proofs.Common.{◌≡◌, ◌≢◌, ◌↔◌, ℕ, zero, suc, ◌+◌, ◌<◌, ◌≤◌, inl, inr, ℤ, pos, negsuc, Bool, false, cond, List, [], ◌∷◌, length, Option, Some, None, Result, Ok, Err, IsErrOf, is_ok, refl, ap, sym, ◌∙◌, subst, arith, w64, to_z, of_z}
use Rattle.rb_history.specs.declared.answers.Notice.{Notice}
use Rattle.rb_chapter_ring.specs.HandGranted.{HandGranted}
use Rattle.rb_chapter_ring.specs.declared.faults.ReserveFault.TheVariants.{Full, Flags, ChapterFull, Foreign, HandsFull}
use Rattle.rb_chapter_ring.specs.declared.record_end.RecordEnd.{RecordEnd}
use Rattle.rb_ledger.specs.Seats.{WorkerSeat}
use Rattle.rb_interp.specs.declared.completed_call.Done.{Done}
use Rattle.rb_interp.specs.declared.completed_call.Done.TheVariants.{Reserve, Output, Query}
use Rattle.rb_interp.specs.AnsweredCalls.{AnsweredCall, Reserved, SentOut, Queried, note_of}
use Rattle.rb_jobs.specs.declared.no_record.NoRecord.{NoRecord}
use Rattle.rb_jobs.specs.declared.no_record.NoRecord.TheVariants.{BadFlags, NoSheet, Refused}
use Rattle.rb_chapter_ring.specs.declared.ring_record.RingRecord.{RingRecord}
use Rattle.rb_jobs.specs.SeatCalls.{AtSeat, CallsSeats, RecordAnswered, SeatIsRefused, SeatQueries, NoHandOrSheet, HasNoSheet}
use Rattle.rb_jobs.specs.SeatHelpers.{AtSeats, CallsHelpers, Leads}
use Rattle.rb_jobs.specs.inner.CallAnswers.{SeatFails, SeatReserves, SeatSends, due_in, output_number, unlogged_in, with_call}
use Rattle.rb_jobs.specs.inner.RecordEnds.{SeatEnds, ended_call, ended_note}
use Rattle.rb_jobs.proofs.OneSeat.{at_seat_as}
use Rattle.rb_jobs.proofs.Ends.{is_note, of_ended}

-- one call is a sequence of calls
pub one_call : (call : AnsweredCall RingRecord) (old new : AtSeats) → CallsHelpers call old new → Leads old (call ∷ []) new
one_call call old new made = (new, made, refl)

noted : (call : AnsweredCall RingRecord) (old mid next : AtSeats) (unlogged due : Bool) → mid ≡ record old { seats = mid.seats } → next ≡ with_call mid (note_of call) unlogged
    → 0 < old.room → CallsSeats call due (cond unlogged 1 0) old.seats mid.seats → CallsHelpers call old next
noted call old mid next unlogged due rest note room made =
    let left = ap (λ (h : AtSeats). h.room) note in let was = ap (λ (h : AtSeats). h.room) rest in
    record {
      rings_same = ap (λ (h : AtSeats). h.rings) note ∙ ap (λ (h : AtSeats). h.rings) rest;
      trace_is = ap (λ (h : AtSeats). h.trace) note ∙ ap (λ (h : AtSeats). (with_call h (note_of call) unlogged).trace) rest;
      room_is = omega (arith, left, was, room);
      due = due;
      unlogged = cond unlogged 1 0;
      unlogged_is = ap (λ (h : AtSeats). h.unlogged) note ∙ ap (λ (h : AtSeats). h.unlogged + cond unlogged 1 0) rest;
      seats = subst (λ (h : AtSeats). CallsSeats call due (cond unlogged 1 0) old.seats h.seats) (sym note) made;
    }

abbrev fault_number : NoRecord → ℕ
fault_number NoSheet = 1
fault_number (Refused _) = 2
fault_number BadFlags = 3

-- 0 for success, else the number of the fault
abbrev answer_number : {T : Type 0} → Result T NoRecord → ℕ
answer_number (Ok x) = 0
answer_number (Err fault) = fault_number fault

abbrev granted_answer : HandGranted → Result HandGranted NoRecord
granted_answer r = Ok r

abbrev made_answer : Notice → Result Notice NoRecord
made_answer notice = Ok notice

abbrev no_answer : NoRecord → Result Notice NoRecord
no_answer fault = Err fault

not_zero : (n : ℕ) → suc n ≢ 0
not_zero n e = absurd (omega (arith, e))

-- flags that are not refused are 0, or at most 3
no_flags : {T : Type 0} (answer : Result T NoRecord) (flags : ℕ) → IsErrOf answer BadFlags ↔ (flags ≢ 0) → answer_number answer ≢ 3 → flags ≡ 0
no_flags answer zero bad other = refl
no_flags answer (suc f) bad other = absurd (other (ap (λ x. answer_number x) (bad.1 (not_zero f))))

few_flags : {T : Type 0} (answer : Result T NoRecord) (flags : ℕ) → IsErrOf answer BadFlags ↔ (3 < flags) → answer_number answer ≢ 3 → ¬ (3 < flags)
few_flags answer flags bad other many = other (ap (λ x. answer_number x) (bad.1 many))

at_most : (flags : ℕ) → ¬ (3 < flags) → flags ≤ 3
at_most flags few = omega (arith, few)

-- no record was made for a reservation
refused_for : (ring n : ℕ) (fault : NoRecord) (old new : List WorkerSeat) → AtSeat ring (SeatFails n fault) old new
    → AtSeat ring (SeatIsRefused (NoHandOrSheet n) n (cond (unlogged_in {T = HandGranted} (Err fault)) 1 0)) old new
refused_for ring n BadFlags old new at = absurd at.did
refused_for ring n NoSheet old new at = at_seat_as (SeatFails n NoSheet) (SeatIsRefused (NoHandOrSheet n) n 1) ring old new (λ b a none. inr (inr (inr none.0, none.1, refl))) at
refused_for ring n (Refused Full) old new at = at_seat_as (SeatFails n (Refused Full)) (SeatIsRefused (NoHandOrSheet n) n 0) ring old new (λ b a full. inl (full, refl)) at
refused_for ring n (Refused ChapterFull) old new at = at_seat_as (SeatFails n (Refused ChapterFull)) (SeatIsRefused (NoHandOrSheet n) n 1) ring old new (λ b a full. inr (inl (full, refl))) at
refused_for ring n (Refused Flags) old new at = absurd at.did
refused_for ring n (Refused Foreign) old new at = absurd at.did
refused_for ring n (Refused HandsFull) old new at = at_seat_as (SeatFails n (Refused HandsFull)) (SeatIsRefused (NoHandOrSheet n) n 1) ring old new (λ b a none. inr (inr (inl none.0, none.1, refl))) at

-- the same for an output, which takes no hand
abbrev FailsWithHands : ℕ → NoRecord → WorkerSeat → WorkerSeat → Type 0
FailsWithHands n fault b a = SeatFails n fault b a × (fault ≢ Refused HandsFull)

not_sent_for : (ring n : ℕ) (fault : NoRecord) (old new : List WorkerSeat) → AtSeat ring (FailsWithHands n fault) old new
    → AtSeat ring (SeatIsRefused (HasNoSheet n) n (cond (unlogged_in {T = Notice} (Err fault)) 1 0)) old new
not_sent_for ring n BadFlags old new at = absurd at.did.0
not_sent_for ring n NoSheet old new at = at_seat_as (FailsWithHands n NoSheet) (SeatIsRefused (HasNoSheet n) n 1) ring old new (λ b a none. inr (inr (none.0.0, none.0.1, refl))) at
not_sent_for ring n (Refused Full) old new at = at_seat_as (FailsWithHands n (Refused Full)) (SeatIsRefused (HasNoSheet n) n 0) ring old new (λ b a full. inl (full.0, refl)) at
not_sent_for ring n (Refused ChapterFull) old new at = at_seat_as (FailsWithHands n (Refused ChapterFull)) (SeatIsRefused (HasNoSheet n) n 1) ring old new (λ b a full. inr (inl (full.0, refl))) at
not_sent_for ring n (Refused Flags) old new at = absurd at.did.0
not_sent_for ring n (Refused Foreign) old new at = absurd at.did.0
not_sent_for ring n (Refused HandsFull) old new at = absurd (at.did.1 refl)

-- ---- reserve

-- the helpers' answer
abbrev pub record_in : ℕ → Result HandGranted NoRecord → Option RingRecord
record_in ring (Ok r) = Some (record { ring = ring; reservation = r })
record_in ring (Err fault) = None

nothing_logged : (fault : NoRecord) (flags : ℕ) → IsErrOf {T = HandGranted} (Err fault) BadFlags ↔ (flags ≢ 0) → flags ≢ 0 → ◌≡◌ {A = ℕ} (cond (unlogged_in {T = HandGranted} (Err fault)) 1 0) 0
nothing_logged BadFlags flags bad other = refl
nothing_logged NoSheet flags bad other = absurd (let e : 1 ≡ 3 = ap (λ x. answer_number x) (bad.1 other) in omega (arith, e))
nothing_logged (Refused fault) flags bad other = absurd (let e : 2 ≡ 3 = ap (λ x. answer_number x) (bad.1 other) in omega (arith, e))

reserve_seats : (ring n flags : ℕ) (answer : Result HandGranted NoRecord) (old new : List WorkerSeat) → IsErrOf answer BadFlags ↔ (flags ≢ 0) → (flags ≢ 0 → new ≡ old)
    → (flags ≡ 0 → AtSeat ring (SeatReserves n answer) old new) → CallsSeats (Reserved ring n flags (record_in ring answer)) false (cond (unlogged_in answer) 1 0) old new
reserve_seats ring n flags (Ok r) old new bad no_step at =
    let none = no_flags (granted_answer r) flags bad (λ e. absurd (omega (arith, e))) in ((none, refl, refl, at none), refl)
reserve_seats ring n flags (Err fault) old new bad no_step at =
    ((λ none. refused_for ring n fault old new (at none), λ other. (no_step other, nothing_logged fault flags bad other)), refl)

reserve_noted : (old mid next : AtSeats) (ring n flags : ℕ) (answer : Result HandGranted NoRecord) → mid ≡ record old { seats = mid.seats } → IsErrOf answer BadFlags ↔ (flags ≢ 0)
    → (flags ≢ 0 → mid.seats ≡ old.seats) → (flags ≡ 0 → AtSeat ring (SeatReserves n answer) old.seats mid.seats) → 0 < old.room
    → next ≡ with_call mid (Reserve ring n flags (is_ok answer)) (unlogged_in answer) → CallsHelpers (Reserved ring n flags (record_in ring answer)) old next
reserve_noted old mid next ring n flags (Ok r) rest bad no_step at room note =
    noted (Reserved ring n flags (Some (record { ring = ring; reservation = r }))) old mid next false false rest note room (reserve_seats ring n flags (Ok r) old.seats mid.seats bad no_step at)
reserve_noted old mid next ring n flags (Err fault) rest bad no_step at room note =
    noted (Reserved ring n flags None) old mid next (unlogged_in {T = HandGranted} (Err fault)) false rest note room (reserve_seats ring n flags (Err fault) old.seats mid.seats bad no_step at)

pub reserved : (old mid next : AtSeats) (ring n flags : ℕ) (answer : Result HandGranted NoRecord) (given : Option RingRecord) (granted unlogged : Bool)
    → given ≡ record_in ring answer → granted ≡ is_ok answer → unlogged ≡ unlogged_in answer
    → mid ≡ record old { seats = mid.seats } → IsErrOf answer BadFlags ↔ (flags ≢ 0) → (flags ≢ 0 → mid.seats ≡ old.seats)
    → (flags ≡ 0 → AtSeat ring (SeatReserves n answer) old.seats mid.seats) → 0 < old.room
    → next ≡ with_call mid (Reserve ring n flags granted) unlogged → CallsHelpers (Reserved ring n flags given) old next
reserved old mid next ring n flags answer given granted unlogged given_is granted_is unlogged_is rest bad no_step at room note =
    subst (λ x. CallsHelpers (Reserved ring n flags x) old next) (sym given_is)
    (reserve_noted old mid next ring n flags answer rest bad no_step at room
    (note ∙ ap (λ b. with_call mid (Reserve ring n flags b) unlogged) granted_is ∙ ap (λ b. with_call mid (Reserve ring n flags (is_ok answer)) b) unlogged_is))

-- ---- submit and discard

pub ended : {E : Type 0} (end : RecordEnd) (old mid next : AtSeats) (owned : RingRecord) (flags : ℕ) (answer : Result Notice E) (taken logged : Bool) (note : Done)
    → taken ≡ is_ok answer → logged ≡ is_ok answer → note ≡ ended_note end flags logged → mid ≡ record old { seats = mid.seats }
    → RecordAnswered owned.ring (is_ok answer) (due_in answer) (SeatEnds end owned.reservation flags (is_ok answer) (due_in answer)) old.seats mid.seats
    → 0 < old.room → next ≡ with_call mid note false → CallsHelpers (ended_call end owned flags taken) old next
ended end old mid next owned flags answer taken logged note taken_is logged_is note_is rest made room left =
    let told = note_is ∙ ap (λ b. ended_note end flags b) (logged_is ∙ sym taken_is) ∙ is_note end owned flags taken in
    noted (ended_call end owned flags taken) old mid next false (due_in answer) rest (left ∙ ap (λ d. with_call mid d false) told) room
    (of_ended owned flags taken (due_in answer) 0 old.seats mid.seats end (
      subst (λ t. RecordAnswered owned.ring t (due_in answer) (SeatEnds end owned.reservation flags t (due_in answer)) old.seats mid.seats) (sym taken_is) made,
      refl,
    ))

-- ---- output

-- the number fits a signed 64-bit integer
pub number_fits : (answer : Result Notice NoRecord) (number : ℤ) → number ≡ output_number answer → to_z w64 (of_z w64 number) ≡ output_number answer
number_fits (Ok _) number is = ap (λ n. to_z w64 (of_z w64 n)) is
number_fits (Err BadFlags) number is = ap (λ n. to_z w64 (of_z w64 n)) is
number_fits (Err NoSheet) number is = ap (λ n. to_z w64 (of_z w64 n)) is
number_fits (Err (Refused _)) number is = ap (λ n. to_z w64 (of_z w64 n)) is

abbrev below_zero : ℤ → ℕ
below_zero (pos n) = 0
below_zero (negsuc n) = n

apart : (a b : ℤ) → below_zero a ≢ below_zero b → a ≢ b
apart a b other is = other (ap below_zero is)

-- no record was made of the bytes
not_output : (ring : ℕ) (bytes : List ℕ) (flags unlogged : ℕ) (old new : List WorkerSeat) → ¬ (3 < flags) → AtSeat ring (SeatIsRefused (HasNoSheet (length bytes)) (length bytes) unlogged) old new
    → CallsSeats (SentOut ring bytes flags (negsuc 10)) false unlogged old new
not_output ring bytes flags unlogged old new few at = record {
  answer_is = ((λ e. absurd (apart (negsuc 10) (negsuc 21) (λ n. absurd (omega (arith, n))) e), λ many. absurd (few many)), inr (inl refl));
  sent = λ e. absurd (apart (negsuc 10) (pos 0) (λ n. absurd (omega (arith, n))) e);
  refused = λ _. (at, refl);
  no_step = λ e. absurd (apart (negsuc 10) (negsuc 21) (λ n. absurd (omega (arith, n))) e);
}

output_seats : (ring : ℕ) (bytes : List ℕ) (flags : ℕ) (answer : Result Notice NoRecord) (old new : List WorkerSeat) → IsErrOf answer BadFlags ↔ (3 < flags) → (3 < flags → new ≡ old)
    → (flags ≤ 3 → AtSeat ring (SeatSends bytes flags answer) old new)
    → CallsSeats (SentOut ring bytes flags (output_number answer)) (due_in answer) (cond (unlogged_in answer) 1 0) old new
output_seats ring bytes flags (Ok notice) old new bad no_step at =
    let few = few_flags (made_answer notice) flags bad (λ e. absurd (omega (arith, e))) in
    record {
      answer_is = ((λ e. absurd (apart (pos 0) (negsuc 21) (λ n. absurd (omega (arith, n))) e), λ many. absurd (few many)), inl refl);
      sent = λ _. (at (at_most flags few), refl);
      refused = λ e. absurd (apart (pos 0) (negsuc 10) (λ n. absurd (omega (arith, n))) e);
      no_step = λ e. absurd (apart (pos 0) (negsuc 21) (λ n. absurd (omega (arith, n))) e);
    }
output_seats ring bytes flags (Err BadFlags) old new bad no_step at = record {
  answer_is = ((λ _. bad.0 refl, λ _. refl), inr (inr refl));
  sent = λ e. absurd (apart (negsuc 21) (pos 0) (λ n. absurd (omega (arith, n))) e);
  refused = λ e. absurd (apart (negsuc 21) (negsuc 10) (λ n. absurd (omega (arith, n))) e);
  no_step = λ _. (no_step (bad.0 refl), refl, refl);
}
output_seats ring bytes flags (Err NoSheet) old new bad no_step at =
    let few = few_flags (no_answer NoSheet) flags bad (λ e. absurd (omega (arith, e))) in
    not_output ring bytes flags 1 old new few (not_sent_for ring (length bytes) NoSheet old new (at (at_most flags few)))
output_seats ring bytes flags (Err (Refused fault)) old new bad no_step at =
    let few = few_flags (no_answer (Refused fault)) flags bad (λ e. absurd (omega (arith, e))) in
    not_output ring bytes flags _ old new few (not_sent_for ring (length bytes) (Refused fault) old new (at (at_most flags few)))

pub output : (old mid next : AtSeats) (ring : ℕ) (bytes : List ℕ) (flags : ℕ) (answer : Result Notice NoRecord) (number : ℤ) (unlogged : Bool)
    → number ≡ output_number answer → unlogged ≡ unlogged_in answer → mid ≡ record old { seats = mid.seats }
    → IsErrOf answer BadFlags ↔ (3 < flags) → (3 < flags → mid.seats ≡ old.seats) → (flags ≤ 3 → AtSeat ring (SeatSends bytes flags answer) old.seats mid.seats) → 0 < old.room
    → next ≡ with_call mid (Output ring (length bytes) flags number) unlogged → CallsHelpers (SentOut ring bytes flags number) old next
output old mid next ring bytes flags answer number unlogged number_is unlogged_is rest bad no_step at room note =
    noted (SentOut ring bytes flags number) old mid next unlogged (due_in answer) rest note room
    (subst (λ x. CallsSeats (SentOut ring bytes flags x) (due_in answer) (cond unlogged 1 0) old.seats mid.seats) (sym number_is)
    (subst (λ u. CallsSeats (SentOut ring bytes flags (output_number answer)) (due_in answer) (cond u 1 0) old.seats mid.seats) (sym unlogged_is)
    (output_seats ring bytes flags answer old.seats mid.seats bad no_step at)))

-- ---- query

pub queried : (old mid next : AtSeats) (ring what answer : ℕ) → mid ≡ record old { seats = mid.seats } → AtSeat ring (SeatQueries what answer) old.seats mid.seats → 0 < old.room
    → next ≡ with_call mid (Query ring what answer) false → CallsHelpers (Queried ring what answer) old next
queried old mid next ring what answer rest at room note = noted (Queried ring what answer) old mid next false false rest note room (at, refl, refl)
