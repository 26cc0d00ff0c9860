-- What a run of the helpers over seats shows about a job.
use Rattle.std.proofs.Common.{◌≡◌, ◌≢◌, Err, ℕ, ◌+◌, ◌≤◌, List, [], ◌∷◌, ◌++◌, length, ap, sym, ◌∙◌, subst, arith}
use Rattle.std.proofs.lemmas.List.{length_push, length-map}
use Rattle.std.proofs.lemmas.List.Sums.{count_by-le-length}
use Rattle.std.specs.Prelude.{OnOk}
use Rattle.rb_program.specs.Program.{unit_count, units_of}
use Rattle.rb_interp.specs.AnsweredCalls.{AnsweredCall, note_of, notes_of}
use Rattle.rb_insn.specs.declared.insn.Insn.{Insn}
use Rattle.rb_interp.specs.declared.fault.RunFault.TheVariants.{Stray}
use Rattle.rb_interp.specs.RunTraces.{RunMatches, TellsLength, TraceBalances}
use Rattle.rb_ledger.specs.Seats.{Shared, WorkerSeat}
use Rattle.rb_verifier.specs.Subject.{call_count, calls}
use Rattle.rb_verifier.proofs.Counting.{count-units_of}
use Rattle.rb_chapter_ring.specs.declared.ring_record.RingRecord.{RingRecord}
use Rattle.rb_chapter_ring.specs.RingRecords.{reserved_bytes, with_record_bytes}
use Rattle.rb_jobs.specs.SeatHelpers.{AtSeats, Leads, SeatsLead}
use Rattle.rb_jobs.proofs.Leading.{all_may_answer, leads_seats}
use Rattle.rb_jobs.proofs.Totals.{totals_rise}
use Rattle.rb_jobs.specs.declared.job.JobAnswer.{JobAnswer}
use Rattle.rb_jobs.specs.Jobs.{Task, JobRan, JobRanCounted, counted_on}

-- the calls led from the old state of the seats to the new one
abbrev ran_by : (task : Task) (answer : JobAnswer) (calls : List (AnsweredCall RingRecord)) (old new : List WorkerSeat)
    → TellsLength task.program task.context answer.result → RunMatches reserved_bytes with_record_bytes task.program task.context calls answer.result
    → answer.result ≢ Err Stray → OnOk answer.result (TraceBalances [] (notes_of calls)) → SeatsLead old calls answer.unlogged new → JobRan task answer old new
ran_by task answer calls old new told shows kept balanced led =
    let rise = totals_rise old new calls answer.unlogged led in
    record {
      calls = calls;
      length_is = told;
      shows = shows;
      never_stray = kept;
      led = led;
      may_answer = all_may_answer old new calls answer.unlogged led;
      balanced = balanced;
      same = rise.same;
      made_is = rise.made_is;
      submitted_is = rise.submitted_is;
      discarded_is = rise.discarded_is;
      failed_is = rise.failed_is;
    }

-- the helpers were new, and are in this state after the run
pub did_counted : (task : Task) (answer : JobAnswer) (calls : List (AnsweredCall RingRecord)) (start now : AtSeats) (rings : List Shared) (room : ℕ)
    (old new : List WorkerSeat) (before mid after : ℕ) → start ≡ record { rings = rings; seats = old; trace = []; room = room; unlogged = 0 }
    → answer.unlogged ≡ now.unlogged → new ≡ now.seats → mid ≡ before → after ≡ counted_on mid (length now.trace)
    → TellsLength task.program task.context answer.result → RunMatches reserved_bytes with_record_bytes task.program task.context calls answer.result
    → answer.result ≢ Err Stray → OnOk answer.result (TraceBalances start.trace now.trace) → Leads start calls now → JobRanCounted task answer old new before after
did_counted task answer calls start now rings room old new before mid after fresh unlogged new_is mid_is after_is told shows kept balanced leads =
    let led = leads_seats start now calls leads in
    let old_is : start.seats ≡ old = ap (λ (h : AtSeats). h.seats) fresh in
    let empty : start.trace ≡ [] = ap (λ (h : AtSeats). h.trace) fresh in
    let none : start.unlogged ≡ 0 = ap (λ (h : AtSeats). h.unlogged) fresh in
    let more = led.unlogged_is in
    let failed : led.unlogged ≡ answer.unlogged = omega (arith, none, more, unlogged) in
    let trace : now.trace ≡ notes_of calls = led.trace_is ∙ ap (λ t. t ++ notes_of calls) empty in
    let seats : SeatsLead old calls answer.unlogged new =
    subst (λ u. SeatsLead old calls u new) failed (subst (λ xs. SeatsLead old calls led.unlogged xs) (sym new_is) (subst (λ xs. SeatsLead xs calls led.unlogged now.seats) old_is led.seats_led)) in (
      ran_by task answer calls old new told shows kept
          (subst (λ t. OnOk answer.result (TraceBalances [] t)) trace (subst (λ t. OnOk answer.result (TraceBalances t now.trace)) empty balanced)) seats,
      after_is ∙ ap (λ n. counted_on n (length now.trace)) mid_is ∙ ap (counted_on before) (ap length trace ∙ length-map calls note_of),
    )

-- each call is appended to the trace and uses one place of the room
calls_take_room : (start now : AtSeats) (calls : List (AnsweredCall RingRecord)) → Leads start calls now → length now.trace + now.room ≡ length start.trace + start.room
calls_take_room start now [] same = ap (λ (h : AtSeats). length h.trace + h.room) same
calls_take_room start now (call ∷ more) leads =
    let mid = leads.0 in
    let made = leads.1 in
    let rest = calls_take_room mid now more leads.2 in
    let noted : length mid.trace ≡ length start.trace + 1 = ap length made.trace_is ∙ length_push start.trace (note_of call) in
    let room = made.room_is in
    omega (arith, rest, noted, room)

-- a program has at most as many calls as units
calls_within : (program : List Insn) → call_count program ≤ unit_count program
calls_within program = let e = count-units_of program in let few = count_by-le-length calls (units_of program) in omega (arith, e, few)

-- a job leaves at most as many failures unlogged as a program has units
pub few_unlogged : (start now : AtSeats) (calls : List (AnsweredCall RingRecord)) (program : List Insn) (rings : List Shared) (seats : List WorkerSeat) (unlogged : ℕ)
    → start ≡ record { rings = rings; seats = seats; trace = []; room = call_count program; unlogged = 0 } → Leads start calls now → unlogged ≤ length now.trace → unit_count program ≤ 4096
    → unlogged ≤ 4096
few_unlogged start now calls program rings seats unlogged fresh leads within long =
    let all = calls_take_room start now calls leads in
    let empty = ap (λ (h : AtSeats). length h.trace) fresh in
    let room = ap (λ (h : AtSeats). h.room) fresh in
    let few = calls_within program in
    omega (arith, all, empty, room, few, within, long)

-- the same for seats and counts that are equal to these
pub counted_as : (task : Task) (answer : JobAnswer) (old start new now : List WorkerSeat) (before count after counted : ℕ) → old ≡ start → new ≡ now → before ≡ count → after ≡ counted
    → JobRanCounted task answer old new before after → JobRanCounted task answer start now count counted
counted_as task answer old start new now before count after counted old_is new_is before_is after_is ran =
    subst (λ (o : List WorkerSeat). JobRanCounted task answer o now count counted) old_is
    (subst (λ (n : List WorkerSeat). JobRanCounted task answer old n count counted) new_is
    (subst (λ (b : ℕ). JobRanCounted task answer old new b counted) before_is
    (subst (λ (a : ℕ). JobRanCounted task answer old new before a) after_is ran)))
