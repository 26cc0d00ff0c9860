-- A job submits and discards as many records as it makes.
use Rattle.std.proofs.Common.{◌≡◌, ◌≢◌, ℕ, zero, suc, ◌+◌, pos, negsuc, true, false, cond, List, [], ◌∷◌, map, Result, Ok, Err, refl, sym, subst, arith}
use Rattle.std.specs.Prelude.{count_by, OnOk}
use Rattle.rb_verifier.specs.Subject.{Subject}
use Rattle.rb_verifier.proofs.Counting.{count_by-cons}
use Rattle.rb_interp.specs.declared.completed_call.Done.{Done}
use Rattle.rb_interp.specs.declared.completed_call.Done.TheVariants as done
use Rattle.rb_interp.specs.AnsweredCalls.{AnsweredCall, Reserved, Submitted, Discarded, SentOut, Queried, note_of, notes_of}
use Rattle.rb_semantics.specs.ProgramStates.{State}
use Rattle.rb_semantics.specs.HelperCalls.{HelperCall, Submit, Discard, pending_call_of, Resumption, Resumes, Strays, Unfit, resume}
use Rattle.rb_semantics.specs.Instructions.{StepEffect, Goes, Ends, Asks, Stuck, next_step}
use Rattle.rb_semantics.specs.ProgramRuns.{Returns, run_of, run_resumed, run_followed}
use Rattle.rb_interp.specs.declared.fault.RunFault.{RunFault}
use Rattle.rb_interp.specs.declared.fault.RunFault.TheVariants.{ContextLength, Stray}
use Rattle.rb_interp.specs.RunTraces.{traced_answer, held_once_made, IsMade, AreMade, RunMatches, TraceBalances, grants_record, returns_record}
use Rattle.rb_chapter_ring.specs.declared.ring_record.RingRecord.{RingRecord}
use Rattle.rb_chapter_ring.specs.RingRecords.{reserved_bytes, with_record_bytes}
use Rattle.rb_jobs.specs.SeatHelpers.{makes, submits, discards, call_total}
use Rattle.rb_jobs.specs.Jobs.{JobsGiveBack}

-- ---- no record is handed back in a run that returns a result

-- a record was not handed back
abbrev IsTaken : Done → Type 0
IsTaken (done.Reserve ring len flags granted) = Unit {0}
IsTaken (done.Submit flags taken) = taken ≡ true
IsTaken (done.Discard flags taken) = taken ≡ true
IsTaken (done.Output ring len flags answer) = Unit {0}
IsTaken (done.Query ring what answer) = Unit {0}

abbrev AreTaken : List Done → Type 0
AreTaken [] = Unit {0}
AreTaken (d ∷ notes) = IsTaken d × AreTaken notes

-- the records that are held, each with its id
abbrev Held : Type 0
Held = List (ℕ × RingRecord)

abbrev Makes : Held → HelperCall → AnsweredCall RingRecord → Type 0
Makes held call made = IsMade reserved_bytes with_record_bytes held call made

abbrev MakesAll : Held → List HelperCall → List (AnsweredCall RingRecord) → Type 0
MakesAll held calls made = AreMade reserved_bytes with_record_bytes held calls made

taken_on : (held : Held) (call : HelperCall) (made : AnsweredCall RingRecord) (s t : State) → Makes held call made
    → resume (pending_call_of call) (traced_answer (note_of made)) s ≡ Resumes t → IsTaken (note_of made)
taken_on held call (Reserved ring len flags answer) s t so goes = tt
taken_on held call (Submitted owned flags true) s t so goes = refl
taken_on held call (Discarded owned flags true) s t so goes = refl
taken_on held call (SentOut ring bytes flags answer) s t so goes = tt
taken_on held call (Queried ring what answer) s t so goes = tt
taken_on held (Submit id bytes f) (Submitted owned flags false) s t so goes = absurd (cc)
taken_on held (Discard id bytes f) (Discarded owned flags false) s t so goes = absurd (cc)
taken_on held _ _ s t so goes = absurd so

module _ (subject : Subject) (n : ℕ) where
  -- the runs with this many steps that return the result hand no record back
  abbrev AreSmooth : ℕ → Type 0
  AreSmooth steps = (held : Held) (s : State) (made : List (AnsweredCall RingRecord)) → MakesAll held (run_of subject.program steps s (map traced_answer (notes_of made))).calls made
      → (run_of subject.program steps s (map traced_answer (notes_of made))).outcome ≡ Returns n → AreTaken (notes_of made)

  resumption_smooth : (steps : ℕ) (held : Held) (call : HelperCall) (one : AnsweredCall RingRecord) (made : List (AnsweredCall RingRecord)) (s : State) (r : Resumption) → AreSmooth steps
      → Makes held call one → resume (pending_call_of call) (traced_answer (note_of one)) s ≡ r
      → MakesAll (held_once_made held call one) (run_resumed (run_of subject.program steps) r (map traced_answer (notes_of made))).calls made
      → (run_resumed (run_of subject.program steps) r (map traced_answer (notes_of made))).outcome ≡ Returns n → IsTaken (note_of one) × AreTaken (notes_of made)
  resumption_smooth steps held call one made s (Resumes t) smooth so is more ends = (taken_on held call one s t so is, smooth (held_once_made held call one) t made more ends)
  resumption_smooth steps held call one made s Strays smooth so is more ends = absurd (cc)
  resumption_smooth steps held call one made s Unfit smooth so is more ends = absurd (cc)

  effect_smooth : (steps : ℕ) (held : Held) (effect : StepEffect) (made : List (AnsweredCall RingRecord)) → AreSmooth steps
      → MakesAll held (run_followed (run_of subject.program steps) effect (map traced_answer (notes_of made))).calls made
      → (run_followed (run_of subject.program steps) effect (map traced_answer (notes_of made))).outcome ≡ Returns n → AreTaken (notes_of made)
  effect_smooth steps held (Goes s) made smooth so ends = smooth held s made so ends
  effect_smooth steps held (Ends v) [] smooth so ends = tt
  effect_smooth steps held (Ends v) (one ∷ made) smooth so ends = absurd so
  effect_smooth steps held (Asks call s) [] smooth so ends = tt
  effect_smooth steps held (Asks call s) (one ∷ made) smooth so ends =
      resumption_smooth steps held call one made s (resume (pending_call_of call) (traced_answer (note_of one)) s) smooth so.0 refl so.1 ends
  effect_smooth steps held Stuck made smooth so ends = absurd (cc)

  runs_smooth : (steps : ℕ) → AreSmooth steps
  runs_smooth zero held s made so ends = absurd (cc)
  runs_smooth (suc steps) held s made so ends = effect_smooth steps held (next_step subject.program s) made (runs_smooth steps) so ends

-- ---- the counts of a trace

-- an output that answered 0 makes a record and submits it
abbrev outputs : Done → ℕ
outputs (done.Output ring len flags (pos zero)) = 1
outputs _ = 0

made_by : (d : Done) → makes d ≡ cond {A = ℕ} (grants_record d) 1 0 + outputs d
made_by (done.Reserve ring len flags true) = refl
made_by (done.Reserve ring len flags false) = refl
made_by (done.Submit flags taken) = refl
made_by (done.Discard flags taken) = refl
made_by (done.Output ring len flags (pos zero)) = refl
made_by (done.Output ring len flags (pos (suc k))) = refl
made_by (done.Output ring len flags (negsuc k)) = refl
made_by (done.Query ring what answer) = refl

given_back_by : (d : Done) → IsTaken d → submits d + discards d ≡ cond {A = ℕ} (returns_record d) 1 0 + outputs d
given_back_by (done.Reserve ring len flags granted) taken = refl
given_back_by (done.Submit flags true) taken = refl
given_back_by (done.Submit flags false) taken = absurd (cc)
given_back_by (done.Discard flags true) taken = refl
given_back_by (done.Discard flags false) taken = absurd (cc)
given_back_by (done.Output ring len flags (pos zero)) taken = refl
given_back_by (done.Output ring len flags (pos (suc k))) taken = refl
given_back_by (done.Output ring len flags (negsuc k)) taken = refl
given_back_by (done.Query ring what answer) taken = refl

made_in_trace : (notes : List Done) → call_total makes notes ≡ count_by grants_record notes + call_total outputs notes
made_in_trace [] = refl
made_in_trace (d ∷ notes) = let one = made_by d in let rest = made_in_trace notes in let count = count_by-cons grants_record d notes in omega (arith, one, rest, count)

given_back_in_trace : (notes : List Done) → AreTaken notes → call_total submits notes + call_total discards notes ≡ count_by returns_record notes + call_total outputs notes
given_back_in_trace [] taken = refl
given_back_in_trace (d ∷ notes) taken =
    let one = given_back_by d taken.0 in let rest = given_back_in_trace notes taken.1 in let count = count_by-cons returns_record d notes in omega (arith, one, rest, count)

-- ---- jobs

pub calls_give_back : (subject : Subject) (context : List ℕ) (result : Result ℕ RunFault) (calls : List (AnsweredCall RingRecord))
    → RunMatches reserved_bytes with_record_bytes subject context calls result → OnOk result (TraceBalances [] (notes_of calls)) → result ≢ Err Stray
    → call_total makes (notes_of calls) ≡ call_total submits (notes_of calls) + call_total discards (notes_of calls)
calls_give_back subject context (Ok n) calls shows balanced ends =
    let taken : AreTaken (notes_of calls) = runs_smooth subject n _ [] _ calls shows.made_so shows.ends in
    let even : count_by grants_record (notes_of calls) ≡ count_by returns_record (notes_of calls) =
    subst (λ notes. count_by grants_record notes ≡ count_by returns_record notes) (sym balanced.1) balanced.2 in
    let made = made_in_trace (notes_of calls) in
    let back = given_back_in_trace (notes_of calls) taken in
    omega (arith, even, made, back)
calls_give_back subject context (Err Stray) calls shows balanced ends = absurd (ends refl)
calls_give_back subject context (Err ContextLength) calls shows balanced ends =
    subst (λ made. call_total makes (notes_of made) ≡ call_total submits (notes_of made) + call_total discards (notes_of made)) (sym shows) refl

pub jobs_balance : JobsGiveBack
jobs_balance task answer old new did =
    let even = calls_give_back task.program task.context answer.result did.calls did.shows did.balanced did.never_stray in
    let made = did.made_is in let submitted = did.submitted_is in let discarded = did.discarded_is in
    omega (arith, even, made, submitted, discarded)
