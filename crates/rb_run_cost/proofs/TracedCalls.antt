-- The calls of a run are those of its moments.
use Rattle.std.proofs.Common.{◌≡◌, ℕ, ◌+◌, ◌≤◌, refl, sym, ◌∙◌, ap, subst, cond, List, [], ◌∷◌, ◌++◌, length, map, Option, Some, None, Ok, Err, arith}
use Rattle.std.proofs.Math.Nat.{le_trans}
use Rattle.std.specs.Prelude.{◌==◌, sum_by, zip, is_some, option_and_then}
use Rattle.std.proofs.lemmas.List.Sums.{sum_by-cons, sum_by-append}
use Rattle.rb_insn.specs.declared.insn.Insn.{Insn}
use Rattle.rb_program.specs.Program.{unit_count}
use Rattle.rb_verifier.specs.Subject.{Subject}
use Rattle.rb_semantics.specs.ProgramStates.{entry_program_state}
use Rattle.rb_semantics.specs.HelperCalls as meaning
use Rattle.rb_semantics.specs.HelperCalls.{HelperCall, HelperAnswer}
use Rattle.rb_semantics.specs.ProgramRuns.{Outcome, Returns, Strayed}
use Rattle.rb_history.specs.Span.{span}
use Rattle.rb_history.proofs.Lists.{sum_by-agree}
use Rattle.rb_interp.specs.declared.completed_call.Done.{Done}
use Rattle.rb_interp.specs.declared.fault.RunFault.TheVariants.{ContextLength, Stray}
use Rattle.rb_interp.specs.AnsweredCalls.{AnsweredCall, Reserved, Submitted, Discarded, SentOut, Queried, note_of, notes_of}
use Rattle.rb_interp.specs.RunTraces.{held_once_made, IsMade, AreMade, traced_answer, run_under}
use Rattle.rb_cost.specs.declared.cost.Cost.{Cost}
use Rattle.rb_cost.specs.Requests.{is_on, bytes_on}
use Rattle.rb_cost.specs.Cost.{IsCost}
use Rattle.rb_cost.specs.Runs.{Moment, call_at, asked_by_call, requested_at, IsRunWithin}
use Rattle.rb_cost.specs.RunMoments.{answered_by, calls_in, HasMoments, EndsAtMoment}
use Rattle.rb_cost.proofs.Running.{runs_stay}
use Rattle.rb_cost.proofs.Coming.{runs_have_moments}
use Rattle.rb_run_cost.specs.CallCosts.{asks, asked_span, AreCallsWithin, IsVerified, CallsStayWithin}

-- ---- sums over calls, for any weight

module _ (g : HelperCall → ℕ) where
  -- the weight of a moment
  abbrev counted : Option HelperCall → ℕ
  counted None = 0
  counted (Some call) = g call

  abbrev of_answered : List (HelperCall × HelperAnswer) → ℕ
  of_answered calls = sum_by (λ c. g c.0) calls

  -- an answered call is the call of its moment
  one_moment : (answer : Option HelperAnswer) (call : Option HelperCall) → of_answered (answered_by answer call) ≤ counted call
  one_moment None call = omega arith
  one_moment (Some answer) None = omega arith
  one_moment (Some answer) (Some call) = omega arith

  answered_below : (program : List Insn) (moments : List Moment) → of_answered (calls_in program moments) ≤ sum_by (λ m. counted (call_at program m)) moments
  answered_below program [] = omega arith
  answered_below program (m ∷ before) =
      let both : of_answered (calls_in program before ++ answered_by m.answer (call_at program m)) ≡ of_answered (calls_in program before) + of_answered (answered_by m.answer (call_at program m)) =
      sum_by-append (λ (c : HelperCall × HelperAnswer). g c.0) (calls_in program before) (answered_by m.answer (call_at program m)) in
      let here : of_answered (answered_by m.answer (call_at program m)) ≤ counted (call_at program m) = one_moment m.answer (call_at program m) in
      let rest : of_answered (calls_in program before) ≤ sum_by (λ m. counted (call_at program m)) before = answered_below program before in
      let more : sum_by (λ m. counted (call_at program m)) (m ∷ before) ≡ counted (call_at program m) + sum_by (λ m. counted (call_at program m)) before = sum_by-cons (λ m. counted (call_at program m)) m before in
      omega arith

  module _ (f : Done → ℕ) {R : Type 0} (bytes_of : R → List ℕ) (with_bytes : R → List ℕ → R) (same : (held : List (ℕ × R)) (call : HelperCall) (made : AnsweredCall R) → IsMade bytes_of with_bytes held call made → g call ≡ f (note_of made)) where
    -- the calls of the semantics with their answers, and the calls that were made
    made_counted : (held : List (ℕ × R)) (calls : List HelperCall) (made : List (AnsweredCall R)) → AreMade bytes_of with_bytes held calls made
        → sum_by f (notes_of made) ≡ of_answered (zip calls (map traced_answer (notes_of made)))
    made_counted held [] [] h = refl
    made_counted held [] (m ∷ made) h = absurd h
    made_counted held (call ∷ calls) [] h = absurd h
    made_counted held (call ∷ calls) (m ∷ made) h =
        let here : g call ≡ f (note_of m) = same held call m h.0 in
        let rest : sum_by f (notes_of made) ≡ of_answered (zip calls (map traced_answer (notes_of made))) = made_counted (held_once_made held call m) calls made h.1 in
        let left : sum_by f (note_of m ∷ notes_of made) ≡ f (note_of m) + sum_by f (notes_of made) = sum_by-cons f (note_of m) (notes_of made) in
        let right : of_answered ((call, traced_answer (note_of m)) ∷ zip calls (map traced_answer (notes_of made))) ≡ g call + of_answered (zip calls (map traced_answer (notes_of made))) =
        sum_by-cons (λ (c : HelperCall × HelperAnswer). g c.0) (call, traced_answer (note_of m)) (zip calls (map traced_answer (notes_of made))) in
        omega arith

-- ---- what a call requests

module _ {R : Type 0} (bytes_of : R → List ℕ) (with_bytes : R → List ℕ → R) where
  asks_same : (n : ℕ) (held : List (ℕ × R)) (call : HelperCall) (made : AnsweredCall R) → IsMade bytes_of with_bytes held call made → ◌≡◌ {A = ℕ} (cond (is_on n (asked_by_call call)) 1 0) (cond (asks n (note_of made)) 1 0)
  asks_same n held (meaning.Reserve id r l f) (Reserved ring len flags answer) h = ap (λ x. cond (x == n) 1 0) (sym h.0)
  asks_same n held (meaning.Submit id bytes f) (Submitted owned flags taken) h = refl
  asks_same n held (meaning.Discard id bytes f) (Discarded owned flags taken) h = refl
  asks_same n held (meaning.Output r bytes f) (SentOut ring sent flags answer) h = ap (λ x. cond (x == n) 1 0) (sym h.0)
  asks_same n held (meaning.Query r w) (Queried ring what answer) h = refl
  asks_same n held call made h = absurd h

  span_same : (n : ℕ) (held : List (ℕ × R)) (call : HelperCall) (made : AnsweredCall R) → IsMade bytes_of with_bytes held call made → bytes_on n (asked_by_call call) ≡ asked_span n (note_of made)
  span_same n held (meaning.Reserve id r l f) (Reserved ring len flags answer) h = ap (λ x. cond (x == n) (span l) 0) (sym h.0) ∙ ap (λ x. cond (ring == n) (span x) 0) (sym h.1)
  span_same n held (meaning.Submit id bytes f) (Submitted owned flags taken) h = refl
  span_same n held (meaning.Discard id bytes f) (Discarded owned flags taken) h = refl
  span_same n held (meaning.Output r bytes f) (SentOut ring sent flags answer) h = ap (λ x. cond (x == n) (span (length bytes)) 0) (sym h.0) ∙ ap (λ (b : List ℕ). cond (ring == n) (span (length b)) 0) (sym h.1)
  span_same n held (meaning.Query r w) (Queried ring what answer) h = refl
  span_same n held call made h = absurd h

  module _ (subject : Subject) (cost : Cost) (context : List ℕ) (made : List (AnsweredCall R)) (v : IsVerified subject) (is : IsCost subject cost) (long : length context ≡ subject.ctx_len)
      (made_so : AreMade bytes_of with_bytes [] (run_under subject context (notes_of made)).calls made) where
    answers : List HelperAnswer
    answers = map traced_answer (notes_of made)

    module _ (End : Moment → Type 0) (h : HasMoments subject.program (entry_program_state context) (run_under subject context (notes_of made)).calls answers End) where
      within : IsRunWithin subject cost h.last h.before
      within = runs_stay subject cost context h.last h.before v.well_shaped v.begins v.valid is long h.moments

      -- the total weight of the trace is at most that of the moments
      counted_below : (g : HelperCall → ℕ) (f : Done → ℕ) → ((held : List (ℕ × R)) (call : HelperCall) (m : AnsweredCall R) → IsMade bytes_of with_bytes held call m → g call ≡ f (note_of m))
          → sum_by f (notes_of made) ≤ sum_by (λ m. counted g (call_at subject.program m)) (h.last ∷ h.before)
      unfolding answers
      counted_below g f same =
          let first : sum_by f (notes_of made) ≡ of_answered g (zip (run_under subject context (notes_of made)).calls answers) =
          made_counted g f bytes_of with_bytes same [] (run_under subject context (notes_of made)).calls made made_so in
          let second : of_answered g (calls_in subject.program (h.last ∷ h.before)) ≡ of_answered g (zip (run_under subject context (notes_of made)).calls answers) = ap (of_answered g) h.calls_are in
          let third : of_answered g (calls_in subject.program (h.last ∷ h.before)) ≤ sum_by (λ m. counted g (call_at subject.program m)) (h.last ∷ h.before) = answered_below g subject.program (h.last ∷ h.before) in
          omega arith

      -- the same, given the weight of each moment
      weighed : (g : HelperCall → ℕ) (f : Done → ℕ) → ((held : List (ℕ × R)) (call : HelperCall) (m : AnsweredCall R) → IsMade bytes_of with_bytes held call m → g call ≡ f (note_of m))
          → (w : Moment → ℕ) → ((m : Moment) → counted g (call_at subject.program m) ≡ w m) → sum_by f (notes_of made) ≤ sum_by w (h.last ∷ h.before)
      weighed g f same w each =
          let below = counted_below g f same in
          let agree : sum_by w (h.last ∷ h.before) ≡ sum_by (λ m. counted g (call_at subject.program m)) (h.last ∷ h.before) = sum_by-agree (λ m. counted g (call_at subject.program m)) w (λ m. sym (each m)) (h.last ∷ h.before) in
          omega (arith, below, agree)

      calls_within : AreCallsWithin subject cost (notes_of made)
      calls_within = record {
        count =
            let below : sum_by (λ (note : Done). 1) (notes_of made) ≤ sum_by (λ m. cond (is_some (call_at subject.program m)) 1 0) (h.last ∷ h.before) =
            weighed (λ call. 1) (λ note. 1) (λ held call m made. refl) (λ m. cond (is_some (call_at subject.program m)) 1 0) (λ m. one_call (call_at subject.program m)) in
            let long : sum_by (λ (note : Done). 1) (notes_of made) ≡ length (notes_of made) = lengths (notes_of made) in
            omega (arith, below, long, within.calls);
        records = λ ring lt.
            le_trans
            (weighed (λ call. cond (is_on ring (asked_by_call call)) 1 0) (λ note. cond (asks ring note) 1 0) (asks_same ring) (λ m. cond (is_on ring (requested_at subject.program m)) 1 0) (λ m. on_call ring (call_at subject.program m)))
            (within.asked ring lt).records;
        bytes = λ ring lt.
            le_trans (weighed (λ call. bytes_on ring (asked_by_call call)) (asked_span ring) (span_same ring) (λ m. bytes_on ring (requested_at subject.program m)) (λ m. bytes_call ring (call_at subject.program m)))
            (within.asked ring lt).bytes;
      }
        where
          one_call : (call : Option HelperCall) → ◌≡◌ {A = ℕ} (counted (λ call. 1) call) (cond (is_some call) 1 0)
          one_call None = refl
          one_call (Some call) = refl

          on_call : (ring : ℕ) (call : Option HelperCall) → ◌≡◌ {A = ℕ} (counted (λ call. cond (is_on ring (asked_by_call call)) 1 0) call) (cond (is_on ring (option_and_then asked_by_call call)) 1 0)
          on_call ring None = refl
          on_call ring (Some call) = refl

          bytes_call : (ring : ℕ) (call : Option HelperCall) → counted (λ call. bytes_on ring (asked_by_call call)) call ≡ bytes_on ring (option_and_then asked_by_call call)
          bytes_call ring None = refl
          bytes_call ring (Some call) = refl

          lengths : (notes : List Done) → sum_by (λ note. 1) notes ≡ length notes
          lengths [] = refl
          lengths (note ∷ notes) = let more : sum_by (λ (n : Done). 1) (note ∷ notes) ≡ 1 + sum_by (λ (n : Done). 1) notes = sum_by-cons (λ (n : Done). 1) note notes in let rest : sum_by (λ (n : Done). 1) notes ≡ length notes = lengths notes in omega arith

    -- the same, given the outcome of the run
    by_outcome : (outcome : Outcome) → (run_under subject context (notes_of made)).outcome ≡ outcome → EndsAtMoment subject.program (entry_program_state context) (run_under subject context (notes_of made)).calls answers outcome
    unfolding answers
    by_outcome outcome is = subst (EndsAtMoment subject.program (entry_program_state context) (run_under subject context (notes_of made)).calls answers) is
        (runs_have_moments subject.program (unit_count subject.program) (entry_program_state context) (map traced_answer (notes_of made)))

-- a run that made no calls
none_within : (subject : Subject) (cost : Cost) → AreCallsWithin subject cost []
none_within subject cost = record { count = omega arith; records = λ ring lt. omega arith; bytes = λ ring lt. omega arith }

pub calls_stay : {R : Type 0} (bytes_of : R → List ℕ) (with_bytes : R → List ℕ → R) → CallsStayWithin bytes_of with_bytes
calls_stay bytes_of with_bytes subject cost context made (Ok n) v is long ran =
    calls_within bytes_of with_bytes subject cost context made v is long ran.made_so _ (by_outcome bytes_of with_bytes subject cost context made v is long ran.made_so (Returns n) ran.ends)
calls_stay bytes_of with_bytes subject cost context made (Err Stray) v is long ran =
    calls_within bytes_of with_bytes subject cost context made v is long ran.made_so _ (by_outcome bytes_of with_bytes subject cost context made v is long ran.made_so Strayed ran.ends)
calls_stay bytes_of with_bytes subject cost context made (Err ContextLength) v is long ran = subst (λ made. AreCallsWithin subject cost (notes_of made)) (sym ran) (none_within subject cost)
