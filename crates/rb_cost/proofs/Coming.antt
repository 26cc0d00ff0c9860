-- The moments of a whole run.
use Rattle.std.proofs.Common.{◌≡◌, ℕ, zero, suc, refl, sym, ◌∙◌, ap, subst, List, [], ◌∷◌, ◌++◌, Option, Some, None, append_assoc, append-nil}
use Rattle.std.specs.Prelude.{zip}
use Rattle.rb_insn.specs.declared.insn.Insn.{Insn}
use Rattle.rb_semantics.specs.declared.pending_call.PendingCall.{PendingCall}
use Rattle.rb_semantics.specs.declared.pending_call.PendingCall.TheVariants as asked
use Rattle.rb_semantics.specs.ProgramStates.{State}
use Rattle.rb_semantics.specs.HelperCalls.{HelperCall, pending_call_of, HelperAnswer, Granted, HandedBack, Code, Told, Resumption, Resumes, Strays, Unfit, resume}
use Rattle.rb_semantics.specs.Instructions.{StepEffect, Goes, Ends, Asks, Stuck, next_step}
use Rattle.rb_semantics.specs.ProgramRuns.{Outcome, Returns, IsStuck, Strayed, Waits, run_of, run_followed, run_resumed}
use Rattle.rb_cost.specs.Runs.{Moment, LeadsTo, AreMoments, call_of}
use Rattle.rb_cost.specs.RunMoments.{answered_by, calls_in, EndsAtMoment, RunsHaveMoments}

-- a moment that has not been continued
abbrev now : State → Moment
now s = record { state = s; answer = None }

-- only that answer hands a record back
handed_back : (p : PendingCall) (answer : HelperAnswer) (s : State) → resume p answer s ≡ Strays → answer ≡ HandedBack
handed_back asked.GiveBack HandedBack s e = refl
handed_back asked.GiveBack answer s e = absurd (cc)
handed_back (asked.Reserve len) Granted s e = absurd (cc)
handed_back (asked.Reserve len) answer s e = absurd (cc)
handed_back asked.Output (Code n) s e = absurd (cc)
handed_back asked.Output answer s e = absurd (cc)
handed_back asked.Query (Told n) s e = absurd (cc)
handed_back asked.Query answer s e = absurd (cc)

module _ (program : List Insn) (first : State) where
  -- the answer of the last moment does not matter yet
  answered-now : (s : State) (answer : Option HelperAnswer) (before : List Moment) → AreMoments program first (now s ∷ before) → AreMoments program first (record { state = s; answer = answer } ∷ before)
  answered-now s answer [] h = h
  answered-now s answer (m ∷ before) h = h

  -- a run that continues from some moments
  record GoesOn (earlier : List Moment) (calls : List HelperCall) (answers : List HelperAnswer) (End : Moment → Type 0) : Type 0 where
    last : Moment
    before : List Moment
    moments : AreMoments program first (last ∷ before)
    calls_are : calls_in program (last ∷ before) ≡ calls_in program earlier ++ zip calls answers
    end : End last

  GoesOnBy : List Moment → List HelperCall → List HelperAnswer → Outcome → Type 0
  GoesOnBy earlier calls answers (Returns n) = GoesOn earlier calls answers (λ last. next_step program last.state ≡ Ends n)
  GoesOnBy earlier calls answers Strayed = GoesOn earlier calls answers (λ last. last.answer ≡ Some HandedBack)
  GoesOnBy earlier calls answers IsStuck = Unit {0}
  GoesOnBy earlier calls answers Waits = Unit {0}

  -- from earlier moments on
  from-earlier : (old new : List Moment) (calls more : List HelperCall) (answers further : List HelperAnswer) → calls_in program new ++ zip more further ≡ calls_in program old ++ zip calls answers
      → (outcome : Outcome) → GoesOnBy new more further outcome → GoesOnBy old calls answers outcome
  unfolding GoesOnBy
  from-earlier old new calls more answers further same (Returns n) h = record { last = h.last; before = h.before; moments = h.moments; calls_are = h.calls_are ∙ same; end = h.end }
  from-earlier old new calls more answers further same Strayed h = record { last = h.last; before = h.before; moments = h.moments; calls_are = h.calls_are ∙ same; end = h.end }
  from-earlier old new calls more answers further same IsStuck h = tt
  from-earlier old new calls more answers further same Waits h = tt

  module _ (steps : ℕ) (rest : (t : State) (before : List Moment) (answers : List HelperAnswer) → AreMoments program first (now t ∷ before) → GoesOnBy before (run_of program steps t answers).calls answers (run_of program steps t answers).outcome)
      (s : State) (before : List Moment) (moments : AreMoments program first (now s ∷ before)) where
    nothing_more : calls_in program (now s ∷ before) ≡ calls_in program before
    nothing_more = append-nil (calls_in program before)

    module _ (call : HelperCall) (waits : State) (is : next_step program s ≡ Asks call waits) (answer : HelperAnswer) (answers : List HelperAnswer) where
      m : Moment
      m = record { state = s; answer = Some answer }

      one_more : calls_in program (m ∷ before) ≡ calls_in program before ++ (call, answer) ∷ []
      unfolding m
      one_more = ap (λ e. calls_in program before ++ answered_by (Some answer) (call_of e)) is

      joined : (calls : List HelperCall) → calls_in program (m ∷ before) ++ zip calls answers ≡ calls_in program before ++ zip (call ∷ calls) (answer ∷ answers)
      joined calls = ap (λ cs. cs ++ zip calls answers) one_more ∙ append_assoc (calls_in program before) ((call, answer) ∷ []) (zip calls answers)

      by_resumption : (r : Resumption) → resume (pending_call_of call) answer waits ≡ r
          → GoesOnBy before (call ∷ (run_resumed (run_of program steps) r answers).calls) (answer ∷ answers) (run_resumed (run_of program steps) r answers).outcome
      unfolding m GoesOnBy
      by_resumption (Resumes t) there =
          let leads : LeadsTo (next_step program s) (Some answer) t = subst (λ e. LeadsTo e (Some answer) t) (sym is) there in
          let more = rest t (m ∷ before) answers (leads, answered-now s (Some answer) before moments) in
          from-earlier before (m ∷ before) (call ∷ (run_of program steps t answers).calls) (run_of program steps t answers).calls (answer ∷ answers) answers
          (joined (run_of program steps t answers).calls) (run_of program steps t answers).outcome more
      by_resumption Strays there =
          record { last = m; before = before; moments = answered-now s (Some answer) before moments; calls_are = one_more; end = ap (λ a. Some a) (handed_back (pending_call_of call) answer waits there) }
      by_resumption Unfit there = tt

    by_effect : (e : StepEffect) → next_step program s ≡ e → (answers : List HelperAnswer)
        → GoesOnBy before (run_followed (run_of program steps) e answers).calls answers (run_followed (run_of program steps) e answers).outcome
    unfolding GoesOnBy
    by_effect (Goes t) is answers =
        let leads : LeadsTo (next_step program s) None t = subst (λ e. LeadsTo e None t) (sym is) refl in
        from-earlier before (now s ∷ before) (run_of program steps t answers).calls (run_of program steps t answers).calls answers answers
        (ap (λ cs. cs ++ zip (run_of program steps t answers).calls answers) nothing_more) (run_of program steps t answers).outcome (rest t (now s ∷ before) answers (leads, moments))
    by_effect (Ends n) is answers = record { last = now s; before = before; moments = moments; calls_are = refl; end = is }
    by_effect Stuck is answers = tt
    by_effect (Asks call waits) is [] = tt
    by_effect (Asks call waits) is (answer ∷ answers) = by_resumption call waits is answer answers (resume (pending_call_of call) answer waits) refl

  go : (steps : ℕ) (s : State) (before : List Moment) (answers : List HelperAnswer) → AreMoments program first (now s ∷ before) → GoesOnBy before (run_of program steps s answers).calls answers (run_of program steps s answers).outcome
  unfolding GoesOnBy
  go zero s before answers moments = tt
  go (suc steps) s before answers moments = by_effect steps (go steps) s before moments (next_step program s) refl answers

  ended : (calls : List HelperCall) (answers : List HelperAnswer) (outcome : Outcome) → GoesOnBy [] calls answers outcome → EndsAtMoment program first calls answers outcome
  unfolding GoesOnBy
  ended calls answers (Returns n) h = record { last = h.last; before = h.before; moments = h.moments; calls_are = h.calls_are; end = h.end }
  ended calls answers Strayed h = record { last = h.last; before = h.before; moments = h.moments; calls_are = h.calls_are; end = h.end }
  ended calls answers IsStuck h = tt
  ended calls answers Waits h = tt

pub runs_have_moments : RunsHaveMoments
runs_have_moments program steps first answers = ended program first (run_of program steps first answers).calls answers (run_of program steps first answers).outcome (go program first steps first [] answers refl)
