-- Every run of a verified program stays within its cost.
use Rattle.std.proofs.Common.{◌≡◌, ◌⊎◌, inl, inr, ⊎_elim, ℕ, ◌+◌, ◌<◌, ◌≤◌, refl, sym, ◌∙◌, ap, subst, true, false, cond, List, [], ◌∷◌, length, map, Option, Some, None, Ok, arith}
use Rattle.std.proofs.Math.Nat.{le_trans}
use Rattle.std.specs.Prelude.{◌==◌, pos, sum_by, is_some, option_and_then, option_map}
use Rattle.std.specs.List.{AllByRecursion}
use Rattle.std.proofs.lemmas.Bool.Decides.{nat_tests}
use Rattle.std.proofs.lemmas.List.{length-map}
use Rattle.std.proofs.lemmas.List.Sums.{sum_by-cons}
use Rattle.rb_insn.specs.declared.insn.Insn.{Insn}
use Rattle.rb_insn.specs.declared.insn.Insn.TheVariants.{Call}
use Rattle.rb_program.specs.Program.{unit_count, slot_at}
use Rattle.rb_program.specs.Edges.{Edge, Next, HasEdge, edge_target, falls_through}
use Rattle.rb_program.specs.Shape.{IsWellShaped, IsInstructionStart}
use Rattle.rb_program.proofs.ShapeLaws.{begins-lt, leads-goes_on}
use Rattle.rb_verifier.specs.declared.helper.Helper.{Helper}
use Rattle.rb_verifier.specs.declared.helper.Helper.TheVariants.{Output, Reserve, Submit, Discard, Query}
use Rattle.rb_verifier.specs.declared.references.Reference.{Reference}
use Rattle.rb_verifier.specs.declared.value.Abs.{Abs}
use Rattle.rb_verifier.specs.References.{AreEarlier}
use Rattle.rb_verifier.specs.HelperChecks.{helper_of, check_call}
use Rattle.rb_verifier.specs.VerifierChecks.{abstract_step}
use Rattle.rb_verifier.specs.AbstractStates.{value_in}
use Rattle.rb_verifier.specs.Annotation.{Annotation, HoldsAt, IsValid}
use Rattle.rb_verifier.specs.Subject.{Subject, limits_of, is_call, calls}
use Rattle.rb_semantics.specs.declared.value.Value.{Value}
use Rattle.rb_semantics.specs.declared.value.Value.TheVariants as value
use Rattle.rb_semantics.specs.ProgramStates.{State, entry_program_state, register}
use Rattle.rb_semantics.specs.HelperCalls as meaning
use Rattle.rb_semantics.specs.HelperCalls.{HelperCall, HelperAnswer, pending_call_of, resume, Resumes, call_reserve, call_of_helper}
use Rattle.rb_semantics.specs.Instructions.{StepEffect, Goes, Ends, Asks, Stuck, next_step, execute, waits_for}
use Rattle.rb_semantics.specs.Agreement.{AgreesValue, AreHeld}
use Rattle.rb_semantics.proofs.Keeping.{CanStepUnder, IsSoundUnder, can_step}
use Rattle.rb_semantics.proofs.Sound.{instruction_keeps, can_start_under}
use Rattle.rb_semantics.proofs.Laws.{step_is, resume-resumes, calls_helper}
use Rattle.rb_semantics.proofs.Checks.{ring_passed}
use Rattle.rb_cost.specs.declared.requested_record.RequestedRecord.{RequestedRecord}
use Rattle.rb_cost.specs.declared.cost.Cost.{Cost}
use Rattle.rb_cost.specs.Paths.{IsPath}
use Rattle.rb_cost.specs.Requests.{record_of, asked_of_helper, asked_by, asked_in, asked_at, is_on, bytes_on, is_of_ring, held_span}
use Rattle.rb_cost.specs.Cost.{IsRingCost, IsCostUnder}
use Rattle.rb_cost.specs.Runs.{Moment, LeadsTo, AreMoments, call_of, call_at, granted_to, granted_at, asked_by_call, requested_at, ring_by, ring_of, held_record, ring_cost_at, IsAskedWithin, IsGrantedWithin, IsHeldWithin, IsRunWithin, RunsStayWithin}
use Rattle.rb_cost.proofs.KeptReferences.{NewHolds, NewOf, edge_keeps}
use Rattle.rb_cost.proofs.Sizes.{AreKnown, known-record_of, reserve_known, output_ring_known}
use Rattle.rb_cost.proofs.Moving.{Moves, named_by, named_for, named_before, IsNamedAt, moves}

call_is : (insn : Insn) → is_call insn ≡ true → falls_through insn ≡ true
call_is (Call code) e = refl
call_is insn e = absurd (cc)

one_unit : (insn : Insn) → is_call insn ≡ true → (unit to : ℕ) → to ≡ unit + 1 → edge_target unit insn Next ≡ Some to
one_unit (Call code) e unit to is = leads-goes_on unit (Call code) refl ∙ ap (λ n. Some n) (sym is)
one_unit insn e unit to is = absurd (cc)

-- a reserve at a ring is one of that ring
reserve_is : (s w : State) (v x y : Value) (ring : ℕ) (call : HelperCall) → v ≡ value.Ring ring → call_reserve v x y s ≡ Some (call, w) → (len : ℕ) × (flags : ℕ) × (call ≡ meaning.Reserve s.unit ring len flags)
reserve_is s w (value.Ring n) (value.Number len) (value.Number flags) ring call e h =
    let same : n ≡ ring = cc in
    let pair : (meaning.Reserve s.unit n len flags, meaning.waiting s) ≡ (call, w) = cc in
    let is : meaning.Reserve s.unit n len flags ≡ call = ap (λ (p : HelperCall × State). p.0) pair in
    (len, flags, sym is ∙ ap (λ r. meaning.Reserve s.unit r len flags) same)
reserve_is s w v x y ring call e h = absurd (cc)

-- two values that agree with the abstract ones name the record that is known
known_named : (records : List (ℕ × List ℕ)) (x y : Abs) (v w : Value) → AgreesValue records x v → AgreesValue records y w → AreKnown x y → named_by v w ≡ record_of x y
known_named records x y v w first second k =
    let ring : v ≡ value.Ring k.ring = subst (λ x. AgreesValue records x v) k.ring_is first in
    let len : w ≡ value.Number k.len = subst (λ y. AgreesValue records y w) k.len_is second in
    ap (λ v. named_by v w) ring ∙ (ap (λ w. named_by (value.Ring k.ring) w) len ∙ sym (known-record_of x y k))

-- what is granted is what was requested, or nothing
granted_cases : (call : Option HelperCall) (answer : Option HelperAnswer) (asked : Option RequestedRecord) → ((c : HelperCall) → call ≡ Some c → asked_by_call c ≡ asked) → (granted_to call answer ≡ None) ⊎ (granted_to call answer ≡ asked)
granted_cases (Some (meaning.Reserve id ring len flags)) (Some meaning.Granted) asked h = inr (h _ refl)
granted_cases (Some (meaning.Output ring bytes flags)) (Some (meaning.Code (pos ℕ.zero))) asked h = inr (h _ refl)
granted_cases call answer asked h = inl refl

module _ (subject : Subject) (a : Annotation) (valid : IsValid (limits_of subject) subject.program a) where
  abbrev pub program : List Insn
  program = subject.program

  abbrev pub Can : State → Type 0
  Can s = CanStepUnder subject a s

  held_at : (s : State) → (u : Can s) → HoldsAt (limits_of subject) a (unit_count program) s.unit u.begins.0
  held_at s u = valid.each s.unit u.begins.0 (begins-lt program s.unit u.begins.0 u.begins.1) u.begins.1

  module _ (s : State) (u : Can s) where
    insn : Insn
    insn = u.begins.0

    -- the registers name the record whose request is known
    helper_named : (called : Option Helper) (e : _) → check_call (limits_of subject) s.unit called (a s.unit) ≡ Ok e → named_for called s ≡ asked_of_helper called (a s.unit)
    helper_named None e ok = refl
    helper_named (Some Output) e ok = known_named s.memory.records _ _ (register s 1) (register s 3) (u.agrees.values 1) (u.agrees.values 3) (output_ring_known (limits_of subject) s.unit (a s.unit) e ok)
    helper_named (Some Reserve) e ok = known_named s.memory.records _ _ (register s 1) (register s 2) (u.agrees.values 1) (u.agrees.values 2) (reserve_known (limits_of subject) s.unit (a s.unit) e ok).0
    helper_named (Some Submit) e ok = refl
    helper_named (Some Discard) e ok = refl
    helper_named (Some Query) e ok = refl

    insn_named : (i : Insn) (e : _) → abstract_step (limits_of subject) s.unit i (a s.unit) ≡ Ok e → named_before i s ≡ asked_by i (a s.unit)
    unfolding abstract_step
    insn_named (Call code) e ok = helper_named (helper_of code) e ok
    insn_named i e ok = refl

    sound_here : (effect : StepEffect) → next_step program s ≡ effect → IsSoundUnder subject a s effect
    sound_here effect is =
        let there = instruction_keeps subject s (can_step subject a s u) u.begins.0 u.begins.1 in
        subst (IsSoundUnder subject a s) (sym (step_is subject s u.begins.0 u.begins.1) ∙ is) there

    moves_here : (effect : StepEffect) → next_step program s ≡ effect → Moves u.begins.0 s effect
    moves_here effect is = subst (Moves u.begins.0 s) (sym (step_is subject s u.begins.0 u.begins.1) ∙ is) (moves u.begins.0 s)

    -- a call requests the record that is known, and is made by a CALL
    pub call_asks : (effect : StepEffect) → next_step program s ≡ effect → (c : HelperCall) → call_of effect ≡ Some c → (asked_by_call c ≡ asked_at program a s.unit) × IsNamedAt s.unit c × (calls (slot_at program s.unit) ≡ true)
    call_asks (Asks call w) is c same =
        let e : call ≡ c = cc in
        let m = moves_here (Asks call w) is in
        let out = sound_here (Asks call w) is in
        let held = held_at s u in
        let known : named_before u.begins.0 s ≡ asked_by u.begins.0 (a s.unit) = insn_named u.begins.0 held.effect held.checks in
        let at : asked_by u.begins.0 (a s.unit) ≡ asked_at program a s.unit = ap (λ slot. asked_in slot (a s.unit)) (sym u.begins.1) in
        (subst (λ c. asked_by_call c ≡ asked_at program a s.unit) e (m.0 ∙ (known ∙ at)), subst (IsNamedAt s.unit) e m.1, out.at_call)
    call_asks (Goes t) is c same = absurd (cc)
    call_asks (Ends n) is c same = absurd (cc)
    call_asks Stuck is c same = absurd (cc)

    -- the next moment's state can step, and an edge leads to its unit
    pub leads_on : (effect : StepEffect) → next_step program s ≡ effect → (answer : Option HelperAnswer) (t : State) → LeadsTo effect answer t → ((along : Edge) × HasEdge program s.unit along t.unit) × Can t
    leads_on (Goes next) is answer t e =
        let m = moves_here (Goes next) is in
        let out = sound_here (Goes next) is in
        subst (λ t. ((along : Edge) × HasEdge program s.unit along t.unit) × Can t) (sym e) ((m.0, record { insn = u.begins.0; begins = u.begins.1; leads_to = m.1 }), out.next)
    leads_on (Asks call w) is (Some answer) t e =
        let out = sound_here (Asks call w) is in
        let on = resume-resumes (pending_call_of call) answer w t e in
        let unit : t.unit ≡ s.unit + 1 = on.unit ∙ ap (λ n. n + 1) out.here in
        let calling : is_call u.begins.0 ≡ true = ap calls (sym u.begins.1) ∙ out.at_call in
        ((Next, record { insn = u.begins.0; begins = u.begins.1; leads_to = one_unit u.begins.0 calling s.unit t.unit unit }), out.next answer t e)
    leads_on (Asks call w) is None t e = absurd e
    leads_on (Ends n) is answer t e = absurd e
    leads_on Stuck is answer t e = absurd e

  -- ---- the rings of the records that are held

  -- the record of a reference was reserved on its ring
  abbrev pub HasRing : List Moment → Reference → Type 0
  HasRing before r = ring_of program before r.id ≡ Some r.ring

  -- an earlier record is not one that is reserved here
  pub ring_kept : (call : Option HelperCall) (unit id : ℕ) (before : Option ℕ) → ((c : HelperCall) → call ≡ Some c → IsNamedAt unit c) → id < unit → ring_by call id before ≡ before
  ring_kept None unit id before named lt = refl
  ring_kept (Some (meaning.Reserve reserved ring len flags)) unit id before named lt =
      let here : reserved ≡ unit = named _ refl in
      let other : (reserved == id) ≡ false = grind (arith, nat_tests) in
      rw other
  ring_kept (Some (meaning.Submit i bytes flags)) unit id before named lt = refl
  ring_kept (Some (meaning.Discard i bytes flags)) unit id before named lt = refl
  ring_kept (Some (meaning.Output ring bytes flags)) unit id before named lt = refl
  ring_kept (Some (meaning.Query ring what)) unit id before named lt = refl

  module _ (m : Moment) (u : Can m.state) (before : List Moment) where
    named_here : (c : HelperCall) → call_at program m ≡ Some c → IsNamedAt m.state.unit c
    named_here c is = (call_asks m.state u (next_step program m.state) refl c is).1

    rings_kept : (held : List Reference) → AreEarlier m.state.unit held → AllByRecursion (HasRing before) held → AllByRecursion (HasRing (m ∷ before)) held
    rings_kept [] earlier h = tt
    rings_kept (r ∷ held) earlier h = (ring_kept (call_at program m) m.state.unit r.id (ring_of program before r.id) named_here earlier.0 ∙ h.0, rings_kept held earlier.1 h.1)

    -- the record that is reserved here
    ring_new : (code : ℕ) → u.begins.0 ≡ Call code → (called : Option Helper) → helper_of code ≡ called → NewHolds (HasRing (m ∷ before)) (λ r h. h) m.state.unit (a m.state.unit) called
    unfolding execute
    ring_new code is None found = tt
    ring_new code is (Some Output) found = tt
    ring_new code is (Some Reserve) found = λ ring size first second.
        let begins : slot_at program m.state.unit ≡ Some (Call code) = u.begins.1 ∙ ap (λ i. Some i) is in
        let h = calls_helper subject m.state code (can_step subject a m.state u) begins in
        let helper : Some h.helper ≡ Some Reserve = sym h.number ∙ found in
        let asks : call_of_helper (Some Reserve) m.state ≡ Some (h.call, h.waiting) = subst (λ x. call_of_helper x m.state ≡ Some (h.call, h.waiting)) helper h.asks in
        let ring_is : register m.state 1 ≡ value.Ring ring = subst (λ x. AgreesValue m.state.memory.records x (register m.state 1)) (ring_passed (value_in (a m.state.unit) 1) ring first) (u.agrees.values 1) in
        let call = reserve_is m.state h.waiting (register m.state 1) (register m.state 2) (register m.state 3) ring h.call ring_is asks in
        let step : next_step program m.state ≡ waits_for (call_of_helper (Some Reserve) m.state) = step_is subject m.state (Call code) begins ∙ ap (λ x. waits_for (call_of_helper x m.state)) found in
        let made : call_at program m ≡ Some (meaning.Reserve m.state.unit ring call.0 call.1) = ap call_of step ∙ (ap (λ asked. call_of (waits_for asked)) asks ∙ ap (λ c. Some c) call.2) in
        let same : (m.state.unit == m.state.unit) ≡ true = grind (arith, nat_tests) in
        subst (λ c. ring_by c m.state.unit (ring_of program before m.state.unit) ≡ Some ring) (sym made) (rw same)
    ring_new code is (Some Submit) found = tt
    ring_new code is (Some Discard) found = tt
    ring_new code is (Some Query) found = tt

    new_ring : (i : Insn) → u.begins.0 ≡ i → NewOf (HasRing (m ∷ before)) (λ r h. h) m.state.unit (a m.state.unit) i
    new_ring (Call code) is = ring_new code is (helper_of code) refl
    new_ring i is = tt

  -- ---- runs

  abbrev pub units : List Moment → List ℕ
  units moments = map (λ m. m.state.unit) moments

  -- the progress of a run
  pub record HasCome (m : Moment) (before : List Moment) : Type 0 where
    pub can : Can m.state
    pub all : AllByRecursion (λ m. Can m.state) before
    pub path : IsPath program (units (m ∷ before))
    pub rings : AllByRecursion (HasRing before) (a m.state.unit).held

  one_more : (t m : Moment) (before : List Moment) → LeadsTo (next_step program m.state) m.answer t.state → HasCome m before → HasCome t (m ∷ before)
  one_more t m before leads h =
      let on = leads_on m.state h.can (next_step program m.state) refl m.answer t.state leads in
      let edge : HasEdge program m.state.unit on.0.0 t.state.unit = on.0.1 in
      let here : slot_at program m.state.unit ≡ Some h.can.begins.0 = h.can.begins.1 in
      let there : Some h.can.begins.0 ≡ Some edge.insn = sym here ∙ edge.begins in
      let same : h.can.begins.0 ≡ edge.insn = cc in
      let next : Can t.state = on.1 in
      record {
        can = next;
        all = (h.can, h.all);
        path = (on.0, h.path);
        rings = edge_keeps (HasRing (m ∷ before)) (λ r h. h) (limits_of subject) program a valid m.state.unit t.state.unit on.0.0 edge
            (begins-lt program m.state.unit h.can.begins.0 h.can.begins.1) (begins-lt program t.state.unit next.begins.0 next.begins.1)
            (new_ring m h.can before edge.insn same)
            (rings_kept m h.can before (a m.state.unit).held h.can.formed.earlier h.rings);
      }

  pub has_come : (context : List ℕ) → IsWellShaped program → IsInstructionStart program 0 → length context ≡ subject.ctx_len → (m : Moment) (before : List Moment) → AreMoments program (entry_program_state context) (m ∷ before) → HasCome m before
  has_come context shaped first long m [] e =
      let start : Can m.state = subst Can (sym e) (can_start_under subject a context shaped first valid long) in
      let inside : 0 < unit_count program = begins-lt program 0 first.0 first.1 in
      record {
        can = start;
        all = tt;
        path = ap (λ s. s.unit) e;
        rings = subst (λ s. AllByRecursion (HasRing []) (a s.unit).held) (sym e) (subst (AllByRecursion (HasRing [])) (valid.entry inside).held tt);
      }
  has_come context shaped first long t (m ∷ before) (leads, rest) = one_more t m before leads (has_come context shaped first long m before rest)

  -- a sum over moments is at most that over their units
  sum_below : (f : Moment → ℕ) (g : ℕ → ℕ) → ((m : Moment) → Can m.state → f m ≤ g m.state.unit) → (moments : List Moment) → AllByRecursion (λ m. Can m.state) moments → sum_by f moments ≤ sum_by g (units moments)
  sum_below f g each [] all = omega arith
  sum_below f g each (m ∷ moments) all =
      let one : f m ≤ g m.state.unit = each m all.0 in
      let rest : sum_by f moments ≤ sum_by g (units moments) = sum_below f g each moments all.1 in
      let left : sum_by f (m ∷ moments) ≡ f m + sum_by f moments = sum_by-cons f m moments in
      let right : sum_by g (m.state.unit ∷ units moments) ≡ g m.state.unit + sum_by g (units moments) = sum_by-cons g m.state.unit (units moments) in
      omega arith

  -- what is granted at a moment is at most what is requested there
  granted_below : (f : Option RequestedRecord → ℕ) → f None ≡ 0 → (m : Moment) → Can m.state → f (granted_at program m) ≤ f (asked_at program a m.state.unit)
  granted_below f none m u =
      ⊎_elim
      (λ nothing. let zero : f (granted_at program m) ≡ 0 = ap f nothing ∙ none in omega arith)
      (λ same. let e : f (granted_at program m) ≡ f (asked_at program a m.state.unit) = ap f same in omega arith)
      (granted_cases (call_at program m) m.answer (asked_at program a m.state.unit) (λ c is. (call_asks m.state u (next_step program m.state) refl c is).0))

  -- what the call of a moment requests is what is known to be requested there
  asked_below : (f : Option RequestedRecord → ℕ) → f None ≡ 0 → (m : Moment) → Can m.state → f (requested_at program m) ≤ f (asked_at program a m.state.unit)
  asked_below f none m u = by_call (call_at program m) refl
    where
      by_call : (call : Option HelperCall) → call_at program m ≡ call → f (option_and_then asked_by_call call) ≤ f (asked_at program a m.state.unit)
      by_call None is = let zero : f None ≡ 0 = none in omega arith
      by_call (Some c) is = let e : f (asked_by_call c) ≡ f (asked_at program a m.state.unit) = ap f (call_asks m.state u (next_step program m.state) refl c is).0 in omega arith

  call_below : (m : Moment) → Can m.state → cond (is_some (call_at program m)) 1 0 ≤ cond (calls (slot_at program m.state.unit)) 1 0
  call_below m u = by_call (call_at program m) refl
    where
      by_call : (call : Option HelperCall) → call_at program m ≡ call → cond (is_some call) 1 0 ≤ cond (calls (slot_at program m.state.unit)) 1 0
      by_call None is = omega arith
      by_call (Some c) is = rw ((call_asks m.state u (next_step program m.state) refl c is).2) (omega arith)

  -- what is held is at most what is known to be held
  held_below : (P : Reference → Type 0) (f : ℕ × List ℕ → ℕ) (g : Reference → ℕ) → ((q : Reference) (r : ℕ × List ℕ) → q.id ≡ r.0 → length r.1 ≡ q.size → P q → f r ≤ g q) → (held : List Reference) (records : List (ℕ × List ℕ)) → AreHeld held records → AllByRecursion P held → sum_by f records ≤ sum_by g held
  held_below P f g each [] [] h k = omega arith
  held_below P f g each [] (r ∷ records) h k = absurd h
  held_below P f g each (q ∷ held) [] h k = omega arith
  held_below P f g each (q ∷ held) (r ∷ records) h k =
      let right : sum_by g (q ∷ held) ≡ g q + sum_by g held = sum_by-cons g q held in
      elim h [
        | inl there ↦
            let one : f r ≤ g q = each q r there.0 there.1 k.0 in
            let rest : sum_by f records ≤ sum_by g held = held_below P f g each held records there.2 k.1 in
            let left : sum_by f (r ∷ records) ≡ f r + sum_by f records = sum_by-cons f r records in
            omega arith
        | inr missing ↦ let rest : sum_by f (r ∷ records) ≤ sum_by g held = held_below P f g each held (r ∷ records) missing.1 k.1 in omega arith
      ]

  -- a record that is held, by its reference
  held_known : (before : List Moment) (q : Reference) (r : ℕ × List ℕ) → q.id ≡ r.0 → length r.1 ≡ q.size → HasRing before q → held_record program before r ≡ Some (record { ring = q.ring; len = q.size })
  held_known before q r id size ring =
      ap (option_map (λ n. record { ring = n; len = length r.1 })) (subst (λ i. ring_of program before i ≡ Some q.ring) id ring) ∙ ap (λ n. Some (record { ring = q.ring; len = n })) size

  module _ (cost : Cost) (c : IsCostUnder program a subject.rings cost) (m : Moment) (before : List Moment) (h : HasCome m before) where
    all_can : AllByRecursion (λ m. Can m.state) (m ∷ before)
    all_can = (h.can, h.all)

    granted_within : (ring : ℕ) → ring < subject.rings → IsGrantedWithin program (m ∷ before) ring (ring_cost_at cost ring)
    granted_within ring lt =
        let known : IsRingCost program a ring (ring_cost_at cost ring) = c.rings ring lt in
        let records : sum_by (λ m. cond (is_on ring (granted_at program m)) 1 0) (m ∷ before) ≤ sum_by (λ unit. cond (is_on ring (asked_at program a unit)) 1 0) (units (m ∷ before)) =
        sum_below (λ m. cond (is_on ring (granted_at program m)) 1 0) (λ unit. cond (is_on ring (asked_at program a unit)) 1 0) (granted_below (λ asked. cond (is_on ring asked) 1 0) refl) (m ∷ before) all_can in
        let bytes : sum_by (λ m. bytes_on ring (granted_at program m)) (m ∷ before) ≤ sum_by (λ unit. bytes_on ring (asked_at program a unit)) (units (m ∷ before)) =
        sum_below (λ m. bytes_on ring (granted_at program m)) (λ unit. bytes_on ring (asked_at program a unit)) (granted_below (bytes_on ring) refl) (m ∷ before) all_can in
        let most_records = known.records.most (units (m ∷ before)) h.path in
        let most_bytes = known.bytes.most (units (m ∷ before)) h.path in
        record { records = le_trans records most_records; bytes = le_trans bytes most_bytes }

    asked_within : (ring : ℕ) → ring < subject.rings → IsAskedWithin program (m ∷ before) ring (ring_cost_at cost ring)
    asked_within ring lt =
        let known : IsRingCost program a ring (ring_cost_at cost ring) = c.rings ring lt in
        let records : sum_by (λ m. cond (is_on ring (requested_at program m)) 1 0) (m ∷ before) ≤ sum_by (λ unit. cond (is_on ring (asked_at program a unit)) 1 0) (units (m ∷ before)) =
        sum_below (λ m. cond (is_on ring (requested_at program m)) 1 0) (λ unit. cond (is_on ring (asked_at program a unit)) 1 0) (asked_below (λ asked. cond (is_on ring asked) 1 0) refl) (m ∷ before) all_can in
        let bytes : sum_by (λ m. bytes_on ring (requested_at program m)) (m ∷ before) ≤ sum_by (λ unit. bytes_on ring (asked_at program a unit)) (units (m ∷ before)) =
        sum_below (λ m. bytes_on ring (requested_at program m)) (λ unit. bytes_on ring (asked_at program a unit)) (asked_below (bytes_on ring) refl) (m ∷ before) all_can in
        record { records = le_trans records (known.records.most (units (m ∷ before)) h.path); bytes = le_trans bytes (known.bytes.most (units (m ∷ before)) h.path) }

    held_within : (ring : ℕ) → ring < subject.rings → IsHeldWithin program before m.state.memory.records ring (ring_cost_at cost ring)
    held_within ring lt =
        let known : IsRingCost program a ring (ring_cost_at cost ring) = c.rings ring lt in
        let held = (a m.state.unit).held in
        let records : sum_by (λ r. cond (is_on ring (held_record program before r)) 1 0) m.state.memory.records ≤ sum_by (λ q. cond (is_of_ring ring q) 1 0) held =
        held_below (HasRing before) (λ r. cond (is_on ring (held_record program before r)) 1 0) (λ q. cond (is_of_ring ring q) 1 0) (λ q r id size has. rw (held_known before q r id size has) (omega arith)) held m.state.memory.records h.can.agrees.records h.rings in
        let bytes : sum_by (λ r. bytes_on ring (held_record program before r)) m.state.memory.records ≤ sum_by (held_span ring) held =
        held_below (HasRing before) (λ r. bytes_on ring (held_record program before r)) (held_span ring) (λ q r id size has. rw (held_known before q r id size has) (omega arith)) held m.state.memory.records h.can.agrees.records h.rings in
        let most_records = known.held_records.most m.state.unit h.can.begins in
        let most_bytes = known.held_bytes.most m.state.unit h.can.begins in
        record { records = le_trans records most_records; bytes = le_trans bytes most_bytes }

    run_within : IsRunWithin subject cost m before
    run_within = record {
      steps = subst (λ n. n ≤ cost.steps) (length-map (m ∷ before) (λ m. m.state.unit)) (c.steps.most (units (m ∷ before)) h.path);
      calls =
          le_trans (sum_below (λ m. cond (is_some (call_at program m)) 1 0) (λ unit. cond (calls (slot_at program unit)) 1 0) call_below (m ∷ before) all_can)
          (c.calls.most (units (m ∷ before)) h.path);
      asked = asked_within;
      granted = granted_within;
      held = held_within;
    }

pub runs_stay : RunsStayWithin
runs_stay subject cost context last before shaped first has is long moments =
    run_within subject has.0 has.1 cost (is has.0 has.1) last before (has_come subject has.0 has.1 context shaped first long last before moments)
