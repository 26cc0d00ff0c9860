-- The progress of each worker of a world: its turns are the moments of a run of its program, and each record that it
-- holds was reserved, on its ring, at one of them.
use Rattle.std.proofs.Common.{◌≡◌, ◌≢◌, ◌⊎◌, inl, inr, ⊎_elim, ℕ, ◌<◌, refl, sym, ◌∙◌, ap, subst, true, cond, List, [], ◌∷◌, Option, Some, None, arith}
use Rattle.std.specs.Prelude.{◌==◌}
use Rattle.std.proofs.lemmas.Bool.{cases_eq, eq-eqb, ne_eqb}
use Rattle.rb_program.proofs.Laws.{is_laid_out}
use Rattle.rb_program.proofs.ShapeLaws.{edges_forward}
use Rattle.rb_verifier.specs.Annotation.{Annotation, IsValid}
use Rattle.rb_verifier.specs.Subject.{limits_of}
use Rattle.rb_semantics.specs.ProgramStates.{State}
use Rattle.rb_semantics.specs.HelperCalls.{HelperCall, Reserve, Submit, Discard, Output, Query, pending_call_of, HelperAnswer, Resumption, Resumes, Strays, Unfit, resume}
use Rattle.rb_semantics.specs.Instructions.{StepEffect, Goes, Ends, Asks, Stuck, next_step}
use Rattle.rb_semantics.proofs.Keeping.{can_step}
use Rattle.rb_semantics.proofs.Laws.{step_asks}
use Rattle.rb_cost.specs.Runs.{Moment, LeadsTo, AreMoments, call_at, call_of, ring_by, ring_of}
use Rattle.rb_cost.proofs.Running.{HasCome, has_come, ring_kept, leads_on, call_asks}
use Rattle.rb_world.specs.declared.actor.Actor.{Actor}
use Rattle.rb_world.specs.declared.actor.Actor.TheVariants.{Worker, Consumer, Keeper}
use Rattle.rb_world.specs.Worlds.{RecordPlace, HeldRecords, WorkerStatus, Running, Finished, Halted, Strayed, WorkerState, WorldRing, World, table_with}
use Rattle.rb_world.specs.CallsInWorld.{RecordOutcome, BadFlags, Unlogged, NoRoom, Made, held_after_reserve, WorkerSubmits, WorkerDiscards}
use Rattle.rb_world.specs.Turns.{TurnEvent, Took, HandedChapter, NoMemory, worker_after, GetsAnswer, GivingBack, submit_event, discard_event, GivesRecordBack, MakesCall, ExecutesStep, TakesWorkerTurn, WorldStep, WorldRun}
use Rattle.rb_world.specs.OpeningWorld.{BeginsVerified, IsOpeningWorld}

-- ---- tables

same_place : {X : Type 0} (i : ℕ) (x : X) (table : ℕ → X) → table_with i x table i ≡ x
same_place i x table = ap (λ b. cond b x (table i)) (eq-eqb i i refl)

other_place : {X : Type 0} (i j : ℕ) (x : X) (table : ℕ → X) → j ≢ i → table_with i x table j ≡ table j
other_place i j x table ne = ap (λ b. cond b x (table j)) (ne_eqb j i ne)

-- ---- calls

-- a newly held record is the one that was reserved here
abbrev IsNew : HelperCall → State → ℕ → RecordPlace → Type 0
IsNew (Reserve i r len flags) t id place = (id ≡ t.unit) × (place.ring ≡ r)
IsNew call t id place = ⊥

-- a call is answered, and each record held afterwards was held before or is new
record HoldsAfter (w : ℕ) (call : HelperCall) (t : State) (old : World) (event : TurnEvent) (new : World) : Type 0 where
  answer : HelperAnswer
  on : TurnEvent
  held : HeldRecords
  r : ℕ
  b : WorldRing
  gets : GetsAnswer w call t answer on held r b old event new
  was : (id : ℕ) (place : RecordPlace) → held id ≡ Some place → ((old.workers w).held id ≡ Some place) ⊎ IsNew call t id place

none_some : {X : Type 0} (x : X) → None ≡ Some x → ⊥
none_some x e = cc

-- removing one held record leaves the others
without_place : (id : ℕ) (held : HeldRecords) (other : ℕ) (place : RecordPlace) → table_with id None held other ≡ Some place → held other ≡ Some place
without_place id held other place e =
    ⊎_elim
    (λ same. absurd (none_some place (sym (ap (λ b. cond b None (held other)) (eq-eqb other id same)) ∙ e)))
    (λ ne. sym (other_place id other None held ne) ∙ e)
    (cases_eq other id)

reserved_holds : (t : State) (i r len flags : ℕ) (outcome : RecordOutcome) (held : HeldRecords) (id : ℕ) (place : RecordPlace) → held_after_reserve t.unit r outcome held id ≡ Some place → (held id ≡ Some place) ⊎ IsNew (Reserve i r len flags) t id place
reserved_holds t i r len flags BadFlags held id place e = inl e
reserved_holds t i r len flags Unlogged held id place e = inl e
reserved_holds t i r len flags NoRoom held id place e = inl e
reserved_holds t i r len flags (Made p k) held id place e =
    let made : RecordPlace = record { ring = r; pos = p; serial = k } in
    ⊎_elim
    (λ same.
    let is : Some made ≡ Some place = sym (ap (λ b. cond b (Some made) (held id)) (eq-eqb id t.unit same)) ∙ e in
    let place_is : made ≡ place = cc in
    inr (same, sym (ap (λ (x : RecordPlace). x.ring) place_is)))
    (λ ne. inl (sym (other_place t.unit id (Some made) held ne) ∙ e))
    (cases_eq id t.unit)

given_holds : (gives : GivingBack) (on : RecordPlace → List ℕ → TurnEvent) (w : ℕ) (call : HelperCall) (t : State) (id : ℕ) (bytes : List ℕ) (place : Option RecordPlace) (old : World) (event : TurnEvent) (new : World) → GivesRecordBack gives on w call t id bytes place old event new → HoldsAfter w call t old event new
given_holds gives on w call t id bytes None old event new h = record { answer = _; on = _; held = _; r = _; b = _; gets = h; was = λ other place e. inl e }
given_holds gives on w call t id bytes (Some there) old event new h =
    record { answer = h.0; on = _; held = _; r = _; b = h.1; gets = h.3; was = λ other place e. inl (without_place id (old.workers w).held other place e) }

call_holds : (w : ℕ) (call : HelperCall) (t : State) (old : World) (event : TurnEvent) (new : World) → MakesCall w call t old event new → HoldsAfter w call t old event new
call_holds w (Reserve i r len flags) t old event new h =
    record { answer = _; on = _; held = _; r = _; b = h.1; gets = h.3; was = λ id place e. reserved_holds t i r len flags h.0 (old.workers w).held id place e }
call_holds w (Submit id bytes flags) t old event new h = given_holds WorkerSubmits (submit_event w) w (Submit id bytes flags) t id bytes ((old.workers w).held id) old event new h
call_holds w (Discard id bytes flags) t old event new h = given_holds WorkerDiscards discard_event w (Discard id bytes flags) t id bytes ((old.workers w).held id) old event new h
call_holds w (Output r bytes flags) t old event new h = record { answer = _; on = _; held = _; r = _; b = h.1; gets = h.3; was = λ id place e. inl e }
call_holds w (Query r what) t old event new h = record { answer = _; on = _; held = _; r = _; b = _; gets = h; was = λ id place e. inl e }

-- ---- one worker

-- a moment that has not been answered yet
abbrev pub now : State → Moment
now s = record { state = s; answer = None }

module _ (x0 : WorkerState) where
  -- the moments of a running worker, and for each record that it holds, the moment that reserved it on its ring
  pub record Stage (x : WorkerState) : Type 0 where
    pub before : List Moment
    pub moments : AreMoments x0.subject.program x0.state (now x.state ∷ before)
    pub rings : (id : ℕ) (place : RecordPlace) → x.held id ≡ Some place → (id < x.state.unit) × (ring_of x0.subject.program before id ≡ Some place.ring)

  -- a worker has the same program, and such moments if it is running
  pub record HasRun (x : WorkerState) : Type 0 where
    pub subject_same : x.subject ≡ x0.subject
    pub came : x.status ≡ Running → Stage x

  -- the answer at the last moment does not matter yet
  with_answer : (s : State) (answer : Option HelperAnswer) (before : List Moment) → AreMoments x0.subject.program x0.state (now s ∷ before) → AreMoments x0.subject.program x0.state (record { state = s; answer = answer } ∷ before)
  with_answer s answer [] h = h
  with_answer s answer (m ∷ before) h = h

  module _ (o : BeginsVerified x0) where
    abbrev a : Annotation
    a = o.verified.0

    abbrev valid : IsValid (limits_of x0.subject) x0.subject.program a
    valid = o.verified.1

    pub come : (s : State) (before : List Moment) → AreMoments x0.subject.program x0.state (now s ∷ before) → HasCome x0.subject a valid (now s) before
    come s before moments = has_come x0.subject a valid o.context o.well_shaped o.begins o.context_length (now s) before (subst (λ first. AreMoments x0.subject.program first (now s ∷ before)) o.state_is moments)

    module _ (x : WorkerState) (stage : Stage x) where
      s : State
      s = x.state

      -- one more moment
      led_on : (answer : Option HelperAnswer) (t : State) (held : HeldRecords) (y : WorkerState) → y ≡ record x { state = t; held = held } → LeadsTo (next_step x0.subject.program x.state) answer t
          → ((id : ℕ) (place : RecordPlace) → held id ≡ Some place → (x.held id ≡ Some place) ⊎ ((id ≡ x.state.unit) × (ring_by (call_at x0.subject.program (record { state = x.state; answer = answer })) id (ring_of x0.subject.program stage.before id) ≡ Some place.ring)))
          → Stage y
      led_on answer t held y is leads was =
          let m : Moment = record { state = x.state; answer = answer } in
          let can = (come x.state stage.before stage.moments).can in
          let edge = leads_on x0.subject a valid x.state can (next_step x0.subject.program x.state) refl answer t leads in
          let forward : x.state.unit < t.unit = (edges_forward x0.subject.program (is_laid_out x0.subject.program) o.well_shaped x.state.unit edge.0.0 t.unit edge.0.1).0 in
          subst Stage (sym is) (record {
            before = m ∷ stage.before;
            moments = (leads, with_answer x.state answer stage.before stage.moments);
            rings = λ id place e. ⊎_elim
                (λ old.
                let there = stage.rings id place old in
                let earlier : id < x.state.unit = there.0 in
                (omega arith, ring_kept x0.subject a valid (call_at x0.subject.program m) x.state.unit id (ring_of x0.subject.program stage.before id) (λ c named. (call_asks x0.subject a valid x.state can (next_step x0.subject.program x.state) refl c named).1) earlier ∙ there.1))
                (λ new. let here : id ≡ x.state.unit = new.0 in (omega arith, new.1))
                (was id place e);
          })

    -- ---- one turn of the worker

    module _ (w : ℕ) (old new : World) (event : TurnEvent) (same : (old.workers w).subject ≡ x0.subject) (runs : (old.workers w).status ≡ Running) (stage : Stage (old.workers w)) where
      abbrev x : WorkerState
      x = old.workers w

      -- a worker that no longer runs
      ended : (y : WorkerState) → y.subject ≡ x0.subject → y.status ≢ Running → new.workers w ≡ y → HasRun (new.workers w)
      ended y kept not is = subst HasRun (sym is) (record { subject_same = kept; came = λ runs. absurd (not runs) })

      -- an answer
      answered : (call : HelperCall) (t : State) (h : HoldsAfter w call t old event new) → next_step x0.subject.program x.state ≡ Asks call t → (r : Resumption) → resume (pending_call_of call) h.answer t ≡ r
          → new.workers w ≡ worker_after r (record x { held = h.held; state = t }) → HasRun (new.workers w)
      answered call t h is (Resumes s') there world =
          let leads : LeadsTo (next_step x0.subject.program x.state) (Some h.answer) s' = subst (λ e. LeadsTo e (Some h.answer) s') (sym is) there in
          let made : call_at x0.subject.program (record { state = x.state; answer = Some h.answer }) ≡ Some call = ap call_of is in
          record {
            subject_same = ap (λ y. y.subject) world ∙ same;
            came = λ still. led_on x stage (Some h.answer) s' h.held (new.workers w) world leads
                (λ id place e. ⊎_elim (λ was. inl was) (λ new_one. inr (new_ring call t is made id place new_one)) (h.was id place e));
          }
        where
          new_ring : (call : HelperCall) (t : State) → next_step x0.subject.program x.state ≡ Asks call t → (made : call_of (next_step x0.subject.program x.state) ≡ Some call) → (id : ℕ) (place : RecordPlace) → IsNew call t id place
              → (id ≡ x.state.unit) × (ring_by (call_of (next_step x0.subject.program x.state)) id (ring_of x0.subject.program stage.before id) ≡ Some place.ring)
          new_ring (Reserve i r len flags) t is made id place new_one =
              let can = (come x.state stage.before stage.moments).can in
              let named : i ≡ x.state.unit = (call_asks x0.subject a valid x.state can (next_step x0.subject.program x.state) refl (Reserve i r len flags) made).1 in
              let here : t.unit ≡ x.state.unit = (step_asks x0.subject x.state t (Reserve i r len flags) (can_step x0.subject a x.state can) is).here in
              let id_is : id ≡ t.unit = new_one.0 in
              let ring_is : place.ring ≡ r = new_one.1 in
              let test : (i == id) ≡ true = eq-eqb i id (omega arith) in
              (omega arith, subst (λ c. ring_by c id (ring_of x0.subject.program stage.before id) ≡ Some place.ring) (sym made) (ap (λ b. cond b (Some r) (ring_of x0.subject.program stage.before id)) test ∙ ap (λ n. Some n) (sym ring_is)))
          new_ring (Submit i bytes flags) t is made id place never = absurd never
          new_ring (Discard i bytes flags) t is made id place never = absurd never
          new_ring (Output r bytes flags) t is made id place never = absurd never
          new_ring (Query r what) t is made id place never = absurd never
      answered call t h is Strays there world = ended _ same (λ e. cc) world
      answered call t h is Unfit there world = ended _ same (λ e. cc) world

      by_effect : (e : StepEffect) → next_step x0.subject.program x.state ≡ e → ExecutesStep w e old event new → HasRun (new.workers w)
      by_effect (Goes t) is (_, world) =
          let there : new.workers w ≡ record x { state = t } = ap (λ (v : World). v.workers w) world ∙ same_place w (record x { state = t }) old.workers in
          let leads : LeadsTo (next_step x0.subject.program x.state) None t = subst (λ e. LeadsTo e None t) (sym is) refl in
          record {
            subject_same = ap (λ y. y.subject) there ∙ same;
            came = λ still. led_on x stage None t x.held (new.workers w) there leads (λ id place e. inl e);
          }
      by_effect (Ends n) is (_, world) = ended (record x { status = Finished n }) same (λ e. cc) (ap (λ (v : World). v.workers w) world ∙ same_place w (record x { status = Finished n }) old.workers)
      by_effect Stuck is (_, world) = ended (record x { status = Halted }) same (λ e. cc) (ap (λ (v : World). v.workers w) world ∙ same_place w (record x { status = Halted }) old.workers)
      by_effect (Asks call t) is makes =
          let h = call_holds w call t old event new makes in
          let after : WorkerState = worker_after (resume (pending_call_of call) h.answer t) (record x { held = h.held; state = t }) in
          answered call t h is (resume (pending_call_of call) h.answer t) refl (ap (λ (v : World). v.workers w) h.gets.world ∙ same_place w after old.workers)

      pub has_run_on : ExecutesStep w (next_step x.subject.program x.state) old event new → HasRun (new.workers w)
      has_run_on step = by_effect (next_step x0.subject.program x.state) refl (subst (λ sub. ExecutesStep w (next_step sub.program x.state) old event new) same step)

-- ---- all workers

-- another worker's turn leaves a worker unchanged
call_stays : (v w : ℕ) (call : HelperCall) (t : State) (old : World) (event : TurnEvent) (new : World) → w ≢ v → MakesCall v call t old event new → new.workers w ≡ old.workers w
call_stays v w call t old event new ne makes =
    let h = call_holds v call t old event new makes in
    ap (λ (u : World). u.workers w) h.gets.world ∙ other_place v w _ old.workers ne

effect_stays : (v w : ℕ) (e : StepEffect) (old : World) (event : TurnEvent) (new : World) → w ≢ v → ExecutesStep v e old event new → new.workers w ≡ old.workers w
effect_stays v w (Goes t) old event new ne (_, world) = ap (λ (u : World). u.workers w) world ∙ other_place v w _ old.workers ne
effect_stays v w (Ends n) old event new ne (_, world) = ap (λ (u : World). u.workers w) world ∙ other_place v w _ old.workers ne
effect_stays v w (Asks call t) old event new ne makes = call_stays v w call t old event new ne makes
effect_stays v w Stuck old event new ne (_, world) = ap (λ (u : World). u.workers w) world ∙ other_place v w _ old.workers ne

-- the number of workers does not change
effect_count : (v : ℕ) (e : StepEffect) (old : World) (event : TurnEvent) (new : World) → ExecutesStep v e old event new → new.worker_count ≡ old.worker_count
effect_count v (Goes t) old event new (_, world) = ap (λ (u : World). u.worker_count) world
effect_count v (Ends n) old event new (_, world) = ap (λ (u : World). u.worker_count) world
effect_count v (Asks call t) old event new makes = ap (λ (u : World). u.worker_count) (call_holds v call t old event new makes).gets.world
effect_count v Stuck old event new (_, world) = ap (λ (u : World). u.worker_count) world

module _ (first : World) (opens : IsOpeningWorld first) where
  -- each worker has such a run
  pub record AllRun (world : World) : Type 0 where
    pub count : world.worker_count ≡ first.worker_count
    pub each : (w : ℕ) → w < first.worker_count → HasRun (first.workers w) (world.workers w)

  pub all_start : AllRun first
  all_start = record {
    count = refl;
    each = λ w lt.
        let o : BeginsVerified (first.workers w) = opens.workers w lt in
        record { subject_same = refl; came = λ runs. record { before = []; moments = refl; rings = λ id place e. absurd (none_some place (sym (o.holds_none id) ∙ e)) } };
  }

  -- no worker changes
  same_workers : (old new : World) → new.worker_count ≡ old.worker_count → ((w : ℕ) → new.workers w ≡ old.workers w) → AllRun old → AllRun new
  same_workers old new count same h = record { count = count ∙ h.count; each = λ w lt. subst (HasRun (first.workers w)) (sym (same w)) (h.each w lt) }

  worker_turn : (v : ℕ) (status : WorkerStatus) (old new : World) (event : TurnEvent) → (old.workers v).status ≡ status → AllRun old → TakesWorkerTurn v status old event new → AllRun new
  worker_turn v Running old new event runs h step = record {
    count = effect_count v _ old event new step ∙ h.count;
    each = λ w lt. ⊎_elim
        (λ same.
        let here : HasRun (first.workers w) (old.workers w) = h.each w lt in
        let mine : (old.workers w).status ≡ Running = ap (λ i. (old.workers i).status) same ∙ runs in
        let taken : ExecutesStep w (next_step (old.workers w).subject.program (old.workers w).state) old event new = subst (λ i. ExecutesStep i (next_step (old.workers i).subject.program (old.workers i).state) old event new) (sym same) step in
        has_run_on (first.workers w) (opens.workers w lt) w old new event here.subject_same mine (here.came mine) taken)
        (λ ne. subst (HasRun (first.workers w)) (sym (effect_stays v w _ old event new ne step)) (h.each w lt))
        (cases_eq w v);
  }
  worker_turn v (Finished n) old new event is h (_, same) = subst AllRun (sym same) h
  worker_turn v Halted old new event is h (_, same) = subst AllRun (sym same) h
  worker_turn v Strayed old new event is h (_, same) = subst AllRun (sym same) h

  consumer_turn : (r : ℕ) (event : TurnEvent) (old new : World) → AllRun old → WorldStep old (Consumer r) event new → AllRun new
  consumer_turn r (Took found) old new h (b, _, world) = same_workers old new (ap (λ (u : World). u.worker_count) world) (λ w. ap (λ (u : World). u.workers w) world) h
  consumer_turn r NoMemory old new h same = subst AllRun (sym same) h
  consumer_turn r event old new h step = absurd step

  keeper_turn : (r : ℕ) (event : TurnEvent) (old new : World) → AllRun old → WorldStep old (Keeper r) event new → AllRun new
  keeper_turn r HandedChapter old new h same = subst AllRun (sym same) h
  keeper_turn r NoMemory old new h same = subst AllRun (sym same) h
  keeper_turn r event old new h step = absurd step

  one_turn : (actor : Actor) (event : TurnEvent) (old new : World) → AllRun old → WorldStep old actor event new → AllRun new
  one_turn (Worker w) event old new h step = worker_turn w (old.workers w).status old new event refl h step
  one_turn (Consumer r) event old new h step = consumer_turn r event old new h step
  one_turn (Keeper r) event old new h step = keeper_turn r event old new h step

  pub all_run : (old : World) (actors : List Actor) (events : List TurnEvent) (new : World) → AllRun old → WorldRun old actors events new → AllRun new
  all_run old [] [] new h same = subst AllRun (sym same) h
  all_run old (actor ∷ actors) (event ∷ events) new h (next, step, rest) = all_run next actors events new (one_turn actor event old next h step) rest
  all_run old [] (event ∷ events) new h never = absurd never
  all_run old (actor ∷ actors) [] new h never = absurd never
