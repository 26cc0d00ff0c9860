-- Every actor's turn preserves the invariant of worlds.
use Rattle.std.proofs.Common.{◌≡◌, ℕ, ◌<◌, List, [], ◌∷◌, ◌++◌, append-nil, Option, Some, None, length, refl, sym, ap, subst, ◌∙◌, inl, inr, arith}
use Rattle.rb_semantics.specs.declared.value.Value.{Value}
use Rattle.rb_semantics.specs.declared.value.Value.TheVariants.{Number}
use Rattle.rb_semantics.specs.ProgramStates.{State}
use Rattle.rb_semantics.specs.HelperCalls.{HelperCall, Reserve, Submit, Discard, Output, Query, Granted as GrantedAnswer, Null, Taken as TakenAnswer, HandedBack, Code, Told, with_answer}
use Rattle.rb_semantics.specs.Instructions.{StepEffect, Goes, Ends, Asks, Stuck, next_step}
use Rattle.rb_semantics.specs.Soundness.{CanStep, StepsForward, CallsOut}
use Rattle.rb_semantics.proofs.Laws.{step_goes, step_asks, step_not_stuck}
use Rattle.rb_history.specs.declared.answers.Taken.{Taken}
use Rattle.rb_history.specs.Calls.{IsBusy}
use Rattle.rb_world.specs.Worlds.{RecordPlace, table_with, WorkerStatus, Running, Finished, Halted, Strayed, WorkerState, WorldRing, World, with_worker, with_ring}
use Rattle.rb_world.specs.CallsInWorld.{RecordOutcome, BadFlags, Unlogged, NoRoom, Made, WorkerReserves, answer_to_reserve, held_after_reserve, WorkerOutputs, answer_to_output, granted_at, WorkerSubmits, WorkerDiscards}
use Rattle.rb_world.specs.declared.actor.Actor.{Actor}
use Rattle.rb_world.specs.declared.actor.Actor.TheVariants.{Worker, Consumer, Keeper}
use Rattle.rb_world.specs.Turns.{TurnEvent, Went, HandedOver, Ended, GotStuck, GotBack, Idle, Took, HandedChapter, NoMemory, submit_event, discard_event, output_event, GetsAnswer, GivesRecordBack, MakesCall, ExecutesStep, TakesWorkerTurn, TakesConsumerTurn, WorldStep}
use Rattle.rb_world.specs.EveryInterleaving.{handed_by}
use Rattle.rb_world.specs.OpeningWorld.{IsActor}
use Rattle.rb_world.proofs.Tables.{eq_cases, size_of}
use Rattle.rb_world.proofs.RecordSizes.{SameSizes, Leaves, Keeps as EffectKeeps, step_keeps}
use Rattle.rb_world.proofs.BusyRecords.{SameBusy}
use Rattle.rb_world.proofs.RingSteps.{Handed, ledger, over, over-none, Keeps, full-keeps, grant-keeps, submit-keeps, discard-keeps, output-keeps, take-keeps}
use Rattle.rb_world.proofs.KeptWorlds.{IsKept, sound-stays, placed-back, kept-changed, same-book, same-worker, placed-same}
use Rattle.rb_world.proofs.TurnsOfWorkers.{AfterTurn, stays, stay-of, same-keeps, unheld, can, goes-same, ends, grants, is-held, gives}

spot_is : (a c : RecordPlace) → Some a ≡ Some c → a ≡ c
spot_is a c f = cc

module _ (handed : ℕ → Handed) (old new : World) (kept : IsKept handed old) (w : ℕ) (event : TurnEvent) (inside : w < old.worker_count) (runs : (old.workers w).status ≡ Running) where
  abbrev s : State
  s = (old.workers w).state

  abbrev Step : StepEffect → Type 0
  Step effect = next_step (old.workers w).subject.program (old.workers w).state ≡ effect

  abbrev Turned : Type 0
  Turned = AfterTurn (Worker w) old (λ r. handed r ++ handed_by r event) new

  -- nothing is handed over
  quietly : (r : ℕ) (on : TurnEvent) (world : World) → event ≡ on → ((s : ℕ) → handed_by s on ≡ []) → new ≡ world → AfterTurn (Worker w) old (table_with r (handed r) handed) world → Turned
  quietly r on world is none e h =
      subst (λ d. AfterTurn (Worker w) old (λ s. handed s ++ handed_by s d) new) (sym is) (subst (λ f. AfterTurn (Worker w) old f new) (placed-same r handed ∙ (λ i s. more s i)) (subst (AfterTurn (Worker w) old (table_with r (handed r) handed)) (sym e) h))
    where
      more : (s : ℕ) → handed s ≡ handed s ++ handed_by s on
      more s = sym (append-nil (handed s)) ∙ ap (λ l. handed s ++ l) (sym (none s))

  -- the worker hands over the bytes of a record
  handing : (r p : ℕ) (bytes : List ℕ) (world : World) → event ≡ HandedOver r w p bytes → new ≡ world → AfterTurn (Worker w) old (table_with r (handed r ++ (p, w, bytes) ∷ []) handed) world → Turned
  handing r p bytes world is e h =
      subst (λ d. AfterTurn (Worker w) old (λ s. handed s ++ handed_by s d) new) (sym is) (subst (λ f. AfterTurn (Worker w) old f new) (λ i s. more s i) (subst (AfterTurn (Worker w) old (table_with r (handed r ++ (p, w, bytes) ∷ []) handed)) (sym e) h))
    where
      more : (s : ℕ) → table_with r (handed r ++ (p, w, bytes) ∷ []) handed s ≡ handed s ++ handed_by s (HandedOver r w p bytes)
      more s = elim (eq_cases s r) [
        | inl same ↦ rw same.0 (ap (λ i. handed i ++ (p, w, bytes) ∷ []) (sym same.1))
        | inr else ↦ rw else.0 (sym (append-nil (handed s)))
      ]

  out : (call : HelperCall) (t : State) → Step (Asks call t) → CallsOut (old.workers w).subject s call t
  out call t e = step_asks (old.workers w).subject s t call (can handed old kept w inside runs) e

  leaves : (call : HelperCall) (t : State) → Step (Asks call t) → Leaves s call t
  leaves call t e = subst (EffectKeeps s) e (step_keeps (old.workers w).subject.program s)

  -- an answer after which the worker holds the same records
  unmoved : (call : HelperCall) (t : State) (v : Value) (r : ℕ) (b : WorldRing) → Step (Asks call t) → t.memory.records ≡ s.memory.records → CanStep (old.workers w).subject (with_answer v t) → Keeps old.worker_count (ledger (handed r) b) × SameBusy (old.rings r).ring.history b.ring.history
      → event ≡ Went → new ≡ with_ring r b (with_worker w (record (old.workers w) { state = with_answer v t }) old) → Turned
  unmoved call t v r b e same next book told is =
      let here : t.unit ≡ s.unit = (out call t e).here in
      quietly r Went _ told (λ s. refl) is (goes-same handed old kept w inside runs (with_answer v t) r b (handed r) book.0 book.1 next (λ id. ap (size_of id) same) (omega arith))

  reserve-turn : (id r len flags : ℕ) (t : State) (how : RecordOutcome) (b : WorldRing) → Step (Asks (Reserve id r len flags) t) → WorkerReserves w len flags how (old.rings r) b
      → GetsAnswer w (Reserve id r len flags) t (answer_to_reserve how) Went (held_after_reserve t.unit r how (old.workers w).held) r b old event new → Turned
  reserve-turn id r len flags t BadFlags b e h a =
      unmoved (Reserve id r len flags) t (Number 0) r b e (leaves (Reserve id r len flags) t e) ((out (Reserve id r len flags) t e).next Null _ refl) (same-keeps old.worker_count (handed r) (old.rings r) b h.1 (kept.rings r)) a.told a.world
  reserve-turn id r len flags t Unlogged b e h a =
      unmoved (Reserve id r len flags) t (Number 0) r b e (leaves (Reserve id r len flags) t e) ((out (Reserve id r len flags) t e).next Null _ refl) (same-keeps old.worker_count (handed r) (old.rings r) b h.1 (kept.rings r)) a.told a.world
  reserve-turn id r len flags t NoRoom b e h a =
      unmoved (Reserve id r len flags) t (Number 0) r b e (leaves (Reserve id r len flags) t e) ((out (Reserve id r len flags) t e).next Null _ refl) (full-keeps old.worker_count (ledger (handed r) (old.rings r)) (ledger (handed r) b) (kept.rings r) w len inside (over-none _ (handed r) [] (old.rings r) b h.1)) a.told a.world
  reserve-turn id r len flags t (Made p k) b e h a =
      let book = grant-keeps old.worker_count (ledger (handed r) (old.rings r)) (ledger (handed r) b) (kept.rings r) w len p k inside (over-none _ (handed r) [] (old.rings r) b h.1) in
      let o = out (Reserve id r len flags) t e in
      quietly r Went _ a.told (λ s. refl) a.world (grants handed old kept w inside runs id r len flags t o (leaves (Reserve id r len flags) t e) p k b (handed r) _ (o.next GrantedAnswer _ refl) refl refl book.0 book.1)

  output-turn : (r : ℕ) (bytes : List ℕ) (flags : ℕ) (t : State) (how : RecordOutcome) (b : WorldRing) → Step (Asks (Output r bytes flags) t) → WorkerOutputs w bytes flags how (old.rings r) b
      → GetsAnswer w (Output r bytes flags) t (answer_to_output how) (output_event w r bytes how) (old.workers w).held r b old event new → Turned
  output-turn r bytes flags t BadFlags b e h a =
      unmoved (Output r bytes flags) t _ r b e (leaves (Output r bytes flags) t e) ((out (Output r bytes flags) t e).next (answer_to_output BadFlags) _ refl) (same-keeps old.worker_count (handed r) (old.rings r) b h.1 (kept.rings r)) a.told a.world
  output-turn r bytes flags t Unlogged b e h a =
      unmoved (Output r bytes flags) t _ r b e (leaves (Output r bytes flags) t e) ((out (Output r bytes flags) t e).next (answer_to_output Unlogged) _ refl) (same-keeps old.worker_count (handed r) (old.rings r) b h.1 (kept.rings r)) a.told a.world
  output-turn r bytes flags t NoRoom b e h a =
      unmoved (Output r bytes flags) t _ r b e (leaves (Output r bytes flags) t e) ((out (Output r bytes flags) t e).next (answer_to_output NoRoom) _ refl) (full-keeps old.worker_count (ledger (handed r) (old.rings r)) (ledger (handed r) b) (kept.rings r) w (length bytes) inside (over-none _ (handed r) [] (old.rings r) b h.1)) a.told a.world
  output-turn r bytes flags t (Made p k) b e h a =
      let o = out (Output r bytes flags) t e in
      let here : t.unit ≡ s.unit = o.here in
      let book = output-keeps old.worker_count (ledger (handed r) (old.rings r)) (ledger (handed r ++ (p, w, bytes) ∷ []) b) (kept.rings r) w p bytes inside h.1 (over _ (handed r) ((p, w, bytes) ∷ []) [] (old.rings r) b h.3) in
      handing r p bytes _ a.told a.world (goes-same handed old kept w inside runs _ r b (handed r ++ (p, w, bytes) ∷ []) book.0 book.1 (o.next (answer_to_output (Made p k)) _ refl) (λ id. ap (size_of id) (leaves (Output r bytes flags) t e)) (omega arith))

  submit-turn : (id : ℕ) (bytes : List ℕ) (flags : ℕ) (t : State) (held : Option RecordPlace) → (old.workers w).held id ≡ held → Step (Asks (Submit id bytes flags) t) → GivesRecordBack WorkerSubmits (submit_event w) w (Submit id bytes flags) t id bytes held old event new → Turned
  submit-turn id bytes flags t None is e h =
      let own = is-held handed old kept w inside runs id bytes t (out (Submit id bytes flags) t e).here (leaves (Submit id bytes flags) t e) in
      absurd (unheld ((old.workers w).held id) own.0 is own.1.0)
  submit-turn id bytes flags t (Some spot) is e (TakenAnswer, b, g, a) =
      let o = out (Submit id bytes flags) t e in
      let book = submit-keeps old.worker_count (ledger (handed spot.ring) (old.rings spot.ring)) (ledger (handed spot.ring ++ (spot.pos, w, bytes) ∷ []) b) (kept.rings spot.ring) (granted_at spot w bytes) (over _ (handed spot.ring) ((spot.pos, w, bytes) ∷ []) [] (old.rings spot.ring) b g) in
      handing spot.ring spot.pos bytes _ a.told a.world (gives handed old kept w inside runs id bytes t o.here (leaves (Submit id bytes flags) t e) spot b (handed spot.ring ++ (spot.pos, w, bytes) ∷ []) _ is (o.next TakenAnswer _ refl) refl refl book.0 book.1)
  submit-turn id bytes flags t (Some spot) is e (HandedBack, b, g, a) =
      let own = is-held handed old kept w inside runs id bytes t (out (Submit id bytes flags) t e).here (leaves (Submit id bytes flags) t e) in
      let same : own.0 ≡ spot = spot_is own.0 spot (sym own.1.0 ∙ is) in
      absurd (g.0 (subst (λ (z : RecordPlace). IsBusy (old.rings z.ring).ring.history z.pos w z.serial (length bytes)) same own.1.1))
  submit-turn id bytes flags t (Some spot) is e (GrantedAnswer, b, g, a) = absurd g
  submit-turn id bytes flags t (Some spot) is e (Null, b, g, a) = absurd g
  submit-turn id bytes flags t (Some spot) is e (Code n, b, g, a) = absurd g
  submit-turn id bytes flags t (Some spot) is e (Told n, b, g, a) = absurd g

  discard-turn : (id : ℕ) (bytes : List ℕ) (flags : ℕ) (t : State) (held : Option RecordPlace) → (old.workers w).held id ≡ held → Step (Asks (Discard id bytes flags) t) → GivesRecordBack WorkerDiscards discard_event w (Discard id bytes flags) t id bytes held old event new → Turned
  discard-turn id bytes flags t None is e h =
      let own = is-held handed old kept w inside runs id bytes t (out (Discard id bytes flags) t e).here (leaves (Discard id bytes flags) t e) in
      absurd (unheld ((old.workers w).held id) own.0 is own.1.0)
  discard-turn id bytes flags t (Some spot) is e (TakenAnswer, b, g, a) =
      let o = out (Discard id bytes flags) t e in
      let book = discard-keeps old.worker_count (ledger (handed spot.ring) (old.rings spot.ring)) (ledger (handed spot.ring) b) (kept.rings spot.ring) (granted_at spot w bytes) (over-none _ (handed spot.ring) [] (old.rings spot.ring) b g) in
      quietly spot.ring Went _ a.told (λ s. refl) a.world (gives handed old kept w inside runs id bytes t o.here (leaves (Discard id bytes flags) t e) spot b (handed spot.ring) _ is (o.next TakenAnswer _ refl) refl refl book.0 book.1)
  discard-turn id bytes flags t (Some spot) is e (HandedBack, b, g, a) =
      let own = is-held handed old kept w inside runs id bytes t (out (Discard id bytes flags) t e).here (leaves (Discard id bytes flags) t e) in
      let same : own.0 ≡ spot = spot_is own.0 spot (sym own.1.0 ∙ is) in
      absurd (g.0 (subst (λ (z : RecordPlace). IsBusy (old.rings z.ring).ring.history z.pos w z.serial (length bytes)) same own.1.1))
  discard-turn id bytes flags t (Some spot) is e (GrantedAnswer, b, g, a) = absurd g
  discard-turn id bytes flags t (Some spot) is e (Null, b, g, a) = absurd g
  discard-turn id bytes flags t (Some spot) is e (Code n, b, g, a) = absurd g
  discard-turn id bytes flags t (Some spot) is e (Told n, b, g, a) = absurd g

  call-turn : (call : HelperCall) (t : State) → Step (Asks call t) → MakesCall w call t old event new → Turned
  call-turn (Reserve id r len flags) t e (how, b, h, a) = reserve-turn id r len flags t how b e h a
  call-turn (Submit id bytes flags) t e h = submit-turn id bytes flags t ((old.workers w).held id) refl e h
  call-turn (Discard id bytes flags) t e h = discard-turn id bytes flags t ((old.workers w).held id) refl e h
  call-turn (Output r bytes flags) t e (how, b, h, a) = output-turn r bytes flags t how b e h a
  call-turn (Query r what) t e a =
      unmoved (Query r what) t _ r (old.rings r) e (leaves (Query r what) t e) ((out (Query r what) t e).next (Told _) _ refl) (same-keeps old.worker_count (handed r) (old.rings r) (old.rings r) refl (kept.rings r)) a.told a.world

  effect-turn : (effect : StepEffect) → Step effect → ExecutesStep w effect old event new → Turned
  effect-turn (Goes t) e h =
      let on : StepsForward (old.workers w).subject s t = step_goes (old.workers w).subject s t (can handed old kept w inside runs) e in
      let forward : s.unit < t.unit = on.forward in
      let sizes : SameSizes s t = subst (EffectKeeps s) e (step_keeps (old.workers w).subject.program s) in
      let book = same-keeps old.worker_count (handed 0) (old.rings 0) (old.rings 0) refl (kept.rings 0) in
      let y : WorkerState = record (old.workers w) { state = t } in
      quietly 0 Went _ h.0 (λ s. refl) (h.1 ∙ sym (same-book 0 (with_worker w y old))) (goes-same handed old kept w inside runs t 0 (old.rings 0) (handed 0) book.0 book.1 on.next sizes (omega arith))
  effect-turn (Ends n) e h =
      let y : WorkerState = record (old.workers w) { status = Finished n } in
      quietly 0 (Ended n) _ h.0 (λ s. refl) (h.1 ∙ sym (same-book 0 (with_worker w y old))) (ends handed old kept w inside runs n e)
  effect-turn (Asks call t) e h = call-turn call t e h
  effect-turn Stuck e h = absurd (step_not_stuck (old.workers w).subject s (can handed old kept w inside runs) e)

  pub work-turn : ExecutesStep w (next_step (old.workers w).subject.program s) old event new → Turned
  work-turn h = effect-turn (next_step (old.workers w).subject.program s) refl h

-- a turn that hands nothing over
still-kept : (handed : ℕ → Handed) (world : World) → IsKept handed world → IsKept (λ r. handed r ++ []) world
still-kept handed world kept = subst (λ f. IsKept f world) (λ i r. sym (append-nil (handed r)) i) kept

-- a worker that no longer runs
pub idle-turn : (handed : ℕ → Handed) (old new : World) (w : ℕ) (status : WorkerStatus) → IsKept handed old → w < old.worker_count → (old.workers w).status ≡ status → (status ≡ Running → ⊥) → new ≡ old → AfterTurn (Worker w) old (λ r. handed r ++ []) new
idle-turn handed old new w status kept inside is still e = subst (AfterTurn (Worker w) old (λ r. handed r ++ [])) (sym e) (record {
  kept = still-kept handed old kept;
  count = refl;
  advances = λ v runs. (
    runs,
    elim (eq_cases w v) [
      | inl same ↦ absurd (still (sym is ∙ subst (λ i. (old.workers i).status ≡ Running) (sym same.1) runs))
      | inr else ↦ rw else.0 (omega arith)
    ],
  );
})

idly : (handed : ℕ → Handed) (old new : World) (w : ℕ) (event : TurnEvent) → event ≡ Idle → AfterTurn (Worker w) old (λ r. handed r ++ []) new → AfterTurn (Worker w) old (λ r. handed r ++ handed_by r event) new
idly handed old new w event e h = subst (λ d. AfterTurn (Worker w) old (λ r. handed r ++ handed_by r d) new) (sym e) h

pub work-by : (handed : ℕ → Handed) (old new : World) (w : ℕ) (event : TurnEvent) (status : WorkerStatus) → IsKept handed old → w < old.worker_count → (old.workers w).status ≡ status → TakesWorkerTurn w status old event new → AfterTurn (Worker w) old (λ r. handed r ++ handed_by r event) new
work-by handed old new w event Running kept inside is h = work-turn handed old new kept w event inside is h
work-by handed old new w event (Finished n) kept inside is h = idly handed old new w event h.0 (idle-turn handed old new w (Finished n) kept inside is (λ e. cc) h.1)
work-by handed old new w event Halted kept inside is h = idly handed old new w event h.0 (idle-turn handed old new w Halted kept inside is (λ e. cc) h.1)
work-by handed old new w event Strayed kept inside is h = idly handed old new w event h.0 (idle-turn handed old new w Strayed kept inside is (λ e. cc) h.1)

same-turn : (handed : ℕ → Handed) (old new : World) (r : ℕ) → IsKept handed old → new ≡ old → AfterTurn (Consumer r) old (λ s. handed s ++ []) new
same-turn handed old new r kept e = subst (AfterTurn (Consumer r) old (λ s. handed s ++ [])) (sym e) (record { kept = still-kept handed old kept; count = refl; advances = λ v. stays (old.workers v) })

keeper-turn : (handed : ℕ → Handed) (old new : World) (r : ℕ) → IsKept handed old → new ≡ old → AfterTurn (Keeper r) old (λ s. handed s ++ []) new
keeper-turn handed old new r kept e = subst (AfterTurn (Keeper r) old (λ s. handed s ++ [])) (sym e) (record { kept = still-kept handed old kept; count = refl; advances = λ v. stays (old.workers v) })

take-turn : (handed : ℕ → Handed) (old new : World) (r : ℕ) (found : Taken) → IsKept handed old → TakesConsumerTurn r old (Took found) new → AfterTurn (Consumer r) old (λ s. handed s ++ []) new
take-turn handed old new r found kept (b, m, e) =
    let book = take-keeps old.worker_count (ledger (handed r) (old.rings r)) (ledger (handed r) b) (kept.rings r) found (over-none _ (handed r) _ (old.rings r) b m) in
    let stay = stay-of (old.rings r) b book.1 in
    let changed : IsKept (table_with r (handed r) handed) (with_ring r b (with_worker 0 (old.workers 0) old)) = kept-changed handed old 0 (old.workers 0) r b (handed r) kept book.0 (λ v ne. stay v)
    (λ inside. sound-stays old.rings r b 0 (old.workers 0) (old.workers 0).status (stay 0).stay (kept.workers 0 inside))
    (λ q p k n h. kept.covered q p 0 k n (elim (placed-back old.rings r b q p 0 k n h) [ inl here ↦ subst (λ i. IsBusy (old.rings i).ring.history p 0 k n) (sym here.0) ((stay 0).back p k n here.1) | inr there ↦ there.1 ])) in
    let same : IsKept handed (with_ring r b old) = subst (λ f. IsKept f (with_ring r b old)) (placed-same r handed) (subst (λ (world : World). IsKept (table_with r (handed r) handed) (with_ring r b world)) (same-worker 0 old) changed) in
    subst (AfterTurn (Consumer r) old (λ s. handed s ++ [])) (sym e) (record {
      kept = still-kept handed (with_ring r b old) same;
      count = refl;
      advances = λ v. stays (old.workers v);
    })

pub turn : (handed : ℕ → Handed) (old new : World) (actor : Actor) (event : TurnEvent) → IsKept handed old → IsActor old.worker_count actor → WorldStep old actor event new → AfterTurn actor old (λ r. handed r ++ handed_by r event) new
turn handed old new (Worker w) event kept inside h = work-by handed old new w event (old.workers w).status kept inside refl h
turn handed old new (Consumer r) (Took found) kept inside h = take-turn handed old new r found kept h
turn handed old new (Consumer r) NoMemory kept inside h = same-turn handed old new r kept h
turn handed old new (Consumer r) Went kept inside h = absurd h
turn handed old new (Consumer r) (HandedOver s w p bytes) kept inside h = absurd h
turn handed old new (Consumer r) (Ended n) kept inside h = absurd h
turn handed old new (Consumer r) GotStuck kept inside h = absurd h
turn handed old new (Consumer r) GotBack kept inside h = absurd h
turn handed old new (Consumer r) Idle kept inside h = absurd h
turn handed old new (Consumer r) HandedChapter kept inside h = absurd h
turn handed old new (Keeper r) HandedChapter kept inside h = keeper-turn handed old new r kept h
turn handed old new (Keeper r) NoMemory kept inside h = keeper-turn handed old new r kept h
turn handed old new (Keeper r) Went kept inside h = absurd h
turn handed old new (Keeper r) (HandedOver s w p bytes) kept inside h = absurd h
turn handed old new (Keeper r) (Ended n) kept inside h = absurd h
turn handed old new (Keeper r) GotStuck kept inside h = absurd h
turn handed old new (Keeper r) GotBack kept inside h = absurd h
turn handed old new (Keeper r) Idle kept inside h = absurd h
turn handed old new (Keeper r) (Took found) kept inside h = absurd h
