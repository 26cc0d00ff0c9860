-- The effect of a worker's turn on each ring: it takes nothing, and grants at most one record. No worker's program
-- changes.
use Rattle.std.proofs.Common.{◌≡◌, ℕ, ◌+◌, ◌≤◌, false, List, [], ◌∷◌, ◌++◌, Option, Some, None, length, refl, sym, ap, subst, ◌∙◌, inl, inr, arith, append_assoc, append-nil, length-append}
use Rattle.std.specs.List.{filter_map}
use Rattle.std.proofs.lemmas.Bool.{false_from_ne_true}
use Rattle.std.proofs.lemmas.List.Elements.{filter_map-append}
use Rattle.rb_history.specs.declared.entries.Entry.{Entry}
use Rattle.rb_history.specs.declared.entries.Entry.TheVariants.{Res, Full, Sub, Dis}
use Rattle.rb_history.specs.History.{is_taken_at, producer_of, consumer_of, grants}
use Rattle.rb_history.specs.ReservationModel.{Granted}
use Rattle.rb_history.specs.RoomRule.{Setup}
use Rattle.rb_history.specs.Legal.{IsLegal}
use Rattle.rb_history.specs.RingModel.{Ring}
use Rattle.rb_history.specs.Calls as ring
use Rattle.rb_history.proofs.Steps.{consumer-full, consumer-res, consumer-sub, consumer-dis}
use Rattle.rb_history.proofs.Laws.{KeptAs, kept-from-legal}
use Rattle.rb_semantics.specs.ProgramStates.{State}
use Rattle.rb_semantics.specs.HelperCalls.{HelperCall, Reserve, Submit, Discard, Output, Query, HelperAnswer, Granted as GrantedAnswer, Null, Taken as TakenAnswer, HandedBack, Code, Told, pending_call_of, Resumption, Resumes, Strays, Unfit, resume}
use Rattle.rb_semantics.specs.Instructions.{StepEffect, Goes, Ends, Asks, Stuck, next_step}
use Rattle.rb_world.specs.Worlds.{RecordPlace, HeldRecords, table_with, WorkerStatus, Running, Finished, Halted, Strayed, WorkerState, WorldRing, World, with_worker, with_ring}
use Rattle.rb_world.specs.CallsInWorld.{RingSteps, RecordOutcome, BadFlags, Unlogged, NoRoom, Made, WorkerReserves, WorkerOutputs, WorkerSubmits, WorkerDiscards, granted_at}
use Rattle.rb_world.specs.Turns.{TurnEvent, worker_after, submit_event, discard_event, GetsAnswer, GivesRecordBack, MakesCall, ExecutesStep, TakesWorkerTurn}
use Rattle.rb_world.specs.EveryInterleaving.{granted_position}
use Rattle.rb_world.proofs.BusyRecords.{not-granted}
use Rattle.rb_world.proofs.Tables.{eq_cases, placed-here, placed-else}

-- the number of records that a history grants
abbrev pub granted_count : List Entry → ℕ
granted_count h = length (filter_map granted_position h)

pub granted-more : (h more : List Entry) → granted_count (h ++ more) ≡ granted_count h + granted_count more
granted-more h more = ap length (filter_map-append granted_position h more) ∙ length-append (filter_map granted_position h) (filter_map granted_position more)

pub record Quiet (old new : WorldRing) : Type 0 where
  pub setup_same : new.ring.setup ≡ old.ring.setup
  pub taken_same : new.taken ≡ old.taken
  pub consumer_same : consumer_of old.ring.setup.start new.ring.history ≡ consumer_of old.ring.setup.start old.ring.history
  pub one_more : granted_count new.ring.history ≤ granted_count old.ring.history + 1

pub quiet-same : (old new : WorldRing) → new ≡ old → Quiet old new
quiet-same old new e = subst (Quiet old) (sym e) (record { setup_same = refl; taken_same = refl; consumer_same = refl; one_more = omega arith })

-- the position of the next record holds none yet
pub free : (r : Setup) (h : List Entry) → IsLegal r h → is_taken_at h (producer_of r.start h) ≡ false
free r h l =
    let kept : KeptAs r h = kept-from-legal r h l in
    let p = producer_of r.start h in
    false_from_ne_true (is_taken_at h p) (λ t. not-granted r h l (kept.named p (kept.closed p t)))

module _ (old new : WorldRing) where
  logged : (P : Ring → Ring → Type 0) (more : List Entry) → RingSteps P [] old new → ring.Logs old.ring new.ring more
      → consumer_of old.ring.setup.start (old.ring.history ++ more) ≡ consumer_of old.ring.setup.start old.ring.history → granted_count more ≤ 1 → Quiet old new
  logged P more m logs still few =
      let whole : granted_count new.ring.history ≡ granted_count old.ring.history + granted_count more = ap granted_count logs.history_is ∙ granted-more old.ring.history more in
      record {
        setup_same = logs.setup_same;
        taken_same = m.taken_are ∙ append-nil old.taken;
        consumer_same = ap (consumer_of old.ring.setup.start) logs.history_is ∙ still;
        one_more = omega (arith, whole, few);
      }

  quiet-full : (w n : ℕ) → RingSteps (λ v v'. ring.FindsFull v v' w n) [] old new → Quiet old new
  quiet-full w n m = logged _ (Full w n ∷ []) m m.stepped.logged (consumer-full old.ring.setup.start old.ring.history w n) (omega arith)

  quiet-grant : IsLegal old.ring.setup old.ring.history → (w n p k : ℕ) → RingSteps (λ v v'. ring.Grants v v' w n p k) [] old new → Quiet old new
  quiet-grant l w n p k m =
      let untaken : is_taken_at old.ring.history p ≡ false = subst (λ q. is_taken_at old.ring.history q ≡ false) (sym m.stepped.position) (free old.ring.setup old.ring.history l) in
      logged _ (Res w k n p ∷ []) m m.stepped.logged (consumer-res old.ring.setup.start old.ring.history w k n p untaken) (omega arith)

  quiet-output : IsLegal old.ring.setup old.ring.history → (w : ℕ) (bytes : List ℕ) → RingSteps (λ v v'. ring.Outputs v v' w bytes) [] old new → Quiet old new
  quiet-output l w bytes m =
      let h = old.ring.history in
      let start = old.ring.setup.start in
      let q = producer_of start h in
      let res : Entry = Res w (grants w h) (length bytes) q in
      let still : consumer_of start (h ++ res ∷ Sub q ∷ []) ≡ consumer_of start h =
      ap (consumer_of start) (sym (append_assoc h (res ∷ []) (Sub q ∷ []))) ∙ consumer-sub start (h ++ res ∷ []) q ∙ consumer-res start h w (grants w h) (length bytes) q (free old.ring.setup h l) in
      logged _ (res ∷ Sub q ∷ []) m m.stepped.logged still (omega arith)

  quiet-submit : (r : Granted) → RingSteps (λ v v'. ring.Submits v v' r) [] old new → Quiet old new
  quiet-submit r m = logged _ (Sub r.pos ∷ []) m m.stepped.logged (consumer-sub old.ring.setup.start old.ring.history r.pos) (omega arith)

  quiet-discard : (r : Granted) → RingSteps (λ v v'. ring.Discards v v' r) [] old new → Quiet old new
  quiet-discard r m = logged _ (Dis r.pos ∷ []) m m.stepped.logged (consumer-dis old.ring.setup.start old.ring.history r.pos) (omega arith)

-- each ring made such a turn, and each worker still has its program
pub record Turned (old new : World) : Type 0 where
  pub rings : (r : ℕ) → Quiet (old.rings r) (new.rings r)
  pub subjects : (v : ℕ) → (new.workers v).subject ≡ (old.workers v).subject

after-subject : (on : Resumption) (x : WorkerState) → (worker_after on x).subject ≡ x.subject
after-subject (Resumes s) x = refl
after-subject Strays x = refl
after-subject Unfit x = refl

module _ (old new : World) (legal : (r : ℕ) → IsLegal (old.rings r).ring.setup (old.rings r).ring.history) (w : ℕ) (event : TurnEvent) where
  abbrev TurnedTo : World → Type 0
  TurnedTo = Turned old

  same-subjects : (y : WorkerState) → y.subject ≡ (old.workers w).subject → (v : ℕ) → (table_with w y old.workers v).subject ≡ (old.workers v).subject
  same-subjects y same v = elim (eq_cases v w) [
    | inl here ↦ ap (λ (x : WorkerState). x.subject) (placed-here w y old.workers v here.1) ∙ same ∙ ap (λ i. (old.workers i).subject) (sym here.1)
    | inr else ↦ ap (λ (x : WorkerState). x.subject) (placed-else w y old.workers v else.1)
  ]

  none-changed : TurnedTo old
  none-changed = record { rings = λ r. quiet-same (old.rings r) (old.rings r) refl; subjects = λ v. refl }

  only-worker : (y : WorkerState) → y.subject ≡ (old.workers w).subject → TurnedTo (with_worker w y old)
  only-worker y same = record { rings = none-changed.rings; subjects = same-subjects y same }

  at-one : (r : ℕ) (b : WorldRing) (y : WorkerState) → y.subject ≡ (old.workers w).subject → Quiet (old.rings r) b → TurnedTo (with_ring r b (with_worker w y old))
  at-one r b y same q = record {
    rings = λ s. elim (eq_cases s r) [
      | inl here ↦ subst (Quiet (old.rings s)) (sym (placed-here r b old.rings s here.1)) (subst (λ i. Quiet (old.rings i) b) (sym here.1) q)
      | inr else ↦ quiet-same (old.rings s) (table_with r b old.rings s) (placed-else r b old.rings s else.1)
    ];
    subjects = same-subjects y same;
  }

  answered : (call : HelperCall) (t : State) (answer : HelperAnswer) (on : TurnEvent) (held : HeldRecords) (r : ℕ) (b : WorldRing) → Quiet (old.rings r) b → GetsAnswer w call t answer on held r b old event new → TurnedTo new
  answered call t answer on held r b q a = subst TurnedTo (sym a.world) (at-one r b _ (after-subject (resume (pending_call_of call) answer t) (record (old.workers w) { held = held; state = t })) q)

  reserves : (len flags : ℕ) (how : RecordOutcome) (r : ℕ) (b : WorldRing) → WorkerReserves w len flags how (old.rings r) b → Quiet (old.rings r) b
  reserves len flags BadFlags r b h = quiet-same (old.rings r) b h.1
  reserves len flags Unlogged r b h = quiet-same (old.rings r) b h.1
  reserves len flags NoRoom r b h = quiet-full (old.rings r) b w len h.1
  reserves len flags (Made p k) r b h = quiet-grant (old.rings r) b (legal r) w len p k h.1

  outputs : (bytes : List ℕ) (flags : ℕ) (how : RecordOutcome) (r : ℕ) (b : WorldRing) → WorkerOutputs w bytes flags how (old.rings r) b → Quiet (old.rings r) b
  outputs bytes flags BadFlags r b h = quiet-same (old.rings r) b h.1
  outputs bytes flags Unlogged r b h = quiet-same (old.rings r) b h.1
  outputs bytes flags NoRoom r b h = quiet-full (old.rings r) b w (length bytes) h.1
  outputs bytes flags (Made p k) r b h = quiet-output (old.rings r) b (legal r) w bytes h.3

  submits : (r : ℕ) (g : Granted) (answer : HelperAnswer) (b : WorldRing) → WorkerSubmits g answer (old.rings r) b → Quiet (old.rings r) b
  submits r g TakenAnswer b h = quiet-submit (old.rings r) b g h
  submits r g HandedBack b h = quiet-same (old.rings r) b h.1
  submits r g GrantedAnswer b h = absurd h
  submits r g Null b h = absurd h
  submits r g (Code n) b h = absurd h
  submits r g (Told n) b h = absurd h

  discards : (r : ℕ) (g : Granted) (answer : HelperAnswer) (b : WorldRing) → WorkerDiscards g answer (old.rings r) b → Quiet (old.rings r) b
  discards r g TakenAnswer b h = quiet-discard (old.rings r) b g h
  discards r g HandedBack b h = quiet-same (old.rings r) b h.1
  discards r g GrantedAnswer b h = absurd h
  discards r g Null b h = absurd h
  discards r g (Code n) b h = absurd h
  discards r g (Told n) b h = absurd h

  submit-turn : (id : ℕ) (bytes : List ℕ) (flags : ℕ) (t : State) (held : Option RecordPlace) → GivesRecordBack WorkerSubmits (submit_event w) w (Submit id bytes flags) t id bytes held old event new → TurnedTo new
  submit-turn id bytes flags t None a = answered (Submit id bytes flags) t _ _ _ 0 (old.rings 0) (quiet-same (old.rings 0) (old.rings 0) refl) a
  submit-turn id bytes flags t (Some place) (answer, b, g, a) = answered (Submit id bytes flags) t _ _ _ place.ring b (submits place.ring (granted_at place w bytes) answer b g) a

  discard-turn : (id : ℕ) (bytes : List ℕ) (flags : ℕ) (t : State) (held : Option RecordPlace) → GivesRecordBack WorkerDiscards discard_event w (Discard id bytes flags) t id bytes held old event new → TurnedTo new
  discard-turn id bytes flags t None a = answered (Discard id bytes flags) t _ _ _ 0 (old.rings 0) (quiet-same (old.rings 0) (old.rings 0) refl) a
  discard-turn id bytes flags t (Some place) (answer, b, g, a) = answered (Discard id bytes flags) t _ _ _ place.ring b (discards place.ring (granted_at place w bytes) answer b g) a

  call-turn : (call : HelperCall) (t : State) → MakesCall w call t old event new → TurnedTo new
  call-turn (Reserve id r len flags) t (how, b, h, a) = answered (Reserve id r len flags) t _ _ _ r b (reserves len flags how r b h) a
  call-turn (Submit id bytes flags) t h = submit-turn id bytes flags t ((old.workers w).held id) h
  call-turn (Discard id bytes flags) t h = discard-turn id bytes flags t ((old.workers w).held id) h
  call-turn (Output r bytes flags) t (how, b, h, a) = answered (Output r bytes flags) t _ _ _ r b (outputs bytes flags how r b h) a
  call-turn (Query r what) t a = answered (Query r what) t _ _ _ r (old.rings r) (quiet-same (old.rings r) (old.rings r) refl) a

  effect-turn : (effect : StepEffect) → ExecutesStep w effect old event new → TurnedTo new
  effect-turn (Goes t) h = subst TurnedTo (sym h.1) (only-worker _ refl)
  effect-turn (Ends n) h = subst TurnedTo (sym h.1) (only-worker _ refl)
  effect-turn (Asks call t) h = call-turn call t h
  effect-turn Stuck h = subst TurnedTo (sym h.1) (only-worker _ refl)

  pub worker-turned : (status : WorkerStatus) → TakesWorkerTurn w status old event new → TurnedTo new
  worker-turned Running h = effect-turn (next_step (old.workers w).subject.program (old.workers w).state) h
  worker-turned (Finished n) h = subst TurnedTo (sym h.1) none-changed
  worker-turned Halted h = subst TurnedTo (sym h.1) none-changed
  worker-turned Strayed h = subst TurnedTo (sym h.1) none-changed
