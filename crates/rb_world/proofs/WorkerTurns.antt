-- The model world that a world represents, after one worker executed an instruction.
use Rattle.std.proofs.Common.{◌≡◌, ◌≢◌, ℕ, ◌<◌, List, [], ◌∷◌, Some, None, length, get_or, set, map, refl, sym, ap, subst, ◌∙◌, inl, inr, get_or-set_same, get_or-set_other, arith}
use Rattle.std.specs.Prelude.{option_map}
use Rattle.std.proofs.lemmas.Bool.{cases_eq, eq-eqb, ne_eqb}
use Rattle.rb_semantics.specs.declared.pending_call.PendingCall.TheVariants as asked
use Rattle.rb_semantics.specs.HelperCalls.{HelperCall, Reserve, Output, Query, pending_call_of, HelperAnswer, Taken as TakenAnswer, Told, resume}
use Rattle.rb_semantics.specs.Instructions.{StepEffect, Goes, Ends, Asks, next_step}
use Rattle.rb_history.specs.NoticesAndQueries.{query_answer}
use Rattle.rb_interp.specs.MachineState.{MachineState}
use Rattle.rb_interp.specs.CodeCalls.{left_by}
use Rattle.rb_interp.specs.StoredMemory.{held_record, others, Rewrites}
use Rattle.rb_interp.specs.declared.step.Phase.{Phase}
use Rattle.rb_interp.specs.declared.step.Phase.TheVariants as phase
use Rattle.rb_world.specs.Worlds.{RecordPlace, HeldRecords, Running, Finished, WorkerState, WorldRing, World, with_worker, with_ring, table_with}
use Rattle.rb_world.specs.CallsInWorld.{RecordOutcome, BadFlags, NoRoom, Made, WorkerReserves, WorkerOutputs, answer_to_reserve, held_after_reserve, answer_to_output, Unlogged, granted_at}
use Rattle.rb_world.specs.Turns.{TurnEvent, Went, Ended, Idle, GivingBack, output_event, worker_after, event_of, GetsAnswer, GivesRecordBack, MakesCall, ExecutesStep, TakesWorkerTurn, WorldStep}
use Rattle.rb_world.specs.declared.actor.Actor.TheVariants.{Worker}
use Rattle.rb_chapter_ring.specs.declared.ring_record.RingRecord.{RingRecord}
use Rattle.rb_world.specs.declared.turn_done.TurnDone.TheVariants as turn
use Rattle.rb_world.specs.WorldValue.{WholeWorld, place_of, status_of_phase, held_by, worker_of, no_worker, no_ring, shown_world}
use Rattle.rb_world.specs.TurnsDone.{TellsEvent}
use Rattle.rb_world.specs.inner.WorkerTurn.{IsWorkerTurn, GoesOnWith, AnswersReserve, AnswersOutput, AnswersGivenBack, AnswersQuery}
use Rattle.rb_world.proofs.ShownWorlds.{shown-book, set-get, at-default}
use Rattle.rb_world.proofs.HeldByWorkers.{shown-given}

abbrev Held : Type 0
Held = List (ℕ × RingRecord)

-- changing the bytes of a machine's records leaves what they show
pub same-shown : {X : Type 0} (f : RingRecord → X) (with_bytes : RingRecord → List ℕ → RingRecord) → ((r : RingRecord) (w : List ℕ) → f (with_bytes r w) ≡ f r) → (rs ss : Held) → Rewrites with_bytes rs ss → (id : ℕ) → option_map f (held_record id ss) ≡ option_map f (held_record id rs)
same-shown f with_bytes keeps [] [] h id = refl
same-shown f with_bytes keeps [] (s ∷ ss) h id = absurd h
same-shown f with_bytes keeps (r ∷ rs) [] h id = absurd h
same-shown f with_bytes keeps (r ∷ rs) (s ∷ ss) h id = elim (cases_eq r.0 id) [
  | inl same ↦ rw (eq-eqb r.0 id same, eq-eqb s.0 id (sym h.0 ∙ same)) (ap (λ x. Some x) one)
  | inr else ↦ rw (ne_eqb r.0 id else, ne_eqb s.0 id (λ e. else (h.0 ∙ e))) (same-shown f with_bytes keeps rs ss h.2 id)
]
  where
    one : f s.1 ≡ f r.1
    one = elim (h.1) [ inl e ↦ ap f e | inr w ↦ ap f w.1 ∙ keeps r.1 w.0 ]

pub get-map : (ms : List (MachineState RingRecord)) (w : ℕ) (m : MachineState RingRecord) → w < length ms → m ≡ get_or ms w m → get_or (map worker_of ms) w no_worker ≡ worker_of m
get-map [] w m lt e = absurd (omega arith)
get-map (n ∷ ms) ℕ.zero m lt e = ap worker_of (sym e)
get-map (n ∷ ms) (ℕ.suc w) m lt e = get-map ms w m (omega arith) e

map-set : (ms : List (MachineState RingRecord)) (w : ℕ) (m : MachineState RingRecord) → map worker_of (set ms w m) ≡ set (map worker_of ms) w (worker_of m)
map-set [] w m = refl
map-set (n ∷ ms) ℕ.zero m = refl
map-set (n ∷ ms) (ℕ.suc w) m = ap (λ l. worker_of n ∷ l) (map-set ms w m)

length-map : (ms : List (MachineState RingRecord)) → length (map worker_of ms) ≡ length ms
length-map [] = refl
length-map (n ∷ ms) = ap ℕ.suc (length-map ms)

length-set : (ms : List (MachineState RingRecord)) (w : ℕ) (m : MachineState RingRecord) → length (set ms w m) ≡ length ms
length-set [] w m = refl
length-set (n ∷ ms) ℕ.zero m = refl
length-set (n ∷ ms) (ℕ.suc w) m = ap ℕ.suc (length-set ms w m)

module _ (body : WholeWorld) (w : ℕ) (m : MachineState RingRecord) (inside : w < length body.machines) where
  worker-at : (j : ℕ) → (shown_world (record body { machines = set body.machines w m })).workers j ≡ table_with w (worker_of m) (shown_world body).workers j
  worker-at j = ap (λ l. get_or l j no_worker) (map-set body.machines w m) ∙ elim (cases_eq j w) [
    | inl same ↦ rw (eq-eqb j w same) (ap (λ i. get_or (set (map worker_of body.machines) w (worker_of m)) i no_worker) same ∙ get_or-set_same (map worker_of body.machines) w (worker_of m) no_worker (subst (λ n. w < n) (sym (length-map body.machines)) inside))
    | inr else ↦ rw (ne_eqb j w else) (get_or-set_other (map worker_of body.machines) w j (worker_of m) no_worker else)
  ]

  -- one worker is replaced
  pub shown-worker : shown_world (record body { machines = set body.machines w m }) ≡ with_worker w (worker_of m) (shown_world body)
  shown-worker = λ i. record {
    worker_count = length-set body.machines w m i;
    workers = λ j. worker-at j i;
    rings = λ r. record {
      ring = (get_or body.rings r (no_ring (length-set body.machines w m i))).ring;
      taken = (get_or body.rings r (no_ring (length-set body.machines w m i))).taken;
    };
  }

-- one ring and one worker are replaced
pub shown-both : (body : WholeWorld) (r : ℕ) (s : WorldRing) (w : ℕ) (m : MachineState RingRecord) → r < length body.rings → w < length body.machines
    → shown_world (record { rings = set body.rings r s; machines = set body.machines w m }) ≡ with_ring r s (with_worker w (worker_of m) (shown_world body))
shown-both body r s w m low inside = shown-book (record body { machines = set body.machines w m }) r s low ∙ ap (with_ring r s) (shown-worker body w m inside)

-- a running worker performs its program's next step
executes-turn : (body : WholeWorld) (w : ℕ) (old : MachineState RingRecord) (effect : StepEffect) (event : TurnEvent) (after : World) → w < length body.machines → old ≡ get_or body.machines w old → old.phase ≡ phase.Ready
    → next_step old.program.program old.state ≡ effect → ExecutesStep w effect (shown_world body) event after → WorldStep (shown_world body) (Worker w) event after
executes-turn body w old effect event after inside is ready step does =
    let here : (shown_world body).workers w ≡ worker_of old = get-map body.machines w old inside is in
    let runs : ((shown_world body).workers w).status ≡ Running = ap (λ (x : WorkerState). x.status) here ∙ ap status_of_phase ready in
    let steps : next_step ((shown_world body).workers w).subject.program ((shown_world body).workers w).state ≡ effect = ap (λ (x : WorkerState). next_step x.subject.program x.state) here ∙ step in
    subst (λ status. TakesWorkerTurn w status (shown_world body) event after) (sym runs) (subst (λ e. ExecutesStep w e (shown_world body) event after) (sym steps) does)

module _ (w : ℕ) (rings : List WorldRing) (old new : MachineState RingRecord) (ready : old.phase ≡ phase.Ready) where
  -- an instruction other than a call
  pub went-turn : next_step old.program.program old.state ≡ Goes new.state → new.phase ≡ phase.Ready → new.program ≡ old.program → ((id : ℕ) → held_by new id ≡ held_by old id) → IsWorkerTurn w old rings turn.Went new rings
  went-turn step after program held = λ machines inside is.
      let body : WholeWorld = record { rings = rings; machines = machines } in
      let here : (shown_world body).workers w ≡ worker_of old = get-map machines w old inside is in
      let y : worker_of new ≡ record ((shown_world body).workers w) { state = new.state } = (λ i. record { subject = program i; state = new.state; held = λ id. held id i; status = (ap status_of_phase (after ∙ sym ready)) i }) ∙ ap (λ (x : WorkerState). record x { state = new.state }) (sym here) in
      (Went, tt, executes-turn body w old (Goes new.state) Went _ inside is ready step (refl, shown-worker body w new inside ∙ ap (λ x. with_worker w x (shown_world body)) y))

  -- the end of the program
  pub ended-turn : (n : ℕ) → next_step old.program.program old.state ≡ Ends n → new.phase ≡ phase.Exited n → new.program ≡ old.program → new.records ≡ old.records → new.state ≡ old.state → IsWorkerTurn w old rings (turn.Finished n) new rings
  ended-turn n step after program records state = λ machines inside is.
      let body : WholeWorld = record { rings = rings; machines = machines } in
      let here : (shown_world body).workers w ≡ worker_of old = get-map machines w old inside is in
      let y : worker_of new ≡ record ((shown_world body).workers w) { status = Finished n } = (λ i. record { subject = program i; state = state i; held = λ id. option_map place_of (held_record id (records i)); status = (ap status_of_phase after) i }) ∙ ap (λ (x : WorkerState). record x { status = Finished n }) (sym here) in
      (Ended n, refl, executes-turn body w old (Ends n) (Ended n) _ inside is ready step (refl, shown-worker body w new inside ∙ ap (λ x. with_worker w x (shown_world body)) y))

-- a worker that is not running
pub idle-turn : (w : ℕ) (rings : List WorldRing) (old : MachineState RingRecord) → old.phase ≢ phase.Ready → IsWorkerTurn w old rings turn.Idle old rings
idle-turn w rings old still = λ machines inside is.
    let body : WholeWorld = record { rings = rings; machines = machines } in
    let here : ((shown_world body).workers w).status ≡ status_of_phase old.phase = ap (λ (x : WorkerState). x.status) (get-map machines w old inside is) in
    let same : shown_world (record { rings = rings; machines = set machines w old }) ≡ shown_world body = ap (λ l. shown_world (record { rings = rings; machines = l })) (ap (set machines w) is ∙ set-get machines w old) in
    (Idle, tt, subst (λ status. TakesWorkerTurn w status (shown_world body) Idle (shown_world (record { rings = rings; machines = set machines w old }))) (sym here) (by_phase body (shown_world (record { rings = rings; machines = set machines w old })) old.phase still same))
  where
    by_phase : (body : WholeWorld) (after : World) (p : Phase) → p ≢ phase.Ready → after ≡ shown_world body → TakesWorkerTurn w (status_of_phase p) (shown_world body) Idle after
    by_phase body after phase.Ready still e = absurd (still refl)
    by_phase body after (phase.Waiting kind) still e = (refl, e)
    by_phase body after (phase.Exited n) still e = (refl, e)
    by_phase body after phase.Strayed still e = (refl, e)

-- ---- calls

module _ (w : ℕ) (rings : List WorldRing) (old mid new : MachineState RingRecord) (r : ℕ) (s s' : WorldRing) (ready : old.phase ≡ phase.Ready) (program : mid.program ≡ old.program) (low : r < length rings) (there : s ≡ get_or rings r s) where
  module _ (machines : List (MachineState RingRecord)) (inside : w < length machines) (is : old ≡ get_or machines w old) where
    abbrev body : WholeWorld
    body = record { rings = rings; machines = machines }

    abbrev after : World
    after = shown_world (record { rings = set rings r s'; machines = set machines w new })

    here : (shown_world body).workers w ≡ worker_of old
    here = get-map machines w old inside is

    book-here : s ≡ (shown_world body).rings r
    book-here = (at-default rings r s (no_ring (length machines)) low there)

    answered-turn : (call : HelperCall) (answer : HelperAnswer) (on : TurnEvent) (held held' : HeldRecords) → held ≡ held' → GoesOnWith (pending_call_of call) answer held mid new
        → GetsAnswer w call mid.state answer on held' r s' (shown_world body) (event_of on (resume (pending_call_of call) answer mid.state)) after
    answered-turn call answer on held held' same goes = record {
      told = refl;
      world = shown-both body r s' w new low inside ∙ ap (λ x. with_ring r s' (with_worker w x (shown_world body))) (goes ∙ ap (worker_after (resume (pending_call_of call) answer mid.state)) y);
    }
      where
        y : ◌≡◌ {A = WorkerState} (record (worker_of mid) { held = held; status = Running }) (record ((shown_world body).workers w) { held = held'; state = mid.state })
        y = (λ i. record { subject = program i; state = mid.state; held = same i; status = (ap status_of_phase (sym ready)) i }) ∙ ap (λ (x : WorkerState). record x { held = held'; state = mid.state }) (sym here)

  kept-held : mid.records ≡ old.records → (machines : List (MachineState RingRecord)) (inside : w < length machines) (is : old ≡ get_or machines w old) → held_by mid ≡ ((shown_world (body machines inside is)).workers w).held
  kept-held records machines inside is = ap (λ (rs : Held). λ id. option_map place_of (held_record id rs)) records ∙ ap (λ (x : WorkerState). x.held) (sym (here machines inside is))

  pub reserve-turn : (len flags : ℕ) (call : HelperCall) → next_step old.program.program old.state ≡ Asks call mid.state → call ≡ Reserve mid.state.unit r len flags → mid.records ≡ left_by call old.records → AnswersReserve w r len flags mid s new s'
      → IsWorkerTurn w old rings turn.Went new (set rings r s')
  reserve-turn len flags call step shows records (outcome, reserves, goes) = λ machines inside is.
      let same : held_by mid ≡ ((shown_world (body machines inside is)).workers w).held = kept-held (records ∙ ap (λ c. left_by c old.records) shows) machines inside is in (
        Went,
        tt,
        executes-turn (body machines inside is) w old (Asks (Reserve mid.state.unit r len flags) mid.state) Went _ inside is ready (step ∙ ap (λ c. Asks c mid.state) shows) (
          outcome,
          s',
          subst (λ b. WorkerReserves w len flags outcome b s') (book-here machines inside is) reserves,
          subst (λ event. GetsAnswer w (Reserve mid.state.unit r len flags) mid.state (answer_to_reserve outcome) Went (held_after_reserve mid.state.unit r outcome ((shown_world (body machines inside is)).workers w).held) r s' (shown_world (body machines inside is)) event (after machines inside is)) (goes-by outcome)
              (answered-turn machines inside is (Reserve mid.state.unit r len flags) (answer_to_reserve outcome) Went _ _ (ap (held_after_reserve mid.state.unit r outcome) same) goes),
        ),
      )
    where
      goes-by : (outcome : RecordOutcome) → event_of Went (resume (asked.Reserve len) (answer_to_reserve outcome) mid.state) ≡ Went
      goes-by BadFlags = refl
      goes-by Unlogged = refl
      goes-by NoRoom = refl
      goes-by (Made p k) = refl

  pub output-turn : (flags : ℕ) (call : HelperCall) (bytes : List ℕ) → next_step old.program.program old.state ≡ Asks call mid.state → mid.output ≡ Some bytes → call ≡ Output r bytes flags → mid.records ≡ left_by call old.records → AnswersOutput w flags mid s new s'
      → IsWorkerTurn w old rings turn.Went new (set rings r s')
  output-turn flags call bytes step lent shows records with_answer = λ machines inside is.
      let same : held_by mid ≡ ((shown_world (body machines inside is)).workers w).held = kept-held (records ∙ ap (λ c. left_by c old.records) shows) machines inside is in
      let a = with_answer bytes lent in (
        output_event w r bytes a.0,
        tells a.0,
        executes-turn (body machines inside is) w old (Asks (Output r bytes flags) mid.state) _ _ inside is ready (step ∙ ap (λ c. Asks c mid.state) shows) (
          a.0,
          s',
          subst (λ b. WorkerOutputs w bytes flags a.0 b s') (book-here machines inside is) a.1,
          subst (λ event. GetsAnswer w (Output r bytes flags) mid.state (answer_to_output a.0) (output_event w r bytes a.0) ((shown_world (body machines inside is)).workers w).held r s' (shown_world (body machines inside is)) event (after machines inside is)) (goes-by a.0)
              (answered-turn machines inside is (Output r bytes flags) (answer_to_output a.0) (output_event w r bytes a.0) _ _ same a.2),
        ),
      )
    where
      goes-by : (outcome : RecordOutcome) → event_of (output_event w r bytes outcome) (resume asked.Output (answer_to_output outcome) mid.state) ≡ output_event w r bytes outcome
      goes-by BadFlags = refl
      goes-by Unlogged = refl
      goes-by NoRoom = refl
      goes-by (Made p k) = refl

      tells : (outcome : RecordOutcome) → TellsEvent turn.Went (output_event w r bytes outcome)
      tells BadFlags = tt
      tells Unlogged = tt
      tells NoRoom = tt
      tells (Made p k) = tt

  pub query-turn : (what : ℕ) (call : HelperCall) → next_step old.program.program old.state ≡ Asks call mid.state → call ≡ Query r what → mid.records ≡ left_by call old.records → s' ≡ s → AnswersQuery what mid s new
      → IsWorkerTurn w old rings turn.Went new (set rings r s')
  query-turn what call step shows records unchanged goes = λ machines inside is.
      let same : held_by mid ≡ ((shown_world (body machines inside is)).workers w).held = kept-held (records ∙ ap (λ c. left_by c old.records) shows) machines inside is in
      let answer : WorldRing → HelperAnswer = λ b. Told (query_answer b.ring.setup b.ring.history what) in (
        Went,
        tt,
        executes-turn (body machines inside is) w old (Asks (Query r what) mid.state) Went _ inside is ready (step ∙ ap (λ c. Asks c mid.state) shows)
            (subst (λ b. GetsAnswer w (Query r what) mid.state (Told (query_answer b.ring.setup b.ring.history what)) Went ((shown_world (body machines inside is)).workers w).held r b (shown_world (body machines inside is)) Went (after machines inside is)) (book-here machines inside is)
            (subst (λ b. GetsAnswer w (Query r what) mid.state (Told (query_answer s.ring.setup s.ring.history what)) Went ((shown_world (body machines inside is)).workers w).held r b (shown_world (body machines inside is)) Went (after machines inside is)) unchanged
            (answered-turn machines inside is (Query r what) (Told (query_answer s.ring.setup s.ring.history what)) Went _ _ same goes))),
      )

-- ---- a record is submitted or discarded

module _ (w : ℕ) (rings : List WorldRing) (old mid new : MachineState RingRecord) (owned : RingRecord) (s s' : WorldRing) (ready : old.phase ≡ phase.Ready) (program : mid.program ≡ old.program) (low : owned.ring < length rings) (there : s ≡ get_or rings owned.ring s)
    (gives : GivingBack) (hands : RecordPlace → List ℕ → TurnEvent) (call : HelperCall) (id : ℕ) (kind : pending_call_of call ≡ asked.GiveBack) (tells : TellsEvent turn.Went (hands (place_of owned) owned.reservation.granted.bytes)) (found : held_record id old.records ≡ Some owned) (left : mid.records ≡ others id old.records) (mine : owned.reservation.granted.worker ≡ w) where
  is-record : owned.reservation.granted ≡ granted_at (place_of owned) w owned.reservation.granted.bytes
  is-record = ap (λ v. record owned.reservation.granted { worker = v }) mine

  gone : (i : ℕ) → held_by mid i ≡ table_with id None (held_by old) i
  gone i = ap (λ (rs : Held). option_map place_of (held_record i rs)) left ∙ shown-given place_of id old.records i

  given-turn : AnswersGivenBack gives owned mid s new s'
      → (machines : List (MachineState RingRecord)) → w < length machines → old ≡ get_or machines w old
      → (event : TurnEvent) × TellsEvent turn.Went event × GivesRecordBack gives hands w call mid.state id owned.reservation.granted.bytes (((shown_world (record { rings = rings; machines = machines })).workers w).held id) (shown_world (record { rings = rings; machines = machines })) event (shown_world (record { rings = set rings owned.ring s'; machines = set machines w new }))
  given-turn (g, goes) = λ machines inside is.
      let world = shown_world (record { rings = rings; machines = machines }) in
      let there_now : world.workers w ≡ worker_of old = get-map machines w old inside is in
      let held_is : (world.workers w).held id ≡ Some (place_of owned) = ap (λ (x : WorkerState). x.held id) there_now ∙ ap (option_map place_of) found in
      let same : held_by mid ≡ table_with id None (world.workers w).held = (λ i j. gone j i) ∙ ap (λ (x : WorkerState). table_with id None x.held) (sym there_now) in (
        event_of (hands (place_of owned) owned.reservation.granted.bytes) (resume (pending_call_of call) TakenAnswer mid.state),
        subst (λ k. TellsEvent turn.Went (event_of (hands (place_of owned) owned.reservation.granted.bytes) (resume k TakenAnswer mid.state))) (sym kind) tells,
        subst (λ held. GivesRecordBack gives hands w call mid.state id owned.reservation.granted.bytes held world (event_of (hands (place_of owned) owned.reservation.granted.bytes) (resume (pending_call_of call) TakenAnswer mid.state)) (shown_world (record { rings = set rings owned.ring s'; machines = set machines w new }))) (sym held_is) (
          TakenAnswer,
          s',
          subst (λ b. gives (granted_at (place_of owned) w owned.reservation.granted.bytes) TakenAnswer b s') (book-here w rings old mid new owned.ring s s' ready program low there machines inside is)
              (subst (λ x. gives x TakenAnswer s s') is-record g),
          answered-turn w rings old mid new owned.ring s s' ready program low there machines inside is call TakenAnswer (hands (place_of owned) owned.reservation.granted.bytes) _ _ same (subst (λ k. GoesOnWith k TakenAnswer (held_by mid) mid new) (sym kind) goes),
        ),
      )

  pub give-turn : next_step old.program.program old.state ≡ Asks call mid.state
      → ((world : World) (event : TurnEvent) (after : World) → GivesRecordBack gives hands w call mid.state id owned.reservation.granted.bytes ((world.workers w).held id) world event after → MakesCall w call mid.state world event after)
      → AnswersGivenBack gives owned mid s new s' → IsWorkerTurn w old rings turn.Went new (set rings owned.ring s')
  give-turn step calls given = λ machines inside is.
      let g = given-turn given machines inside is in
      (g.0, g.1, executes-turn (record { rings = rings; machines = machines }) w old (Asks call mid.state) g.0 _ inside is ready step (calls _ g.0 _ g.2))
