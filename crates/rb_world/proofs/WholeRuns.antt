-- The proof of the theorem on all interleavings.
use Rattle.std.proofs.Common.{◌≡◌, ℕ, ◌<◌, ◌≤◌, true, false, List, [], ◌∷◌, ◌++◌, append-nil, append_assoc, Option, Some, None, refl, sym, ap, subst, ◌∙◌, arith}
use Rattle.std.specs.Prelude.{is_some, option_map, length}
use Rattle.std.specs.List.{All, Contains, filter_map}
use Rattle.std.specs.FinMap.{get, empty, get-empty}
use Rattle.std.specs.Ordering.{nat_cmp}
use Rattle.std.proofs.lemmas.List.Elements.{All-nil, All-head, All-tail, All-push}
use Rattle.rb_verifier.proofs.Counting.{count_by-cons}
use Rattle.rb_program.specs.Program.{unit_count}
use Rattle.rb_semantics.specs.ProgramMemory.{record_named}
use Rattle.rb_semantics.specs.Soundness.{CanStep}
use Rattle.rb_semantics.proofs.Laws.{can_start, unit_inside}
use Rattle.rb_history.specs.declared.entries.Entry.TheVariants.{Res}
use Rattle.rb_history.specs.declared.answers.Taken.TheVariants.{Event}
use Rattle.rb_history.specs.History.{records}
use Rattle.rb_history.specs.History.Status.{Busy, Waiting}
use Rattle.rb_history.specs.RingModel.{Ring, StandsFor, fresh}
use Rattle.rb_history.specs.Legal.{IsLegal}
use Rattle.rb_history.proofs.Laws.{kept-none}
use Rattle.rb_world.specs.Worlds.{WorkerStatus, Running, Finished, Halted, Strayed, WorldRing, World}
use Rattle.rb_world.specs.declared.actor.Actor.{Actor}
use Rattle.rb_world.specs.Turns.{TurnEvent, WorldStep, WorldRun}
use Rattle.rb_world.specs.OpeningWorld.{IsFreshRing, IsOpeningWorld, IsActor}
use Rattle.rb_world.specs.EveryInterleaving.{taken_position, turns_of, is_turn_of, HoldsRecord, HasFinished, IsBusyIn, IsBusyAsHeld, handed_by, handed_at, IsWellRun, EveryInterleavingIsWell, IsReachedWorld, TurnsLeadOn, ReachedWorldsAreWell}
use Rattle.rb_world.proofs.Tables.{size_of}
use Rattle.rb_world.proofs.BusyRecords.{one-record}
use Rattle.rb_world.proofs.TakenInOrder.{Row, positions}
use Rattle.rb_world.proofs.RingSteps.{Handed, ledger, Keeps}
use Rattle.rb_world.proofs.KeptWorlds.{Tied, Runs, IsIn, IsKept, tied-there}
use Rattle.rb_world.proofs.TurnsOfWorkers.{Advances, AfterTurn, unheld}
use Rattle.rb_world.proofs.ActorTurns.{turn}

none_in : {X : Type 0} (x : X) → Contains [] x → ⊥
none_in x (i, lt, is) = omega arith

-- ---- the opening

opening-book : (workers : ℕ) (b : WorldRing) → IsFreshRing workers b → Keeps workers (ledger [] b)
opening-book workers b f =
    let ring : Ring = fresh f.size f.start workers in
    let legal : IsLegal ring.setup [] = (kept-none ring.setup).legal in
    record {
      legal = subst (λ (v : Ring). IsLegal v.setup v.history) (sym f.ring_is) legal;
      stands = subst StandsFor (sym f.ring_is) (record {
        shown = refl;
        producer_is = omega arith;
        consumer_is = omega arith;
        contents = λ p. (λ is. absurd (let no_way : false ≡ true = sym (ap is_some (nothing p)) ∙ is in cc), λ is. absurd (let no_way : Busy ≡ Waiting = is in cc));
        sized = λ p bytes is. absurd (let no_way : None ≡ Some bytes = sym (nothing p) ∙ is in cc);
      });
      workers_are = ap (λ (v : Ring). v.setup.workers) f.ring_is;
      handed_at_most_once = λ p. omega arith;
      handed_once = λ p v w one other h k. absurd (none_in _ h);
      taken_as_handed = λ p w k bytes h. absurd (none_in _ (subst (λ l. Contains l (Event p w k bytes)) f.taken_none h));
      handed_submitted = λ p w bytes h. absurd (none_in _ h);
      waiting_handed = λ p bytes h. absurd (let is : get ring.contents p ≡ Some bytes = subst (λ (v : Ring). get v.contents p ≡ Some bytes) f.ring_is h in let no_way : None ≡ Some bytes = sym (nothing p) ∙ is in cc);
      in_row = subst (λ (v : Ring). Row v.history (filter_map taken_position b.taken)) (sym f.ring_is) (subst (λ l. Row [] (filter_map taken_position l)) (sym f.taken_none) refl);
    }
  where
    nothing : (p : ℕ) → ◌≡◌ {A = Option (List ℕ)} (get {R = nat_cmp} empty p) None
    nothing p = get-empty nat_cmp p

pub opening : (world : World) → IsOpeningWorld world → IsKept (λ r. []) world
opening world o = record {
  workers = λ w inside.
      let x = world.workers w in
      let b = o.workers w inside in
      let none : (id : ℕ) → size_of id x.state.memory.records ≡ None = λ id. ap (λ s. size_of id s.memory.records) b.state_is in
      subst (λ status. IsIn status world.rings w x) (sym b.runs) (record {
        can_step = subst (CanStep x.subject) (sym b.state_is) (can_start x.subject b.context b.well_shaped b.begins b.verified b.context_length);
        tied = λ id. subst (λ held. Tied world.rings w (size_of id x.state.memory.records) held) (sym (b.holds_none id)) (subst (λ size. Tied world.rings w size None) (sym (none id)) tt);
        once = λ id other r p j k h i. absurd (unheld (x.held id) (record { ring = r; pos = p; serial = j }) (b.holds_none id) h.held);
      });
  covered = λ r p w k n h. absurd (none_in (Res w k n p) (subst (λ (v : Ring). Contains v.history (Res w k n p)) (o.rings r).ring_is h.granted_is));
  rings = λ r. opening-book world.worker_count (world.rings r) (o.rings r);
}

-- ---- runs

pub record AfterRun (actors : List Actor) (old : World) (handed : ℕ → Handed) (new : World) : Type 0 where
  pub kept : IsKept handed new
  pub count : new.worker_count ≡ old.worker_count
  pub advances : (v : ℕ) → Advances (turns_of v actors) (old.workers v) (new.workers v)

pub run : (handed : ℕ → Handed) (old new : World) (actors : List Actor) (events : List TurnEvent) → IsKept handed old → All (IsActor old.worker_count) actors → WorldRun old actors events new → AfterRun actors old (λ r. handed r ++ handed_at r events) new
run handed old new [] [] kept all e = subst (AfterRun [] old (λ r. handed r ++ [])) (sym e) (record { kept = subst (λ f. IsKept f old) (λ i r. sym (append-nil (handed r)) i) kept; count = refl; advances = λ v runs. (runs, omega arith) })
run handed old new [] (event ∷ events) kept all h = absurd h
run handed old new (actor ∷ actors) [] kept all h = absurd h
run handed old new (actor ∷ actors) (event ∷ events) kept all h =
    let next : World = h.0 in
    let first : AfterTurn actor old (λ r. handed r ++ handed_by r event) next = turn handed old next actor event kept (All-head (IsActor old.worker_count) actor actors all) h.1 in
    let rest : AfterRun actors next (λ r. (handed r ++ handed_by r event) ++ handed_at r events) new = run (λ r. handed r ++ handed_by r event) next new actors events first.kept (subst (λ n. All (IsActor n) actors) (sym first.count) (All-tail (IsActor old.worker_count) actor actors all)) h.2 in
    record {
      kept = subst (λ f. IsKept f new) (λ i r. append_assoc (handed r) (handed_by r event) (handed_at r events) i) rest.kept;
      count = rest.count ∙ first.count;
      advances = λ v runs.
          let late = rest.advances v runs in
          let early = first.advances v late.0 in
          (early.0, (let whole = count_by-cons (is_turn_of v) actor actors in let a = late.1 in let b = early.1 in omega arith));
    }

-- ---- the state at the end

module _ (world : World) (events : List TurnEvent) (kept : IsKept (λ r. handed_at r events) world) where
  holds-runs : (w id r p k : ℕ) (status : WorkerStatus) → w < world.worker_count → (world.workers w).status ≡ status → HoldsRecord (world.workers w) id r p k → IsIn status world.rings w (world.workers w) → Runs world.rings w (world.workers w)
  holds-runs w id r p k Running inside is h sound = sound
  holds-runs w id r p k (Finished n) inside is h sound = absurd (unheld ((world.workers w).held id) (record { ring = r; pos = p; serial = k }) (sound id) h.held)
  holds-runs w id r p k Halted inside is h sound = absurd sound
  holds-runs w id r p k Strayed inside is h sound = absurd sound

  runs-of : (w id r p k : ℕ) → w < world.worker_count → HoldsRecord (world.workers w) id r p k → Runs world.rings w (world.workers w)
  runs-of w id r p k inside h = holds-runs w id r p k (world.workers w).status inside refl h (kept.workers w inside)

  busy-of : (w id r p k : ℕ) → w < world.worker_count → HoldsRecord (world.workers w) id r p k → IsBusyAsHeld world w id r p k
  busy-of w id r p k inside h =
      let x = world.workers w in
      let there = tied-there world.rings w (size_of id x.state.memory.records) (x.held id) (record { ring = r; pos = p; serial = k }) ((runs-of w id r p k inside h).tied id) h.held in
      with_bytes_of (record_named id x.state.memory.records) refl there.0 there.1.0 there.1.1
    where
      with_bytes_of : (o : Option (List ℕ)) → record_named id (world.workers w).state.memory.records ≡ o → (n : ℕ) → option_map length o ≡ Some n → IsBusyIn world r p w k n → IsBusyAsHeld world w id r p k
      with_bytes_of None is n e busy = absurd (cc)
      with_bytes_of (Some bytes) is n e busy = let same : length bytes ≡ n = cc in (bytes, is, subst (λ m. IsBusyIn world r p w k m) (sym same) busy)

  finished-none : (w id : ℕ) → w < world.worker_count → HasFinished (world.workers w) → (world.workers w).held id ≡ None
  finished-none w id inside f = (subst (λ status. IsIn status world.rings w (world.workers w)) f.1 (kept.workers w inside)) id

  once-of : (w v id other r p j k : ℕ) → w < world.worker_count → v < world.worker_count → HoldsRecord (world.workers w) id r p j → HoldsRecord (world.workers v) other r p k → (w ≡ v) × (id ≡ other)
  once-of w v id other r p j k inside too h g =
      let a = busy-of w id r p j inside h in
      let b = busy-of v other r p k too g in
      let same : w ≡ v = (one-record (world.rings r).ring.setup (world.rings r).ring.history p w j (length a.0) v k (length b.0) (kept.rings r).legal a.2 b.2).0 in
      (same, (runs-of w id r p j inside h).once id other r p j k h (subst (λ i. HoldsRecord (world.workers i) other r p k) (sym same) g))

  finished-by : (w n : ℕ) (status : WorkerStatus) → (world.workers w).status ≡ status → IsIn status world.rings w (world.workers w) → unit_count (world.workers w).subject.program ≤ n → ((world.workers w).status ≡ Running → n ≤ (world.workers w).state.unit) → HasFinished (world.workers w)
  finished-by w n Running is sound enough on =
      let low : (world.workers w).state.unit < unit_count (world.workers w).subject.program = unit_inside (world.workers w).subject (world.workers w).state sound.can_step in
      let high : n ≤ (world.workers w).state.unit = on is in absurd (omega arith)
  finished-by w n (Finished v) is sound enough on = (v, is)
  finished-by w n Halted is sound enough on = absurd sound
  finished-by w n Strayed is sound enough on = absurd sound

  pub well : (actors : List Actor) → ((w : ℕ) → (world.workers w).status ≡ Running → turns_of w actors ≤ (world.workers w).state.unit) → IsWellRun actors events world
  well actors on = record {
    never_halted = λ w inside e. subst (λ status. IsIn status world.rings w (world.workers w)) e (kept.workers w inside);
    never_strayed = λ w inside e. subst (λ status. IsIn status world.rings w (world.workers w)) e (kept.workers w inside);
    finishes = λ w inside enough. finished-by w (turns_of w actors) (world.workers w).status refl (kept.workers w inside) enough (on w);
    finished_hold_none = finished-none;
    held_are_busy = busy-of;
    busy_are_held = λ r p w k n h. let c = kept.covered r p w k n h in (c.0, c.1.0, c.1.1);
    held_once = once-of;
    none_busy = λ all r p w k n h. let c = kept.covered r p w k n h in
        unheld ((world.workers w).held c.1.1.0) (record { ring = r; pos = p; serial = k }) (finished-none w c.1.1.0 c.0 (all w c.0)) c.1.1.1.held;
    rings = λ r. let b = kept.rings r in record { legal = b.legal; stands = b.stands; workers_are = b.workers_are; handed_at_most_once = b.handed_at_most_once; handed_once = b.handed_once; handed_submitted = b.handed_submitted; taken_as_handed = b.taken_as_handed; taken_in_order = (positions (records (world.rings r).ring.history), b.in_row) };
  }

pub every-interleaving : EveryInterleavingIsWell
every-interleaving first last actors events o all h =
    let after : AfterRun actors first (λ r. handed_at r events) last = run (λ r. []) first last actors events (opening first o) all h in
    well last events after.kept actors (λ w runs. let a = (after.advances w runs).1 in omega arith)

-- ---- reachable worlds

pub run-push : (old mid new : World) (actors : List Actor) (events : List TurnEvent) (actor : Actor) (event : TurnEvent) → WorldRun old actors events mid → WorldStep mid actor event new → WorldRun old (actors ++ actor ∷ []) (events ++ event ∷ []) new
run-push old mid new [] [] actor event run step = (new, subst (λ (w : World). WorldStep w actor event new) run step, refl)
run-push old mid new [] (e ∷ events) actor event run step = absurd run
run-push old mid new (a ∷ actors) [] actor event run step = absurd run
run-push old mid new (a ∷ actors) (e ∷ events) actor event run step = (run.0, run.1, run-push run.0 mid new actors events actor event run.2 step)

pub after-reached : (world : World) (x : IsReachedWorld world) → AfterRun x.actors x.first (λ r. handed_at r x.events) world
after-reached world x = run (λ r. []) x.first world x.actors x.events (opening x.first x.opens) x.there x.run

pub count-stays : (old new : World) (actor : Actor) (event : TurnEvent) → IsReachedWorld old → IsActor old.worker_count actor → WorldStep old actor event new → new.worker_count ≡ old.worker_count
count-stays old new actor event x inside step = (turn (λ r. handed_at r x.events) old new actor event (after-reached old x).kept inside step).count

pub leads-on : TurnsLeadOn
leads-on old new actor event x inside step =
    let kept = (after-reached old x).kept in
    let next : AfterTurn actor old (λ r. handed_at r x.events ++ handed_by r event) new = turn (λ r. handed_at r x.events) old new actor event kept inside step in
    record {
      first = x.first;
      actors = x.actors ++ actor ∷ [];
      events = x.events ++ event ∷ [];
      opens = x.opens;
      there = All-push (IsActor x.first.worker_count) x.actors actor x.there (subst (λ n. IsActor n actor) x.count inside);
      run = run-push x.first old new x.actors x.events actor event x.run step;
      count = next.count ∙ x.count;
    }

-- an opening is reached by no turn
pub opening-reached : (world : World) → IsOpeningWorld world → IsReachedWorld world
opening-reached world o = record { first = world; actors = []; events = []; opens = o; there = All-nil (IsActor world.worker_count); run = refl; count = refl }

pub reached-well : ReachedWorldsAreWell
reached-well world x = every-interleaving x.first world x.actors x.events x.opens x.there x.run
