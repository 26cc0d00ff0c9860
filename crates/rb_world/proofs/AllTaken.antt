-- Consumers that have enough turns after the last worker's turn take everything.
use Rattle.std.proofs.Common.{◌≡◌, ◌≢◌, ℕ, suc, ◌+◌, ◌≤◌, cond, List, [], ◌∷◌, length, refl, sym, ap, subst, ◌∙◌, ◌⊎◌, inl, inr, arith, length-append}
use Rattle.std.specs.List.{All, filter_map}
use Rattle.std.specs.Prelude.{map}
use Rattle.std.proofs.lemmas.List.Elements.{All-head, All-tail, filter_map-append}
use Rattle.rb_verifier.proofs.Counting.{count_by-cons}
use Rattle.rb_history.specs.declared.entries.Entry.TheVariants.{Take}
use Rattle.rb_history.specs.declared.answers.Taken.{Taken}
use Rattle.rb_history.specs.declared.answers.Taken.TheVariants.{Event, Skipped, BusyFront, Empty}
use Rattle.rb_history.specs.Span.{span}
use Rattle.rb_history.specs.History.{Shown, records}
use Rattle.rb_history.specs.RingModel.{Ring}
use Rattle.rb_history.specs.Calls as ring
use Rattle.rb_history.specs.inner.RecordRows.{InRow}
use Rattle.rb_history.proofs.Row.{InRow-le}
use Rattle.rb_history.proofs.Laws.{kept-from-legal}
use Rattle.rb_history.proofs.Standing.{grant-stands}
use Rattle.rb_world.specs.Worlds.{Finished, WorkerStatus, WorldRing, World, with_ring}
use Rattle.rb_world.specs.declared.actor.Actor.{Actor}
use Rattle.rb_world.specs.declared.actor.Actor.TheVariants.{Worker, Consumer, Keeper}
use Rattle.rb_world.specs.Turns.{TurnEvent, Went, HandedOver, Ended, GotStuck, GotBack, Idle, Took, HandedChapter, NoMemory, taken_by, TakesWorkerTurn, TakesConsumerTurn, TakesKeeperTurn, WorldStep, WorldRun}
use Rattle.rb_world.specs.OpeningWorld.{IsFreshRing, IsOpeningWorld, IsActor}
use Rattle.rb_world.specs.EveryInterleaving.{taken_position, handed_at, IsReachedWorld}
use Rattle.rb_world.specs.TakenTapes.{is_take_of, takes_of, AllHaveFinished, EnoughTakesLeaveNone}
use Rattle.rb_world.proofs.Tables.{eq_cases, placed-here, placed-else}
use Rattle.rb_world.proofs.TakenInOrder.{positions}
use Rattle.rb_world.proofs.RingSteps.{ledger, Keeps}
use Rattle.rb_world.proofs.WholeRuns.{AfterRun, run, opening, opening-reached, count-stays, leads-on, reached-well}
use Rattle.rb_world.proofs.RingTurns.{granted_count, granted-more}
use Rattle.rb_world.proofs.RingRuns.{IsLegalRing, TakesOf, RingTurn, Quietly, ByTake, kept-at, along}

-- ---- the numbers of records that were granted, that were taken, and that remain

abbrev taken_count : WorldRing → ℕ
taken_count b = length (filter_map taken_position b.taken)

abbrev grants_in : WorldRing → ℕ
grants_in b = granted_count b.ring.history

length-map : {X Y : Type 0} (f : X → Y) (xs : List X) → length (map f xs) ≡ length xs
length-map f [] = refl
length-map f (x ∷ xs) = ap suc (length-map f xs)

left-over : (workers : ℕ) (b : WorldRing) (handed : List (ℕ × ℕ × List ℕ)) → Keeps workers (ledger handed b) → grants_in b ≡ taken_count b + length (records b.ring.history)
left-over workers b handed k =
    ap length k.in_row ∙ length-append (filter_map taken_position b.taken) (positions (records b.ring.history)) ∙ ap (λ n. taken_count b + n) (length-map (λ s. s.pos) (records b.ring.history))

none-between : (c : ℕ) (ss : List Shown) → InRow c ss c → length ss ≡ 0
none-between c [] h = refl
none-between c (s ∷ ss) h = let low = InRow-le (c + span s.len) ss c h.1 in absurd (omega (arith, low))

none-left : (c p : ℕ) (ss : List Shown) → length ss ≡ 0 → InRow c ss p → c ≡ p
none-left c p [] none h = h
none-left c p (s ∷ ss) none h = absurd (omega (arith, none))

row-of : (b : WorldRing) → IsLegalRing b → InRow (ring.consumer_now b.ring) (records b.ring.history) (ring.producer_now b.ring)
row-of b l = (kept-from-legal b.ring.setup b.ring.history l).in_row

-- ---- work

-- a take grants nothing
take-grants : (found : Taken) (old new : WorldRing) → TakesOf found old new → grants_in new ≡ grants_in old
take-grants (Event p w k bytes) old new m = let one : grants_in new ≡ grants_in old + 0 = ap granted_count m.stepped.logged.history_is ∙ granted-more old.ring.history (Take p ∷ []) in omega (arith, one)
take-grants (Skipped p n) old new m = let one : grants_in new ≡ grants_in old + 0 = ap granted_count m.stepped.logged.history_is ∙ granted-more old.ring.history (Take p ∷ []) in omega (arith, one)
take-grants BusyFront old new m = ap (λ (v : Ring). granted_count v.history) m.stepped.same
take-grants Empty old new m = ap (λ (v : Ring). granted_count v.history) m.stepped.same

abbrev GrantsAtMost : ℕ → WorldRing → Type 0
GrantsAtMost n b = grants_in b ≤ n

one-turn : (n : ℕ) (old new : WorldRing) → IsLegalRing old → RingTurn old new → GrantsAtMost n old → GrantsAtMost (n + 1) new
one-turn n old new legal (Quietly q) few = omega (arith, q.one_more, few)
one-turn n old new legal (ByTake found m) few = omega (arith, take-grants found old new m, few)

fresh-grants : (workers : ℕ) (b : WorldRing) → IsFreshRing workers b → grants_in b ≤ 0
fresh-grants workers b f = let none : grants_in b ≡ 0 = ap (λ (v : Ring). granted_count v.history) f.ring_is in omega (arith, none)

pub grants-of-work : (first world : World) (actors : List Actor) (events : List TurnEvent) → IsOpeningWorld first → All (IsActor first.worker_count) actors → WorldRun first actors events world → (r : ℕ) → grants_in (world.rings r) ≤ length actors
grants-of-work first world actors events opens all h r =
    let few : grants_in (world.rings r) ≤ 0 + length actors = along (λ n b. GrantsAtMost n b) r one-turn 0 first world actors events (opening-reached first opens) all h (fresh-grants first.worker_count (first.rings r) (opens.rings r)) in omega (arith, few)

-- ---- takes

-- at least this many records were taken from a ring, or all that were granted
abbrev Enough : ℕ → WorldRing → Type 0
Enough n b = (n ≤ taken_count b) ⊎ (grants_in b ≡ taken_count b)

module _ (workers : ℕ) (old new : WorldRing) (handed more : List (ℕ × ℕ × List ℕ)) (was : Keeps workers (ledger handed old)) (is : Keeps workers (ledger more new)) (idle : (p w k n : ℕ) → ring.IsBusy old.ring.history p w k n → ⊥) (n : ℕ) where
  took-one : (found : Taken) → TakesOf found old new → taken_count new ≡ taken_count old + 1 → Enough n old → Enough (n + 1) new
  took-one found m one (inl enough) = inl (omega (arith, one, enough))
  took-one found m one (inr all) = let same = take-grants found old new m in let left = left-over workers new more is in absurd (omega (arith, one, all, same, left))

  count-more : (found : Taken) → TakesOf found old new → taken_count new ≡ taken_count old + length (filter_map taken_position (taken_by found))
  count-more found m = ap (λ l. length (filter_map taken_position l)) m.taken_are ∙ ap length (filter_map-append taken_position old.taken (taken_by found)) ∙ length-append (filter_map taken_position old.taken) (filter_map taken_position (taken_by found))

  pub take-turn : (found : Taken) → TakesOf found old new → Enough n old → Enough (n + 1) new
  take-turn (Event p w k bytes) m enough = took-one (Event p w k bytes) m (count-more (Event p w k bytes) m) enough
  take-turn (Skipped p len) m enough = took-one (Skipped p len) m (count-more (Skipped p len) m) enough
  take-turn BusyFront m enough =
      let front = m.stepped.front in
      let c = ring.consumer_now old.ring in
      let g = grant-stands old.ring.history c front.granted_is in
      absurd (idle c g.0 g.1.0 g.1.1.0 (record { granted_is = g.1.1.1; busy = front.busy }))
  take-turn Empty m enough =
      let none : length (records old.ring.history) ≡ 0 = none-between (ring.consumer_now old.ring) (records old.ring.history) (subst (λ p. InRow (ring.consumer_now old.ring) (records old.ring.history) p) m.stepped.all_taken (row-of old was.legal)) in
      let same = take-grants Empty old new m in
      let kept : taken_count new ≡ taken_count old + 0 = count-more Empty m in
      inr (omega (arith, left-over workers old handed was, none, same, kept))

-- ---- a run in which every worker has finished

record Drains (r grants takes : ℕ) (world : World) : Type 0 where
  reached : IsReachedWorld world
  finished : AllHaveFinished world
  grants_are : grants_in (world.rings r) ≡ grants
  enough : Enough takes (world.rings r)

module _ (r grants takes : ℕ) (old next : World) (d : Drains r grants takes old) where
  same-world : next ≡ old → Drains r grants takes next
  same-world e = subst (Drains r grants takes) (sym e) d

  idle-turn : (w : ℕ) (status : WorkerStatus) → (old.workers w).status ≡ status → (n : ℕ) → status ≡ Finished n → (event : TurnEvent) → TakesWorkerTurn w (old.workers w).status old event next → Drains r grants takes next
  idle-turn w status is n done event h = same-world (subst (λ s. TakesWorkerTurn w s old event next) (is ∙ done) h).1

  module _ (s : ℕ) (event : TurnEvent) (remembered : event ≢ NoMemory) (reached : IsReachedWorld next) where
    idle : (p w k n : ℕ) → ring.IsBusy (old.rings r).ring.history p w k n → ⊥
    idle p w k n b = (reached-well old d.reached).none_busy d.finished r p w k n b

    took : (found : Taken) (b : WorldRing) → TakesOf found (old.rings s) b → next ≡ with_ring s b old → Drains r grants (takes + cond {A = ℕ} (is_take_of r (Consumer s)) 1 0) next
    took found b m is = record {
      reached = reached;
      finished = subst AllHaveFinished (sym is) d.finished;
      grants_are = elim (eq_cases s r) [
        | inl same ↦ ap (λ x. grants_in x) (at-ring same.1) ∙ take-grants found (old.rings s) b m ∙ ap (λ i. grants_in (old.rings i)) same.1 ∙ d.grants_are
        | inr else ↦ ap (λ x. grants_in x) (elsewhere else.1) ∙ d.grants_are
      ];
      enough = elim (eq_cases s r) [
        | inl same ↦ rw same.0 (subst (Enough (takes + 1)) (sym (at-ring same.1)) (more same.1))
        | inr else ↦ rw else.0 (let kept : takes ≡ takes + 0 = omega arith in subst (λ n. Enough n (next.rings r)) kept (subst (Enough takes) (sym (elsewhere else.1)) d.enough))
      ];
    }
      where
        at-ring : s ≡ r → next.rings r ≡ b
        at-ring e = ap (λ (w : World). w.rings r) is ∙ placed-here s b old.rings r (sym e)

        elsewhere : s ≢ r → next.rings r ≡ old.rings r
        elsewhere ne = ap (λ (w : World). w.rings r) is ∙ placed-else s b old.rings r (λ e. ne (sym e))

        more : s ≡ r → Enough (takes + 1) b
        more e =
            let was = kept-at old d.reached r in
            let now = subst (λ x. Keeps next.worker_count (ledger (handed_at r reached.events) x)) (at-ring e) (kept-at next reached r) in
            let count : next.worker_count ≡ old.worker_count = ap (λ (w : World). w.worker_count) is in
            take-turn old.worker_count (old.rings r) b (handed_at r d.reached.events) (handed_at r reached.events) was (subst (λ n. Keeps n (ledger (handed_at r reached.events) b)) count now) idle takes found
            (subst (λ i. TakesOf found (old.rings i) b) e m) d.enough

    consumer-turn : TakesConsumerTurn s old event next → Drains r grants (takes + cond {A = ℕ} (is_take_of r (Consumer s)) 1 0) next
    consumer-turn h = by event remembered h
      where
        by : (event : TurnEvent) → event ≢ NoMemory → TakesConsumerTurn s old event next → Drains r grants (takes + cond {A = ℕ} (is_take_of r (Consumer s)) 1 0) next
        by (Took found) ne (b, m, is) = took found b m is
        by NoMemory ne h = absurd (ne refl)
        by Went ne h = absurd h
        by (HandedOver t w p bytes) ne h = absurd h
        by (Ended n) ne h = absurd h
        by GotStuck ne h = absurd h
        by GotBack ne h = absurd h
        by Idle ne h = absurd h
        by HandedChapter ne h = absurd h

  keeper-turn : (event : TurnEvent) → TakesKeeperTurn old event next → Drains r grants takes next
  keeper-turn HandedChapter h = same-world h
  keeper-turn NoMemory h = same-world h
  keeper-turn (Took found) h = absurd h
  keeper-turn Went h = absurd h
  keeper-turn (HandedOver t w p bytes) h = absurd h
  keeper-turn (Ended n) h = absurd h
  keeper-turn GotStuck h = absurd h
  keeper-turn GotBack h = absurd h
  keeper-turn Idle h = absurd h

  none-more : Drains r grants takes next → Drains r grants (takes + 0) next
  none-more x = let same : takes ≡ takes + 0 = omega arith in subst (λ n. Drains r grants n next) same x

  actor-turn : (actor : Actor) (event : TurnEvent) → IsActor old.worker_count actor → event ≢ NoMemory → IsReachedWorld next → WorldStep old actor event next → Drains r grants (takes + cond {A = ℕ} (is_take_of r actor) 1 0) next
  actor-turn (Worker w) event here remembered reached h = let f = d.finished w here in none-more (idle-turn w (old.workers w).status refl f.0 f.1 event h)
  actor-turn (Consumer s) event here remembered reached h = consumer-turn s event remembered reached h
  actor-turn (Keeper s) event here remembered reached h = none-more (keeper-turn event h)

drain : (r grants takes : ℕ) (old new : World) (actors : List Actor) (events : List TurnEvent) → All (IsActor old.worker_count) actors → WorldRun old actors events new → All (λ event. event ≢ NoMemory) events → Drains r grants takes old
    → Drains r grants (takes + takes_of r actors) new
drain r grants takes old new [] [] all h remembered d = let same : takes ≡ takes + 0 = omega arith in subst (λ n. Drains r grants n new) same (subst (Drains r grants takes) (sym h) d)
drain r grants takes old new [] (event ∷ events) all h remembered d = absurd h
drain r grants takes old new (actor ∷ actors) [] all h remembered d = absurd h
drain r grants takes old new (actor ∷ actors) (event ∷ events) all h remembered d =
    let next : World = h.0 in
    let here : IsActor old.worker_count actor = All-head (IsActor old.worker_count) actor actors all in
    let reached : IsReachedWorld next = leads-on old next actor event d.reached here h.1 in
    let count : next.worker_count ≡ old.worker_count = count-stays old next actor event d.reached here h.1 in
    let first = actor-turn r grants takes old next d actor event here (All-head (λ e. e ≢ NoMemory) event events remembered) reached h.1 in
    let rest = drain r grants (takes + cond {A = ℕ} (is_take_of r actor) 1 0) next new actors events (subst (λ m. All (IsActor m) actors) (sym count) (All-tail (IsActor old.worker_count) actor actors all)) h.2
    (All-tail (λ e. e ≢ NoMemory) event events remembered) first in
    let same : takes + cond {A = ℕ} (is_take_of r actor) 1 0 + takes_of r actors ≡ takes + takes_of r (actor ∷ actors) = omega (arith, count_by-cons (is_take_of r) actor actors) in
    subst (λ n. Drains r grants n new) same rest

all-out : (workers takes : ℕ) (b : WorldRing) (handed : List (ℕ × ℕ × List ℕ)) → Keeps workers (ledger handed b) → grants_in b ≤ takes → Enough takes b → ring.AllTaken b.ring
all-out workers takes b handed k few (inl enough) =
    let none : length (records b.ring.history) ≡ 0 = omega (arith, left-over workers b handed k, few, enough) in
    sym (none-left (ring.consumer_now b.ring) (ring.producer_now b.ring) (records b.ring.history) none (row-of b k.legal))
all-out workers takes b handed k few (inr all) =
    let none : length (records b.ring.history) ≡ 0 = omega (arith, left-over workers b handed k, all) in
    sym (none-left (ring.consumer_now b.ring) (ring.producer_now b.ring) (records b.ring.history) none (row-of b k.legal))

pub enough-takes : EnoughTakesLeaveNone
enough-takes first mid last work takes worked taken opens workers worked_is finished takers taken_is remembered r enough =
    let after : AfterRun work first (λ s. handed_at s worked) mid = run (λ s. []) first mid work worked (opening first opens) workers worked_is in
    let reached : IsReachedWorld mid = record { first = first; actors = work; events = worked; opens = opens; there = workers; run = worked_is; count = after.count } in
    let few = grants-of-work first mid work worked opens workers worked_is r in
    let begun : Drains r (grants_in (mid.rings r)) 0 mid = record { reached = reached; finished = finished; grants_are = refl; enough = inl (omega arith) } in
    let end = drain r (grants_in (mid.rings r)) 0 mid last takes taken (subst (λ n. All (IsActor n) takes) (sym after.count) takers) taken_is remembered begun in
    let low : grants_in (last.rings r) ≤ takes_of r takes = omega (arith, end.grants_are, few, enough) in
    let same : 0 + takes_of r takes ≡ takes_of r takes = omega arith in
    all-out last.worker_count (takes_of r takes) (last.rings r) (handed_at r end.reached.events) (kept-at last end.reached r) low (subst (λ n. Enough n (last.rings r)) same end.enough)
