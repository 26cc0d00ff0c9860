-- The busy records of a ring are those that its unfinished workers hold, and take at most the bytes that these may
-- hold.
use Rattle.std.proofs.Common.{◌≡◌, ◌≢◌, inl, inr, ⊎_elim, ℕ, ◌+◌, ◌<◌, ◌≤◌, refl, sym, ◌∙◌, ap, subst, Bool, true, false, cond, List, [], ◌∷◌, length, get_or, Option, Some, None, arith}
use Rattle.std.specs.Prelude.{◌==◌}
use Rattle.std.specs.List.{All, AllByRecursion, sum_by}
use Rattle.std.proofs.lemmas.Bool.{cases_eq, eq-eqb, ne_eqb, eqb-true}
use Rattle.std.proofs.lemmas.List.Sums.{sum_by-cons, sum_by-le-sum_by}
use Rattle.rb_verifier.specs.declared.references.Reference.{Reference}
use Rattle.rb_semantics.specs.ProgramMemory.{record_named}
use Rattle.rb_semantics.specs.Agreement.{AreHeld}
use Rattle.rb_history.specs.declared.entries.Entry.{Entry}
use Rattle.rb_history.specs.Span.{span}
use Rattle.rb_history.specs.RoomRule.{Setup}
use Rattle.rb_history.specs.History.{Shown, Status, records, producer_of, consumer_of}
use Rattle.rb_history.specs.History.Status.{Busy, Waiting, Consumed, Discarded}
use Rattle.rb_history.specs.Counting.{is_same}
use Rattle.rb_history.specs.Calls.{IsBusy}
use Rattle.rb_history.specs.WorkerCounts.{numbers_below}
use Rattle.rb_history.specs.inner.RecordRows.{InRow}
use Rattle.rb_history.proofs.Laws.{kept-from-legal}
use Rattle.rb_history.proofs.Steps.{Named, named}
use Rattle.rb_history.proofs.Standing.{head-status}
use Rattle.rb_history.proofs.TakenRecords.{span-of}
use Rattle.rb_cost.specs.declared.cost.Cost.{Cost}
use Rattle.rb_cost.specs.Cost.{IsCost}
use Rattle.rb_cost.specs.Requests.{held_span}
use Rattle.rb_cost.specs.Runs.{ring_of, ring_cost_at}
use Rattle.rb_world.specs.declared.actor.Actor.{Actor}
use Rattle.rb_world.specs.Worlds.{RecordPlace, HeldRecords, WorkerStatus, Running, Finished, Halted, Strayed, WorkerState, World}
use Rattle.rb_world.specs.Turns.{TurnEvent, WorldRun}
use Rattle.rb_world.specs.OpeningWorld.{BeginsVerified, IsOpeningWorld, IsActor}
use Rattle.rb_world.specs.EveryInterleaving.{HoldsRecord, IsWellRun}
use Rattle.rb_world.proofs.WholeRuns.{every-interleaving}
use Rattle.rb_run_cost.specs.WorldCosts.{busy_bytes, held_by_status, may_hold, BusyBytesAreBounded}
use Rattle.rb_run_cost.proofs.Sums.{sum-none, sum-swap, sum-below, below-contained, below-numbers, one_among, one-at}
use Rattle.rb_run_cost.proofs.WorkersCome.{HasRun, come, AllRun, all_start, all_run}

-- a record with this status is busy by the test on statuses
is_busy : (status : Status) → is_same status Busy ≡ true → status ≡ Busy
is_busy Busy e = refl
is_busy Waiting e = absurd (cc)
is_busy Consumed e = absurd (cc)
is_busy Discarded e = absurd (cc)

-- a held record is at this position
abbrev stands_at : Option RecordPlace → ℕ → Bool
stands_at None p = false
stands_at (Some place) p = p == place.pos

-- ---- one worker's records

module _ (r : ℕ) (held : HeldRecords) where
  -- the bytes that a reference counts for a record at a position
  abbrev share : ℕ → Reference → ℕ
  share p q = cond (stands_at (held q.id) p) (held_span r q) 0

  -- the reference of a held record counts the record's span
  counted : (ring : ℕ → Option ℕ) (id p k : ℕ) (bytes : List ℕ) → held id ≡ Some (record { ring = r; pos = p; serial = k }) → ring id ≡ Some r → (refs : List Reference) (memory : List (ℕ × List ℕ)) → AreHeld refs memory
      → AllByRecursion (λ q. ring q.id ≡ Some q.ring) refs → record_named id memory ≡ Some bytes → span (length bytes) ≤ sum_by (share p) refs
  counted ring id p k bytes is on [] [] h known there = absurd (cc)
  counted ring id p k bytes is on [] (x ∷ memory) h known there = absurd h
  counted ring id p k bytes is on (q ∷ refs) [] h known there = absurd (cc)
  counted ring id p k bytes is on (q ∷ refs) (x ∷ memory) h known there =
      let more : sum_by (share p) (q ∷ refs) ≡ share p q + sum_by (share p) refs = sum_by-cons (share p) q refs in
      elim h [
        | inl here ↦ ⊎_elim
            (λ same.
            let bytes_is : Some x.1 ≡ Some bytes = sym (ap (λ b. cond b (Some x.1) (record_named id memory)) (eq-eqb x.0 id same)) ∙ there in
            let bytes_same : x.1 ≡ bytes = cc in
            let size : length bytes ≡ q.size = ap length (sym bytes_same) ∙ here.1 in
            let id_is : q.id ≡ id = here.0 ∙ same in
            let ring_both : Some q.ring ≡ Some r = sym known.0 ∙ (ap ring id_is ∙ on) in
            let ring_is : q.ring ≡ r = cc in
            let stands : stands_at (held q.id) p ≡ true = ap (λ i. stands_at (held i) p) id_is ∙ (ap (λ o. stands_at o p) is ∙ eq-eqb p p refl) in
            let spans : held_span r q ≡ span (length bytes) = ap (λ b. cond b (span q.size) 0) (eq-eqb q.ring r ring_is) ∙ ap span (sym size) in
            let mine : share p q ≡ span (length bytes) = ap (λ b. cond b (held_span r q) 0) stands ∙ spans in
            omega arith)
            (λ ne.
            let rest_there : record_named id memory ≡ Some bytes = sym (ap (λ b. cond b (Some x.1) (record_named id memory)) (ne_eqb x.0 id ne)) ∙ there in
            let rest : span (length bytes) ≤ sum_by (share p) refs = counted ring id p k bytes is on refs memory here.2 known.1 rest_there in
            omega arith)
            (cases_eq x.0 id)
        | inr missing ↦ let rest : span (length bytes) ≤ sum_by (share p) refs = counted ring id p k bytes is on refs (x ∷ memory) missing.1 known.1 there in omega arith
      ]

  -- a reference counts for at most one of consecutive records
  shared_once : (q : Reference) (from : ℕ) (ss : List Shown) (to : ℕ) → InRow from ss to → sum_by (λ s. share s.pos q) ss ≤ held_span r q
  shared_once q from ss to row = by_place (held q.id)
    where
      by_place : (place : Option RecordPlace) → sum_by (λ s. cond (stands_at place s.pos) (held_span r q) 0) ss ≤ held_span r q
      by_place None = let none : sum_by (λ (s : Shown). 0) ss ≡ 0 = sum-none (λ (s : Shown). 0) ss (λ s. refl) in omega arith
      by_place (Some place) = one-at (held_span r q) place.pos from ss to row

  -- so what the references count for the records is within what is known to be held
  shared_within : (refs : List Reference) (from : ℕ) (ss : List Shown) (to : ℕ) → InRow from ss to → sum_by (λ s. sum_by (share s.pos) refs) ss ≤ sum_by (held_span r) refs
  shared_within refs from ss to row =
      let swapped : sum_by (λ s. sum_by (share s.pos) refs) ss ≡ sum_by (λ q. sum_by (λ s. share s.pos q) ss) refs = sum-swap (λ (s : Shown) (q : Reference). share s.pos q) ss refs in
      let each : sum_by (λ q. sum_by (λ s. share s.pos q) ss) refs ≤ sum_by (held_span r) refs = sum_by-le-sum_by (λ q. sum_by (λ s. share s.pos q) ss) (held_span r) refs (λ q. shared_once q from ss to row) in
      omega arith

-- ---- all workers

-- the bytes of a busy record
abbrev busy_span : Shown → ℕ
busy_span s = cond (is_same s.status Busy) (span s.len) 0

-- the bytes of one worker's busy record
abbrev busy_of : ℕ → Shown → ℕ
busy_of w s = cond (s.worker == w) (busy_span s) 0

module _ (first last : World) (actors : List Actor) (events : List TurnEvent) (costs : ℕ → Cost) (r : ℕ) (opens : IsOpeningWorld first) (there : All (IsActor first.worker_count) actors) (run : WorldRun first actors events last)
    (exact : (w : ℕ) → w < first.worker_count → IsCost (first.workers w).subject (costs w)) (knows : (w : ℕ) → w < first.worker_count → r < (first.workers w).subject.rings) where
  well : IsWellRun actors events last
  well = every-interleaving first last actors events opens there run

  came : AllRun first opens last
  came = all_run first opens first actors events last (all_start first opens) run

  abbrev h : List Entry
  h = (last.rings r).ring.history

  abbrev setup : Setup
  setup = (last.rings r).ring.setup

  row : InRow (consumer_of setup.start h) (records h) (producer_of setup.start h)
  row = (kept-from-legal setup h (well.rings r).legal).in_row

  -- a busy record is held by a running worker
  busy_at : (s : Shown) → Named h h s → is_same s.status Busy ≡ true → IsBusy h s.pos s.worker s.serial s.len
  busy_at s n busy = record { granted_is = n.stands; busy = head-status h s n ∙ is_busy s.status busy }

  -- ---- one worker

  module _ (w : ℕ) (lt : w < first.worker_count) where
    x : WorkerState
    x = last.workers w

    o : BeginsVerified (first.workers w)
    o = opens.workers w lt

    runner : HasRun (first.workers w) (last.workers w)
    runner = came.each w lt

    -- each of its records is counted by a reference
    one_counted : (runs : (last.workers w).status ≡ Running) (s : Shown) → Named h h s → busy_of w s ≤ sum_by (share r (last.workers w).held s.pos) (o.verified.0 (last.workers w).state.unit).held
    one_counted runs s n = by_tests (s.worker == w) refl (is_same s.status Busy) refl
      where
        by_tests : (mine : Bool) → (s.worker == w) ≡ mine → (busy : Bool) → is_same s.status Busy ≡ busy → cond mine (cond busy (span s.len) 0) 0 ≤ sum_by (share r (last.workers w).held s.pos) (o.verified.0 (last.workers w).state.unit).held
        by_tests false is busy b = omega arith
        by_tests true is false b = omega arith
        by_tests true is true b =
            let stage = runner.came runs in
            let come_here = come (first.workers w) o (last.workers w).state stage.before stage.moments in
            let c = well.busy_are_held r s.pos s.worker s.serial s.len (busy_at s n b) in
            let worker : s.worker ≡ w = eqb-true s.worker w is in
            let holds : HoldsRecord (last.workers w) c.2.0 r s.pos s.serial = subst (λ v. HoldsRecord (last.workers v) c.2.0 r s.pos s.serial) worker c.2.1 in
            let busy = well.held_are_busy w c.2.0 r s.pos s.serial (subst (λ n. w < n) (sym came.count) lt) holds in
            let on = (stage.rings c.2.0 _ holds.held).1 in
            let counts : span (length busy.0) ≤ sum_by (share r (last.workers w).held s.pos) (o.verified.0 (last.workers w).state.unit).held =
            counted r (last.workers w).held (ring_of (first.workers w).subject.program stage.before) c.2.0 s.pos s.serial busy.0 holds.held on (o.verified.0 (last.workers w).state.unit).held (last.workers w).state.memory.records come_here.can.agrees.records come_here.rings busy.1 in
            let single = (kept-from-legal setup h (well.rings r).legal).single s.pos n.granted_is in
            let first_span = span-of s.worker s.serial s.len s.pos h (omega arith) n.stands in
            let second_span = span-of w s.serial (length busy.0) s.pos h (omega arith) busy.2.granted_is in
            omega arith

    -- a running worker
    runs_within : (last.workers w).status ≡ Running → sum_by (busy_of w) (records h) ≤ (ring_cost_at (costs w) r).held_bytes
    runs_within runs =
        let stage = runner.came runs in
        let come_here = come (first.workers w) o (last.workers w).state stage.before stage.moments in
        let refs : List Reference = (o.verified.0 (last.workers w).state.unit).held in
        let each : sum_by (busy_of w) (records h) ≤ sum_by (λ s. sum_by (share r (last.workers w).held s.pos) refs) (records h) =
        sum-below (busy_of w) (λ s. sum_by (share r (last.workers w).held s.pos) refs) (records h) (λ i d inside. one_counted runs (get_or (records h) i d) (named h h i d inside)) in
        let shared : sum_by (λ s. sum_by (share r (last.workers w).held s.pos) refs) (records h) ≤ sum_by (held_span r) refs = shared_within r (last.workers w).held refs (consumer_of setup.start h) (records h) (producer_of setup.start h) row in
        let most : sum_by (held_span r) refs ≤ (ring_cost_at (costs w) r).held_bytes = ((exact w lt o.verified.0 o.verified.1).rings r (knows w lt)).held_bytes.most (last.workers w).state.unit come_here.can.begins in
        omega arith

    -- a worker that no longer runs has no busy record
    ended_none : (last.workers w).status ≢ Running → sum_by (busy_of w) (records h) ≤ 0
    ended_none not =
        let each : sum_by (busy_of w) (records h) ≤ sum_by (λ (s : Shown). 0) (records h) = sum-below (busy_of w) (λ (s : Shown). 0) (records h) (λ i d inside. none_here (get_or (records h) i d) (named h h i d inside)) in
        let none : sum_by (λ (s : Shown). 0) (records h) ≡ 0 = sum-none (λ (s : Shown). 0) (records h) (λ s. refl) in
        omega arith
      where
        none_here : (s : Shown) → Named h h s → busy_of w s ≤ 0
        none_here s n = by_tests (s.worker == w) refl (is_same s.status Busy) refl
          where
            by_tests : (mine : Bool) → (s.worker == w) ≡ mine → (busy : Bool) → is_same s.status Busy ≡ busy → cond mine (cond busy (span s.len) 0) 0 ≤ 0
            by_tests false is busy b = omega arith
            by_tests true is false b = omega arith
            by_tests true is true b =
                let c = well.busy_are_held r s.pos s.worker s.serial s.len (busy_at s n b) in
                absurd (not (subst (λ v. (last.workers v).status ≡ Running) (eqb-true s.worker w is) c.1))

    worker_within : sum_by (busy_of w) (records h) ≤ may_hold last costs r w
    worker_within = by_status (last.workers w).status refl
      where
        by_status : (status : WorkerStatus) → (last.workers w).status ≡ status → sum_by (busy_of w) (records h) ≤ held_by_status status (ring_cost_at (costs w) r).held_bytes
        by_status Running is = runs_within is
        by_status (Finished n) is = ended_none (λ e. let f : Finished n ≡ Running = sym is ∙ e in cc)
        by_status Halted is = ended_none (λ e. let f : Halted ≡ Running = sym is ∙ e in cc)
        by_status Strayed is = ended_none (λ e. let f : Strayed ≡ Running = sym is ∙ e in cc)

  -- ---- all workers

  -- every busy record belongs to some worker
  of_workers : (s : Shown) → Named h h s → busy_span s ≤ sum_by (λ w. busy_of w s) (numbers_below first.worker_count)
  of_workers s n = by_test (is_same s.status Busy) refl
    where
      by_test : (busy : Bool) → is_same s.status Busy ≡ busy → cond busy (span s.len) 0 ≤ sum_by (λ w. cond (s.worker == w) (cond busy (span s.len) 0) 0) (numbers_below first.worker_count)
      by_test false b = omega arith
      by_test true b =
          let c = well.busy_are_held r s.pos s.worker s.serial s.len (busy_at s n b) in
          one_among s.worker (span s.len) (numbers_below first.worker_count) (below-contained first.worker_count s.worker (subst (λ n. s.worker < n) came.count c.0))

  bounded : busy_bytes h ≤ sum_by (may_hold last costs r) (numbers_below first.worker_count)
  bounded =
      let each : sum_by busy_span (records h) ≤ sum_by (λ s. sum_by (λ w. busy_of w s) (numbers_below first.worker_count)) (records h) =
      sum-below busy_span (λ s. sum_by (λ w. busy_of w s) (numbers_below first.worker_count)) (records h) (λ i d inside. of_workers (get_or (records h) i d) (named h h i d inside)) in
      let swapped : sum_by (λ s. sum_by (λ w. busy_of w s) (numbers_below first.worker_count)) (records h) ≡ sum_by (λ w. sum_by (busy_of w) (records h)) (numbers_below first.worker_count) =
      sum-swap (λ (s : Shown) (w : ℕ). busy_of w s) (records h) (numbers_below first.worker_count) in
      let workers : sum_by (λ w. sum_by (busy_of w) (records h)) (numbers_below first.worker_count) ≤ sum_by (may_hold last costs r) (numbers_below first.worker_count) =
      below-numbers (λ w. sum_by (busy_of w) (records h)) (may_hold last costs r) first.worker_count (λ w lt. worker_within w lt) in
      omega arith

pub busy_bounded : BusyBytesAreBounded
busy_bounded first last actors events costs r opens there run exact knows = bounded first last actors events costs r opens there run exact knows
