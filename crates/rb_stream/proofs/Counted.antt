-- What each worker did and counted, and what all did and counted together.
use Rattle.std.proofs.Common.{◌≡◌, ℕ, zero, suc, ◌+◌, ◌<◌, ◌≤◌, ◌==◌, ◌⊎◌, inl, inr, ◌||◌, Bool, true, false, cond, List, [], ◌∷◌, ◌++◌, length, length-append, get_or, map, refl, ap, sym, ◌∙◌, subst, ⊎_elim, arith}
use Rattle.std.proofs.lemmas.Bool.{true≢false}
use Rattle.std.proofs.lemmas.Bool.Decides.{leb_tells}
use Rattle.std.proofs.lemmas.List.{get_or-map, get_or_default, length-map, map-append}
use Rattle.std.proofs.lemmas.List.Elements.{filter-append}
use Rattle.std.proofs.lemmas.List.Sums.{sum_by-append}
use Rattle.std.proofs.lemmas.Option.{slice_get-get_or}
use Rattle.std.specs.List.{count_by, filter, list_any, sum_by}
use Rattle.std.specs.Prelude.{nat_le}
use Rattle.rb_verifier.specs.Subject.{Subject}
use Rattle.rb_ledger.specs.Seats.{WorkerSeat}
use Rattle.rb_dealing.specs.Dealt.{dealt_to, saturated}
use Rattle.rb_dealing.specs.Streams.{RunsStream}
use Rattle.rb_dealing.specs.declared.reader.Dealt.{Dealt}
use Rattle.rb_dealing.specs.declared.lane.Lane.{Lane}
use Rattle.rb_stream_worker.specs.Results.{raised, times_of, times_from}
use Rattle.rb_stream_worker.specs.Tasks.{TaskRun}
use Rattle.rb_stream_worker.specs.ContextRuns.{IsNewCounts, IsReadyWorker, RunsContexts, WorkerRuns, results_of}
use Rattle.rb_stream_worker.specs.declared.stream_counts.StreamCounts.{StreamCounts}
use Rattle.rb_stream_worker.specs.declared.stream_worker.StreamWorker.{StreamWorker}
use Rattle.rb_stream_worker.specs.declared.when_full.WhenFull.{WhenFull}
use Rattle.rb_stream.specs.Streamed.{CountsEach, RunsFirst, of_all, unlogged_in}
use Rattle.rb_stream.specs.inner.Counts.{AddsCounts, SameTables, below_in, below_of, other_in, other_of}
use Rattle.rb_stream.specs.inner.Runs.{StreamRan}
use Rattle.rb_stream.proofs.OfAll.{counted_together}

-- ---- numbers and lists

-- raising a count of 0
pub raised_zero : (count n : ℕ) → count ≡ 0 → raised count n ≡ saturated n
raised_zero count n e = omega (arith, e)

pub element_of : {A : Type 0} (xs : List A) (k : ℕ) → k < length xs → A
element_of [] k below = absurd (omega arith)
element_of (x ∷ xs) k below = x

or_parts : (a b : Bool) → (a || b) ≡ false → (a ≡ false) × (b ≡ false)
or_parts true b e = absurd (true≢false e)
or_parts false b e = (refl, e)

none_of : {A : Type 0} (f : A → Bool) (xs : List A) → list_any f xs ≡ false → (k : ℕ) (d : A) → k < length xs → f (get_or xs k d) ≡ false
none_of f [] e k d below = absurd (omega arith)
none_of f (x ∷ xs) e zero d below = (or_parts (f x) (list_any f xs) e).0
none_of f (x ∷ xs) e (suc k) d below = none_of f xs (or_parts (f x) (list_any f xs) e).1 k d (omega arith)

below_or_not : (k n : ℕ) → (k < n) ⊎ (n ≤ k)
below_or_not k n = ⊎_elim (λ is. inl (omega (arith, is.1))) (λ above. inr (omega (arith, above.1))) (leb_tells (suc k) n)

-- a value for each number below n
module _ {A : Type 0} (P : ℕ → A → Type 0) (n : ℕ) (default : A) (each : (k : ℕ) → k < n → (a : A) × P k a) where
  picked : (k : ℕ) → (k < n) ⊎ (n ≤ k) → A
  picked k (inl below) = (each k below).0
  picked k (inr above) = default

  picked_holds : (k : ℕ) (c : (k < n) ⊎ (n ≤ k)) → k < n → P k (picked k c)
  unfolding picked
  picked_holds k (inl below) inside = (each k below).1
  picked_holds k (inr above) inside = absurd (omega (arith, above, inside))

  pub choose : (pick : ℕ → A) × ((k : ℕ) → k < n → P k (pick k))
  choose = ((λ k. picked k (below_or_not k n)), (λ k below. picked_holds k (below_or_not k n) below))

-- ---- one worker

pub record Part : Type 0 where
  pub runs : List TaskRun
  pub done : List (List ℕ)
  pub left : List (List ℕ)

-- these are the worker's runs, and the contexts that it ran and left of those that it got; it counted them
pub record IsPart (worker : ℕ) (programs : List Subject) (full : WhenFull) (bound : ℕ) (contexts : List (List ℕ)) (old new : List WorkerSeat) (counts : StreamCounts) (part : Part) : Type 0 where
  pub dealt_is : contexts ≡ part.done ++ part.left
  pub first : RunsFirst full worker programs part.runs part.done part.left old new
  pub none_left : counts.stopped ≡ false → part.left ≡ []
  pub contexts_is : counts.contexts ≡ saturated (length part.done)
  pub left_is : counts.left ≡ saturated (length part.left)
  pub unlogged_is : counts.unlogged ≡ saturated (unlogged_in part.runs)
  pub below_are : (p r : ℕ) → p < length programs → r < bound → below_of p r counts ≡ saturated (times_of r (results_of p part.runs))
  pub other_are : (p : ℕ) → p < length programs → other_of p counts ≡ saturated (times_from bound (results_of p part.runs))

part_of : (worker : ℕ) (programs : List Subject) (full : WhenFull) (bound : ℕ) (contexts : List (List ℕ)) (old new : List WorkerSeat) (before after : StreamCounts) → IsNewCounts (length programs) bound before
    → RunsContexts full worker programs contexts old new before after → (part : Part) × IsPart worker programs full bound contexts old new after part
part_of worker programs full bound contexts old new before after none ran =
    let c = ran.counted in
    let long : length before.results.items ≡ length programs = none.as_many in
    let many : length after.results.items ≡ length before.results.items = c.as_many in
    let runs = ran.runs in (
      record { runs = ran.runs; done = ran.done; left = ran.left },
      record {
        dealt_is = ran.contexts_are;
        first = record { begun = ran.begun; begun_of = ran.begun_of; tasks_are = ran.tasks_are; in_turn = ran.in_turn };
        none_left = ran.all_done;
        contexts_is = ran.contexts_counted ∙ raised_zero before.contexts (length ran.done) none.contexts_are;
        left_is = ran.left_counted ∙ raised_zero before.left (length ran.left) none.left_is;
        unlogged_is = c.unlogged_is ∙ raised_zero before.unlogged (unlogged_in ran.runs) none.unlogged_is;
        below_are = λ p r inside low.
            let d = element_of before.results.items p (omega (arith, long, inside)) in
            let one = c.results_are p d (omega (arith, long, inside)) in
            let z = none.results_are p d inside in
            ap (below_in r) (slice_get-get_or after.results.items p d (omega (arith, many, long, inside)))
            ∙ (one.below_are r 0 (omega (arith, z.bound_is, low)) ∙ raised_zero (get_or (get_or before.results.items p d).below.items r 0) (times_of r (results_of p ran.runs)) (z.below_are r 0 low));
        other_are = λ p inside.
            let d = element_of before.results.items p (omega (arith, long, inside)) in
            let one = c.results_are p d (omega (arith, long, inside)) in
            let z = none.results_are p d inside in
            let own = (get_or before.results.items p d).other in
            ap other_in (slice_get-get_or after.results.items p d (omega (arith, many, long, inside)))
            ∙ (one.other_is ∙ (ap (λ b. raised own (times_from b (results_of p ran.runs))) z.bound_is ∙ raised_zero own (times_from bound (results_of p ran.runs)) z.other_is));
      },
    )

-- the sizes of its tables do not change
pub tables_of : (worker : ℕ) (programs : List Subject) (full : WhenFull) (bound : ℕ) (contexts : List (List ℕ)) (old new : List WorkerSeat) (before after total : StreamCounts) → IsNewCounts (length programs) bound before → IsNewCounts (length programs) bound total
    → RunsContexts full worker programs contexts old new before after → SameTables after total
tables_of worker programs full bound contexts old new before after total none zeros ran =
    let c = ran.counted in
    record {
      as_many = c.as_many ∙ (none.as_many ∙ sym zeros.as_many);
      bounds_same = λ p d inside.
          let long : p < length programs = omega (arith, inside, zeros.as_many) in
          (c.results_are p d (omega (arith, long, none.as_many))).same_bound ∙ ((none.results_are p d long).bound_is ∙ sym (zeros.results_are p d long).bound_is);
    }

-- ---- all workers

-- how often results of this kind are among those of a program's runs
abbrev times : (ℕ → Bool) → ℕ → List TaskRun → ℕ
times test p runs = count_by test (results_of p runs)

times-append : (test : ℕ → Bool) (p : ℕ) (xs ys : List TaskRun) → times test p (xs ++ ys) ≡ times test p xs + times test p ys
times-append test p xs ys =
    let own = λ (run : TaskRun). run.task.program == p in
    let result = λ (run : TaskRun). run.result in
    ap (count_by test) (ap (map result) (filter-append own xs ys) ∙ map-append result (filter own xs) (filter own ys))
    ∙ sum_by-append (λ (n : ℕ). cond (test n) 1 0) (results_of p xs) (results_of p ys)

module _ (programs : List Subject) (full : WhenFull) (bound : ℕ) (contexts : ℕ → List (List ℕ)) (old new : ℕ → List WorkerSeat) (all : List StreamCounts) (pick : ℕ → Part)
    (parts : (k : ℕ) → k < length all → (d : StreamCounts) → IsPart k programs full bound (contexts k) (old k) (new k) (get_or all k d) (pick k))
    (before total : StreamCounts) (none : IsNewCounts (length programs) bound before) (added : AddsCounts all before total) where
  all_contexts : total.contexts ≡ saturated (length (of_all (length all) (λ k. (pick k).done)))
  all_contexts =
      added.contexts_is ∙ (raised_zero before.contexts (sum_by (λ (c : StreamCounts). c.contexts) all) none.contexts_are
      ∙ counted_together (λ (c : StreamCounts). c.contexts) all length (λ k. (pick k).done) refl length-append (λ k d below. (parts k below d).contexts_is))

  all_left : total.left ≡ saturated (length (of_all (length all) (λ k. (pick k).left)))
  all_left =
      added.left_is ∙ (raised_zero before.left (sum_by (λ (c : StreamCounts). c.left) all) none.left_is
      ∙ counted_together (λ (c : StreamCounts). c.left) all length (λ k. (pick k).left) refl length-append (λ k d below. (parts k below d).left_is))

  all_unlogged : total.unlogged ≡ saturated (unlogged_in (of_all (length all) (λ k. (pick k).runs)))
  all_unlogged =
      added.unlogged_is ∙ (raised_zero before.unlogged (sum_by (λ (c : StreamCounts). c.unlogged) all) none.unlogged_is
      ∙ counted_together (λ (c : StreamCounts). c.unlogged) all unlogged_in (λ k. (pick k).runs) refl (sum_by-append (λ (run : TaskRun). run.unlogged)) (λ k d below. (parts k below d).unlogged_is))

  none_left_of : total.stopped ≡ false → (k : ℕ) → k < length all → (pick k).left ≡ []
  none_left_of e k below =
      let d = element_of all k below in
      let both = or_parts before.stopped (list_any (λ (c : StreamCounts). c.stopped) all) (sym added.stopped_is ∙ e) in
      (parts k below d).none_left (none_of (λ (c : StreamCounts). c.stopped) all both.1 k d below)

  all_results : CountsEach (length programs) bound (of_all (length all) (λ k. (pick k).runs)) total.results.items
  all_results =
      let runs = λ (k : ℕ). (pick k).runs in
      let long : length before.results.items ≡ length programs = none.as_many in
      let many : length total.results.items ≡ length before.results.items = added.same_tables.as_many in
      record {
        as_many = many ∙ long;
        counts_are = λ p d inside.
            let here : p < length before.results.items = omega (arith, long, inside) in
            let there : p < length total.results.items = omega (arith, many, here) in
            let z = none.results_are p d inside in
            let table = get_or total.results.items p d in
            let width : length table.below.items ≡ bound = added.same_tables.bounds_same p d here ∙ z.bound_is in
            record {
              bound_is = width;
              below_are = λ r e low.
                  let start : below_of p r before ≡ 0 = ap (below_in r) (slice_get-get_or before.results.items p d here) ∙ z.below_are r 0 low in
                  get_or_default table.below.items r e 0 (omega (arith, width, low))
                  ∙ (sym (ap (below_in r) (slice_get-get_or total.results.items p d there))
                  ∙ (added.below_are p r d here (omega (arith, z.bound_is, low))
                  ∙ (raised_zero (below_of p r before) (sum_by (below_of p r) all) start
                  ∙ counted_together (below_of p r) all (times (λ n. n == r) p) runs refl (times-append (λ n. n == r) p) (λ k c below. (parts k below c).below_are p r inside low))));
              other_is =
                  let start : other_of p before ≡ 0 = ap other_in (slice_get-get_or before.results.items p d here) ∙ z.other_is in
                  sym (ap other_in (slice_get-get_or total.results.items p d there))
                  ∙ (added.other_are p here
                  ∙ (raised_zero (other_of p before) (sum_by (other_of p) all) start
                  ∙ counted_together (other_of p) all (times (λ n. nat_le bound n) p) runs refl (times-append (λ n. nat_le bound n) p) (λ k c below. (parts k below c).other_are p inside)));
            };
      }

-- ---- a whole stream

-- the worker of a lane before a stream: it has this number, these programs and these seats, and has counted nothing
pub record IsStarted {R K : Type 0} (number : ℕ) (programs : List Subject) (full : WhenFull) (bound : ℕ) (seats : List WorkerSeat) (w : StreamWorker R K) : Type 0 where
  pub number_is : w.number ≡ number
  pub programs_are : w.programs.now ≡ programs
  pub full_is : w.full.now ≡ full
  pub seats_are : w.seats.items ≡ seats
  pub none_counted : IsNewCounts (length programs) bound w.counts

-- the same runs for equal values
runs_as : (f f' : WhenFull) (n n' : ℕ) (ps ps' : List Subject) (contexts : List (List ℕ)) (o o' s s' : List WorkerSeat) (b a : StreamCounts) → f ≡ f' → n ≡ n' → ps ≡ ps' → o ≡ o' → s ≡ s'
    → RunsContexts f n ps contexts o s b a → RunsContexts f' n' ps' contexts o' s' b a
runs_as f f' n n' ps ps' contexts o o' s s' b a ef en eps eo es h =
    subst (λ x. RunsContexts x n' ps' contexts o' s' b a) ef
    (subst (λ x. RunsContexts f x ps' contexts o' s' b a) en (subst (λ x. RunsContexts f n x contexts o' s' b a) eps (subst (λ x. RunsContexts f n ps contexts x s' b a) eo (subst (λ x. RunsContexts f n ps contexts o x b a) es h))))

abbrev pub counts_in : {R K : Type 0} → List (Lane (StreamWorker R K)) → List StreamCounts
counts_in lanes = map (λ lane. lane.worker.counts) lanes

module _ {I R K : Type 0} (gives : I → List (List ℕ) → I → Type 0) (programs : List Subject) (full : WhenFull) (bound : ℕ) (source later : I) (os ls : List (Lane (StreamWorker R K))) (old new : ℕ → List WorkerSeat) (dealt : Dealt)
    (stream : RunsStream gives IsReadyWorker WorkerRuns source later os ls dealt)
    (started : (k : ℕ) (d : Lane (StreamWorker R K)) → k < length os → IsStarted k programs full bound (old k) (get_or os k d).worker)
    (ended : (k : ℕ) (d : Lane (StreamWorker R K)) → k < length ls → (get_or ls k d).worker.seats.items ≡ new k) where
  -- what the worker in a lane did
  ran_at : (k : ℕ) (d : Lane (StreamWorker R K)) → k < length os → RunsContexts full k programs (dealt_to k stream.pieces) (old k) (new k) (get_or os k d).worker.counts (get_or ls k d).worker.counts
  ran_at k d below =
      let s = started k d below in
      runs_as (get_or os k d).worker.full.now full (get_or os k d).worker.number k (get_or os k d).worker.programs.now programs (dealt_to k stream.pieces) (get_or os k d).worker.seats.items (old k) (get_or ls k d).worker.seats.items (new k)
      (get_or os k d).worker.counts (get_or ls k d).worker.counts s.full_is s.number_is s.programs_are s.seats_are (ended k d (omega (arith, below, stream.as_many))) (stream.ran k d below).ran

  part_at : (k : ℕ) → k < length os → (part : Part) × ((c : StreamCounts) → IsPart k programs full bound (dealt_to k stream.pieces) (old k) (new k) (get_or (counts_in ls) k c) part)
  part_at k below =
      let d = element_of os k below in
      let own = part_of k programs full bound (dealt_to k stream.pieces) (old k) (new k) (get_or os k d).worker.counts (get_or ls k d).worker.counts (started k d below).none_counted (ran_at k d below) in
      (own.0, (λ c. subst (λ x. IsPart k programs full bound (dealt_to k stream.pieces) (old k) (new k) x own.0) (sym (get_or-map (λ (lane : Lane (StreamWorker R K)). lane.worker.counts) ls k d c (omega (arith, below, stream.as_many)))) own.1))

  -- the tables of each worker have the sizes of those of all
  pub same_tables_at : (total : StreamCounts) → IsNewCounts (length programs) bound total → (k : ℕ) (d : Lane (StreamWorker R K)) → k < length os → SameTables (get_or ls k d).worker.counts total
  same_tables_at total zeros k d below =
      tables_of k programs full bound (dealt_to k stream.pieces) (old k) (new k) (get_or os k d).worker.counts (get_or ls k d).worker.counts total (started k d below).none_counted zeros (ran_at k d below)

  pub stream_ran : (before total : StreamCounts) → IsNewCounts (length programs) bound before → AddsCounts (counts_in ls) before total → StreamRan gives (length os) programs full bound source later old new dealt total
  stream_ran before total none added =
      let n = length os in
      let all = counts_in ls in
      let len : length all ≡ n = length-map ls (λ (lane : Lane (StreamWorker R K)). lane.worker.counts) ∙ stream.as_many in
      let P = λ (k : ℕ) (part : Part). (c : StreamCounts) → IsPart k programs full bound (dealt_to k stream.pieces) (old k) (new k) (get_or all k c) part in
      let chosen = choose P n (record { runs = []; done = []; left = [] }) part_at in
      let pick = chosen.0 in
      let parts = λ (k : ℕ) (below : k < length all) (c : StreamCounts). chosen.1 k (omega (arith, below, len)) c in
      let contexts = λ (k : ℕ). dealt_to k stream.pieces in
      record {
        pieces = stream.pieces;
        runs = λ k. (pick k).runs;
        done = λ k. (pick k).done;
        left = λ k. (pick k).left;
        gave = stream.gave;
        known = stream.known;
        dealt_are = λ k below. (chosen.1 k below before).dealt_is;
        ran_first = λ k below. (chosen.1 k below before).first;
        none_left = λ e k below. none_left_of programs full bound contexts old new all pick parts before total none added e k (omega (arith, below, len));
        contexts_are = stream.contexts_are;
        dropped_are = stream.dropped_are;
        ran_are = all_contexts programs full bound contexts old new all pick parts before total none added ∙ ap (λ m. saturated (length (of_all m (λ k. (pick k).done)))) len;
        left_is = all_left programs full bound contexts old new all pick parts before total none added ∙ ap (λ m. saturated (length (of_all m (λ k. (pick k).left)))) len;
        results_are = subst (λ m. CountsEach (length programs) bound (of_all m (λ k. (pick k).runs)) total.results.items) len (all_results programs full bound contexts old new all pick parts before total none added);
        unlogged_is = all_unlogged programs full bound contexts old new all pick parts before total none added ∙ ap (λ m. saturated (unlogged_in (of_all m (λ k. (pick k).runs)))) len;
      }
