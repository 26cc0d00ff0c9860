-- Consecutive runs, and what they count.
use Rattle.std.proofs.Common.{◌≡◌, ℕ, ◌+◌, Bool, true, false, true≢false, List, [], ◌∷◌, ◌++◌, length, get_or, map, filter, refl, sym, ap, ◌∙◌, subst, append-nil, append_assoc, length-append, arith, inl, inr, ⊎_elim, ◌⊎◌}
use Rattle.std.proofs.lemmas.List.{map-append}
use Rattle.std.proofs.lemmas.List.Elements.{filter-append}
use Rattle.std.proofs.lemmas.List.Sums.{sum_by-append}
use Rattle.std.proofs.lemmas.List.Concat.{flat_map-append}
use Rattle.std.specs.Prelude.{cond, nat_le, ◌==◌}
use Rattle.std.specs.List.{flat_map, sum_by}
use Rattle.rb_verifier.specs.Subject.{Subject}
use Rattle.rb_ledger.specs.Seats.{WorkerSeat}
use Rattle.rb_stream_worker.specs.Results.{CountsResults, raised, times_of, times_from}
use Rattle.rb_stream_worker.specs.Tasks.{StreamTask, TaskRun, RunsTasks, tasks_of, tasks_over}
use Rattle.rb_stream_worker.specs.Turns.{RunsAs, RunsTurns}
use Rattle.rb_stream_worker.specs.ContextRuns.{CountsRuns, IsBegun, RunsContexts, WorkerRuns, results_of}
use Rattle.rb_stream_worker.specs.declared.result_counts.ResultCounts.{ResultCounts}
use Rattle.rb_stream_worker.specs.declared.stream_counts.StreamCounts.{StreamCounts}
use Rattle.rb_stream_worker.specs.declared.stream_worker.StreamWorker.{StreamWorker}
use Rattle.rb_stream_worker.specs.declared.when_full.Turns.{Turns}
use Rattle.rb_stream_worker.specs.declared.when_full.WhenFull.{WhenFull}
use Rattle.rb_stream_worker.specs.declared.when_full.WhenFull.TheVariants.{Refuse, Wait}

-- ---- counts

pub raised_none : (a : ℕ) → a ≡ raised a 0
raised_none a = omega arith

pub raised_twice : (a b c m n k : ℕ) → b ≡ raised a m → c ≡ raised b n → k ≡ m + n → c ≡ raised a k
raised_twice a b c m n k one two sum = omega (arith, one, two, sum)

pub results_none : (a : ResultCounts) → CountsResults [] a a
results_none a = record { same_bound = refl; below_are = λ r d below. raised_none (get_or a.below.items r d); other_is = raised_none a.other }

pub results_twice : (xs ys : List ℕ) (a b c : ResultCounts) → CountsResults xs a b → CountsResults ys b c → CountsResults (xs ++ ys) a c
results_twice xs ys a b c one two =
    let bound = one.same_bound in
    record {
      same_bound = two.same_bound ∙ bound;
      below_are = λ r d below.
          raised_twice (get_or a.below.items r d) (get_or b.below.items r d) (get_or c.below.items r d) (times_of r xs) (times_of r ys) (times_of r (xs ++ ys))
          (one.below_are r d below) (two.below_are r d (omega (arith, bound, below))) (sum_by-append (λ n. cond (n == r) 1 0) xs ys);
      other_is =
          raised_twice a.other b.other c.other (times_from (length a.below.items) xs) (times_from (length a.below.items) ys) (times_from (length a.below.items) (xs ++ ys))
          one.other_is (subst (λ n. c.other ≡ raised b.other (times_from n ys)) bound two.other_is) (sum_by-append (λ n. cond (nat_le (length a.below.items) n) 1 0) xs ys);
    }

pub results_of-append : (p : ℕ) (rs qs : List TaskRun) → results_of p (rs ++ qs) ≡ results_of p rs ++ results_of p qs
results_of-append p rs qs =
    ap (map (λ (run : TaskRun). run.result)) (filter-append (λ (run : TaskRun). run.task.program == p) rs qs)
    ∙ map-append (λ (run : TaskRun). run.result) (filter (λ (run : TaskRun). run.task.program == p) rs) (filter (λ (run : TaskRun). run.task.program == p) qs)

pub counted_none : (a : StreamCounts) → CountsRuns [] a a
counted_none a = record { as_many = refl; results_are = λ p d below. results_none (get_or a.results.items p d); unlogged_is = raised_none a.unlogged }

pub counted_twice : (rs qs : List TaskRun) (a b c : StreamCounts) → CountsRuns rs a b → CountsRuns qs b c → CountsRuns (rs ++ qs) a c
counted_twice rs qs a b c one two =
    let many = one.as_many in
    record {
      as_many = two.as_many ∙ many;
      results_are = λ p d below.
          subst (λ l. CountsResults l (get_or a.results.items p d) (get_or c.results.items p d)) (sym (results_of-append p rs qs))
          (results_twice (results_of p rs) (results_of p qs) (get_or a.results.items p d) (get_or b.results.items p d) (get_or c.results.items p d)
          (one.results_are p d below) (two.results_are p d (omega (arith, many, below))));
      unlogged_is =
          raised_twice a.unlogged b.unlogged c.unlogged (sum_by (λ (run : TaskRun). run.unlogged) rs) (sum_by (λ (run : TaskRun). run.unlogged) qs) (sum_by (λ (run : TaskRun). run.unlogged) (rs ++ qs))
          one.unlogged_is two.unlogged_is (sum_by-append (λ (run : TaskRun). run.unlogged) rs qs);
    }

-- the same for counts that differ in nothing that runs change
pub counted_as : (rs : List TaskRun) (a b c : StreamCounts) → c.results ≡ b.results → c.unlogged ≡ b.unlogged → CountsRuns rs a b → CountsRuns rs a c
counted_as rs a b c results unlogged one = record {
  as_many = ap (λ t. length t.items) results ∙ one.as_many;
  results_are = λ p d below. subst (λ t. CountsResults (results_of p rs) (get_or a.results.items p d) (get_or t.items p d)) (sym results) (one.results_are p d below);
  unlogged_is = unlogged ∙ one.unlogged_is;
}

-- ---- runs

pub runs_twice : (w : ℕ) (ps : List Subject) (rs qs : List TaskRun) (a b c : List WorkerSeat) → RunsTasks w ps rs a b → RunsTasks w ps qs b c → RunsTasks w ps (rs ++ qs) a c
runs_twice w ps [] qs a b c one two = subst (λ s. RunsTasks w ps qs s c) one two
runs_twice w ps (r ∷ rs) qs a b c one two = (one.0, one.1, runs_twice w ps rs qs one.0 b c one.2 two)

turns_twice : (t : Turns) (w : ℕ) (ps : List Subject) (rs qs : List (List TaskRun)) (a b c : List WorkerSeat) → RunsTurns t w ps rs a b → RunsTurns t w ps qs b c → RunsTurns t w ps (rs ++ qs) a c
turns_twice t w ps [] qs a b c one two = subst (λ s. RunsTurns t w ps qs s c) one two
turns_twice t w ps (r ∷ rs) qs a b c one two = (one.0, one.1, turns_twice t w ps rs qs one.0 b c one.2 two)

-- at once or in turns, no runs leave the seats unchanged, and more runs follow the earlier ones
pub none_run : (full : WhenFull) (w : ℕ) (ps : List Subject) (a : List WorkerSeat) → RunsAs full w ps [] a a
none_run Refuse w ps a = refl
none_run (Wait t) w ps a = ([], refl, refl)

pub more_run : (full : WhenFull) (w : ℕ) (ps : List Subject) (rs qs : List TaskRun) (a b c : List WorkerSeat) → RunsAs full w ps rs a b → RunsAs full w ps qs b c → RunsAs full w ps (rs ++ qs) a c
more_run Refuse w ps rs qs a b c one two = runs_twice w ps rs qs a b c one two
more_run (Wait t) w ps rs qs a b c one two =
    (one.0 ++ two.0, ap (λ l. l ++ qs) one.1 ∙ (ap (λ l. flat_map (λ (part : List TaskRun). part) one.0 ++ l) two.1 ∙ sym (flat_map-append (λ (part : List TaskRun). part) one.0 two.0)), turns_twice t w ps one.0 two.0 a b c one.2 two.2)

-- ---- contexts

two_cases : (b : Bool) → (b ≡ true) ⊎ (b ≡ false)
two_cases true = inl refl
two_cases false = inr refl

-- begun tasks with more contexts
begun_more : (n : ℕ) (begun : List StreamTask) (left ys : List (List ℕ)) → IsBegun n begun left → IsBegun n begun (left ++ ys)
begun_more n begun (x ∷ left) ys is = is
begun_more n begun [] [] is = is
begun_more n begun [] (y ∷ ys) is = (0, omega arith, is)

pub contexts_none : (full : WhenFull) (w : ℕ) (ps : List Subject) (s : List WorkerSeat) (c : StreamCounts) → RunsContexts full w ps [] s s c c
contexts_none full w ps s c = record {
  runs = [];
  done = [];
  left = [];
  begun = [];
  contexts_are = refl;
  tasks_are = refl;
  begun_of = refl;
  all_done = λ _. refl;
  stays = λ e. (e, refl, refl);
  in_turn = none_run full w ps s;
  counted = counted_none c;
  contexts_counted = raised_none c.contexts;
  left_counted = raised_none c.left;
}

module _ (full : WhenFull) (w : ℕ) (ps : List Subject) (xs ys : List (List ℕ)) (a b c : List WorkerSeat) (d e f : StreamCounts) (one : RunsContexts full w ps xs a b d e) (two : RunsContexts full w ps ys b c e f) where
  -- the worker continued between the two
  twice_going : e.stopped ≡ false → RunsContexts full w ps (xs ++ ys) a c d f
  twice_going going =
      let n = length ps in
      let none : one.left ≡ [] = one.all_done going in
      let unbegun : one.begun ≡ [] = subst (IsBegun n one.begun) none one.begun_of in
      let all : xs ≡ one.done = one.contexts_are ∙ (ap (λ l. one.done ++ l) none ∙ append-nil one.done) in
      let ran : map (λ (run : TaskRun). run.task) one.runs ≡ tasks_of n one.done = one.tasks_are ∙ (ap (λ l. tasks_of n one.done ++ l) unbegun ∙ append-nil (tasks_of n one.done)) in
      record {
        runs = one.runs ++ two.runs;
        done = one.done ++ two.done;
        left = two.left;
        begun = two.begun;
        contexts_are = ap (λ l. l ++ ys) all ∙ (ap (λ l. one.done ++ l) two.contexts_are ∙ sym (append_assoc one.done two.done two.left));
        tasks_are =
            map-append (λ (run : TaskRun). run.task) one.runs two.runs
            ∙ (ap (λ l. l ++ map (λ (run : TaskRun). run.task) two.runs) ran
            ∙ (ap (λ l. tasks_of n one.done ++ l) two.tasks_are
            ∙ (sym (append_assoc (tasks_of n one.done) (tasks_of n two.done) two.begun)
            ∙ ap (λ l. l ++ two.begun) (sym (flat_map-append (tasks_over n) one.done two.done)))));
        begun_of = two.begun_of;
        all_done = two.all_done;
        stays = λ before. absurd (true≢false (sym (one.stays before).0 ∙ going));
        in_turn = more_run full w ps one.runs two.runs a b c one.in_turn two.in_turn;
        counted = counted_twice one.runs two.runs d e f one.counted two.counted;
        contexts_counted = raised_twice d.contexts e.contexts f.contexts (length one.done) (length two.done) (length (one.done ++ two.done)) one.contexts_counted two.contexts_counted (length-append one.done two.done);
        left_counted = raised_twice d.left e.left f.left (length one.left) (length two.left) (length two.left) one.left_counted two.left_counted (let zero : length one.left ≡ 0 = ap length none in omega (arith, zero));
      }

  -- the worker had stopped
  twice_stopped : e.stopped ≡ true → RunsContexts full w ps (xs ++ ys) a c d f
  twice_stopped stopped =
      let n = length ps in
      let stays = two.stays stopped in
      let all : ys ≡ two.left = two.contexts_are ∙ ap (λ l. l ++ two.left) stays.1 in
      let none : map (λ (run : TaskRun). run.task) two.runs ≡ [] = two.tasks_are ∙ (ap (λ l. tasks_of n l ++ two.begun) stays.1 ∙ stays.2) in
      record {
        runs = one.runs ++ two.runs;
        done = one.done;
        left = one.left ++ ys;
        begun = one.begun;
        contexts_are = ap (λ l. l ++ ys) one.contexts_are ∙ append_assoc one.done one.left ys;
        tasks_are =
            map-append (λ (run : TaskRun). run.task) one.runs two.runs
            ∙ (ap (λ l. map (λ (run : TaskRun). run.task) one.runs ++ l) none ∙ (append-nil (map (λ (run : TaskRun). run.task) one.runs) ∙ one.tasks_are));
        begun_of = begun_more n one.begun one.left ys one.begun_of;
        all_done = λ going. absurd (true≢false (sym stays.0 ∙ going));
        stays = λ before. let was = one.stays before in (stays.0, was.1, was.2);
        in_turn = more_run full w ps one.runs two.runs a b c one.in_turn two.in_turn;
        counted = counted_twice one.runs two.runs d e f one.counted two.counted;
        contexts_counted = raised_twice d.contexts e.contexts f.contexts (length one.done) (length two.done) (length one.done) one.contexts_counted two.contexts_counted (let e0 = ap length stays.1 in omega (arith, e0));
        left_counted = raised_twice d.left e.left f.left (length one.left) (length two.left) (length (one.left ++ ys)) one.left_counted two.left_counted (length-append one.left ys ∙ ap (λ l. length one.left + length l) all);
      }

  pub contexts_twice : RunsContexts full w ps (xs ++ ys) a c d f
  contexts_twice = ⊎_elim twice_stopped twice_going (two_cases e.stopped)

-- ---- workers

-- a worker that is not called runs nothing
pub runs_nothing : {R K : Type 0} (w : StreamWorker R K) → WorkerRuns w [] w
runs_nothing w = record {
  same = record { number_same = refl; rings_same = refl; programs_same = refl; length_same = refl; full_same = refl };
  ran = contexts_none w.full.now w.number w.programs.now w.seats.items w.counts;
}

-- contexts that are run one piece after another are run as one list
pub runs_in_turn : {R K : Type 0} (a b c : StreamWorker R K) (xs ys : List (List ℕ)) → WorkerRuns a xs b → WorkerRuns b ys c → WorkerRuns a (xs ++ ys) c
runs_in_turn a b c xs ys one two = record {
  same = record {
    number_same = two.same.number_same ∙ one.same.number_same;
    rings_same = two.same.rings_same ∙ one.same.rings_same;
    programs_same = two.same.programs_same ∙ one.same.programs_same;
    length_same = two.same.length_same ∙ one.same.length_same;
    full_same = two.same.full_same ∙ one.same.full_same;
  };
  ran =
      contexts_twice a.full.now a.number a.programs.now xs ys a.seats.items b.seats.items c.seats.items a.counts b.counts c.counts one.ran
      (subst (λ f. RunsContexts f a.number a.programs.now ys b.seats.items c.seats.items b.counts c.counts) one.same.full_same
      (subst (λ w. RunsContexts b.full.now w a.programs.now ys b.seats.items c.seats.items b.counts c.counts) one.same.number_same
      (subst (λ ps. RunsContexts b.full.now b.number ps ys b.seats.items c.seats.items b.counts c.counts) one.same.programs_same two.ran)));
}
