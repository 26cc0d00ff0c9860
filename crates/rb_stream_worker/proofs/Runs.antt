-- Runs of one program, of all programs over a context, and over several contexts.
use Rattle.std.proofs.Common.{◌≡◌, ℕ, ◌+◌, ◌-◌, ◌<◌, ◌≤◌, true, false, true≢false, List, [], ◌∷◌, ◌++◌, length, get_or, map, refl, sym, ap, ◌∙◌, subst, append-nil, arith, drop, take, Some, Ok, Err, slice_get}
use Rattle.std.specs.List.{All}
use Rattle.std.proofs.lemmas.List.{drop-append-le, length-take, length-take-le, map-append, take_more}
use Rattle.std.proofs.Math.ListN.{drop_of_length-le}
use Rattle.std.proofs.lemmas.List.FromFn.{map-range_with_len_more}
use Rattle.rb_verifier.specs.Subject.{Subject}
use Rattle.rb_ledger.specs.Seats.{WorkerSeat}
use Rattle.rb_interp.specs.RunTraces.{TellsLength}
use Rattle.rb_interp.specs.declared.fault.RunFault.{RunFault}
use Rattle.rb_interp.specs.declared.fault.RunFault.TheVariants.{ContextLength, Stray}
use Rattle.rb_jobs.specs.Jobs.{JobRan, Task}
use Rattle.rb_jobs.specs.declared.job.JobAnswer.{JobAnswer}
use Rattle.rb_stream_worker.specs.Results.{raised}
use Rattle.rb_stream_worker.specs.Tasks.{StreamTask, TaskRun, tasks_over}
use Rattle.rb_stream_worker.specs.ContextRuns.{CountsRuns, IsBegun, IsProgramFor, IsSameWorker, RunsContexts, WorkerRuns}
use Rattle.rb_stream_worker.specs.inner.RanTasks.{RanTasks, SameContexts}
use Rattle.rb_stream_worker.specs.inner.RunLaws.{contexts_none, contexts_twice, counted_as, counted_none, counted_twice, none_run, raised_none, runs_twice}
use Rattle.rb_stream_worker.specs.declared.stream_counts.StreamCounts.{StreamCounts}
use Rattle.rb_stream_worker.specs.declared.stream_worker.StreamWorker.{StreamWorker}
use Rattle.rb_stream_worker.specs.declared.when_full.WhenFull.{WhenFull}
use Rattle.rb_stream_worker.specs.declared.when_full.WhenFull.TheVariants.{Refuse}

-- one program was run over one context, and the run was counted
pub task_ran : (w : ℕ) (ps : List Subject) (index : ℕ) (context : List ℕ) (program : Subject) (answer : JobAnswer) (n : ℕ) (a b : List WorkerSeat) (c d : StreamCounts)
    → slice_get ps index ≡ Some program → JobRan (record { worker = w; program = program; context = context }) answer a b → answer.result ≡ Ok n
    → ((run : TaskRun) → run.task.program ≡ index → run.result ≡ n → run.unlogged ≡ answer.unlogged → CountsRuns (run ∷ []) c d) → SameContexts c d
    → RanTasks w ps (record { program = index; context = context } ∷ []) a b c d
task_ran w ps index context program answer n a b c d found ran is counted same =
    let answered : JobRan (record { worker = w; program = program; context = context }) (record { result = Ok n; unlogged = answer.unlogged }) a b =
    subst (λ r. JobRan (record { worker = w; program = program; context = context }) (record { result = r; unlogged = answer.unlogged }) a b) is ran in
    let run : TaskRun = record { task = record { program = index; context = context }; result = n; unlogged = answer.unlogged; calls = answered.calls } in
    record {
      runs = run ∷ [];
      tasks_are = refl;
      in_turn = (b, record { program = program; found = found; ran = answered; calls_are = refl }, refl);
      counted = counted run refl refl refl;
      same = same;
    }

pub tasks_none : (w : ℕ) (ps : List Subject) (a : List WorkerSeat) (c : StreamCounts) → RanTasks w ps [] a a c c
tasks_none w ps a c = record { runs = []; tasks_are = refl; in_turn = refl; counted = counted_none c; same = (refl, refl, refl) }

pub tasks_twice : (w : ℕ) (ps : List Subject) (ts us : List StreamTask) (a b c : List WorkerSeat) (d e f : StreamCounts) → RanTasks w ps ts a b d e → RanTasks w ps us b c e f → RanTasks w ps (ts ++ us) a c d f
tasks_twice w ps ts us a b c d e f one two = record {
  runs = one.runs ++ two.runs;
  tasks_are = map-append (λ (run : TaskRun). run.task) one.runs two.runs ∙ (ap (λ l. l ++ map (λ (run : TaskRun). run.task) two.runs) one.tasks_are ∙ ap (λ l. ts ++ l) two.tasks_are);
  in_turn = runs_twice w ps one.runs two.runs a b c one.in_turn two.in_turn;
  counted = counted_twice one.runs two.runs d e f one.counted two.counted;
  same = (two.same.0 ∙ one.same.0, two.same.1 ∙ one.same.1, two.same.2 ∙ one.same.2);
}

-- one more program over the same context
pub tasks_more : (w : ℕ) (ps : List Subject) (context : List ℕ) (n : ℕ) (a b c : List WorkerSeat) (d e f : StreamCounts)
    → RanTasks w ps (tasks_over n context) a b d e → RanTasks w ps (record { program = n; context = context } ∷ []) b c e f → RanTasks w ps (tasks_over (n + 1) context) a c d f
tasks_more w ps context n a b c d e f one two =
    let task : ℕ → StreamTask = λ p. record { program = p; context = context } in
    subst (λ ts. RanTasks w ps ts a c d f) (sym (map-range_with_len_more task 0 n n (omega arith)))
    (tasks_twice w ps (tasks_over n context) (task n ∷ []) a b c d e f one two)

-- every program was run over the context
pub context_done : (w : ℕ) (ps : List Subject) (context : List ℕ) (a b : List WorkerSeat) (c d e : StreamCounts) → c.stopped ≡ false → RanTasks w ps (tasks_over (length ps) context) a b c d
    → e.results ≡ d.results → e.unlogged ≡ d.unlogged → e.left ≡ d.left → e.contexts ≡ raised d.contexts 1 → RunsContexts Refuse w ps (context ∷ []) a b c e
context_done w ps context a b c d e going ran results unlogged left contexts =
    let ts = tasks_over (length ps) context in
    record {
      runs = ran.runs;
      done = context ∷ [];
      left = [];
      begun = [];
      contexts_are = refl;
      tasks_are = ran.tasks_are ∙ (sym (append-nil ts) ∙ sym (append-nil (ts ++ [])));
      begun_of = refl;
      all_done = λ _. refl;
      stays = λ before. absurd (true≢false (sym before ∙ going));
      in_turn = ran.in_turn;
      counted = counted_as ran.runs c d e results unlogged ran.counted;
      contexts_counted = contexts ∙ ap (λ n. raised n 1) ran.same.0;
      left_counted = (left ∙ ran.same.1) ∙ raised_none c.left;
    }

-- only a prefix of the programs was run over the context
pub context_left : (w : ℕ) (ps : List Subject) (context : List ℕ) (n : ℕ) (a b : List WorkerSeat) (c d e : StreamCounts) → c.stopped ≡ false → n ≤ length ps - 1
    → RanTasks w ps (tasks_over n context) a b c d → e ≡ record d { left = raised d.left 1; stopped = true } → RunsContexts Refuse w ps (context ∷ []) a b c e
context_left w ps context n a b c d e going few ran is = record {
  runs = ran.runs;
  done = [];
  left = context ∷ [];
  begun = tasks_over n context;
  contexts_are = refl;
  tasks_are = ran.tasks_are;
  begun_of = (n, few, refl);
  all_done = λ went. absurd (true≢false (sym (ap (λ (s : StreamCounts). s.stopped) is) ∙ went));
  stays = λ before. absurd (true≢false (sym before ∙ going));
  in_turn = ran.in_turn;
  counted = counted_as ran.runs c d e (ap (λ (s : StreamCounts). s.results) is) (ap (λ (s : StreamCounts). s.unlogged) is) ran.counted;
  contexts_counted = (ap (λ (s : StreamCounts). s.contexts) is ∙ ran.same.0) ∙ raised_none c.contexts;
  left_counted = ap (λ (s : StreamCounts). s.left) is ∙ ap (λ m. raised m 1) ran.same.1;
}

none_begun : (n : ℕ) (contexts : List (List ℕ)) → IsBegun n [] contexts
none_begun n [] = refl
none_begun n (context ∷ more) = (0, omega arith, refl)

-- the worker ran nothing, because it stopped or had stopped
pub contexts_left : (full : WhenFull) (w : ℕ) (ps : List Subject) (contexts : List (List ℕ)) (a : List WorkerSeat) (c d : StreamCounts) (n : ℕ) → length contexts ≡ n → d ≡ record c { left = raised c.left n; stopped = true } → RunsContexts full w ps contexts a a c d
contexts_left full w ps contexts a c d n many is = record {
  runs = [];
  done = [];
  left = contexts;
  begun = [];
  contexts_are = refl;
  tasks_are = refl;
  begun_of = none_begun (length ps) contexts;
  all_done = λ went. absurd (true≢false (sym (ap (λ (s : StreamCounts). s.stopped) is) ∙ went));
  stays = λ before. (ap (λ (s : StreamCounts). s.stopped) is, refl, refl);
  in_turn = none_run full w ps a;
  counted = counted_as [] c c d (ap (λ (s : StreamCounts). s.results) is) (ap (λ (s : StreamCounts). s.unlogged) is) (counted_none c);
  contexts_counted = ap (λ (s : StreamCounts). s.contexts) is ∙ raised_none c.contexts;
  left_counted = ap (λ (s : StreamCounts). s.left) is ∙ ap (raised c.left) (sym many);
}

-- a program of the list
pub fits_at : (rings ctx_len : ℕ) (ps : List Subject) (i : ℕ) (p : Subject) → All (IsProgramFor rings ctx_len) ps → i < length ps → p ≡ get_or ps i p → IsProgramFor rings ctx_len p
fits_at rings ctx_len ps i p all below is = subst (IsProgramFor rings ctx_len) (sym is) (all i p below)

-- a program that runs over a context of its own length returns a number
pub returns_number : (task : Task) (answer : JobAnswer) (old new : List WorkerSeat) (fault : RunFault) → JobRan task answer old new → length task.context ≡ task.program.ctx_len → answer.result ≡ Err fault → ⊥
returns_number task answer old new ContextLength ran same is = let other = subst (TellsLength task.program task.context) is ran.length_is in absurd (other same)
returns_number task answer old new Stray ran same is = absurd (ran.never_stray is)

-- one more context of a part
pub contexts_more : (w : ℕ) (ps : List Subject) (contexts : List (List ℕ)) (from at : ℕ) (context : List ℕ) (a b c : List WorkerSeat) (d e f : StreamCounts)
    → RunsContexts Refuse w ps (drop from (take at contexts)) a b d e → RunsContexts Refuse w ps (context ∷ []) b c e f → from ≤ at → at < length contexts → context ≡ get_or contexts at []
    → RunsContexts Refuse w ps (drop from (take (at + 1) contexts)) a c d f
contexts_more w ps contexts from at context a b c d e f one two begun below is =
    let long : length (take at contexts) ≡ at = length-take-le at contexts (omega (arith, below)) in
    let more : drop from (take (at + 1) contexts) ≡ drop from (take at contexts) ++ context ∷ [] =
    ap (drop from) (take_more contexts at [] below ∙ ap (λ x. take at contexts ++ x ∷ []) (sym is)) ∙ drop-append-le from (take at contexts) (context ∷ []) (omega (arith, begun, long))
    in
    subst (λ xs. RunsContexts Refuse w ps xs a c d f) (sym more)
    (contexts_twice Refuse w ps (drop from (take at contexts)) (context ∷ []) a b c d e f one two)

-- a part without contexts
pub part_none : (w : ℕ) (ps : List Subject) (contexts : List (List ℕ)) (from : ℕ) (a : List WorkerSeat) (c : StreamCounts) → RunsContexts Refuse w ps (drop from (take from contexts)) a a c c
part_none w ps contexts from a c =
    let short = length-take from contexts in
    subst (λ xs. RunsContexts Refuse w ps xs a a c c) (sym (drop_of_length-le (take from contexts) (omega (arith, short)))) (contexts_none Refuse w ps a c)

-- a worker that leaves what it is given
pub worker_left : {R K : Type 0} (contexts : List (List ℕ)) (n : ℕ) (old new : StreamWorker R K) → new.counts ≡ record old.counts { left = raised old.counts.left n; stopped = true } → n ≡ length contexts
    → IsSameWorker old new → new.seats.items ≡ old.seats.items → WorkerRuns old contexts new
worker_left contexts n old new counts many same seats = record {
  same = same;
  ran =
      subst (λ (s : List WorkerSeat). RunsContexts old.full.now old.number old.programs.now contexts old.seats.items s old.counts new.counts) (sym seats)
      (contexts_left old.full.now old.number old.programs.now contexts old.seats.items old.counts new.counts n (sym many) counts);
}
