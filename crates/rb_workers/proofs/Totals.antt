-- The totals of all workers: from each worker's runs of its own jobs, the runs of all jobs in order, and their sums.
use Rattle.std.proofs.Common.{◌≡◌, ℕ, ◌+◌, ◌<◌, ◌==◌, Bool, true, false, cond, List, [], ◌∷◌, length, map, refl, ap, sym, subst, arith}
use Rattle.std.proofs.lemmas.Bool.{eqb-true, eq-eqb, ne_eqb, false≢true}
use Rattle.std.proofs.lemmas.List.Elements.{All-head, All-tail, All-cons, All-nil}
use Rattle.std.proofs.lemmas.List.Sums.{sum_by-cons}
use Rattle.std.specs.List.{All, sum_by}
use Rattle.rb_interp.specs.declared.completed_call.Done.{Done}
use Rattle.rb_interp.specs.AnsweredCalls.{notes_of}
use Rattle.rb_ledger.specs.Seats.{WorkerSeat}
use Rattle.rb_jobs.specs.SeatHelpers.{makes, submits, discards, fails, call_total, made_in, refused_in, submitted_in, discarded_in}
use Rattle.rb_jobs.specs.declared.job.Job.{Job}
use Rattle.rb_jobs.specs.declared.job.JobAnswer.{JobAnswer}
use Rattle.rb_jobs.specs.Jobs.{JobRan, Task, task_of}
use Rattle.rb_workers.specs.JobRuns.{JobRun, RunsJob, RunsInTurn, own_jobs, own_runs}
use Rattle.rb_workers.specs.inner.WorkerRuns.{RunsJobs, own_answers}
use Rattle.rb_workers.specs.Reports.{IsRun, HasRisen, times_in, refused_by_all}
use Rattle.rb_workers.specs.SeatRows.{worker_column}
use Rattle.rb_workers.proofs.Sums.{sum_to, sum_to_same, sum_to_add, sum_to_none, sum_to_but_one, sum_of_columns}

-- the failures of these runs that no entry of a ring explains
abbrev unlogged_in : List JobRun → ℕ
unlogged_in runs = sum_by (λ run. run.answer.unlogged) runs

-- ---- one worker's runs

-- jobs that were run have runs
pub runs_of : (jobs : List Job) (answers : List JobAnswer) (old new : List WorkerSeat) → RunsJobs jobs answers old new
    → (runs : List JobRun) × (map (λ run. run.job) runs ≡ jobs) × (map (λ run. run.answer) runs ≡ answers) × RunsInTurn runs old new
runs_of [] [] old new same = ([], refl, refl, same)
runs_of [] (a ∷ rest) old new ran = absurd ran
runs_of (j ∷ js) [] old new ran = absurd ran
runs_of (j ∷ js) (a ∷ rest) old new ran =
    let more = runs_of js rest ran.0 new ran.2 in
    let run : JobRun = record { job = j; answer = a; calls = ran.1.calls } in
    (run ∷ more.0, ap (λ l. j ∷ l) more.1, ap (λ l. a ∷ l) more.2, (ran.0, (ran.1, refl), more.3))

-- a count that grows with each job by what its calls say grows with the runs by what theirs say
turn_rises : (number : List WorkerSeat → ℕ) (what : Done → ℕ)
    → ((task : Task) (answer : JobAnswer) (old new : List WorkerSeat) (did : JobRan task answer old new) → number new ≡ number old + call_total what (notes_of did.calls))
    → (runs : List JobRun) (old new : List WorkerSeat) → RunsInTurn runs old new → number new ≡ number old + times_in what runs
turn_rises number what one [] old new same = let e = ap number same in omega (arith, e)
turn_rises number what one (run ∷ runs) old new turn =
    let first = one (task_of run.job) run.answer old turn.0 turn.1.0 in
    let calls = ap (λ cs. call_total what (notes_of cs)) turn.1.1 in
    let rest = turn_rises number what one runs turn.0 new turn.2 in
    let sum = sum_by-cons (λ (r : JobRun). call_total what (notes_of r.calls)) run runs in
    omega (arith, first, calls, rest, sum)

-- each failure is refused or unlogged
turn_fails : (runs : List JobRun) (old new : List WorkerSeat) → RunsInTurn runs old new → refused_in new + unlogged_in runs ≡ refused_in old + times_in fails runs
turn_fails [] old new same = let e = ap refused_in same in omega (arith, e)
turn_fails (run ∷ runs) old new turn =
    let first = turn.1.0.failed_is in
    let calls = ap (λ cs. call_total fails (notes_of cs)) turn.1.1 in
    let rest = turn_fails runs turn.0 new turn.2 in
    let sum = sum_by-cons (λ (r : JobRun). call_total fails (notes_of r.calls)) run runs in
    let unlogged = sum_by-cons (λ (r : JobRun). r.answer.unlogged) run runs in
    omega (arith, first, calls, rest, sum, unlogged)

turns_rise : (runs : List JobRun) (old new : List WorkerSeat) → RunsInTurn runs old new → HasRisen runs old new
turns_rise runs old new turn =
    record {
      made_is = turn_rises made_in makes (λ task answer old new did. did.made_is) runs old new turn;
      submitted_is = turn_rises submitted_in submits (λ task answer old new did. did.submitted_is) runs old new turn;
      discarded_is = turn_rises discarded_in discards (λ task answer old new did. did.discarded_is) runs old new turn;
    }

-- ---- the runs of all jobs, in their order

-- the seats of each worker, after this worker's changed
abbrev after : ℕ → List WorkerSeat → (ℕ → List WorkerSeat) → ℕ → List WorkerSeat
after w mid old k = cond (w == k) mid (old k)

ran_first : (b : Bool) (j : Job) (js : List Job) (a : JobAnswer) (rest : List JobAnswer) (old new : List WorkerSeat) → b ≡ true
    → RunsJobs (cond b (j ∷ js) js) (cond b (a ∷ rest) rest) old new → RunsJobs (j ∷ js) (a ∷ rest) old new
ran_first true j js a rest old new e ran = ran
ran_first false j js a rest old new e ran = absurd (false≢true e)

-- the remaining jobs of each worker
ran_rest : (j : Job) (js : List Job) (a : JobAnswer) (rest : List JobAnswer) (mid : List WorkerSeat) (old new : ℕ → List WorkerSeat) (k : ℕ) (b : Bool) → (j.worker == k) ≡ b
    → RunsJobs (own_jobs j.worker js) (own_answers j.worker js rest) mid (new j.worker) → RunsJobs (own_jobs k (j ∷ js)) (own_answers k (j ∷ js) (a ∷ rest)) (old k) (new k)
    → RunsJobs (own_jobs k js) (own_answers k js rest) (after j.worker mid old k) (new k)
ran_rest j js a rest mid old new k true e here ran =
    subst (λ b. RunsJobs (own_jobs k js) (own_answers k js rest) (cond b mid (old k)) (new k)) (sym e)
    (subst (λ i. RunsJobs (own_jobs i js) (own_answers i js rest) mid (new i)) (eqb-true j.worker k e) here)
ran_rest j js a rest mid old new k false e here ran =
    subst (λ b. RunsJobs (own_jobs k js) (own_answers k js rest) (cond b mid (old k)) (new k)) (sym e)
    (subst (λ b. RunsJobs (cond b (j ∷ own_jobs k js) (own_jobs k js)) (cond b (a ∷ own_answers k js rest) (own_answers k js rest)) (old k) (new k)) e ran)

-- one run of a worker before its later ones, and before those of the others
turn_on : (run : JobRun) (runs : List JobRun) (w : ℕ) (mid : List WorkerSeat) (old : ℕ → List WorkerSeat) (new : List WorkerSeat) (k : ℕ) (b : Bool) → (w == k) ≡ b → RunsJob run (old w) mid
    → RunsInTurn runs (after w mid old k) new → RunsInTurn (cond b (run ∷ runs) runs) (old k) new
turn_on run runs w mid old new k true e did rest =
    (mid, subst (λ i. RunsJob run (old i) mid) (eqb-true w k e) did, subst (λ b. RunsInTurn runs (cond b mid (old k)) new) e rest)
turn_on run runs w mid old new k false e did rest = subst (λ b. RunsInTurn runs (cond b mid (old k)) new) e rest

-- the runs of all jobs, each worker's in order
record AllRuns (count : ℕ) (jobs : List Job) (answers : List JobAnswer) (old new : ℕ → List WorkerSeat) : Type 0 where
  runs : List JobRun
  jobs_are : map (λ run. run.job) runs ≡ jobs
  answers_are : map (λ run. run.answer) runs ≡ answers
  match : All IsRun runs
  turns : (k : ℕ) → k < count → RunsInTurn (own_runs k runs) (old k) (new k)

-- each of the first workers ran its own jobs
abbrev EachRan : ℕ → List Job → List JobAnswer → (ℕ → List WorkerSeat) → (ℕ → List WorkerSeat) → Type 0
EachRan count jobs answers old new = (k : ℕ) → k < count → RunsJobs (own_jobs k jobs) (own_answers k jobs answers) (old k) (new k)

all_runs : (count : ℕ) (jobs : List Job) (answers : List JobAnswer) (old new : ℕ → List WorkerSeat) → length answers ≡ length jobs → All (λ j. j.worker < count) jobs
    → EachRan count jobs answers old new → AllRuns count jobs answers old new
all_runs count [] [] old new len known ran = record { runs = []; jobs_are = refl; answers_are = refl; match = All-nil IsRun; turns = ran }
all_runs count [] (a ∷ rest) old new len known ran = absurd (omega arith)
all_runs count (j ∷ js) [] old new len known ran = absurd (omega arith)
all_runs count (j ∷ js) (a ∷ rest) old new len known ran =
    let inside = All-head (λ (j : Job). j.worker < count) j js known in
    let here = ran_first (j.worker == j.worker) j (own_jobs j.worker js) a (own_answers j.worker js rest) (old j.worker) (new j.worker) (eq-eqb j.worker j.worker refl) (ran j.worker inside) in
    let mid = here.0 in let did = here.1 in
    let more = all_runs count js rest (after j.worker mid old) new (omega (arith, len)) (All-tail (λ (j : Job). j.worker < count) j js known)
    (λ k below. ran_rest j js a rest mid old new k (j.worker == k) refl here.2 (ran k below)) in
    let run : JobRun = record { job = j; answer = a; calls = did.calls } in
    let is : IsRun run = record { length_is = did.length_is; shows = did.shows; never_stray = did.never_stray; balanced = did.balanced; may_answer = did.may_answer } in
    record {
      runs = run ∷ more.runs;
      jobs_are = ap (λ l. j ∷ l) more.jobs_are;
      answers_are = ap (λ l. a ∷ l) more.answers_are;
      match = All-cons IsRun run more.runs is more.match;
      turns = λ k below. turn_on run (own_runs k more.runs) j.worker mid old (new k) k (j.worker == k) refl (did, refl) (more.turns k below);
    }

-- ---- their sums

own_here : (f : JobRun → ℕ) (run : JobRun) (runs : List JobRun) (b : Bool) → b ≡ true → sum_by f (cond b (run ∷ runs) runs) ≡ f run + sum_by f runs
own_here f run runs true e = sum_by-cons f run runs
own_here f run runs false e = absurd (false≢true e)

own_other : (f : JobRun → ℕ) (run : JobRun) (runs : List JobRun) (b : Bool) → b ≡ false → sum_by f (cond b (run ∷ runs) runs) ≡ sum_by f runs
own_other f run runs true e = absurd (false≢true (sym e))
own_other f run runs false e = refl

-- the sum over all runs is the sum over the workers of their own
sum_of_own : (f : JobRun → ℕ) (count : ℕ) (runs : List JobRun) → All (λ run. run.job.worker < count) runs → sum_to count (λ k. sum_by f (own_runs k runs)) ≡ sum_by f runs
sum_of_own f count [] known = sum_to_none count
sum_of_own f count (run ∷ runs) known =
    let w = run.job.worker in
    let rest = sum_of_own f count runs (All-tail (λ (r : JobRun). r.job.worker < count) run runs known) in
    let moved = sum_to_but_one count w (λ k. sum_by f (own_runs k (run ∷ runs))) (λ k. sum_by f (own_runs k runs)) (All-head (λ (r : JobRun). r.job.worker < count) run runs known)
    (λ k below other. own_other f run (own_runs k runs) (w == k) (ne_eqb w k (λ e. other (sym e)))) in
    let here = own_here f run (own_runs w runs) (w == w) (eq-eqb w w refl) in
    let sum = sum_by-cons f run runs in
    omega (arith, rest, moved, here, sum)

known_runs : (count : ℕ) (runs : List JobRun) (jobs : List Job) → map (λ run. run.job) runs ≡ jobs → All (λ j. j.worker < count) jobs → All (λ run. run.job.worker < count) runs
known_runs count [] jobs are known = All-nil (λ (r : JobRun). r.job.worker < count)
known_runs count (run ∷ runs) jobs are known =
    let all = subst (All (λ (j : Job). j.worker < count)) (sym are) known in
    All-cons (λ (r : JobRun). r.job.worker < count) run runs (All-head (λ (j : Job). j.worker < count) run.job (map (λ r. r.job) runs) all)
    (known_runs count runs (map (λ r. r.job) runs) refl (All-tail (λ (j : Job). j.worker < count) run.job (map (λ r. r.job) runs) all))

-- the results in the answers of runs
pub results_of_runs : (runs : List JobRun) → map (λ a. a.result) (map (λ run. run.answer) runs) ≡ map (λ run. run.answer.result) runs
results_of_runs [] = refl
results_of_runs (run ∷ runs) = ap (λ l. run.answer.result ∷ l) (results_of_runs runs)

pub unlogged_of_runs : (runs : List JobRun) → sum_by (λ a. a.unlogged) (map (λ run. run.answer) runs) ≡ sum_by (λ run. run.answer.unlogged) runs
unlogged_of_runs [] = refl
unlogged_of_runs (run ∷ runs) =
    let rest = unlogged_of_runs runs in
    let left = sum_by-cons (λ (a : JobAnswer). a.unlogged) run.answer (map (λ r. r.answer) runs) in
    let right = sum_by-cons (λ (r : JobRun). r.answer.unlogged) run runs in
    omega (arith, rest, left, right)

-- the totals of the runs of all jobs, which led from these seats to those
pub record AllTold (count : ℕ) (jobs : List Job) (answers : List JobAnswer) (old new : List (List WorkerSeat)) : Type 0 where
  pub runs : List JobRun
  pub jobs_are : map (λ run. run.job) runs ≡ jobs
  pub answers_are : map (λ run. run.answer) runs ≡ answers
  pub runs_match : All IsRun runs
  pub turns : (k : ℕ) → k < count → RunsInTurn (own_runs k runs) (worker_column k old) (worker_column k new)
  pub numbers_rose : (k : ℕ) → k < count → HasRisen (own_runs k runs) (worker_column k old) (worker_column k new)
  pub failures_add_up : refused_by_all new + sum_by (λ run. run.answer.unlogged) runs ≡ refused_by_all old + times_in fails runs

pub report_of_runs : (count : ℕ) (jobs : List Job) (answers : List JobAnswer) (old new : List (List WorkerSeat)) → All (λ row. length row ≡ count) old → All (λ row. length row ≡ count) new
    → length answers ≡ length jobs → All (λ j. j.worker < count) jobs → ((k : ℕ) → k < count → RunsJobs (own_jobs k jobs) (own_answers k jobs answers) (worker_column k old) (worker_column k new))
    → AllTold count jobs answers old new
report_of_runs count jobs answers old new old_rows new_rows len known ran =
    let all = all_runs count jobs answers (λ k. worker_column k old) (λ k. worker_column k new) len known ran in
    let runs = all.runs in
    let inside = known_runs count runs jobs all.jobs_are known in
    let before = sum_of_columns (λ s. s.tally.refused) count old old_rows in
    let now = sum_of_columns (λ s. s.tally.refused) count new new_rows in
    let unlogged = sum_of_own (λ run. run.answer.unlogged) count runs inside in
    let failed = sum_of_own (λ run. call_total fails (notes_of run.calls)) count runs inside in
    let each = sum_to_same count (λ k. refused_in (worker_column k new) + unlogged_in (own_runs k runs)) (λ k. refused_in (worker_column k old) + times_in fails (own_runs k runs))
    (λ k below. turn_fails (own_runs k runs) (worker_column k old) (worker_column k new) (all.turns k below)) in
    let left = sum_to_add count (λ k. refused_in (worker_column k new)) (λ k. unlogged_in (own_runs k runs)) in
    let right = sum_to_add count (λ k. refused_in (worker_column k old)) (λ k. times_in fails (own_runs k runs)) in
    record {
      runs = runs;
      jobs_are = all.jobs_are;
      answers_are = all.answers_are;
      runs_match = all.match;
      turns = all.turns;
      numbers_rose = λ k below. turns_rise (own_runs k runs) (worker_column k old) (worker_column k new) (all.turns k below);
      failures_add_up = omega (arith, before, now, unlogged, failed, each, left, right);
    }
