-- The jobs with the workers' contexts, and what is known of each.
use Rattle.std.proofs.Common.{◌≡◌, ℕ, zero, suc, ◌<◌, ◌≤◌, ◌||◌, Bool, true, false, List, [], ◌∷◌, ◌++◌, ◌+◌, map, refl, ap, sym, ◌∙◌, add-one, append_assoc, append-nil, arith}
use Rattle.std.specs.Prelude.{nat_lt, not}
use Rattle.std.specs.List.{flat_map, list_any}
use Rattle.std.proofs.lemmas.List.{map-append, map_push}
use Rattle.std.proofs.lemmas.List.Concat.{flat_map-append}
use Rattle.std.proofs.lemmas.List.Folds.{list_any-append}
use Rattle.rb_history.specs.WorkerCounts.{numbers_below}
use Rattle.rb_jobs.specs.Jobs.{Task, task_of}
use Rattle.rb_jobs.specs.declared.job.Job.{Job}
use Rattle.rb_verifier.specs.Subject.{Subject}
use Rattle.rb_workers.specs.Reports.{has_unknown_ring, has_unknown_worker}
use Rattle.rb_run_commands.specs.WorkerJobs.{job_context, numbered_task, worker_tasks, tasks_of_workers}
use Rattle.rb_run_commands.specs.declared.worker_jobs.JobContext.{JobContext}
use Rattle.rb_run_commands.specs.inner.JobContexts.{contexts_of_workers, numbered_context, worker_contexts, task_over}

-- ---- contexts

abbrev own_context : ℕ → List ℕ → JobContext
own_context worker bytes = record { worker = worker; bytes = bytes }

-- the context of one more job
pub context_more : (worker job : ℕ) (first old new : List JobContext) (bytes : List ℕ) → new ≡ old ++ own_context worker bytes ∷ [] → old ≡ first ++ worker_contexts job worker → bytes ≡ job_context worker job → new ≡ first ++ worker_contexts (job + 1) worker
context_more worker job first old new bytes grown is last =
    rw (add-one job)
    (grown
    ∙ (ap (λ xs. xs ++ own_context worker bytes ∷ []) is
    ∙ (append_assoc first (worker_contexts job worker) (own_context worker bytes ∷ [])
    ∙ ap (λ xs. first ++ xs) (ap (λ b. worker_contexts job worker ++ own_context worker b ∷ []) last ∙ sym (map_push (numbered_context worker) (numbers_below job) job)))))

-- ---- the jobs over contexts

over_own : (subject : Subject) (worker : ℕ) (numbers : List ℕ) → map (task_over subject) (map (numbered_context worker) numbers) ≡ map (numbered_task subject worker) numbers
over_own subject worker [] = refl
over_own subject worker (n ∷ numbers) = ap (λ tasks. numbered_task subject worker n ∷ tasks) (over_own subject worker numbers)

pub over_all : (subject : Subject) (jobs : ℕ) (workers : List ℕ) → map (task_over subject) (flat_map (worker_contexts jobs) workers) ≡ flat_map (worker_tasks subject jobs) workers
over_all subject jobs [] = refl
over_all subject jobs (w ∷ workers) =
    map-append (task_over subject) (worker_contexts jobs w) (flat_map (worker_contexts jobs) workers)
    ∙ (ap (λ tasks. tasks ++ map (task_over subject) (flat_map (worker_contexts jobs) workers)) (over_own subject w (numbers_below jobs))
    ∙ ap (λ tasks. worker_tasks subject jobs w ++ tasks) (over_all subject jobs workers))

-- the jobs that run the program with the contexts of all workers, as they are lent
pub tasks_lent : (subject : Subject) (workers often : ℕ) (contexts given : List JobContext) (jobs lent : List Job) → contexts ≡ contexts_of_workers workers often → given ≡ contexts → map task_of jobs ≡ map (task_over subject) given → lent ≡ jobs
    → map task_of lent ≡ tasks_of_workers subject workers often
tasks_lent subject workers often contexts given jobs lent all same over as_they_are =
    ap (map task_of) as_they_are ∙ (over ∙ (ap (map (task_over subject)) (same ∙ all) ∙ over_all subject often (numbers_below workers)))

-- ---- none of them is unknown

neither : (a b : Bool) → a ≡ false → b ≡ false → (a || b) ≡ false
neither a b first second = ap (λ x. x || b) first ∙ second

none_of_own : (test : Task → Bool) (task : ℕ → Task) (numbers : List ℕ) → ((n : ℕ) → test (task n) ≡ false) → list_any test (map task numbers) ≡ false
none_of_own test task [] each = refl
none_of_own test task (n ∷ numbers) each = neither (test (task n)) (list_any test (map task numbers)) (each n) (none_of_own test task numbers each)

none_of_all : (test : Task → Bool) (subject : Subject) (jobs count : ℕ) → ((worker job : ℕ) → worker < count → test (numbered_task subject worker job) ≡ false) → list_any test (tasks_of_workers subject count jobs) ≡ false
none_of_all test subject jobs zero each = refl
none_of_all test subject jobs (suc count) each =
    let before = flat_map (worker_tasks subject jobs) (numbers_below count) in
    let last = worker_tasks subject jobs count in
    ap (list_any test) (flat_map-append (worker_tasks subject jobs) (numbers_below count) (count ∷ []))
    ∙ (list_any-append test before (last ++ [])
    ∙ neither (list_any test before) (list_any test (last ++ []))
    (none_of_all test subject jobs count (λ worker job below. each worker job (omega (arith, below))))
    (ap (list_any test) (append-nil last) ∙ none_of_own test (numbered_task subject count) (numbers_below jobs) (λ n. each count n (omega arith))))

unknown_ring_in : (rings : ℕ) (jobs : List Job) → has_unknown_ring rings jobs ≡ list_any (λ (t : Task). nat_lt rings t.program.rings) (map task_of jobs)
unknown_ring_in rings [] = refl
unknown_ring_in rings (j ∷ jobs) = ap (λ b. nat_lt rings j.program.now.rings || b) (unknown_ring_in rings jobs)

unknown_worker_in : (count : ℕ) (jobs : List Job) → has_unknown_worker count jobs ≡ list_any (λ (t : Task). not (nat_lt t.worker count)) (map task_of jobs)
unknown_worker_in count [] = refl
unknown_worker_in count (j ∷ jobs) = ap (λ b. not (nat_lt j.worker count) || b) (unknown_worker_in count jobs)

not_above : (a b : ℕ) → b ≤ a → nat_lt a b ≡ false
not_above a b le = grind arith

not_not_below : (a b : ℕ) → a < b → not (nat_lt a b) ≡ false
not_not_below a b lt = grind arith

module _ (subject : Subject) (workers often : ℕ) (jobs : List Job) (tasks : map task_of jobs ≡ tasks_of_workers subject workers often) where
  -- the program uses no more rings than there are
  pub rings_known : (rings : ℕ) → subject.rings ≤ rings → has_unknown_ring rings jobs ≡ false
  rings_known rings few =
      unknown_ring_in rings jobs
      ∙ (ap (list_any (λ (t : Task). nat_lt rings t.program.rings)) tasks ∙ none_of_all (λ (t : Task). nat_lt rings t.program.rings) subject often workers (λ worker job below. not_above rings subject.rings few))

  -- each job belongs to one of the workers
  pub workers_known : has_unknown_worker workers jobs ≡ false
  workers_known =
      unknown_worker_in workers jobs
      ∙ (ap (list_any (λ (t : Task). not (nat_lt t.worker workers))) tasks ∙ none_of_all (λ (t : Task). not (nat_lt t.worker workers)) subject often workers (λ worker job below. not_not_below worker workers below))
