-- Laws about sequences of jobs.
use Rattle.std.proofs.Common.{◌≡◌, ℕ, ◌+◌, ◌<◌, ◌==◌, true, true≢false, List, [], ◌∷◌, ◌++◌, length, get_or, take, drop, refl, sym, subst, ap, ◌∙◌, arith}
use Rattle.std.proofs.lemmas.List.{take-append-drop}
use Rattle.std.proofs.lemmas.List.Elements.{filter_more, filter-append}
use Rattle.std.proofs.lemmas.Bool.Decides.{nat_tests}
use Rattle.std.specs.Prelude.{Bool}
use Rattle.rb_ledger.specs.Seats.{WorkerSeat}
use Rattle.rb_jobs.specs.declared.job.Job.{Job}
use Rattle.rb_jobs.specs.declared.job.JobAnswer.{JobAnswer}
use Rattle.rb_jobs.specs.Jobs.{JobRan, task_of}
use Rattle.rb_workers.specs.JobRuns.{own_jobs}
use Rattle.rb_workers.specs.inner.WorkerRuns.{RunsJobs, RunsOwnJobs}

pub ran_more : (js : List Job) (given : List JobAnswer) (j : Job) (a : JobAnswer) (old mid new : List WorkerSeat) → RunsJobs js given old mid → JobRan (task_of j) a mid new → RunsJobs (js ++ j ∷ []) (given ++ a ∷ []) old new
ran_more [] [] j a old mid new e did = (new, subst (λ o. JobRan (task_of j) a o new) e did, refl)
ran_more [] (b ∷ bs) j a old mid new ran did = absurd ran
ran_more (k ∷ ks) [] j a old mid new ran did = absurd ran
ran_more (k ∷ ks) (b ∷ bs) j a old mid new ran did = (ran.0, ran.1, ran_more ks bs j a ran.0 mid new ran.2 did)

pub own_more : (w : ℕ) (js : List Job) (i : ℕ) (d : Job) → i < length js → (get_or js i d).worker ≡ w → own_jobs w (take (i + 1) js) ≡ own_jobs w (take i js) ++ get_or js i d ∷ []
own_more w js i d below same = let e = filter_more (λ (j : Job). j.worker == w) js i d below in grind (arith, nat_tests)

-- up to this index the worker ran its jobs
pub worked_short : (w : ℕ) (js : List Job) (i : ℕ) (short : Bool) (given : List JobAnswer) (old new : List WorkerSeat) → short ≡ true → RunsJobs (own_jobs w (take i js)) given old new → RunsOwnJobs (own_jobs w js) short given old new
worked_short w js i short given old new e ran =
    (own_jobs w (take i js), own_jobs w (drop i js), ap (own_jobs w) (sym (take-append-drop i js)) ∙ filter-append (λ (j : Job). j.worker == w) (take i js) (drop i js), (λ no. absurd (true≢false (sym e ∙ no))), ran)
