use Rattle.std.proofs.Common.{◌≡◌, ◌∙◌, ◌∷◌, ◌++◌, [], List, sym, refl, ap, subst, take, get_or}
use Rattle.rb_jobs.specs.declared.job.Job.{Job}
use Rattle.rb_jobs.specs.declared.job.JobAnswer.{JobAnswer}
use Rattle.rb_jobs.specs.Jobs.{JobRan, task_of}
use Rattle.rb_ledger.specs.Seats.{WorkerSeat}
use Rattle.rb_workers.specs.JobRuns.{own_jobs}
use Rattle.rb_workers.proofs.Jobs.{ran_more, own_more, worked_short}
use Rattle.rb_workers.specs.inner.WorkerRuns.{RunsJobs}
use Rattle.rb_workers.proofs.workers.Worker.run_all.Goals as goal

pub loop-job-preserved : goal.loop-job-preserved
loop-job-preserved g c =
    let i = c.loop-job.invariant in
    let w = c.args.self.now.number in
    let js = c.args.jobs.now in
    let at = c.loop-job.job-index in
    let job = c.job-item.result in
    let old = c.args.runner.now.seats in
    let mid = c.loop-job.runner.seats in
    let new = c.run_one.new.runner.seats in
    let ran = c.if-not-run_one.ensures.ran in
    let mine : (get_or js at job).worker ≡ w = sym (ap (λ (j : Job). j.worker) c.job-item.is) ∙ (c.if-job-self.false ∙ i.0) in (
      c.run_one.ensures.same.0 ∙ i.0,
      c.run_one.ensures.same.1 ∙ i.1,
      c.run_one.ensures.rings ∙ i.2,
      subst (λ (done : List Job). RunsJobs done c.run_one.new.self.answers.items old new) (sym (own_more w js at job c.loop-job-test.true mine))
          (subst (λ (given : List JobAnswer). RunsJobs (own_jobs w (take at js) ++ get_or js at job ∷ []) given old new) (sym ran.1)
          (ran_more (own_jobs w (take at js)) c.loop-job.self.answers.items (get_or js at job) ran.0 old mid new i.3
          (subst (λ (j : Job). JobRan (task_of j) ran.0 mid new) c.job-item.is ran.2))),
    )

pub returns-then-not-run_one-clause-ran : goal.returns-then-not-run_one-clause-ran
returns-then-not-run_one-clause-ran g c =
    let i = c.loop-job.invariant in
    let number = c.args.self.now.number in
    let js = c.args.jobs.now in
    let done = own_jobs number (take c.loop-job.job-index js) in
    let old = c.args.runner.now.seats in
    let ran = c.if-not-run_one.ensures.ran in
    worked_short number js c.loop-job.job-index _ _ _ _ refl
    (subst (λ (given : List JobAnswer). RunsJobs done given old c.run_one.new.runner.seats) (sym ran.0)
    (subst (λ (seats : List WorkerSeat). RunsJobs done c.loop-job.self.answers.items old seats) (sym ran.1) i.3))
