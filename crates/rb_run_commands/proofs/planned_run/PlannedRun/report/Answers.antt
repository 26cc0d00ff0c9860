use Rattle.std.proofs.Common.{◌≡◌, ◌≤◌, ◌∙◌, map, vec_len, ap, subst, sym, arith}
use Rattle.std.proofs.lemmas.Bool.{true≢false}
use Rattle.rb_jobs.specs.Jobs.{task_of}
use Rattle.rb_workers.specs.Reports.{has_unknown_worker}
use Rattle.rb_run_commands.specs.RunCommand.{RunPlan, RunsWorkers}
use Rattle.rb_run_commands.specs.WorkerJobs.{tasks_of_workers}
use Rattle.rb_run_commands.proofs.Running.{one_opened, one_count, ran_workers}
use Rattle.rb_run_commands.proofs.WorkerTasks.{rings_known, tasks_lent, workers_known}
use Rattle.rb_run_commands.proofs.planned_run.PlannedRun.report.Goals as goal

pub run_jobs-requires-clause-opened : goal.run_jobs-requires-clause-opened
run_jobs-requires-clause-opened g c = λ lives outlives. one_opened _ _ c.in-Ok.one _ c.in_ok-opened.ensures.items c.in-Ok.ensures.opened

pub unreachable-requires-in-Err-UnknownRing-default : goal.unreachable-requires-in-Err-UnknownRing-default
unreachable-requires-in-Err-UnknownRing-default g c =
    let plan = c.self.inside in
    let yes = c.in-Err-UnknownRing-default.ensures.unknown_ring.0 c.in-Err-UnknownRing-default.field-0-0-is in
    let one : vec_len c.in_ok-opened.opened ≡ 1 = c.in_ok-opened.ensures.len in
    let rings : plan.program.rings ≡ 1 = c.self.invariant.0 in
    let few : plan.program.rings ≤ vec_len c.in_ok-opened.opened = omega (arith, one, rings) in
    let tasks : map task_of c.as_slice-2.result.now ≡ tasks_of_workers plan.program plan.workers plan.request.jobs =
    tasks_lent plan.program plan.workers plan.request.jobs _ _ _ _ c.self.invariant.5 c.as_slice.ensures.value c.in_ok-jobs.ensures.jobs c.as_slice-2.ensures.value in
    true≢false (sym yes ∙ rings_known plan.program plan.workers plan.request.jobs _ tasks _ few)

pub unreachable-requires-in-Err-UnknownWorker-default : goal.unreachable-requires-in-Err-UnknownWorker-default
unreachable-requires-in-Err-UnknownWorker-default g c =
    let plan = c.self.inside in
    let yes = (c.in-Err-UnknownWorker-default.ensures.unknown_worker.0 c.in-Err-UnknownWorker-default.field-0-0-is).1 in
    let tasks : map task_of c.as_slice-2.result.now ≡ tasks_of_workers plan.program plan.workers plan.request.jobs =
    tasks_lent plan.program plan.workers plan.request.jobs _ _ _ _ c.self.invariant.5 c.as_slice.ensures.value c.in_ok-jobs.ensures.jobs c.as_slice-2.ensures.value in
    let count = one_count _ _ c.in-Ok.one _ c.in_ok-opened.ensures.items c.in-Ok.ensures.opened in
    true≢false (sym yes ∙ (ap (λ n. has_unknown_worker n c.as_slice-2.result.now) count ∙ workers_known plan.program plan.workers plan.request.jobs _ tasks))

pub returns-in-Ok-run_jobs : goal.returns-in-Ok-run_jobs
returns-in-Ok-run_jobs g c =
    let plan = c.self.inside in
    let tasks : map task_of c.as_slice-2.result.now ≡ tasks_of_workers plan.program plan.workers plan.request.jobs =
    tasks_lent plan.program plan.workers plan.request.jobs _ _ _ _ c.self.invariant.5 c.as_slice.ensures.value c.in_ok-jobs.ensures.jobs c.as_slice-2.ensures.value in
    record {
      ran =
          subst (λ (p : RunPlan). RunsWorkers g.S.Sink.position_of g.S.Sink.takes c.args.sink p.program p.request c.in-Ok-run_jobs.report) c.self.view_is
          (ran_workers _ _ c.args.sink plan.program plan.request plan.workers c.chapter_room.result c.chapter_margin.result c.in-Ok.one c.in_ok-opened.opened.items c.as_slice-2.result.now c.in-Ok-run_jobs.report
          c.self.invariant.4 c.chapter_room.ensures.room c.chapter_margin.ensures.margin c.in_ok-opened.ensures.items c.in-Ok.ensures.seats c.in-Ok.ensures.consumer c.in-Ok.ensures.keeper c.in-Ok.ensures.sink c.in-Ok.ensures.nothing_made
          tasks c.in-Ok-run_jobs.ensures.report c.in-Ok-run_jobs.ensures.no_strays c.in-Ok-run_jobs.ensures.settled);
    }
