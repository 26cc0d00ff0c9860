use Rattle.std.proofs.Common.{arith}
use Rattle.rb_run_commands.proofs.WorkerTasks.{context_more}
use Rattle.rb_run_commands.proofs.worker_jobs.push_contexts.Goals as goal

pub loop-job-preserved : goal.loop-job-preserved
loop-job-preserved c =
    let i = c.loop-job.invariant in (
      omega arith,
      omega arith,
      context_more c.args.worker c.loop-job.job _ _ _ _ c.push_reserved.ensures.items i.2 c.context_of.ensures.context,
    )
