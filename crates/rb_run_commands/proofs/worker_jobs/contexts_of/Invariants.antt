use Rattle.std.proofs.Common.{◌≡◌}
use Rattle.rb_run_commands.specs.inner.JobContexts.{contexts_of_workers}
use Rattle.rb_run_commands.proofs.worker_jobs.contexts_of.Given as goal

abbrev pub invariant-loop-worker : goal.invariant-loop-worker
invariant-loop-worker l = l.contexts.items ≡ contexts_of_workers l.worker l.jobs
