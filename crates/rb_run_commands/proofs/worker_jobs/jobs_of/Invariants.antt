use Rattle.std.proofs.Common.{◌≡◌, ◌≤◌, length, map, take, vec_len, vec_capacity}
use Rattle.rb_jobs.specs.Jobs.{task_of}
use Rattle.rb_run_commands.specs.inner.JobContexts.{task_over}
use Rattle.rb_run_commands.proofs.worker_jobs.jobs_of.Given as goal

abbrev pub invariant-loop-own : goal.invariant-loop-own
invariant-loop-own l =
    (vec_len l.jobs ≡ l.own-index) × (length l.contexts ≤ vec_capacity l.jobs)
    × (map task_of l.jobs.items ≡ map (task_over l.program) (take l.own-index l.contexts))
