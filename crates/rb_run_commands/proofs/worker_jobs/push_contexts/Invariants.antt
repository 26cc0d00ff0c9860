use Rattle.std.proofs.Common.{◌≡◌, ◌+◌, ◌≤◌, ◌++◌, vec_len, vec_capacity}
use Rattle.rb_run_commands.specs.inner.JobContexts.{worker_contexts}
use Rattle.rb_run_commands.proofs.worker_jobs.push_contexts.Given as goal

abbrev pub invariant-loop-job : goal.invariant-loop-job
invariant-loop-job l =
    (vec_len l.contexts ≡ vec_len l.initial.contexts + l.job) × (vec_len l.initial.contexts + l.jobs ≤ vec_capacity l.contexts)
    × (l.contexts.items ≡ l.fn.contexts.items ++ worker_contexts l.job l.worker)
