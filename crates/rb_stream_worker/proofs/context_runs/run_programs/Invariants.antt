use Rattle.std.proofs.Common.{◌≡◌}
use Rattle.rb_stream_worker.specs.Tasks.{tasks_over}
use Rattle.rb_stream_worker.specs.inner.RanTasks.{RanTasks}
use Rattle.rb_stream_worker.proofs.context_runs.run_programs.Given as goal

abbrev pub invariant-loop-index : goal.invariant-loop-index
invariant-loop-index g l = record {
  rings : l.runner.rings ≡ l.initial.runner.rings;
  ran : RanTasks l.worker l.programs (tasks_over l.index l.context) l.initial.runner.seats l.runner.seats l.initial.counts l.counts;
}
