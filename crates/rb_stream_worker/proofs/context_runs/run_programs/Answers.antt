use Rattle.std.proofs.Common.{rules}
use Rattle.rb_stream_worker.proofs.Runs.{tasks_more}
use Rattle.rb_stream_worker.proofs.context_runs.run_programs.Goals as goal

pub loop-index-preserved : goal.loop-index-preserved
loop-index-preserved g c = search (rules, tasks_more)
