use Rattle.std.proofs.Common.{◌≡◌, drop, take}
use Rattle.rb_stream_worker.specs.ContextRuns.{RunsContexts}
use Rattle.rb_stream_worker.specs.declared.when_full.WhenFull.TheVariants.{Refuse}
use Rattle.rb_stream_worker.proofs.context_runs.run_part.Given as goal

abbrev pub invariant-loop-at : goal.invariant-loop-at
invariant-loop-at g l = record {
  rings : l.runner.rings ≡ l.initial.runner.rings;
  ran : RunsContexts Refuse l.worker l.programs (drop l.from (take l.at l.piece.contexts)) l.initial.runner.seats l.runner.seats l.initial.counts l.counts;
}
