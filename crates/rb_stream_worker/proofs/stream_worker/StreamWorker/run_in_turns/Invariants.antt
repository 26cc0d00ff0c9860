use Rattle.std.proofs.Common.{◌≤◌, length, take}
use Rattle.rb_stream_worker.specs.ContextRuns.{IsReadyWorker, WorkerRuns}
use Rattle.rb_stream_worker.proofs.stream_worker.StreamWorker.run_in_turns.Given as goal

abbrev pub invariant-loop : goal.invariant-loop
invariant-loop g l = record {
  ready : IsReadyWorker l.self;
  ran : WorkerRuns l.initial.self (take l.from l.piece.contexts) l.self;
  inside : l.from ≤ length l.piece.contexts;
  onward : l.counter ≤ l.from;
}
