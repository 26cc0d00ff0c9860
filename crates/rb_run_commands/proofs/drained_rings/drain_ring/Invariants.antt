use Rattle.rb_shared_ring.specs.SharedSeats.{IsSameChapterConsumer}
use Rattle.rb_run_commands.specs.DrainedRings.{TakesRecords}
use Rattle.rb_run_commands.proofs.drained_rings.drain_ring.Given as goal

abbrev pub invariant-loop : goal.invariant-loop
invariant-loop g l = record {
  same : IsSameChapterConsumer l.fn.consumer l.consumer;
  each : TakesRecords l.fn.consumer l.records.items l.consumer;
}
