use Rattle.rb_shared_ring.specs.SharedSeats.{IsSameChapterConsumer}
use Rattle.rb_for_tests.proofs.consumer.consume.Given as goal

abbrev pub invariant-loop : goal.invariant-loop
invariant-loop g l = IsSameChapterConsumer l.fn.seat l.seat
