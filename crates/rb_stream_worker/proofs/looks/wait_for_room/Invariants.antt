use Rattle.rb_stream_worker.specs.Turns.{SeesMore}
use Rattle.rb_stream_worker.proofs.looks.wait_for_room.Given as goal

abbrev pub invariant-loop : goal.invariant-loop
invariant-loop g l = SeesMore l.fn.seat l.seat
