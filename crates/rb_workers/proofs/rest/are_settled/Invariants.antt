use Rattle.std.proofs.Common.{take}
use Rattle.std.specs.Prelude.{All}
use Rattle.rb_ledger.specs.Seats.{HasSettledAll}
use Rattle.rb_workers.proofs.rest.are_settled.Given as goal

abbrev pub invariant-loop-seat : goal.invariant-loop-seat
invariant-loop-seat l = All HasSettledAll (take l.seat-index l.seats)
