use Rattle.std.proofs.Common.{◌≡◌, ◌+◌, take}
use Rattle.rb_ledger.specs.Seats.{all_discarded, all_submitted}
use Rattle.rb_workers.proofs.rest.are_numbers_of.Given as goal

abbrev pub invariant-loop-seat : goal.invariant-loop-seat
invariant-loop-seat l =
    (l.consumed + all_submitted (take l.seat-index l.seats) ≡ l.fn.consumed) × (l.skipped + all_discarded (take l.seat-index l.seats) ≡ l.fn.skipped)
