use Rattle.std.proofs.Common.{◌≡◌, ℕ, List, vec_len}
use Rattle.std.specs.List.{All}
use Rattle.crossbeam_queue.specs.Passes.{view, IsSamePass}
use Rattle.rb_chapter_ring.specs.Chapters.{Chapter}
use Rattle.rb_chapter_ring.specs.Hands.{HandBook}
use Rattle.rb_ledger.specs.HandKnowledge.{AllKnowHands}
use Rattle.rb_ledger.specs.HandedOut.{KnewHandedOut}
use Rattle.rb_ledger.specs.SeatRoles.{roles_of, HasOwnCounts}
use Rattle.rb_shared_ring.proofs.GatheredSeats.{HasGathered}
use Rattle.rb_shared_ring.proofs.closed_ring.gather.Given as goal

abbrev pub invariant-loop-seat : goal.invariant-loop-seat
invariant-loop-seat l =
    IsSamePass l.initial.pass l.pass
    × HasGathered l.seats.items (view l.pass) (view l.initial.pass) (roles_of l.initial.seats.items)
    × ((view l.pass).out ≡ (view l.initial.pass).out)
    × All (λ s. s.ring ≡ l.initial.pass.table_id) l.seats.items
    × (All HasOwnCounts l.seats.items → All HasOwnCounts l.initial.seats.items)
    × ((room : ℕ) (handed_out : List Chapter) (book : HandBook) → AllKnowHands room handed_out book (view l.pass).knows → KnewHandedOut handed_out l.seats.items → KnewHandedOut handed_out l.initial.seats.items)

abbrev pub decreases-loop-seat : goal.decreases-loop-seat
decreases-loop-seat l = vec_len l.seats
