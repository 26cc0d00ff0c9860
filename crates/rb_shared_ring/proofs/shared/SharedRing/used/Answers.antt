use Rattle.std.proofs.Common.{◌∙◌, ap, sym, length}
use Rattle.rb_shared_ring.proofs.SeatNumbers.{book-in}
use Rattle.rb_shared_ring.proofs.TakenNumbers.{used-counts, keeps-after}
use Rattle.rb_shared_ring.proofs.shared.SharedRing.used.Goals as goal

pub invariant_of-seat : goal.invariant_of-seat
invariant_of-seat g c =
    let e = c.used_with.ensures in
    let i = c.seat.invariant in
    let seat = c.seat.inside in
    let n = used-counts seat.consumed seat.skipped seat.position _ _ i.2.ties i.2.spaced _ c.used_with.result.0 c.used_with.result.1 e.call in (
      e.same.2 ∙ i.0,
      keeps-after _ _ _ _ _ _ i.1 e.idle (book-in _ _ _ _ e.call) n.1 e.room seat.chapters (i.1.chapters_are ∙ ap length (sym e.chapters)),
      record { ties = n.0; spaced = i.2.spaced },
    )
