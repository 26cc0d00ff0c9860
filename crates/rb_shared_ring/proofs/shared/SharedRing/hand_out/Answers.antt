use Rattle.std.proofs.Common.{◌≡◌, ◌+◌, ◌∙◌, ◌∷◌, [], ap, sym, subst, length, length-append, arith}
use Rattle.crossbeam_queue.specs.Passes.{view}
use Rattle.rb_ledger.specs.ChapterSeats.{ChapterConsumerSeat}
use Rattle.rb_shared_ring.specs.inner.HandPasses.{handed_out_with}
use Rattle.rb_shared_ring.proofs.SeatNumbers.{book-in}
use Rattle.rb_shared_ring.proofs.TakenNumbers.{next-counts, next-number, keeps-after}
use Rattle.rb_shared_ring.proofs.shared.SharedRing.hand_out.Goals as goal

pub invariant_of-seat : goal.invariant_of-seat
invariant_of-seat g c =
    let e = c.hand_out_with-chapter.ensures in
    let i = c.seat.invariant in
    let seat = c.seat.inside in
    let x = c.hand_out_with-chapter.result in
    let n = next-counts seat.consumed seat.skipped seat.position _ _ i.2.ties i.2.spaced _ x e.call in
    let more : seat.chapters + 1 ≡ length (handed_out_with (view c.hand_out_with-chapter.new.pass)) = omega (arith, i.1.chapters_are, length-append (handed_out_with (view seat.pass)) (x ∷ [])) ∙ ap length (sym e.chapters) in (
      e.same.2 ∙ i.0,
      keeps-after _ _ _ _ _ _ i.1 e.idle (book-in _ _ _ _ e.call) n.1 e.room (seat.chapters + 1) more,
      record { ties = n.0; spaced = i.2.spaced },
    )

pub returns-clause-number : goal.returns-clause-number
returns-clause-number g c =
    let i = c.seat.invariant in
    let seat = c.seat.inside in
    let x = c.hand_out_with-chapter.result in
    subst (λ (s : ChapterConsumerSeat). x.number ≡ length s.handed_out) c.seat.view_is (next-number seat.consumed seat.skipped seat.position _ _ i.2.ties i.2.spaced _ x c.hand_out_with-chapter.ensures.call)
