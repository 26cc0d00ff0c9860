use Rattle.std.proofs.Common.{◌≡◌, ◌+◌, ◌-◌, ◌∙◌, ap, sym, subst, arith, take, drop, length}
use Rattle.crossbeam_queue.specs.Passes.{view}
use Rattle.rb_history.specs.ManyTakes.{TakesMany, pushed}
use Rattle.rb_ledger.specs.Roles.Role.{Consumer}
use Rattle.rb_ledger.specs.LockedCalls.{LockedCall}
use Rattle.rb_ledger.specs.EntryRoom.{InRoomBehind}
use Rattle.rb_ledger.specs.ManyTakes.{events_among, skips_among, span_among, AreTakenFrom}
use Rattle.rb_ledger.proofs.ManyTakes.{slice-pushed}
use Rattle.rb_ledger.specs.ChapterSeats.{ChapterConsumerSeat, entries_out}
use Rattle.rb_shared_ring.specs.inner.HandPasses.{seen_with}
use Rattle.rb_shared_ring.proofs.SeatNumbers.{book-in}
use Rattle.rb_shared_ring.proofs.TakenNumbers.{many-called, many-counts, many-stood, keeps-after, counts-after}
use Rattle.rb_shared_ring.proofs.shared.SharedRing.take_many.Goals as goal

pub moves_of-moves-requires-clause-events : goal.moves_of-moves-requires-clause-events
moves_of-moves-requires-clause-events g c =
    let e = c.take_many_with-count.ensures in
    let i = c.seat.invariant in
    let seat = c.seat.inside in
    let ts = pushed c.args.out.now.items c.take_many_with-count.new.out.items in
    let part : take (length c.deref.result.now - c.len-before.result) (drop c.len-before.result c.deref.result.now) ≡ ts = slice-pushed c.args.out.now.items c.take_many_with-count.new.out.items c.deref.result.now c.len-before.result c.deref.ensures.value (omega (arith, c.len-before.ensures, c.args.out.now.ok.0)) in
    let n = many-counts seat.consumed seat.skipped seat.position _ _ i.2.ties i.2.spaced _ _ c.args.n ts e.call in
    omega (arith, n.spaced, n.position_low, ap events_among part)

pub moves_of-moves-requires-clause-skips : goal.moves_of-moves-requires-clause-skips
moves_of-moves-requires-clause-skips g c =
    let e = c.take_many_with-count.ensures in
    let i = c.seat.invariant in
    let seat = c.seat.inside in
    let ts = pushed c.args.out.now.items c.take_many_with-count.new.out.items in
    let part : take (length c.deref.result.now - c.len-before.result) (drop c.len-before.result c.deref.result.now) ≡ ts = slice-pushed c.args.out.now.items c.take_many_with-count.new.out.items c.deref.result.now c.len-before.result c.deref.ensures.value (omega (arith, c.len-before.ensures, c.args.out.now.ok.0)) in
    let n = many-counts seat.consumed seat.skipped seat.position _ _ i.2.ties i.2.spaced _ _ c.args.n ts e.call in
    omega (arith, n.spaced, n.position_low, ap skips_among part)

pub moves_of-moves-requires-clause-span : goal.moves_of-moves-requires-clause-span
moves_of-moves-requires-clause-span g c =
    let e = c.take_many_with-count.ensures in
    let i = c.seat.invariant in
    let seat = c.seat.inside in
    let ts = pushed c.args.out.now.items c.take_many_with-count.new.out.items in
    let part : take (length c.deref.result.now - c.len-before.result) (drop c.len-before.result c.deref.result.now) ≡ ts = slice-pushed c.args.out.now.items c.take_many_with-count.new.out.items c.deref.result.now c.len-before.result c.deref.ensures.value (omega (arith, c.len-before.ensures, c.args.out.now.ok.0)) in
    let n = many-counts seat.consumed seat.skipped seat.position _ _ i.2.ties i.2.spaced _ _ c.args.n ts e.call in
    omega (arith, n.spaced, n.position_low, ap span_among part)

pub overflow_add-seat : goal.overflow_add-seat
overflow_add-seat g c =
    let e = c.take_many_with-count.ensures in
    let i = c.seat.invariant in
    let seat = c.seat.inside in
    let ts = pushed c.args.out.now.items c.take_many_with-count.new.out.items in
    let part : take (length c.deref.result.now - c.len-before.result) (drop c.len-before.result c.deref.result.now) ≡ ts = slice-pushed c.args.out.now.items c.take_many_with-count.new.out.items c.deref.result.now c.len-before.result c.deref.ensures.value (omega (arith, c.len-before.ensures, c.args.out.now.ok.0)) in
    let n = many-counts seat.consumed seat.skipped seat.position _ _ i.2.ties i.2.spaced _ _ c.args.n ts e.call in
    omega (arith, n.spaced, n.position_low, c.moves_of-moves.ensures.events, ap events_among part)

pub overflow_add-seat-2 : goal.overflow_add-seat-2
overflow_add-seat-2 g c =
    let e = c.take_many_with-count.ensures in
    let i = c.seat.invariant in
    let seat = c.seat.inside in
    let ts = pushed c.args.out.now.items c.take_many_with-count.new.out.items in
    let part : take (length c.deref.result.now - c.len-before.result) (drop c.len-before.result c.deref.result.now) ≡ ts = slice-pushed c.args.out.now.items c.take_many_with-count.new.out.items c.deref.result.now c.len-before.result c.deref.ensures.value (omega (arith, c.len-before.ensures, c.args.out.now.ok.0)) in
    let n = many-counts seat.consumed seat.skipped seat.position _ _ i.2.ties i.2.spaced _ _ c.args.n ts e.call in
    omega (arith, n.spaced, n.position_low, c.moves_of-moves.ensures.skips, ap skips_among part)

pub overflow_add-seat-3 : goal.overflow_add-seat-3
overflow_add-seat-3 g c =
    let e = c.take_many_with-count.ensures in
    let i = c.seat.invariant in
    let seat = c.seat.inside in
    let ts = pushed c.args.out.now.items c.take_many_with-count.new.out.items in
    let part : take (length c.deref.result.now - c.len-before.result) (drop c.len-before.result c.deref.result.now) ≡ ts = slice-pushed c.args.out.now.items c.take_many_with-count.new.out.items c.deref.result.now c.len-before.result c.deref.ensures.value (omega (arith, c.len-before.ensures, c.args.out.now.ok.0)) in
    let n = many-counts seat.consumed seat.skipped seat.position _ _ i.2.ties i.2.spaced _ _ c.args.n ts e.call in
    omega (arith, n.spaced, n.position_low, c.moves_of-moves.ensures.span, ap span_among part)

pub invariant_of-seat : goal.invariant_of-seat
invariant_of-seat g c =
    let e = c.take_many_with-count.ensures in
    let i = c.seat.invariant in
    let seat = c.seat.inside in
    let ts = pushed c.args.out.now.items c.take_many_with-count.new.out.items in
    let part : take (length c.deref.result.now - c.len-before.result) (drop c.len-before.result c.deref.result.now) ≡ ts = slice-pushed c.args.out.now.items c.take_many_with-count.new.out.items c.deref.result.now c.len-before.result c.deref.ensures.value (omega (arith, c.len-before.ensures, c.args.out.now.ok.0)) in
    let n = many-counts seat.consumed seat.skipped seat.position _ _ i.2.ties i.2.spaced _ _ c.args.n ts e.call in
    let m = c.moves_of-moves.ensures in (
      e.same.2 ∙ i.0,
      keeps-after _ _ _ _ _ _ i.1 e.idle (book-in _ _ _ _ e.call) n.setup_same e.room seat.chapters (i.1.chapters_are ∙ ap length (sym e.chapters)),
      counts-after _ _ _ _ _ _ _ _ _ _ _ n (m.events ∙ ap events_among part) (m.skips ∙ ap skips_among part) (m.span ∙ ap span_among part),
    )

pub returns-clause-place : goal.returns-clause-place
returns-clause-place g c =
    let i = c.seat.invariant in
    let seat = c.seat.inside in
    let ts = pushed c.args.out.now.items c.take_many_with-count.new.out.items in
    subst (λ (s : ChapterConsumerSeat). AreTakenFrom s.position ts) c.seat.view_is (many-stood seat.consumed seat.skipped seat.position _ _ i.2.ties i.2.spaced _ _ c.args.n ts c.take_many_with-count.ensures.call)

pub returns-clause-consumed : goal.returns-clause-consumed
returns-clause-consumed g c =
    let seat = c.seat.inside in
    let ts = pushed c.args.out.now.items c.take_many_with-count.new.out.items in
    let part : take (length c.deref.result.now - c.len-before.result) (drop c.len-before.result c.deref.result.now) ≡ ts = slice-pushed c.args.out.now.items c.take_many_with-count.new.out.items c.deref.result.now c.len-before.result c.deref.ensures.value (omega (arith, c.len-before.ensures, c.args.out.now.ok.0)) in
    subst (λ (s : ChapterConsumerSeat). seat.consumed + c.moves_of-moves.result.events ≡ s.consumed + events_among ts) c.seat.view_is (ap (λ n. seat.consumed + n) (c.moves_of-moves.ensures.events ∙ ap events_among part))

pub returns-clause-skipped : goal.returns-clause-skipped
returns-clause-skipped g c =
    let seat = c.seat.inside in
    let ts = pushed c.args.out.now.items c.take_many_with-count.new.out.items in
    let part : take (length c.deref.result.now - c.len-before.result) (drop c.len-before.result c.deref.result.now) ≡ ts = slice-pushed c.args.out.now.items c.take_many_with-count.new.out.items c.deref.result.now c.len-before.result c.deref.ensures.value (omega (arith, c.len-before.ensures, c.args.out.now.ok.0)) in
    subst (λ (s : ChapterConsumerSeat). seat.skipped + c.moves_of-moves.result.skips ≡ s.skipped + skips_among ts) c.seat.view_is (ap (λ n. seat.skipped + n) (c.moves_of-moves.ensures.skips ∙ ap skips_among part))

pub returns-clause-position : goal.returns-clause-position
returns-clause-position g c =
    let seat = c.seat.inside in
    let ts = pushed c.args.out.now.items c.take_many_with-count.new.out.items in
    let part : take (length c.deref.result.now - c.len-before.result) (drop c.len-before.result c.deref.result.now) ≡ ts = slice-pushed c.args.out.now.items c.take_many_with-count.new.out.items c.deref.result.now c.len-before.result c.deref.ensures.value (omega (arith, c.len-before.ensures, c.args.out.now.ok.0)) in
    subst (λ (s : ChapterConsumerSeat). seat.position + c.moves_of-moves.result.span ≡ s.position + span_among ts) c.seat.view_is (ap (λ n. seat.position + n) (c.moves_of-moves.ensures.span ∙ ap span_among part))

pub returns-clause-call : goal.returns-clause-call
returns-clause-call g c =
    let ts = pushed c.args.out.now.items c.take_many_with-count.new.out.items in
    subst (λ (s : ChapterConsumerSeat). LockedCall Consumer s.seen (seen_with (view c.take_many_with-count.new.pass)) (InRoomBehind s.room (entries_out s) (TakesMany c.args.n ts))) c.seat.view_is
    (many-called _ _ _ _ c.args.n ts c.take_many_with-count.ensures.call)
