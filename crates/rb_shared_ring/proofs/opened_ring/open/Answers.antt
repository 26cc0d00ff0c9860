use Rattle.std.proofs.Common.{◌≡◌, ◌-◌, ◌++◌, ◌∙◌, ◌<◌, [], ap, sym, subst, refl, append-nil, arith}
use Rattle.std.specs.FinMap.{empty}
use Rattle.crossbeam_queue.specs.Passes.{view}
use Rattle.rb_chapter_ring.specs.Hands.{free_book}
use Rattle.rb_chapter_ring.specs.HandRing.{HandRing, HasHands}
use Rattle.rb_chapter_ring.specs.TaggedRing.{TaggedRing}
use Rattle.rb_ledger.specs.ChapteredRing.{chaptered_ring, IsChapteredRing}
use Rattle.rb_ledger.specs.Roles.{Book}
use Rattle.rb_ledger.specs.Seats.{IsBook, fresh_book, fresh_seat, fresh_seats}
use Rattle.rb_ledger.proofs.Opens.{seats-more}
use Rattle.rb_shared_ring.proofs.OpenedSeats.{first-ring, next-consumer, opened-book, next-worker}
use Rattle.rb_shared_ring.proofs.LockedSteps.{kept-by-facts}
use Rattle.rb_shared_ring.proofs.opened_ring.open.Goals as goal

pub new_seat-seat-requires-clause-role : goal.new_seat-seat-requires-clause-role
new_seat-seat-requires-clause-role g c = (next-worker (fresh_book c.args.size c.args.start c.args.workers) _ _ _ _ c.loop-worker-test.true c.loop-worker.invariant.1).first_is

pub new_seat-seat-requires-clause-nothing : goal.new_seat-seat-requires-clause-nothing
new_seat-seat-requires-clause-nothing g c =
    let n = next-worker (fresh_book c.args.size c.args.start c.args.workers) _ _ _ _ c.loop-worker-test.true c.loop-worker.invariant.1 in
    ap (λ (b : Book). b.history) n.seen_is

pub new_seat-seat-requires-clause-book : goal.new_seat-seat-requires-clause-book
new_seat-seat-requires-clause-book g c =
    let n = next-worker (fresh_book c.args.size c.args.start c.args.workers) _ _ _ _ c.loop-worker-test.true c.loop-worker.invariant.1 in
    let opened = c.in_ok-state.ensures.opened in
    let book = opened-book _ _ _ _ _ (ap (λ (x : HandRing). x.ring) opened) (first-ring _ _ _ (ap (λ (x : HandRing). x.ring) opened) (kept-by-facts _ c.facts.ensures.kept c.facts.ensures.stands c.facts.ensures.bounded c.facts.ensures.hands).kept).0 in
    (subst IsBook (sym n.seen_is) book, subst (λ (b : Book). c.loop-worker.worker < b.setup.workers) (sym n.seen_is) c.loop-worker-test.true)

pub loop-worker-preserved : goal.loop-worker-preserved
loop-worker-preserved g c =
    let b = fresh_book c.args.size c.args.start c.args.workers in
    let i = c.loop-worker.invariant in
    let s = c.new_seat-seat.ensures.same in
    let n = next-worker b _ _ _ _ c.loop-worker-test.true i.1 in (
      (s.0 ∙ i.0.0, s.1 ∙ i.0.1, s.2 ∙ i.0.2),
      c.new_seat-seat.ensures.rest ∙ n.rest_is,
      seats-more c.args.tag _ _ c.args.room b _ _ _ _ _ _ c.loop-worker-test.true refl (c.new_seat-seat.ensures.seat ∙ (λ k. fresh_seat c.args.tag (i.0.0 k) (n.room_is k) c.loop-worker.worker (n.seen_is k))) c.in-Ok-push.ensures.items i.2,
    )

pub new_consumer-consumer-requires-clause-book : goal.new_consumer-consumer-requires-clause-book
new_consumer-consumer-requires-clause-book g c =
    let opened = c.in_ok-state.ensures.opened in
    let book = opened-book _ _ _ _ _ (ap (λ (x : HandRing). x.ring) opened) (first-ring _ _ _ (ap (λ (x : HandRing). x.ring) opened) (kept-by-facts _ c.facts.ensures.kept c.facts.ensures.stands c.facts.ensures.bounded c.facts.ensures.hands).kept).0 in
    let n = next-consumer c.in-Ok-new.state.value.state c.args.room c.args.size c.args.start c.args.workers (view c.put_first.new.pass) (view c.put_first.new.pass) (ap (λ (x : HandRing). x.ring) (ap (λ (x : TaggedRing). x.state) c.in-Ok-new.ensures.ok ∙ opened)) c.put_first.ensures.put in
    subst IsBook (sym n.seen_is) book

pub put_first-requires-clause-opened : goal.put_first-requires-clause-opened
put_first-requires-clause-opened g c =
    subst (λ (x : TaggedRing). IsChapteredRing (chaptered_ring [] x.state.ring) × (x.state.ring.contents ≡ empty)) (sym c.in-Ok-new.ensures.ok) (first-ring _ _ _ (ap (λ (x : HandRing). x.ring) c.in_ok-state.ensures.opened) (kept-by-facts _ c.facts.ensures.kept c.facts.ensures.stands c.facts.ensures.bounded c.facts.ensures.hands).kept)

pub put_first-requires-clause-hands : goal.put_first-requires-clause-hands
put_first-requires-clause-hands g c =
    let opened = c.in_ok-state.ensures.opened in
    let free : c.in_ok-state.state.state.hands ≡ free_book c.in_ok-state.state.state.ring.chapter.opening.setup.workers = ap (λ (x : HandRing). x.hands) opened ∙ sym (ap (λ (x : HandRing). free_book x.ring.chapter.opening.setup.workers) opened) in
    subst (λ (x : TaggedRing). HasHands x.state × (x.state.hands ≡ free_book x.state.ring.chapter.opening.setup.workers)) (sym c.in-Ok-new.ensures.ok) (c.facts.ensures.hands, free)

pub returns-clause-seats : goal.returns-clause-seats
returns-clause-seats g c =
    let b = fresh_book c.args.size c.args.start c.args.workers in
    let i = c.loop-worker.invariant in
    let none : c.args.workers - c.loop-worker.worker ≡ 0 = omega (arith, c.loop-worker-test.false) in
    let table : c.new_consumer-consumer.new.pass.table_id ≡ c.in-Ok.lock.table.shared.table_id = c.new_consumer-consumer.ensures.same.0 ∙ c.put_first.ensures.same.0 ∙ c.in-Ok.ensures.pass.0 in
    sym (append-nil c.loop-worker.seats.items)
    ∙ ap (λ k. c.loop-worker.seats.items ++ fresh_seats c.args.tag c.new_consumer-consumer.new.pass.table_id c.args.room b c.loop-worker.worker k) (sym none)
    ∙ i.2
    ∙ ap (λ t. fresh_seats c.args.tag t c.args.room b 0 c.args.workers) table
