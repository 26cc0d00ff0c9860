use Rattle.std.proofs.Common.{◌≡◌, ℕ, ◌+◌, ◌-◌, ◌%◌, ◌≤◌, ◌↔◌, List, None, get_or, length, refl, sym, ap, ◌∙◌, subst, arith}
use Rattle.rb_history.specs.declared.answers.Notice.TheVariants.{Due}
use Rattle.rb_history.specs.NoticesAndQueries.{IsDue}
use Rattle.rb_history.specs.ReservationModel.{Granted}
use Rattle.rb_history.specs.inner.RecordRows.{IsBusyAt}
use Rattle.rb_chapter_ring.specs.Snapshot.{Snapshot}
use Rattle.rb_chapter_ring.specs.Chapters.{closing_of}
use Rattle.rb_chapter_ring.specs.ChapterCalls.{consumer_by_chapter}
use Rattle.rb_chapter_ring.specs.Hands.{HandBook, with_hand}
use Rattle.rb_chapter_ring.specs.HandGranted.{HandGranted}
use Rattle.rb_chapter_ring.specs.HandRing.{HandRing, hand_ring, HasInHand}
use Rattle.rb_chapter_ring.specs.RecordEnds.{EndsFromHand}
use Rattle.rb_chapter_ring.specs.TaggedRing.{TaggedRing}
use Rattle.rb_chapter_ring.specs.inner.EndSteps.{slots_with_end}
use Rattle.rb_chapter_ring.specs.inner.Ordinals.{IsHandState, taken_before}
use Rattle.rb_chapter_ring.specs.inner.RingBody.{RingParts, AreParts, parts_of, ring_in, stored_of}
use Rattle.rb_chapter_ring.proofs.CountSteps.{countable}
use Rattle.rb_chapter_ring.proofs.HandCalls.{in-hand-is-busy}
use Rattle.rb_chapter_ring.proofs.RingSteps.{EndsParts, after_end, busy-record-now, ends}
use Rattle.rb_chapter_ring.proofs.Rows.{legal, stands-for}
use Rattle.rb_chapter_ring.proofs.Settles.{ends-by}
use Rattle.rb_chapter_ring.proofs.StateSteps.{has-busy-ordinal, ends-from, ended-holds}
use Rattle.rb_chapter_ring.proofs.ring.RingState.settle.Goals as goal
use Rattle.rb_chapter_ring.proofs.ring.RingState.settle.Goals.{After-set_hand}

-- the place of a reservation's record: n is the ordinal that is stored for its hand, and t the number of records that
-- were taken
record HasPlace (p : RingParts) (r : Granted) (n t : ℕ) : Type 0 where
  within : t ≤ n
  whole : n ≡ taken_before (closing_of p.chapter) + (n - t)
  here : IsBusyAt (ring_in p).shown (n - t) r.pos (length r.bytes)

place-in-hand : (p : RingParts) (i : AreParts p) (hands : HandBook) (ordinals : List (List ℕ)) → IsHandState (hand_ring (ring_in p) hands) ordinals → (v : HandRing) → hand_ring (ring_in p) hands ≡ v → (r : HandGranted) → HasInHand v r.hand r.granted
    → (own : HandGranted) → own ≡ r → (row : List ℕ) → row ≡ get_or ordinals own.granted.worker row → (consumed skipped : ℕ) → consumed ≡ (closing_of p.chapter).consumed → skipped ≡ (closing_of p.chapter).skipped → HasPlace p r.granted (get_or row own.hand 0) (consumed + skipped)
place-in-hand p i hands ordinals state v v_is r out own own_is row row_is consumed skipped consumed_is skipped_is =
    let named = subst (λ h. HasInHand (hand_ring (ring_in p) hands) h r.granted) (ap (λ (s : HandGranted). s.hand) (sym own_is)) (subst (λ u. HasInHand u r.hand r.granted) (sym v_is) out) in
    let stands = stands-for i.earlier p.chapter (stored_of p.chapter p.sheets) i.counts i.ring in
    let num = has-busy-ordinal i.earlier (hand_ring (ring_in p) hands) ordinals i.ring.kept stands state own.hand r.granted named own.granted.worker row (ap (λ (s : HandGranted). s.granted.worker) own_is) row_is in
    let taken : consumed + skipped ≡ taken_before (closing_of p.chapter) = λ j. consumed_is j + skipped_is j in
    record {
      within = omega (arith, num.passed, taken);
      whole = omega (arith, num.passed, taken);
      here = subst (λ t. IsBusyAt (ring_in p).shown (get_or row own.hand 0 - t) r.granted.pos (length r.granted.bytes)) (sym taken) num.here;
    }

pub overflow_sub-index : goal.overflow_sub-index
overflow_sub-index c =
    let place = place-in-hand (parts_of c.self.inside) c.self.invariant.parts c.self.inside.hands.items c.self.inside.ordinals.items c.self.invariant.hands c.args.self.now.state (ap (λ (s : TaggedRing). s.state) c.self.view_is) c.args.reservation c.requires.out _ c.reservation.view_is c.index.result.now c.index.ensures c.numbers-numbers.result.consumed c.numbers-numbers.result.skipped
    (c.numbers-numbers.ensures.consumed ∙ ap (λ (o : Snapshot). o.consumed) c.closing.ensures.closing) (c.numbers-numbers.ensures.skipped ∙ ap (λ (o : Snapshot). o.skipped) c.closing.ensures.closing) in
    place.within

pub log_end-requires : goal.log_end-requires
log_end-requires c =
    let r = c.args.reservation.granted in
    let place = place-in-hand (parts_of c.self.inside) c.self.invariant.parts c.self.inside.hands.items c.self.inside.ordinals.items c.self.invariant.hands c.args.self.now.state (ap (λ (s : TaggedRing). s.state) c.self.view_is) c.args.reservation c.requires.out _ c.reservation.view_is c.index.result.now c.index.ensures c.numbers-numbers.result.consumed c.numbers-numbers.result.skipped
    (c.numbers-numbers.ensures.consumed ∙ ap (λ (o : Snapshot). o.consumed) c.closing.ensures.closing) (c.numbers-numbers.ensures.skipped ∙ ap (λ (o : Snapshot). o.skipped) c.closing.ensures.closing) in
    record { busy = busy-record-now (parts_of c.self.inside) c.self.invariant.parts _ r.pos r.bytes place.here }

pub count_discard-requires : goal.count_discard-requires
count_discard-requires c =
    let a = c.self.inside in
    let i = c.self.invariant.parts in
    let few = (countable a.chapter.opening.setup _ i.counts (legal i.earlier a.chapter (stored_of a.chapter a.sheets.items) i.counts i.ring) i.ring.counted).discarded in
    record { total = omega (arith, few, i.discarded_is) }

-- the ring without its hands
committed : (c : After-set_hand) → EndsParts c.args.end c.args.reservation.granted.pos c.args.reservation.granted.bytes (parts_of c.self.inside) (after_end (parts_of c.self.inside) c.log_end.new.self c.keep_bytes.new.sheets.items c.count_discard.new.discarded)
committed c =
    let a = c.self.inside in
    let p = parts_of a in
    let r = c.args.reservation.granted in
    let index = get_or c.index.result.now c.reservation.inside.hand 0 - (c.numbers-numbers.result.consumed + c.numbers-numbers.result.skipped) in
    let place = place-in-hand (parts_of c.self.inside) c.self.invariant.parts c.self.inside.hands.items c.self.inside.ordinals.items c.self.invariant.hands c.args.self.now.state (ap (λ (s : TaggedRing). s.state) c.self.view_is) c.args.reservation c.requires.out _ c.reservation.view_is c.index.result.now c.index.ensures c.numbers-numbers.result.consumed c.numbers-numbers.result.skipped
    (c.numbers-numbers.ensures.consumed ∙ ap (λ (o : Snapshot). o.consumed) c.closing.ensures.closing) (c.numbers-numbers.ensures.skipped ∙ ap (λ (o : Snapshot). o.skipped) c.closing.ensures.closing) in
    let many = c.len.ensures ∙ a.sheets.ok.0 in
    let slot = c.slot_in-slot.ensures.value ∙ (λ j. place.whole j % many j) in
    let kept = c.keep_bytes.ensures.kept ∙ ap (λ (s : HandGranted). slots_with_end c.args.end c.slot_in-slot.result s.granted.bytes a.sheets.items) c.reservation.view_is in
    ends p c.self.invariant.parts index r.pos r.bytes place.here c.args.end c.slot_in-slot.result slot (omega (arith, c.slot_in-slot.ensures.within, many))
    c.log_end.new.self c.log_end.ensures.logged c.keep_bytes.new.sheets.items kept c.count_discard.new.discarded c.count_discard.ensures.counted

-- the ring with its hands
freed : (c : After-set_hand) → EndsFromHand c.args.end c.args.reservation.hand c.args.reservation.granted (hand_ring (ring_in (parts_of c.self.inside)) c.self.inside.hands.items) (hand_ring (ring_in (after_end (parts_of c.self.inside) c.log_end.new.self c.keep_bytes.new.sheets.items c.count_discard.new.discarded)) c.set_hand.new.book.items)
freed c =
    let a = c.self.inside in
    let p = parts_of a in
    let q = after_end p c.log_end.new.self c.keep_bytes.new.sheets.items c.count_discard.new.discarded in
    let r = c.args.reservation in
    let done = committed c in
    let out = subst (λ (s : TaggedRing). HasInHand s.state r.hand r.granted) (sym c.self.view_is) c.requires.out in
    let there = in-hand-is-busy (hand_ring (ring_in p) a.hands.items) r.hand r.granted c.self.invariant.hands.has out in
    let book = c.set_hand.ensures.set ∙ ap (λ (s : HandGranted). with_hand a.hands.items s.granted.worker s.hand None) c.reservation.view_is in
    ends-from c.args.end (hand_ring (ring_in p) a.hands.items) (hand_ring (ring_in q) c.set_hand.new.book.items) r.hand r.granted out (ends-by c.args.end (ring_in p) (ring_in q) r.granted r.granted.pos r.granted.bytes refl refl there done.logged done.contents) book

pub invariant_of-self : goal.invariant_of-self
invariant_of-self c =
    let a = c.self.inside in
    let p = parts_of a in
    let q = after_end p c.log_end.new.self c.keep_bytes.new.sheets.items c.count_discard.new.discarded in
    let i = c.self.invariant in
    let done = committed c in
    record {
      parts = done.keeps.parts;
      hands = ended-holds i.parts.earlier (hand_ring (ring_in p) a.hands.items) (hand_ring (ring_in q) c.set_hand.new.book.items) a.ordinals.items i.parts.ring.kept i.hands done.keeps.numbers c.args.end c.args.reservation.hand c.args.reservation.granted (freed c);
    }

pub returns-clause-ended : goal.returns-clause-ended
returns-clause-ended c =
    let q = after_end (parts_of c.self.inside) c.log_end.new.self c.keep_bytes.new.sheets.items c.count_discard.new.discarded in
    subst (λ (s : TaggedRing). EndsFromHand c.args.end c.args.reservation.hand c.args.reservation.granted s.state (hand_ring (ring_in q) c.set_hand.new.book.items)) c.self.view_is (freed c)

pub returns-clause-notice : goal.returns-clause-notice
returns-clause-notice c =
    let consumer = c.numbers-numbers.ensures.consumer ∙ ap (λ (o : Snapshot). o.consumer) c.closing.ensures.closing ∙ ap (λ (s : TaggedRing). consumer_by_chapter s.state.ring) c.self.view_is in
    subst (λ p. (c.notice_for-notice.result ≡ Due) ↔ IsDue (consumer_by_chapter c.args.self.now.state.ring) p c.args.flags) (ap (λ (s : HandGranted). s.granted.pos) c.reservation.view_is)
    (subst (λ n. (c.notice_for-notice.result ≡ Due) ↔ IsDue n c.reservation.inside.pos c.args.flags) consumer c.notice_for-notice.ensures.due)
