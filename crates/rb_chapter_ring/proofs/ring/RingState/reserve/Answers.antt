use Rattle.std.proofs.Common.{◌≡◌, ◌+◌, ◌<◌, length, refl, sym, ap, ◌∙◌, subst}
use Rattle.std.proofs.lemmas.List.{length-map}
use Rattle.rb_chapter_ring.specs.Snapshot.{Snapshot}
use Rattle.rb_chapter_ring.specs.UntakenRecords.{untaken_shown}
use Rattle.rb_chapter_ring.specs.Chapters.{closing_of}
use Rattle.rb_chapter_ring.specs.Hands.{hands_of, IsFree}
use Rattle.rb_chapter_ring.specs.HandRing.{hand_ring, GrantsToHand}
use Rattle.rb_chapter_ring.specs.RingFaults.{RefusesInChapter}
use Rattle.rb_chapter_ring.specs.TaggedRing.{TaggedRing}
use Rattle.rb_chapter_ring.specs.inner.Ordinals.{HasOrdinal, IsHandState, taken_before}
use Rattle.rb_chapter_ring.specs.inner.RingBody.{parts_of, ring_in}
use Rattle.rb_chapter_ring.proofs.RingSteps.{RefusesParts, GrantsParts, after_request, refuses, grants}
use Rattle.rb_chapter_ring.proofs.StateSteps.{refused-holds, granted-holds}
use Rattle.rb_chapter_ring.proofs.ring.RingState.reserve.Goals as goal
use Rattle.rb_chapter_ring.proofs.ring.RingState.reserve.Goals.{In-Err, After-clear}

refused : (c : In-Err) → RefusesParts (parts_of c.self.inside) (after_request (parts_of c.self.inside) c.grant.new.self c.grant.new.refused) c.args.worker c.args.n c.in-Err.fault
refused c =
    let low = subst (λ (s : TaggedRing). c.args.worker < s.state.ring.chapter.opening.setup.workers) (sym c.self.view_is) c.requires.worker in
    refuses (parts_of c.self.inside) c.self.invariant.parts c.args.worker c.args.n low c.grant.new.self c.grant.new.refused c.in-Err.fault c.in-Err.ensures.refused c.in-Err.ensures.counted

pub invariant_of-self : goal.invariant_of-self
invariant_of-self c =
    let a = c.self.inside in
    let p = parts_of a in
    let q = after_request p c.grant.new.self c.grant.new.refused in
    let i = c.self.invariant in
    let done = refused c in
    let low = subst (λ (s : TaggedRing). c.args.worker < s.state.ring.chapter.opening.setup.workers) (sym c.self.view_is) c.requires.worker in
    record {
      parts = done.keeps.parts;
      hands = refused-holds i.parts.earlier (hand_ring (ring_in p) a.hands.items) (hand_ring (ring_in q) a.hands.items) a.ordinals.items i.parts.ring.kept i.hands done.keeps.numbers c.args.worker c.args.n low c.in-Err.fault done.refused refl;
    }

pub returns-in-Err-clause-refused : goal.returns-in-Err-clause-refused
returns-in-Err-clause-refused c =
    let q = after_request (parts_of c.self.inside) c.grant.new.self c.grant.new.refused in
    subst (λ (s : TaggedRing). RefusesInChapter s.state.ring (ring_in q) c.args.worker c.args.n c.in-Err.fault) c.self.view_is (refused c).refused

granted : (c : After-clear) → GrantsParts (parts_of c.self.inside) (after_request (parts_of c.self.inside) c.grant.new.self c.grant.new.refused) c.args.worker c.args.n c.in-Ok.pos c.in-Ok.serial
granted c =
    let low = subst (λ (s : TaggedRing). c.args.worker < s.state.ring.chapter.opening.setup.workers) (sym c.self.view_is) c.requires.worker in
    grants (parts_of c.self.inside) c.self.invariant.parts c.args.worker c.args.n low c.grant.new.self c.grant.new.refused c.in-Ok.ensures.uncounted c.in-Ok.pos c.in-Ok.serial c.in-Ok.ensures.granted

marked : (c : After-clear) → GrantsToHand (hand_ring (ring_in (parts_of c.self.inside)) c.self.inside.hands.items) (hand_ring (ring_in (after_request (parts_of c.self.inside) c.grant.new.self c.grant.new.refused)) c.set_hand.new.book.items) c.args.worker c.args.hand c.args.n c.in-Ok.pos c.in-Ok.serial
marked c = record {
  grants = (granted c).granted;
  was_free = subst (λ (s : TaggedRing). IsFree (hands_of s.state.hands c.args.worker) c.args.hand) (sym c.self.view_is) c.requires.hand;
  marked = c.set_hand.ensures.set;
}

pub invariant_of-self-in-Ok : goal.invariant_of-self-in-Ok
invariant_of-self-in-Ok c =
    let a = c.self.inside in
    let p = parts_of a in
    let q = after_request p c.grant.new.self c.grant.new.refused in
    let i = c.self.invariant in
    let done = granted c in
    let low = subst (λ (s : TaggedRing). c.args.worker < s.state.ring.chapter.opening.setup.workers) (sym c.self.view_is) c.requires.worker in
    let recs = c.records.ensures.records ∙ ap (λ (o : Snapshot). o.records) c.closing-closing.ensures.closing in
    let consumed = c.numbers-numbers.ensures.consumed ∙ ap (λ (o : Snapshot). o.consumed) c.closing-closing.ensures.closing in
    let skipped = c.numbers-numbers.ensures.skipped ∙ ap (λ (o : Snapshot). o.skipped) c.closing-closing.ensures.closing in
    let many : length c.records.result.now ≡ length (closing_of a.chapter).records = sym (length-map c.records.result.now untaken_shown) ∙ ap length recs in
    let next : c.numbers-numbers.result.consumed + c.numbers-numbers.result.skipped + length c.records.result.now ≡ taken_before (closing_of a.chapter) + length (closing_of a.chapter).records = λ j. consumed j + skipped j + many j in
    let number = subst (HasOrdinal (closing_of q.chapter) c.in-Ok.pos) (sym next) done.number in
    let state = granted-holds i.parts.earlier (hand_ring (ring_in p) a.hands.items) (hand_ring (ring_in q) c.set_hand.new.book.items) a.ordinals.items i.parts.ring.kept i.hands done.keeps.numbers c.args.worker c.args.hand c.args.n c.in-Ok.pos c.in-Ok.serial (c.numbers-numbers.result.consumed + c.numbers-numbers.result.skipped + length c.records.result.now) low (marked c) number in
    record { parts = done.keeps.parts; hands = subst (IsHandState (hand_ring (ring_in q) c.set_hand.new.book.items)) (sym c.set_ordinal.ensures.set) state }

pub returns-in-Ok-clause-granted : goal.returns-in-Ok-clause-granted
returns-in-Ok-clause-granted c =
    let q = after_request (parts_of c.self.inside) c.grant.new.self c.grant.new.refused in
    subst (λ (s : TaggedRing). GrantsToHand s.state (hand_ring (ring_in q) c.set_hand.new.book.items) c.args.worker c.args.hand c.args.n c.in-Ok.pos c.in-Ok.serial) c.self.view_is (marked c)
