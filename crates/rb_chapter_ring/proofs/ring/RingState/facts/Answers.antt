use Rattle.std.proofs.Common.{subst}
use Rattle.rb_history.proofs.Row.{InRow-le}
use Rattle.rb_chapter_ring.specs.ChapterRing.{StandsForChapter}
use Rattle.rb_chapter_ring.specs.HandRing.{HasHands}
use Rattle.rb_chapter_ring.specs.TaggedRing.{TaggedRing}
use Rattle.rb_chapter_ring.specs.WholeHistory.{IsKept}
use Rattle.rb_chapter_ring.specs.inner.RingBody.{stored_of}
use Rattle.rb_chapter_ring.specs.OpenedRing.{IsChapterRingWithin}
use Rattle.rb_chapter_ring.proofs.Rows.{rows, stands-for}
use Rattle.rb_chapter_ring.proofs.ring.RingState.facts.Goals as goal

pub returns-clause-kept : goal.returns-clause-kept
returns-clause-kept c =
    let i = c.self.invariant.parts in
    (i.earlier, subst (λ (s : TaggedRing). IsKept i.earlier s.state.ring.chapter) c.self.view_is i.ring.kept)

pub returns-clause-stands : goal.returns-clause-stands
returns-clause-stands c =
    let i = c.self.invariant.parts in
    subst (λ (s : TaggedRing). StandsForChapter s.state.ring) c.self.view_is (stands-for i.earlier c.self.inside.chapter (stored_of c.self.inside.chapter c.self.inside.sheets.items) i.counts i.ring)

pub returns-clause-bounded : goal.returns-clause-bounded
returns-clause-bounded c =
    let i = c.self.invariant.parts in
    let g = i.ring in
    subst (λ (s : TaggedRing). IsChapterRingWithin s.state.ring) c.self.view_is (record {
      size = g.size;
      start = g.start;
      workers = g.workers;
      chapter_room = g.chapter_room;
      consumer = InRow-le _ _ _ (rows i.earlier c.self.inside.chapter (stored_of c.self.inside.chapter c.self.inside.sheets.items) i.counts g).in_row;
      producer = g.stands.limit;
      room = g.stands.space;
    })

pub returns-clause-hands : goal.returns-clause-hands
returns-clause-hands c = subst (λ (s : TaggedRing). HasHands s.state) c.self.view_is c.self.invariant.hands.has
