use Rattle.std.proofs.Common.{length, sym, ap, ◌∙◌, refl, arith}
use Rattle.rb_chapter_ring.specs.Snapshot.{Snapshot}
use Rattle.rb_history.specs.StoredRecords.{shown_record}
use Rattle.rb_history.proofs.Contents.{length-map}
use Rattle.rb_chapter_ring.specs.ChapterRoom.{owed}
use Rattle.rb_chapter_ring.specs.inner.RingBody.{stored_of}
use Rattle.rb_chapter_ring.specs.OpenedRing.{capped_counts, told_counts}
use Rattle.rb_chapter_ring.proofs.Rows.{said}
use Rattle.rb_chapter_ring.proofs.Told.{tells}
use Rattle.rb_chapter_ring.specs.TaggedRing.{TaggedRing}
use Rattle.rb_chapter_ring.proofs.ring.RingState.counts.Goals as goal

pub overflow_add-made : goal.overflow_add-made
overflow_add-made c =
    let a = c.self.inside in
    let i = c.self.invariant.parts in
    let k = c.numbers-numbers.ensures.consumed ∙ ap (λ (o : Snapshot). o.consumed) c.closing.ensures.closing in
    let l = c.numbers-numbers.ensures.skipped ∙ ap (λ (o : Snapshot). o.skipped) c.closing.ensures.closing in
    let t = tells i.earlier a.chapter (stored_of a.chapter a.sheets.items) i.counts i.ring a.refused a.discarded c.numbers-numbers.result.consumed c.numbers-numbers.result.skipped c.many-there.result (owed a.chapter) i.refused_is i.discarded_is k l (c.many-there.ensures.many ∙ ap (λ (s : TaggedRing). length s.state.ring.shown) (sym c.self.view_is) ∙ length-map shown_record (stored_of a.chapter a.sheets.items)) refl in
    omega (arith, t.low)

pub overflow_add-made-2 : goal.overflow_add-made-2
overflow_add-made-2 c =
    let a = c.self.inside in
    let i = c.self.invariant.parts in
    let k = c.numbers-numbers.ensures.consumed ∙ ap (λ (o : Snapshot). o.consumed) c.closing.ensures.closing in
    let l = c.numbers-numbers.ensures.skipped ∙ ap (λ (o : Snapshot). o.skipped) c.closing.ensures.closing in
    let t = tells i.earlier a.chapter (stored_of a.chapter a.sheets.items) i.counts i.ring a.refused a.discarded c.numbers-numbers.result.consumed c.numbers-numbers.result.skipped c.many-there.result (owed a.chapter) i.refused_is i.discarded_is k l (c.many-there.ensures.many ∙ ap (λ (s : TaggedRing). length s.state.ring.shown) (sym c.self.view_is) ∙ length-map shown_record (stored_of a.chapter a.sheets.items)) refl in
    omega (arith, t.low)

pub overflow_sub-busy : goal.overflow_sub-busy
overflow_sub-busy c =
    let a = c.self.inside in
    let i = c.self.invariant.parts in
    let k = c.numbers-numbers.ensures.consumed ∙ ap (λ (o : Snapshot). o.consumed) c.closing.ensures.closing in
    let l = c.numbers-numbers.ensures.skipped ∙ ap (λ (o : Snapshot). o.skipped) c.closing.ensures.closing in
    let t = tells i.earlier a.chapter (stored_of a.chapter a.sheets.items) i.counts i.ring a.refused a.discarded c.numbers-numbers.result.consumed c.numbers-numbers.result.skipped c.many-there.result c.from.result i.refused_is i.discarded_is k l (c.many-there.ensures.many ∙ ap (λ (s : TaggedRing). length s.state.ring.shown) (sym c.self.view_is) ∙ length-map shown_record (stored_of a.chapter a.sheets.items)) (c.from.ensures ∙ c.owed.ensures.owed) in
    omega (arith, t.busy_within)

pub overflow_sub-result : goal.overflow_sub-result
overflow_sub-result c =
    let a = c.self.inside in
    let i = c.self.invariant.parts in
    let k = c.numbers-numbers.ensures.consumed ∙ ap (λ (o : Snapshot). o.consumed) c.closing.ensures.closing in
    let l = c.numbers-numbers.ensures.skipped ∙ ap (λ (o : Snapshot). o.skipped) c.closing.ensures.closing in
    let t = tells i.earlier a.chapter (stored_of a.chapter a.sheets.items) i.counts i.ring a.refused a.discarded c.numbers-numbers.result.consumed c.numbers-numbers.result.skipped c.many-there.result c.from.result i.refused_is i.discarded_is k l (c.many-there.ensures.many ∙ ap (λ (s : TaggedRing). length s.state.ring.shown) (sym c.self.view_is) ∙ length-map shown_record (stored_of a.chapter a.sheets.items)) (c.from.ensures ∙ c.owed.ensures.owed) in
    omega (arith, t.within)

pub overflow_sub-result-2 : goal.overflow_sub-result-2
overflow_sub-result-2 c =
    let a = c.self.inside in
    let i = c.self.invariant.parts in
    let k = c.numbers-numbers.ensures.consumed ∙ ap (λ (o : Snapshot). o.consumed) c.closing.ensures.closing in
    let l = c.numbers-numbers.ensures.skipped ∙ ap (λ (o : Snapshot). o.skipped) c.closing.ensures.closing in
    let t = tells i.earlier a.chapter (stored_of a.chapter a.sheets.items) i.counts i.ring a.refused a.discarded c.numbers-numbers.result.consumed c.numbers-numbers.result.skipped c.many-there.result c.from.result i.refused_is i.discarded_is k l (c.many-there.ensures.many ∙ ap (λ (s : TaggedRing). length s.state.ring.shown) (sym c.self.view_is) ∙ length-map shown_record (stored_of a.chapter a.sheets.items)) (c.from.ensures ∙ c.owed.ensures.owed) in
    omega (arith, t.within)

pub overflow_sub-result-3 : goal.overflow_sub-result-3
overflow_sub-result-3 c =
    let a = c.self.inside in
    let i = c.self.invariant.parts in
    let k = c.numbers-numbers.ensures.consumed ∙ ap (λ (o : Snapshot). o.consumed) c.closing.ensures.closing in
    let l = c.numbers-numbers.ensures.skipped ∙ ap (λ (o : Snapshot). o.skipped) c.closing.ensures.closing in
    let t = tells i.earlier a.chapter (stored_of a.chapter a.sheets.items) i.counts i.ring a.refused a.discarded c.numbers-numbers.result.consumed c.numbers-numbers.result.skipped c.many-there.result c.from.result i.refused_is i.discarded_is k l (c.many-there.ensures.many ∙ ap (λ (s : TaggedRing). length s.state.ring.shown) (sym c.self.view_is) ∙ length-map shown_record (stored_of a.chapter a.sheets.items)) (c.from.ensures ∙ c.owed.ensures.owed) in
    omega (arith, t.within)

pub returns : goal.returns
returns c =
    let a = c.self.inside in
    let i = c.self.invariant.parts in
    let k = c.numbers-numbers.ensures.consumed ∙ ap (λ (o : Snapshot). o.consumed) c.closing.ensures.closing in
    let l = c.numbers-numbers.ensures.skipped ∙ ap (λ (o : Snapshot). o.skipped) c.closing.ensures.closing in
    let t = tells i.earlier a.chapter (stored_of a.chapter a.sheets.items) i.counts i.ring a.refused a.discarded c.numbers-numbers.result.consumed c.numbers-numbers.result.skipped c.many-there.result c.from.result i.refused_is i.discarded_is k l (c.many-there.ensures.many ∙ ap (λ (s : TaggedRing). length s.state.ring.shown) (sym c.self.view_is) ∙ length-map shown_record (stored_of a.chapter a.sheets.items)) (c.from.ensures ∙ c.owed.ensures.owed) in
    record { counts = t.told ∙ i.ring.counted ∙ ap capped_counts (sym (said i.earlier a.chapter (stored_of a.chapter a.sheets.items) i.counts i.ring).counts) ∙ ap (λ (s : TaggedRing). told_counts s.state.ring) c.self.view_is }
