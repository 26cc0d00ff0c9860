use Rattle.std.proofs.Common.{refl, sym, subst}
use Rattle.rb_chapter_ring.specs.inner.ChapterBody.{chapter_shown}
use Rattle.rb_chapter_ring.specs.inner.EntryWords.{AreWithin}
use Rattle.rb_chapter_ring.proofs.EntryWords.{all-within}
use Rattle.rb_chapter_ring.proofs.chapter.Chapter.entries.Goals as goal

pub invariant_of-result : goal.invariant_of-result
invariant_of-result c =
    let was = c.self.invariant in
    let o = c.self.inside.opening.opening in
    let within = all-within was.earlier (chapter_shown c.self.inside) was.kept c.self.inside.words.items refl in
    subst (λ ts. AreWithin ts c.numbers.result.producer c.as_slice.result.now) (sym c.tallies.ensures.tallies)
    (subst (λ p. AreWithin o.tallies p c.as_slice.result.now) (sym c.numbers.ensures.producer) (subst (AreWithin o.tallies o.producer) (sym c.as_slice.ensures.value) within))
