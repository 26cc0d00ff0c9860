use Rattle.std.proofs.Common.{◌≡◌, ap, ◌∙◌, arith}
use Rattle.rb_chapter_ring.specs.ChapterRoom.{used}
use Rattle.rb_chapter_ring.specs.inner.ChapterBody.{chapter_shown}
use Rattle.rb_chapter_ring.proofs.EntryWords.{length-entries}
use Rattle.rb_chapter_ring.proofs.chapter.Chapter.used.Goals as goal

pub overflow_cast-result : goal.overflow_cast-result
overflow_cast-result c =
    let was = c.self.invariant in
    let o = c.self.inside.opening.opening in
    omega (arith, c.len.ensures, c.self.inside.words.ok.0, length-entries o.tallies o.producer c.self.inside.words.items, was.kept.room, was.room.1)

pub returns : goal.returns
returns c =
    let o = c.self.inside.opening.opening in
    let many : c.len.result ≡ used (chapter_shown c.self.inside) = omega (arith, c.len.ensures, c.self.inside.words.ok.0, length-entries o.tallies o.producer c.self.inside.words.items) in
    record { used = many ∙ ap used c.self.view_is }
