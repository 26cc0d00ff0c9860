use Rattle.std.proofs.Common.{ap, ◌∙◌}
use Rattle.rb_chapter_ring.specs.Chapters.{closing_of}
use Rattle.rb_chapter_ring.proofs.chapter.Chapter.closing.Goals as goal

pub returns-clause-closing : goal.returns-clause-closing
returns-clause-closing c = c.self.invariant.closing_is ∙ ap closing_of c.self.view_is
