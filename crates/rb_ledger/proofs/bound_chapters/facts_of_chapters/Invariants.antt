use Rattle.std.proofs.Common.{◌++◌, [], ◌∷◌, drop}
use Rattle.rb_ledger.specs.ChapterHeadline.{AllLegal}
use Rattle.rb_ledger.proofs.bound_chapters.facts_of_chapters.Given as goal

abbrev pub invariant-loop-chapter : goal.invariant-loop-chapter
invariant-loop-chapter l = AllLegal (drop l.chapter-index l.chapters ++ l.last ∷ []) → AllLegal (l.chapters ++ l.last ∷ [])
