use Rattle.std.proofs.Common.{◌≡◌, ◌++◌, drop}
use Rattle.rb_chapter_ring.specs.Chapters.{joined}
use Rattle.rb_ledger.proofs.bound_chapters.join_entries.Given as goal

abbrev pub invariant-loop-chapter : goal.invariant-loop-chapter
invariant-loop-chapter l =
    l.history.items ++ joined (drop l.chapter-index l.chapters) ≡ joined l.chapters
