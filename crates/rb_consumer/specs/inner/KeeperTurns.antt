-- The chapter of a keeper, and what a turn hands out, as the implementation holds them.
use Rattle.std.specs.Prelude.{List, [], ◌∷◌, Option, None, Some, Result, Ok, Err}
use Rattle.rb_chapter_ring.specs.Chapters.{Chapter, empty_chapter}

-- the chapter, which is there except during a call
abbrev pub kept_chapter : Option Chapter → Chapter
kept_chapter None = empty_chapter 0 0
kept_chapter (Some c) = c

-- the chapter that was handed out; after an `Err` none was, and the kept one was returned
abbrev pub chapters_handed : Result Chapter Chapter → List Chapter
chapters_handed (Ok c) = c ∷ []
chapters_handed (Err kept) = []
