-- A keeper of the chapter in which a ring continues (own).
use Rattle.std.specs.Prelude.{ℕ, ◌≡◌, Bool, true, if◌then◌else◌, Option, None, Some, Result, Ok, Err}
use denote.Ref.{Bor}
use Rattle.rb_chapter_ring.specs.Chapters.{Chapter, empty_chapter}
use Rattle.rb_shared_ring.specs.declared.chapters.HandFault.{HandFault}

-- a keeper: its chapter, how many entries early it hands out a ring's chapter, and whether its chapter's entries were
-- lent by an earlier turn
pub record KeeperValue : Type 0 where
  pub chapter : Chapter
  pub margin : ℕ
  pub is_lent : Bool

-- the chapter that the next turn passes to the ring: one that was lent is cleared first
abbrev pub handed_in : KeeperValue → Chapter
handed_in k = if k.is_lent then empty_chapter k.chapter.room k.chapter.opening.setup.workers else k.chapter

-- after a turn that lent a chapter, the keeper keeps that one; otherwise nothing changed
abbrev pub KeepsLent : KeeperValue → KeeperValue → Result (Option (Bor Chapter)) HandFault → Type 0
KeepsLent old new (Ok (Some c)) = new ≡ record { chapter = c.now; margin = old.margin; is_lent = true }
KeepsLent old new (Ok None) = new ≡ old
KeepsLent old new (Err e) = new ≡ old
