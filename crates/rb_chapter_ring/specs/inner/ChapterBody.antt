-- The meaning of a chapter's fields, and their invariant.
use Rattle.std.specs.Prelude.{ℕ, ◌≡◌, ◌+◌, ◌*◌, ◌≤◌, List, length, vec_capacity}
use Rattle.rb_history.specs.declared.entries.Entry.{Entry}
use Rattle.rb_history.specs.RingModel.{IsWorkerCount}
use Rattle.rb_chapter_ring.specs.declared.chapter.Chapter.TheInside.{Inside}
use Rattle.rb_chapter_ring.specs.Snapshot.{Snapshot}
use Rattle.rb_chapter_ring.specs.Chapters.{Chapter, IsChapterRoom, closing_of}
use Rattle.rb_chapter_ring.specs.ChapterRoom.{owed}
use Rattle.rb_chapter_ring.specs.WholeHistory.{IsKept}
use Rattle.rb_chapter_ring.specs.inner.EntryWords.{entries_of}

-- the entries of words, from an opening on
abbrev pub entries_in : Snapshot → List ℕ → List Entry
entries_in o words = entries_of o.tallies o.producer words

abbrev pub chapter_shown : Inside → Chapter
chapter_shown a = record { number = a.number; room = a.room; opening = a.opening.opening; entries = entries_in a.opening.opening a.words.items }

-- the consumer position is at least a header's eight bytes for each record that was taken
abbrev pub IsBehindTakes : Snapshot → Type 0
IsBehindTakes o = 8 * (o.consumed + o.skipped) ≤ o.consumer

-- There is memory for as many entries as the room, and for as many records at both ends; few enough records were taken
-- that each further grant has a place. The running totals are those of the summary at its end, and of what it owes. It
-- continues some history, and has room for what it owes.
pub record ChapterInvariant (a : Inside) : Type 0 where
  pub room : IsChapterRoom a.room
  pub workers : IsWorkerCount a.opening.opening.setup.workers
  pub space : a.room ≤ vec_capacity a.words
  pub opening_space : a.room ≤ a.opening.room
  pub closing_space : a.room ≤ a.closing.room
  pub passed : a.closing.passed + length a.closing.opening.records ≤ length a.words.items + a.owed
  pub takes : IsBehindTakes a.closing.opening
  pub closing_is : a.closing.opening ≡ closing_of (chapter_shown a)
  pub owed_is : a.owed ≡ owed (chapter_shown a)
  pub earlier : List Entry
  pub kept : IsKept earlier (chapter_shown a)
