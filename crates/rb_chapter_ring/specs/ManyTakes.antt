-- Several takes in one call, in one chapter.
use Rattle.std.specs.Prelude.{ℕ, ◌≡◌, ◌<◌, ◌≤◌, ◌⊎◌, List, [], ◌∷◌, length}
use Rattle.rb_history.specs.declared.answers.Taken.{Taken}
use Rattle.rb_history.specs.ManyTakes.{HasRecord}
use Rattle.rb_chapter_ring.specs.ChapterRing.{ChapterRing}
use Rattle.rb_chapter_ring.specs.ChapterCalls.{TakesByChapter, HasBusyFrontByChapter, AllTakenByChapter}

-- a sequence of takes, each on the ring that the previous one left, and each of which found a record
abbrev pub TakesEachInChapter : ChapterRing → List Taken → ChapterRing → Type 0
TakesEachInChapter old [] new = new ≡ old
TakesEachInChapter old (t ∷ ts) new = (next : ChapterRing) × TakesByChapter old next t × HasRecord t × TakesEachInChapter next ts new

-- up to n takes, which found these records in this order; fewer only if the front is then busy, or no record is left
pub record TakesManyInChapter (n : ℕ) (taken : List Taken) (old new : ChapterRing) : Type 0 where
  pub each : TakesEachInChapter old taken new
  pub within : length taken ≤ n
  pub stops : length taken < n → HasBusyFrontByChapter new ⊎ AllTakenByChapter new
