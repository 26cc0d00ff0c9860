-- What the calls on a shared ring do and return, in terms of its chapter. Their contracts are stated over the whole
-- history.
use Rattle.std.specs.Prelude.{◌≡◌, ◌↔◌, ℕ}
use Rattle.rb_history.specs.declared.answers.Notice.{Notice}
use Rattle.rb_history.specs.declared.answers.Notice.TheVariants.{Due}
use Rattle.rb_history.specs.declared.answers.Taken.{Taken}
use Rattle.rb_history.specs.declared.answers.Taken.TheVariants.{BusyFront, Empty}
use Rattle.rb_history.specs.ReservationModel.{Granted}
use Rattle.rb_history.specs.NoticesAndQueries.{IsDue}
use Rattle.rb_chapter_ring.specs.CountedFrom.{query_answer_from}
use Rattle.rb_chapter_ring.specs.ChapterRing.{ChapterRing}
use Rattle.rb_chapter_ring.specs.ChapterCalls.{TakesByChapter, HasBusyFrontByChapter, AllTakenByChapter, consumer_by_chapter}
use Rattle.rb_chapter_ring.specs.RecordEnds.{Ends}
use Rattle.rb_chapter_ring.specs.declared.record_end.RecordEnd.{RecordEnd}

abbrev pub TakesInChapter : Taken → ChapterRing → ChapterRing → Type 0
TakesInChapter t old new = TakesByChapter old new t × ((t ≡ BusyFront) ↔ HasBusyFrontByChapter old) × ((t ≡ Empty) ↔ AllTakenByChapter old)

abbrev pub QueriesInChapter : ℕ → ℕ → ChapterRing → ChapterRing → Type 0
QueriesInChapter what answer old new = (new ≡ old) × (answer ≡ query_answer_from old.chapter.opening old.chapter.entries what)

abbrev pub EndsInChapter : RecordEnd → Granted → ℕ → Notice → ChapterRing → ChapterRing → Type 0
EndsInChapter end r flags notice old new = Ends end r old new × ((notice ≡ Due) ↔ IsDue (consumer_by_chapter old) r.pos flags)
