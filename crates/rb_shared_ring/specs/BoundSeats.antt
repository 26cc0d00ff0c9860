-- What binding the chapters of a closed ring promises about the seats with which it was closed (own).
use Rattle.std.specs.Prelude.{◌≡◌, List, Result, Ok, Err}
use Rattle.rb_history.specs.declared.entries.Entry.{Entry}
use Rattle.rb_chapter_ring.specs.Chapters.{Chapter, joined}
use Rattle.rb_chapter_ring.specs.ChapterRing.{ChapterRing}
use Rattle.rb_ledger.specs.Seats.{WorkerSeat}
use Rattle.rb_ledger.specs.Headline.{IsGathered}
use Rattle.rb_ledger.specs.declared.bound_chapters.BindFault.{BindFault}
use Rattle.rb_ledger.specs.ChapterSeats.{ChapterConsumerSeat, whole_consumer}
use Rattle.rb_ledger.specs.ChapterClosing.{IsGatheredByChapters, AreTied, bound_book}
use Rattle.rb_ledger.specs.ChapterHeadline.{bound_ring}

-- the result is this fault
abbrev pub IsNotBound : {A B C : Type 0} → BindFault → Result A (BindFault × B × C) → Type 0
IsNotBound fault (Ok _) = ⊥
IsNotBound fault (Err e) = e.0 ≡ fault

-- all seats and the consumer that were gathered agree with the history
abbrev pub TiesAllSeats : ChapterRing → List Entry → Type 0
TiesAllSeats last history = (seats : List WorkerSeat) (consumer : ChapterConsumerSeat) → IsGatheredByChapters last seats consumer → AreTied seats consumer (bound_book last history)

-- if the chapters are those that the ring handed out, all are gathered at the ring with this history
abbrev pub GathersAllSeats : ChapterRing → List Chapter → List Entry → Type 0
GathersAllSeats last chapters history =
    (seats : List WorkerSeat) (consumer : ChapterConsumerSeat) → IsGatheredByChapters last seats consumer → joined chapters ≡ joined consumer.handed_out
    → IsGathered (bound_ring last history) seats (whole_consumer consumer)
