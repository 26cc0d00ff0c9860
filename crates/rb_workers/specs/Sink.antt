-- What a sink is given, one by one: the records that a ring's consumer took, the chapters that it handed out, and the
-- notice that the consumer caught up (own).
use Rattle.std.specs.Prelude.{◌≡◌, ℕ, true, List, [], ◌∷◌, ◌++◌, All, Option, Some, None, length}
use Rattle.std.specs.List.{Contains, filter_map}
use Rattle.std.specs.FinMap.{get}
use Rattle.rb_history.specs.declared.answers.Taken.{Taken}
use Rattle.rb_history.specs.declared.answers.Taken.TheVariants.{Event, Skipped}
use Rattle.rb_history.specs.declared.entries.Entry.{Entry}
use Rattle.rb_history.specs.declared.entries.Entry.TheVariants.{Res, Take}
use Rattle.rb_history.specs.History.{is_submitted_at, is_discarded_at}
use Rattle.rb_history.specs.RingModel.{Contents, HasLength}
use Rattle.rb_chapter_ring.specs.Chapters.{Chapter as RingChapter}
use Rattle.rb_ledger.specs.ChapterSeats.{ChapterConsumerSeat}
use Rattle.rb_ledger.specs.LockedCalls.{span_in}

-- A record as the `take` that found it returned it: an event with the worker that made it, the record's number among
-- that worker's, and its bytes, or a discarded record that was skipped, with its length; or a chapter that the ring
-- handed out; or the notice that the consumer took all that it could.
pub data SinkItem : Type 0 where
  Record : (taken : Taken) → SinkItem
  Chapter : (chapter : RingChapter) → SinkItem
  CaughtUp : SinkItem

-- the item's record, if it is one
abbrev pub sink_record : SinkItem → Option Taken
sink_record (Record taken) = Some taken
sink_record _ = None

-- the records among the items, in order
abbrev pub records_among : List SinkItem → List Taken
records_among items = filter_map sink_record items

-- how far the item advances a sink's position
abbrev pub sink_span : SinkItem → ℕ
sink_span (Record taken) = span_in taken
sink_span _ = 0

-- the position of the item's record, if it is a record
abbrev pub sink_position : SinkItem → Option ℕ
sink_position (Record (Event position worker serial bytes)) = Some position
sink_position (Record (Skipped position len)) = Some position
sink_position _ = None

-- the positions of the records among the items, in order
abbrev pub positions_among : List SinkItem → List ℕ
positions_among items = filter_map sink_position items

-- the item's chapter, if it is one
abbrev pub sink_chapter : SinkItem → Option RingChapter
sink_chapter (Chapter chapter) = Some chapter
sink_chapter _ = None

-- the chapters among the items, in order
abbrev pub chapters_among : List SinkItem → List RingChapter
chapters_among items = filter_map sink_chapter items

-- taking the items one by one, in this order, led the sink from the old value to the new one
abbrev pub TakesAll : {S : Type 0} → (S → SinkItem → S → Type 0) → S → List SinkItem → S → Type 0
TakesAll takes old [] new = new ≡ old
TakesAll takes old (item ∷ items) new = (mid : _) × takes old item mid × TakesAll takes mid items new

-- the position of the record that an entry takes
abbrev pub take_of : Entry → Option ℕ
take_of (Take p) = Some p
take_of _ = None

-- the positions of the records that a history takes, in order
abbrev pub takes_in : List Entry → List ℕ
takes_in h = filter_map take_of h

-- If the item is a record, it is one of the history: an event is a submitted record, with the worker, the serial and
-- the length that it was granted with, and its bytes are those that the consumer got there; a skip is a discarded
-- record, with the length that it was granted with.
abbrev pub IsRecordIn : List Entry → Contents → SinkItem → Type 0
IsRecordIn h got (Record (Event p w k bytes)) = Contains h (Res w k (length bytes) p) × (is_submitted_at h p ≡ true) × (get got p ≡ Some bytes)
IsRecordIn h got (Record (Skipped p n)) = HasLength h p n × (is_discarded_at h p ≡ true)
IsRecordIn h got (Record _) = ⊥
IsRecordIn h got _ = Unit {0}

-- While the consumer's seat went from `before` to `after`, and the whole history became this one, the sink was given
-- exactly the records that were taken meanwhile, one by one, in the order in which they were taken and with the bytes
-- that the consumer got; and exactly the chapters that were handed out meanwhile, each once and in order.
pub record GetsTaken {S : Type 0} (takes : S → SinkItem → S → Type 0) (before after : ChapterConsumerSeat) (history : List Entry) (old new : S) : Type 0 where
  pub items : List SinkItem
  pub taken_are : takes_in history ≡ takes_in before.seen.history ++ positions_among items
  pub records_are : All (IsRecordIn history after.got) items
  pub chapters_are : after.handed_out ≡ before.handed_out ++ chapters_among items
  pub given : TakesAll takes old items new
