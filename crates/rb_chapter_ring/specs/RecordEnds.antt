-- The effect of a record's commit, which is a submit or a discard as its worker chooses (own).
use Rattle.std.specs.Prelude.{ℕ, ◌+◌}
use Rattle.rb_history.specs.declared.entries.Entry.{Entry}
use Rattle.rb_history.specs.declared.entries.Entry.TheVariants.{Sub, Dis}
use Rattle.rb_history.specs.declared.tally.Tally.{Tally}
use Rattle.rb_history.specs.History.{Status}
use Rattle.rb_history.specs.History.Status.{Waiting, Discarded}
use Rattle.rb_history.specs.ReservationModel.{Granted}
use Rattle.rb_chapter_ring.specs.ChapterRing.{ChapterRing}
use Rattle.rb_chapter_ring.specs.ChapterCalls.{SubmitsByChapter, DiscardsByChapter}
use Rattle.rb_chapter_ring.specs.HandRing.{HandRing, SubmitsFromHand, DiscardsFromHand}
use Rattle.rb_chapter_ring.specs.declared.record_end.RecordEnd.{RecordEnd}
use Rattle.rb_chapter_ring.specs.declared.record_end.RecordEnd.TheVariants.{Submit, Discard}

-- the entry that is logged for the record at a position
abbrev pub entry_of_end : RecordEnd → ℕ → Entry
entry_of_end Submit p = Sub p
entry_of_end Discard p = Dis p

-- the status of an untaken record after it
abbrev pub status_of_end : RecordEnd → Status
status_of_end Submit = Waiting
status_of_end Discard = Discarded

-- the totals of the record's worker after it
abbrev pub tally_with_end : RecordEnd → Tally → Tally
tally_with_end Submit t = record t { submitted = t.submitted + 1 }
tally_with_end Discard t = record t { discarded = t.discarded + 1 }

-- the record of a reservation is committed in this way
abbrev pub Ends : RecordEnd → Granted → ChapterRing → ChapterRing → Type 0
Ends Submit r old new = SubmitsByChapter old new r
Ends Discard r old new = DiscardsByChapter old new r

-- the record of a hand is committed in this way, and the hand is free
abbrev pub EndsFromHand : RecordEnd → ℕ → Granted → HandRing → HandRing → Type 0
EndsFromHand Submit hand r old new = SubmitsFromHand old new hand r
EndsFromHand Discard hand r old new = DiscardsFromHand old new hand r
