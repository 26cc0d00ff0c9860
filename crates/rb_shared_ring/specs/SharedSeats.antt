-- How a call changes the consumer's seat at a shared ring.
use Rattle.std.specs.Prelude.{◌≡◌, Result, Ok, Err}
use Rattle.rb_chapter_ring.specs.Chapters.{Chapter}
use Rattle.rb_ledger.specs.ChapterSeats.{ChapterConsumerSeat}
use Rattle.rb_shared_ring.specs.declared.chapters.HandFault.{HandFault}

-- it is the consumer's seat at the same ring
pub record IsSameChapterConsumer (old new : ChapterConsumerSeat) : Type 0 where
  pub tag_same : new.tag ≡ old.tag
  pub ring_same : new.ring ≡ old.ring
  pub room_same : new.room ≡ old.room

-- its counts and bytes did not change
pub record TakesNothing (old new : ChapterConsumerSeat) : Type 0 where
  pub consumed_same : new.consumed ≡ old.consumed
  pub skipped_same : new.skipped ≡ old.skipped
  pub position_same : new.position ≡ old.position
  pub got_same : new.got ≡ old.got

-- the result is this refusal to hand out a chapter
abbrev pub IsHandFault : HandFault → Result Chapter (HandFault × Chapter) → Type 0
IsHandFault fault (Ok _) = ⊥
IsHandFault fault (Err e) = e.0 ≡ fault
