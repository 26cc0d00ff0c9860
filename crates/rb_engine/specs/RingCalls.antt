-- The effect of each call on a ring of an engine (bpf-helpers(7); rb_chapter_ring defines the ring's own calls). The
-- engine is the ring's only worker, number 0.
use Rattle.std.specs.Prelude.{ℕ, ◌≡◌, ◌⊎◌, ◌<◌, ◌↔◌, List, length}
use Rattle.rb_history.specs.History.Status.{Waiting}
use Rattle.rb_history.specs.declared.answers.Notice.{Notice}
use Rattle.rb_history.specs.declared.answers.Notice.TheVariants.{Due}
use Rattle.rb_history.specs.declared.answers.Taken.{Taken}
use Rattle.rb_history.specs.declared.answers.Taken.TheVariants.{Event, Skipped, BusyFront, Empty}
use Rattle.rb_history.specs.NoticesAndQueries.{IsDue}
use Rattle.rb_chapter_ring.specs.ChapterCalls.{FindsFullByChapter, FindsChapterFull, OutputsByChapter, TakesByChapter, consumer_by_chapter, producer_by_chapter}
use Rattle.rb_chapter_ring.specs.ChapterRoom.{record_now}
use Rattle.rb_chapter_ring.specs.CountedFrom.{records_from}
use Rattle.rb_chapter_ring.specs.HandGranted.{HandGranted}
use Rattle.rb_chapter_ring.specs.HandRing.{HandRing, GrantsToHand, HasInHand}
use Rattle.rb_chapter_ring.specs.Hands.{AreAllOut, hands_of}
use Rattle.rb_engine.specs.RingTurns.{AfterTurn}

-- The ring has no room for n bytes, and its history has the refusal; or its chapter has no room, even after a turn, and
-- nothing is logged.
abbrev pub HasNoRoom : ℕ → HandRing → HandRing → Type 0
HasNoRoom n mid new = (FindsFullByChapter mid.ring new.ring 0 n ⊎ FindsChapterFull mid.ring new.ring 0 n) × (new.hands ≡ mid.hands)

-- a reservation of n bytes was granted, and its record is in the hand that it names
abbrev pub Grants : ℕ → HandGranted → HandRing → HandRing → Type 0
Grants n r mid new = GrantsToHand mid new 0 r.hand n r.granted.pos r.granted.serial × HasInHand new r.hand r.granted × (r.granted.worker ≡ 0)

-- No reservation was granted: there is no room; or all four hands are in use, or memory for more than 16 bytes was
-- refused, and then nothing changed.
abbrev pub IsRefused : ℕ → HandRing → HandRing → Type 0
IsRefused n old new = AfterTurn (HasNoRoom n) old new ⊎ ((AreAllOut (hands_of old.hands 0) ⊎ (16 < n)) × (new ≡ old))

-- the bytes were output as one record, and the notice is the one that the flags require
pub record Outputs (bytes : List ℕ) (flags : ℕ) (notice : Notice) (mid new : HandRing) : Type 0 where
  pub sent : OutputsByChapter mid.ring new.ring 0 bytes
  pub same_hands : new.hands ≡ mid.hands
  pub due : (notice ≡ Due) ↔ IsDue (consumer_by_chapter mid.ring) (producer_by_chapter mid.ring) flags

-- The bytes were not output: there is no room; or memory for more than 16 bytes was refused, and then nothing changed.
abbrev pub IsNotSent : ℕ → HandRing → HandRing → Type 0
IsNotSent n old new = AfterTurn (HasNoRoom n) old new ⊎ ((16 < n) × (new ≡ old))

-- a take with this result
abbrev pub Takes : Taken → HandRing → HandRing → Type 0
Takes taken old new = TakesByChapter old.ring new.ring taken × (new.hands ≡ old.hands)

-- the record at the consumer position was submitted, and has n bytes
pub record HasWaitingFront (v : HandRing) (n : ℕ) : Type 0 where
  pub there : 0 < length (records_from v.ring.chapter.opening v.ring.chapter.entries)
  pub waiting : (record_now v.ring.chapter 0).status ≡ Waiting
  pub len_is : (record_now v.ring.chapter 0).len ≡ n

-- a record that a take returned was waiting at the consumer position
abbrev pub WasFront : Taken → HandRing → Type 0
WasFront (Event p w k bytes) v = HasWaitingFront v (length bytes)
WasFront (Skipped p n) v = Unit {0}
WasFront BusyFront v = Unit {0}
WasFront Empty v = Unit {0}
