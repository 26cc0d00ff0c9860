-- What each call under the lock does to the ring and its book of hands.
use Rattle.std.specs.Prelude.{◌≡◌, ◌≢◌, ◌↔◌, ℕ, List, replicate, Result, Ok, Err}
use Rattle.rb_history.specs.declared.answers.Notice.{Notice}
use Rattle.rb_history.specs.declared.answers.Notice.TheVariants.{Due}
use Rattle.rb_history.specs.NoticesAndQueries.{IsDue}
use Rattle.rb_chapter_ring.specs.ChapterRing.{ChapterRing}
use Rattle.rb_chapter_ring.specs.ChapterCalls.{consumer_by_chapter}
use Rattle.rb_chapter_ring.specs.declared.faults.ReserveFault.{ReserveFault}
use Rattle.rb_chapter_ring.specs.declared.faults.ReserveFault.TheVariants.{Flags}
use Rattle.rb_chapter_ring.specs.RingFaults.{RefusesInChapter}
use Rattle.rb_chapter_ring.specs.declared.record_end.RecordEnd.{RecordEnd}
use Rattle.rb_chapter_ring.specs.HandRing.{HandRing, GrantsToHand}
use Rattle.rb_chapter_ring.specs.RecordEnds.{EndsFromHand}
use Rattle.rb_chapter_ring.specs.HandGranted.{HandGranted}

abbrev pub ReservesToHand : ℕ → ℕ → ℕ → Result HandGranted (ReserveFault × List ℕ) → HandRing → HandRing → Type 0
ReservesToHand w hand n (Ok r) old new = GrantsToHand old new w hand n r.granted.pos r.granted.serial × (r.granted.worker ≡ w) × (r.granted.bytes ≡ replicate n 0)
ReservesToHand w hand n (Err e) old new = RefusesInChapter old.ring new.ring w n e.0 × (e.0 ≢ Flags) × (new.hands ≡ old.hands)

abbrev pub EndsOut : RecordEnd → HandGranted → ℕ → Notice → HandRing → HandRing → Type 0
EndsOut end r flags notice old new = EndsFromHand end r.hand r.granted old new × ((notice ≡ Due) ↔ IsDue (consumer_by_chapter old.ring) r.granted.pos flags)

-- a call of the ring that leaves all hands unchanged
abbrev pub LeavesHands : (ChapterRing → ChapterRing → Type 0) → HandRing → HandRing → Type 0
LeavesHands Call old new = Call old.ring new.ring × (new.hands ≡ old.hands)
