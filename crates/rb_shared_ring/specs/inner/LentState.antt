-- The ring's state, taken out of the lock for one call.
use Rattle.rb_chapter_ring.specs.Chapters.{IsLegalChapter}
use Rattle.rb_chapter_ring.specs.ChapterRoom.{HasRoomForOwed}
use Rattle.rb_chapter_ring.specs.ChapterRing.{ChapterRing, StandsForChapter}
use Rattle.rb_chapter_ring.specs.OpenedRing.{IsChapterRingWithin}
use Rattle.rb_chapter_ring.specs.HandRing.{HandRing, HasHands}
use Rattle.rb_chapter_ring.specs.TaggedRing.{TaggedRing}
use Rattle.rb_ledger.specs.HandKnowledge.{HandPassView}
use Rattle.rb_ledger.specs.HandLockSteps.{TakesHandState, MayPutHands, PutsHandState}

-- the invariants of the ring of one thread
pub record IsKeptRing (v : ChapterRing) : Type 0 where
  pub legal : IsLegalChapter v.chapter
  pub room : HasRoomForOwed v.chapter
  pub stands : StandsForChapter v
  pub bounded : IsChapterRingWithin v

-- the same, with its hands
pub record IsKeptHandRing (v : HandRing) : Type 0 where
  pub kept : IsKeptRing v.ring
  pub hands : HasHands v

-- any state that the pass, as it is before the call, takes out meets the call's precondition
abbrev pub MayLend : HandPassView → (TaggedRing → Type 0) → Type 0
MayLend before Requires = (out : HandPassView) (old : TaggedRing) → TakesHandState before old.state out → Requires old

-- a pass in the state `before` may make this call: it may put back what the call left
abbrev pub MayCall : HandPassView → (TaggedRing → TaggedRing → Type 0) → Type 0
MayCall before Call = (out : HandPassView) (old new : TaggedRing) → TakesHandState before old.state out → Call old new → IsKeptHandRing new.state → MayPutHands out new.state

-- the pass took the state out, one call was made on it, and the pass put it back
pub record LendsState (before after : HandPassView) (Call : TaggedRing → TaggedRing → Type 0) : Type 0 where
  pub out : HandPassView
  pub old : TaggedRing
  pub new : TaggedRing
  pub took : TakesHandState before old.state out
  pub called : Call old new
  pub kept : IsKeptHandRing new.state
  pub put : PutsHandState out new.state after
