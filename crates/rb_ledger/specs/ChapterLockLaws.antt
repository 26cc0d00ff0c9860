-- What preserves the lock's rule over chapters: taking the state out, putting it back after a call or after a chapter
-- was handed out, putting the first one in, and splitting and joining roles (own).
use Rattle.std.specs.Prelude.{◌≡◌, ℕ, [], ◌∷◌, ◌++◌, Some, None}
use Rattle.std.specs.FinMap.{empty}
use Rattle.crossbeam_queue.specs.Fifo.{Pushes, Pops, Forks, Merges, Learns}
use Rattle.rb_chapter_ring.specs.Chapters.{Chapter, IsChapterRoom, IsLegalChapter}
use Rattle.rb_chapter_ring.specs.ChapterRoom.{HasRoomForOwed}
use Rattle.rb_chapter_ring.specs.ChapterRing.{ChapterRing, StandsForChapter}
use Rattle.rb_chapter_ring.specs.WholeHistory.{Binds}
use Rattle.rb_history.specs.RingModel.{IsWithinBounds}
use Rattle.rb_chapter_ring.specs.ChapterCalls.{IsSameChapter, HandsOut}
use Rattle.rb_ledger.specs.Roles.Role.{Consumer}
use Rattle.rb_ledger.specs.Ledger.{IsRing}
use Rattle.rb_ledger.specs.LockSteps.{RoleStep, knowledge_after}
use Rattle.rb_ledger.specs.ChapteredRing.{ChapteredRing, chaptered_ring, whole_of, HasChapters, IsChapteredRing}
use Rattle.rb_ledger.specs.ChapterKnowledge.{ChapterKnowledge, ChapterPassView, chapter_view}
use Rattle.rb_ledger.specs.LockRule.{KeepsChapterLockRule}
use Rattle.rb_ledger.specs.ChapterLockSteps.{TakesChapterState, MayPutChapter, PutsChapterState, unopened_chapters, OpensChapterState, first_chapter_role, other_chapter_roles}

-- ---- when a state may be put back

-- the change from the one ring to the other is a step of the role, over the whole history
abbrev pub IsWholeStep : ChapterKnowledge → ChapteredRing → ChapteredRing → Type 0
IsWholeStep me out left = RoleStep me.whole (whole_of out) (whole_of left) (knowledge_after (whole_of out) (whole_of left) me.whole)

-- after a call: if it left the ring in the same chapter, which is legal and has room for what it owes, by a step of the
-- role
abbrev pub CallsMayPut : Type 0
CallsMayPut =
    (me : ChapterKnowledge) (out : ChapteredRing) (new : ChapterRing) → HasChapters out → IsSameChapter out.ring new → IsLegalChapter new.chapter → HasRoomForOwed new.chapter
    → IsWholeStep me out (chaptered_ring out.handed_out new) → MayPutChapter (chapter_view (me ∷ []) (Some out)) new

-- after a chapter was handed out: the consumer may put the state back
abbrev pub HandsOutMayPut : Type 0
HandsOutMayPut =
    (me : ChapterKnowledge) (out : ChapteredRing) (new : ChapterRing) (c : Chapter) → me.whole.role ≡ Consumer → HasChapters out → IsRing (whole_of out) → HandsOut out.ring new c
    → MayPutChapter (chapter_view (me ∷ []) (Some out)) new

-- the invariants of the state itself, and that its chapter continues those that were handed out, are everything that
-- holds of a ring made by calls
abbrev pub FactsMakeRing : Type 0
FactsMakeRing = (c : ChapteredRing) → Binds c.handed_out c.ring.chapter → HasRoomForOwed c.ring.chapter → IsChapterRoom c.ring.chapter.room → StandsForChapter c.ring → IsWithinBounds (whole_of c) → IsChapteredRing c

-- ---- each step preserves the rule

-- it holds of an empty queue and the single pass that puts the first state in
abbrev pub HoldsAtFirst : Type 0
HoldsAtFirst = KeepsChapterLockRule [] (chapter_view [] (Some unopened_chapters) ∷ [])

abbrev pub KeptWhereOpened : Type 0
KeptWhereOpened =
    (n pass : ℕ) (v : ChapterPassView) (r : ChapterRing) → v ≡ chapter_view [] (Some unopened_chapters) → IsRing (whole_of (chaptered_ring [] r)) → HasChapters (chaptered_ring [] r) → r.contents ≡ empty
    → Pushes KeepsChapterLockRule n pass v r (OpensChapterState v r)

abbrev pub KeptWhereTakenOut : Type 0
KeptWhereTakenOut = (pass : ℕ) (v : ChapterPassView) → v.out ≡ None → Pops KeepsChapterLockRule pass v (TakesChapterState v)

abbrev pub KeptWherePutBack : Type 0
KeptWherePutBack = (n pass : ℕ) (v : ChapterPassView) (new : ChapterRing) → MayPutChapter v new → Pushes KeepsChapterLockRule n pass v new (PutsChapterState v new)

-- while a pass holds the state, the queue is empty
abbrev pub IsAwayWhereOut : Type 0
IsAwayWhereOut = (pass : ℕ) (v : ChapterPassView) (c : ChapteredRing) → v.out ≡ Some c → Learns KeepsChapterLockRule pass v (λ items. items ≡ [])

abbrev pub KeptWhereSplit : Type 0
KeptWhereSplit = (pass : ℕ) (v : ChapterPassView) → Forks KeepsChapterLockRule pass v (chapter_view (other_chapter_roles v.knows) v.out) (chapter_view (first_chapter_role v.knows) None)

abbrev pub KeptWhereJoined : Type 0
KeptWhereJoined =
    (pass : ℕ) (v : ChapterPassView) (other : ℕ) (u : ChapterPassView) → u.out ≡ None
    → Merges KeepsChapterLockRule pass v other u (chapter_view (u.knows ++ v.knows) v.out) (chapter_view [] None)
