-- The steps of a pass at the lock of a ring with chapters: the state is taken out, put back, and put in for the first
-- time; roles are split off.
use Rattle.std.specs.Prelude.{◌≡◌, ◌⊎◌, ℕ, zero, suc, ◌+◌, ◌==◌, List, [], ◌∷◌, ◌++◌, Option, Some, None, if◌then◌else◌}
use Rattle.std.specs.FinMap.{empty}
use Rattle.rb_chapter_ring.specs.Chapters.{Chapter, first_chapter}
use Rattle.rb_chapter_ring.specs.ChapterRing.{ChapterRing}
use Rattle.rb_ledger.specs.Roles.{Role, Book, book_of}
use Rattle.rb_ledger.specs.Roles.Role.{Consumer, Worker}
use Rattle.rb_ledger.specs.RoleKnowledge.{role_knowledge}
use Rattle.rb_ledger.specs.LockSteps.{TakesState, RoleStep, knowledge_after}
use Rattle.rb_ledger.specs.ChapteredRing.{ChapteredRing, chaptered_ring, whole_of, HasChapters}
use Rattle.rb_ledger.specs.ChapterKnowledge.{ChapterKnowledge, ChapterPassView, chapter_view, whole_view, AllKnowHandedOut}

-- ---- the state is taken out, and put back after one call of the pass's role

-- the pass then holds the state, with the chapters that were handed out; it fits all roles of the pass, each of which
-- the pass has once
pub record TakesChapterState (v : ChapterPassView) (r : ChapterRing) (w : ChapterPassView) : Type 0 where
  pub taken : ChapteredRing
  pub ring_is : taken.ring ≡ r
  pub has_chapters : HasChapters taken
  pub known : AllKnowHandedOut taken.ring.chapter.room taken.handed_out v.knows
  pub out_is : w ≡ chapter_view v.knows (Some taken)
  pub whole : TakesState (whole_view v) (whole_of taken) (whole_view w)

-- the chapters handed out after the ring was put back: if its chapter has another number, the old one was handed out
abbrev pub handed_out_after : ChapteredRing → ChapterRing → List Chapter
handed_out_after out new = if new.chapter.number == out.ring.chapter.number then out.handed_out else out.handed_out ++ out.ring.chapter ∷ []

abbrev pub chaptered_after : ChapteredRing → ChapterRing → ChapteredRing
chaptered_after out new = chaptered_ring (handed_out_after out new) new

abbrev pub handed_out_known_by : Role → List Chapter → List Chapter → List Chapter
handed_out_known_by Consumer now known = now
handed_out_known_by (Worker w) now known = known

-- what a role knows after it has put back a state
abbrev pub chapter_knowledge_after : ChapteredRing → ChapterRing → ChapterKnowledge → ChapterKnowledge
chapter_knowledge_after out new k = record {
  whole = knowledge_after (whole_of out) (whole_of (chaptered_after out new)) k.whole;
  room = k.room;
  handed_out = handed_out_known_by k.whole.role (handed_out_after out new) k.handed_out;
}

abbrev pub knowledge_after_put : ChapteredRing → ChapterRing → List ChapterKnowledge → List ChapterKnowledge
knowledge_after_put out new [] = []
knowledge_after_put out new (k ∷ ks) = chapter_knowledge_after out new k ∷ knowledge_after_put out new ks

abbrev pub chapter_view_after_put : ChapterPassView → ChapterRing → Option ChapteredRing → ChapterPassView
chapter_view_after_put v new None = v
chapter_view_after_put v new (Some out) = chapter_view (knowledge_after_put out new v.knows) None

abbrev pub PutsChapterState : ChapterPassView → ChapterRing → ChapterPassView → Type 0
PutsChapterState v new w = w ≡ chapter_view_after_put v new v.out

-- The pass has one role, holds a state, and may put back this one: over the whole history it is a step of that role,
-- and its chapters are those of a ring. Only the consumer hands out a chapter.
pub record MayPutChapter (v : ChapterPassView) (new : ChapterRing) : Type 0 where
  pub me : ChapterKnowledge
  pub out : ChapteredRing
  pub view_is : v ≡ chapter_view (me ∷ []) (Some out)
  pub has_chapters : HasChapters (chaptered_after out new)
  pub room_same : new.chapter.room ≡ out.ring.chapter.room
  pub by_consumer : (me.whole.role ≡ Consumer) ⊎ (handed_out_after out new ≡ out.handed_out)
  pub whole : RoleStep me.whole (whole_of out) (whole_of (chaptered_after out new)) (knowledge_after (whole_of out) (whole_of (chaptered_after out new)) me.whole)

-- ---- the lock is opened

-- the state that a pass holds before the lock is opened; no role's knowledge fits it
abbrev pub unopened_chapter_ring : ChapterRing
unopened_chapter_ring = record { chapter = first_chapter 8 (record { size = 0; start = 0; workers = 0 }); contents = empty; shown = []; producer = 0; consumer = 0 }

abbrev pub unopened_chapters : ChapteredRing
unopened_chapters = chaptered_ring [] unopened_chapter_ring

-- a role that has seen the ring as it was opened, and has sent or received nothing
abbrev pub opening_role : Role → Book → ℕ → ChapterKnowledge
opening_role role seen room = record { whole = role_knowledge role seen empty; room = room; handed_out = [] }

-- the roles of the workers from `first` on
abbrev pub opening_workers : Book → ℕ → ℕ → ℕ → List ChapterKnowledge
opening_workers seen room first zero = []
opening_workers seen room first (suc n) = opening_role (Worker first) seen room ∷ opening_workers seen room (first + 1) n

-- the first state is put in, and the pass has all roles
abbrev pub OpensChapterState : ChapterPassView → ChapterRing → ChapterPassView → Type 0
OpensChapterState v r w =
    w ≡ chapter_view (opening_role Consumer (book_of (whole_of (chaptered_ring [] r))) r.chapter.room ∷ opening_workers (book_of (whole_of (chaptered_ring [] r))) r.chapter.room 0 r.chapter.opening.setup.workers) None

-- ---- a role is split off

abbrev pub first_chapter_role : List ChapterKnowledge → List ChapterKnowledge
first_chapter_role [] = []
first_chapter_role (k ∷ ks) = k ∷ []

abbrev pub other_chapter_roles : List ChapterKnowledge → List ChapterKnowledge
other_chapter_roles [] = []
other_chapter_roles (k ∷ ks) = ks
