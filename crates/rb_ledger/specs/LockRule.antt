-- The lock's rule: the invariant of the lock, in three layers, each of which includes the one before it. It holds
-- before and after each step of each thread (own).
--
-- - Over histories: there is one state, in the queue or out with one pass; each role is in one pass; and what each role
--   saw is a prefix of the one history, with no entry of its own after it.
-- - Over chapters: the rule over histories holds, with the entries of the chapters that were handed out at the front;
--   the state's chapter continues those chapters; and the consumer knows them.
-- - With hands: the rule over chapters holds, which does not mention hands; wherever the ring is, in the queue or out
--   with a pass, it has one book of hands, whose records are the busy ones; and each pass knows the ring's room, how
--   much had been handed out when it last saw the ring, and, for a worker, the hands that the book has.
use Rattle.std.specs.Prelude.{◌≡◌, ℕ, ◌≤◌, List, [], ◌∷◌, ◌++◌, Option, Some, None, map}
use mathlib.Core.Option.{some}
use lib.ListN.{get_elem?}
use Rattle.rb_history.specs.RingModel.{Ring}
use Rattle.rb_chapter_ring.specs.Chapters.{Chapter, joined}
use Rattle.rb_chapter_ring.specs.ChapterRing.{ChapterRing, whole_ring}
use Rattle.rb_chapter_ring.specs.Hands.{HandBook}
use Rattle.rb_chapter_ring.specs.HandRing.{HandRing, HasHands}
use Rattle.rb_ledger.specs.Roles.{Role}
use Rattle.rb_ledger.specs.RoleKnowledge.{RoleKnowledge, PassView, role_count, total, states_out}
use Rattle.rb_ledger.specs.Ledger.{Ledger, FitsLedger}
use Rattle.rb_ledger.specs.ChapteredRing.{ChapteredRing, chaptered_ring, HasChapters}
use Rattle.rb_ledger.specs.ChapterKnowledge.{ChapterPassView, whole_view, AllKnowHandedOut}
use Rattle.rb_ledger.specs.HandKnowledge.{ChapteredHandRing, hand_ring_of, HandPassView, without_hands, rings_of, AllKnowHands}

-- THE RULE OVER HISTORIES

-- what each of these roles knows agrees with the ledger
abbrev pub AllFit : Ledger → List RoleKnowledge → Type 0
AllFit ledger [] = Unit {0}
AllFit ledger (k ∷ ks) = FitsLedger ledger k × AllFit ledger ks

-- the queue of the lock contains `queued`, and the passes, by their numbers, know `views`; the rule holds for one
-- ledger
pub record KeepsLockRule (queued : List Ring) (views : List PassView) : Type 0 where
  pub ledger : Ledger
  pub one_state : queued ++ states_out views ≡ ledger.ring ∷ []
  pub each_role_once : (role : Role) → total (λ v. role_count role v.knows) views ≤ 1
  pub each_saw_a_beginning : (pass : ℕ) (v : PassView) → get_elem? views pass ≡ some v → AllFit ledger v.knows

-- THE RULE OVER CHAPTERS

-- the state continues the chapters that were handed out, in a chapter of this room
pub record GoesOnFrom (room : ℕ) (handed_out : List Chapter) (c : ChapteredRing) : Type 0 where
  pub handed_out_same : c.handed_out ≡ handed_out
  pub room_same : c.ring.chapter.room ≡ room
  pub has_chapters : HasChapters c

-- each state in the queue continues them in this way
abbrev pub AllGoOn : ℕ → List Chapter → List ChapterRing → Type 0
AllGoOn room handed_out [] = Unit {0}
AllGoOn room handed_out (v ∷ vs) = GoesOnFrom room handed_out (chaptered_ring handed_out v) × AllGoOn room handed_out vs

-- and so does a state that is out
abbrev pub GoesOnWhereOut : ℕ → List Chapter → Option ChapteredRing → Type 0
GoesOnWhereOut room handed_out None = Unit {0}
GoesOnWhereOut room handed_out (Some c) = GoesOnFrom room handed_out c

-- what a pass knows about the chapters is true
pub record KnowsChapters (room : ℕ) (handed_out : List Chapter) (v : ChapterPassView) : Type 0 where
  pub goes_on : GoesOnWhereOut room handed_out v.out
  pub handed_out_known : AllKnowHandedOut room handed_out v.knows

-- the queue of the lock contains `queued`, and the passes, by their numbers, know `views`
pub record KeepsChapterLockRule (queued : List ChapterRing) (views : List ChapterPassView) : Type 0 where
  pub room : ℕ
  pub handed_out : List Chapter
  pub whole : KeepsLockRule (map (whole_ring (joined handed_out)) queued) (map whole_view views)
  pub queued_goes_on : AllGoOn room handed_out queued
  pub each_knows : (pass : ℕ) (v : ChapterPassView) → get_elem? views pass ≡ some v → KnowsChapters room handed_out v

-- THE RULE WITH HANDS

-- the ring has this book, whose records are the busy ones
pub record HasBook (book : HandBook) (v : HandRing) : Type 0 where
  pub same : v.hands ≡ book
  pub has : HasHands v

-- each state in the queue has it
abbrev pub AllHaveBook : HandBook → List HandRing → Type 0
AllHaveBook book [] = Unit {0}
AllHaveBook book (v ∷ vs) = HasBook book v × AllHaveBook book vs

-- and so does a state that is out
abbrev pub HasBookWhereOut : HandBook → Option ChapteredHandRing → Type 0
HasBookWhereOut book None = Unit {0}
HasBookWhereOut book (Some c) = HasBook book (hand_ring_of c)

-- what a pass holds and knows agrees with this ring
pub record ShowsHands (room : ℕ) (handed_out : List Chapter) (book : HandBook) (v : HandPassView) : Type 0 where
  pub where_out : HasBookWhereOut book v.out
  pub known : AllKnowHands room handed_out book v.knows

-- the queue of the lock contains `queued`, and the passes, by their numbers, know `views`
pub record KeepsHandLockRule (queued : List HandRing) (views : List HandPassView) : Type 0 where
  pub book : HandBook
  pub chapters : KeepsChapterLockRule (rings_of queued) (map without_hands views)
  pub queued_has : AllHaveBook book queued
  pub each_shows : (pass : ℕ) (v : HandPassView) → get_elem? views pass ≡ some v → ShowsHands chapters.room chapters.handed_out book v
