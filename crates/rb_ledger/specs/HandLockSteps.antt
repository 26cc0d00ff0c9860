-- The steps of a pass at the lock of a ring with hands: the state is taken out, put back, and put in for the first
-- time; roles are split off (own). They are those of `ChapterLockSteps.antt`, with hands.
use Rattle.std.specs.Prelude.{◌≡◌, ℕ, zero, suc, ◌+◌, false, List, [], ◌∷◌, Option, Some, None}
use Rattle.rb_ledger.specs.Roles.{Role, Book, book_of}
use Rattle.rb_ledger.specs.Roles.Role.{Consumer, Worker}
use Rattle.rb_ledger.specs.RoleKnowledge.{same_role}
use Rattle.rb_ledger.specs.ChapteredRing.{chaptered_ring, whole_of}
use Rattle.rb_ledger.specs.ChapterKnowledge.{ChapterKnowledge}
use Rattle.rb_ledger.specs.ChapterLockSteps.{TakesChapterState, MayPutChapter, chaptered_after, chapter_knowledge_after, unopened_chapters, opening_role}
use Rattle.rb_chapter_ring.specs.Hands.{Hands, HandBook, free_hands, hands_of}
use Rattle.rb_chapter_ring.specs.HandRing.{HandRing, HasHands}
use Rattle.rb_ledger.specs.HandKnowledge.{ChapteredHandRing, hand_ring_of, cut_of, HandKnowledge, HandPassView, hand_view, without_hands, AllKnowHands}

-- ---- the state is taken out, and put back after one call of the pass's role

-- the pass then holds the state, which agrees with everything that the pass's roles know
pub record TakesHandState (v : HandPassView) (r : HandRing) (w : HandPassView) : Type 0 where
  pub taken : ChapteredHandRing
  pub ring_is : hand_ring_of taken ≡ r
  pub has : HasHands (hand_ring_of taken)
  pub known : AllKnowHands taken.chaptered.ring.chapter.room taken.chaptered.handed_out taken.hands v.knows
  pub out_is : w ≡ hand_view v.knows (Some taken)
  pub chapters : TakesChapterState (without_hands v) r.ring (without_hands w)

-- what a role shows of its hands after it has put back a state
abbrev pub hands_known_by : Role → HandBook → Hands → Hands
hands_known_by Consumer now known = known
hands_known_by (Worker w) now known = hands_of now w

-- what a role then knows
abbrev pub hand_knowledge_after : ChapteredHandRing → HandRing → HandKnowledge → HandKnowledge
hand_knowledge_after out new k = record {
  chapter = chapter_knowledge_after out.chaptered new.ring k.chapter;
  cut = cut_of (chaptered_after out.chaptered new.ring);
  hands = hands_known_by k.chapter.whole.role new.hands k.hands;
}

abbrev pub hands_known_after_put : ChapteredHandRing → HandRing → List HandKnowledge → List HandKnowledge
hands_known_after_put out new [] = []
hands_known_after_put out new (k ∷ ks) = hand_knowledge_after out new k ∷ hands_known_after_put out new ks

abbrev pub hand_view_after_put : HandPassView → HandRing → Option ChapteredHandRing → HandPassView
hand_view_after_put v new None = v
hand_view_after_put v new (Some out) = hand_view (hands_known_after_put out new v.knows) None

abbrev pub PutsHandState : HandPassView → HandRing → HandPassView → Type 0
PutsHandState v new w = w ≡ hand_view_after_put v new v.out

-- the hands of all other workers are unchanged
abbrev pub LeavesOtherHands : Role → HandBook → HandBook → Type 0
LeavesOtherHands role old new = (w : ℕ) → same_role role (Worker w) ≡ false → hands_of new w ≡ hands_of old w

-- The pass may put back this state: it may do so without hands, the records of its book are the busy ones, and the
-- hands of all other workers are unchanged.
pub record MayPutHands (v : HandPassView) (new : HandRing) : Type 0 where
  pub me : HandKnowledge
  pub out : ChapteredHandRing
  pub view_is : v ≡ hand_view (me ∷ []) (Some out)
  pub chapters : MayPutChapter (without_hands v) new.ring
  pub has : HasHands new
  pub others : LeavesOtherHands me.chapter.whole.role out.hands new.hands

-- ---- the lock is opened

-- the state that a pass holds before the lock is opened
abbrev pub unopened_hands : ChapteredHandRing
unopened_hands = record { chaptered = unopened_chapters; hands = [] }

-- a role at a ring that was just opened: nothing was handed out, and its hands are free
abbrev pub opening_hands : ChapterKnowledge → HandKnowledge
opening_hands k = record { chapter = k; cut = 0; hands = free_hands }

-- the roles of the workers from `first` on
abbrev pub opening_worker_hands : Book → ℕ → ℕ → ℕ → List HandKnowledge
opening_worker_hands seen room first zero = []
opening_worker_hands seen room first (suc n) = opening_hands (opening_role (Worker first) seen room) ∷ opening_worker_hands seen room (first + 1) n

-- the roles at a ring that was just opened, the consumer's first
abbrev pub opening_hand_roles : HandRing → List HandKnowledge
opening_hand_roles r =
    let seen = book_of (whole_of (chaptered_ring [] r.ring)) in
    opening_hands (opening_role Consumer seen r.ring.chapter.room) ∷ opening_worker_hands seen r.ring.chapter.room 0 r.ring.chapter.opening.setup.workers

-- the first state is put in, and the pass has all roles, with free hands
abbrev pub OpensHandState : HandPassView → HandRing → HandPassView → Type 0
OpensHandState v r w = w ≡ hand_view (opening_hand_roles r) None

-- ---- a role is split off

abbrev pub first_hand_role : List HandKnowledge → List HandKnowledge
first_hand_role [] = []
first_hand_role (k ∷ ks) = k ∷ []

abbrev pub other_hand_roles : List HandKnowledge → List HandKnowledge
other_hand_roles [] = []
other_hand_roles (k ∷ ks) = ks
