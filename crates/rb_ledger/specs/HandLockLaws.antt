-- What preserves the lock's rule with hands: taking the state out, putting it back, putting the first one in, and
-- splitting and joining roles (own).
use Rattle.std.specs.Prelude.{◌≡◌, ℕ, [], ◌∷◌, ◌++◌, Option, Some, None}
use Rattle.std.specs.FinMap.{empty}
use Rattle.crossbeam_queue.specs.Fifo.{Pushes, Pops, Forks, Merges, Learns}
use Rattle.rb_ledger.specs.Ledger.{IsRing}
use Rattle.rb_ledger.specs.Roles.Role.{Worker}
use Rattle.rb_ledger.specs.ChapteredRing.{chaptered_ring, whole_of, HasChapters}
use Rattle.rb_chapter_ring.specs.declared.out_record.OutRecord.{OutRecord}
use Rattle.rb_chapter_ring.specs.Hands.{HandBook, free_book, with_hand}
use Rattle.rb_chapter_ring.specs.HandRing.{HandRing, HasHands}
use Rattle.rb_ledger.specs.HandKnowledge.{ChapteredHandRing, HandPassView, hand_view}
use Rattle.rb_ledger.specs.LockRule.{KeepsHandLockRule}
use Rattle.rb_ledger.specs.HandLockSteps.{TakesHandState, MayPutHands, PutsHandState, LeavesOtherHands, unopened_hands, OpensHandState, first_hand_role, other_hand_roles}

-- a change of one worker's hand leaves the hands of all others unchanged
abbrev pub OneHandLeavesOthers : Type 0
OneHandLeavesOthers = (w h : ℕ) (x : Option OutRecord) (old new : HandBook) → new ≡ with_hand old w h x → LeavesOtherHands (Worker w) old new

-- ---- each step preserves the rule

-- it holds of an empty queue and the single pass that puts the first state in
abbrev pub HandsHoldAtFirst : Type 0
HandsHoldAtFirst = KeepsHandLockRule [] (hand_view [] (Some unopened_hands) ∷ [])

abbrev pub HandsKeptWhereOpened : Type 0
HandsKeptWhereOpened =
    (n pass : ℕ) (v : HandPassView) (r : HandRing) → v ≡ hand_view [] (Some unopened_hands) → IsRing (whole_of (chaptered_ring [] r.ring)) → HasChapters (chaptered_ring [] r.ring) → r.ring.contents ≡ empty
    → HasHands r → r.hands ≡ free_book r.ring.chapter.opening.setup.workers → Pushes KeepsHandLockRule n pass v r (OpensHandState v r)

abbrev pub HandsKeptWhereTakenOut : Type 0
HandsKeptWhereTakenOut = (pass : ℕ) (v : HandPassView) → v.out ≡ None → Pops KeepsHandLockRule pass v (TakesHandState v)

abbrev pub HandsKeptWherePutBack : Type 0
HandsKeptWherePutBack = (n pass : ℕ) (v : HandPassView) (new : HandRing) → MayPutHands v new → Pushes KeepsHandLockRule n pass v new (PutsHandState v new)

-- while a pass holds the state, the queue is empty
abbrev pub HandsAreAwayWhereOut : Type 0
HandsAreAwayWhereOut = (pass : ℕ) (v : HandPassView) (c : ChapteredHandRing) → v.out ≡ Some c → Learns KeepsHandLockRule pass v (λ items. items ≡ [])

abbrev pub HandsKeptWhereSplit : Type 0
HandsKeptWhereSplit = (pass : ℕ) (v : HandPassView) → Forks KeepsHandLockRule pass v (hand_view (other_hand_roles v.knows) v.out) (hand_view (first_hand_role v.knows) None)

abbrev pub HandsKeptWhereJoined : Type 0
HandsKeptWhereJoined =
    (pass : ℕ) (v : HandPassView) (other : ℕ) (u : HandPassView) → u.out ≡ None
    → Merges KeepsHandLockRule pass v other u (hand_view (u.knows ++ v.knows) v.out) (hand_view [] None)
