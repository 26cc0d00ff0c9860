-- A call under the lock of a ring with hands: the state may be put back, and what the pass knows afterwards.
use Rattle.std.proofs.Common.{◌≡◌, ℕ, ◌<◌, ◌≤◌, inl, inr, [], ◌∷◌, Option, Some, None, length, set, refl, sym, ap, ◌∙◌, subst}
use Rattle.std.proofs.lemmas.Bool.{cases_lt}
use Rattle.std.proofs.lemmas.List.{get_or_past}
use Rattle.rb_history.specs.ReservationModel.{Granted}
use Rattle.rb_history.specs.RingModel.{Contents}
use Rattle.rb_chapter_ring.specs.Chapters.{joined}
use Rattle.rb_chapter_ring.specs.ChapterRing.{ChapterRing}
use Rattle.rb_chapter_ring.specs.ChapterCalls.{IsSameChapter}
use Rattle.rb_chapter_ring.proofs.Chain.{binds-continue}
use Rattle.rb_ledger.specs.Roles.{Role, Book, book_of}
use Rattle.rb_ledger.specs.Roles.Role.{Worker}
use Rattle.rb_ledger.proofs.Histories.{all-seen}
use Rattle.rb_ledger.specs.ChapteredRing.{chaptered_ring, whole_of}
use Rattle.rb_ledger.specs.ChapterLockSteps.{MayPutChapter, PutsChapterState, chapter_view_after_put, chaptered_after}
use Rattle.rb_ledger.specs.LockedChapterCalls.{LockedChapterCall}
use Rattle.rb_ledger.specs.inner.ChapterRooms.{InRoomAt}
use Rattle.rb_ledger.proofs.ChapterSteps.{has-same, handed-out-same}
use Rattle.rb_chapter_ring.specs.declared.out_record.OutRecord.{OutRecord}
use Rattle.rb_chapter_ring.specs.Hands.{out_record, Hands, in_hand, hands_of, hand_at, with_hand, IsFree}
use Rattle.rb_chapter_ring.specs.HandRing.{HandRing, HasHands, HasInHand}
use Rattle.rb_chapter_ring.specs.TaggedRing.{TaggedRing}
use Rattle.rb_chapter_ring.proofs.ChangedHands.{own-hands}
use Rattle.rb_chapter_ring.proofs.HandCalls.{to-whole}
use Rattle.rb_ledger.specs.HandKnowledge.{HandPassView, hand_view, without_hands, cut_of, KnowsHands, AllKnowHands}
use Rattle.rb_ledger.specs.HandLockSteps.{TakesHandState, MayPutHands, PutsHandState, LeavesOtherHands, hand_view_after_put}
use Rattle.rb_ledger.specs.NoStranger.{HoldsOwnBusy}
use Rattle.rb_ledger.proofs.HandedOut.{cut-within}
use Rattle.rb_ledger.proofs.HandLock.{one-hand-leaves}
use Rattle.rb_ledger.proofs.NoStranger.{hands-are-seen}
use Rattle.rb_shared_ring.specs.inner.SeatPasses.{IsIdleIn}
use Rattle.rb_shared_ring.specs.inner.HandPasses.{seen_with, bytes_with, room_with, hands_by, cut_by, known_with, IsIdleWith}
use Rattle.rb_shared_ring.specs.inner.LentState.{IsKeptHandRing}
use Rattle.rb_shared_ring.proofs.ChapterPassing.{held-in, seen-in}
use Rattle.rb_shared_ring.proofs.WorkerPassing.{LeavesWorker}

-- what a call does, from the ring that it was given to the one that it left
pub called-in-hands : (Call : HandRing → HandRing → Type 0) (shown old left new : TaggedRing) → shown ≡ old → left ≡ new → Call shown.state left.state → Call old.state new.state
called-in-hands Call shown old left new is_old is_new call = subst (λ (r : TaggedRing). Call r.state new.state) is_old (subst (λ (r : TaggedRing). Call shown.state r.state) is_new call)

-- the state that was taken out is the one that is lent to a call
pub took-lent : (v : HandPassView) (lent held : HandRing) (out : HandPassView) → lent ≡ held → TakesHandState v held out → TakesHandState v lent out
took-lent v lent held out is took = subst (λ r. TakesHandState v r out) (sym is) took

pub took-tagged : (v : HandPassView) (lent held : TaggedRing) (out : HandPassView) → lent ≡ held → TakesHandState v held.state out → TakesHandState v lent.state out
took-tagged v lent held out is took = took-lent v lent.state held.state out (ap (λ (s : TaggedRing). s.state) is) took

-- ---- a pass with any role

module _ (role : Role) (v : HandPassView) (r : HandRing) (out : HandPassView) (idle : IsIdleWith role v) (took : TakesHandState v r out) where
  pub chapter-idle : IsIdleIn role (without_hands v)
  chapter-idle = ap without_hands idle

  pub chapter-out : (without_hands out).out ≡ Some took.taken.chaptered
  chapter-out = ap (λ (x : HandPassView). (without_hands x).out) took.out_is

  pub has-hands : HasHands r
  has-hands = subst HasHands took.ring_is took.has

  now-is : out ≡ hand_view (known_with role v ∷ []) (Some took.taken)
  now-is = took.out_is ∙ ap (λ (x : HandPassView). hand_view x.knows (Some took.taken)) idle

  pub knows-taken : KnowsHands took.taken.chaptered.ring.chapter.room took.taken.chaptered.handed_out took.taken.hands (known_with role v)
  knows-taken = (subst (λ (x : HandPassView). AllKnowHands took.taken.chaptered.ring.chapter.room took.taken.chaptered.handed_out took.taken.hands x.knows) idle took.known).0

  module _ (new : HandRing) where
    pub may-put : IsKeptHandRing new → MayPutChapter (without_hands out) new.ring → LeavesOtherHands role r.hands new.hands → MayPutHands out new
    may-put kept chapters others = record {
      me = known_with role v;
      out = took.taken;
      view_is = now-is;
      chapters = chapters;
      has = kept.hands;
      others = subst (λ b. LeavesOtherHands role b new.hands) (ap (λ (x : HandRing). x.hands) (sym took.ring_is)) others;
    }

    -- if the call left all hands unchanged
    pub may-put-same : IsKeptHandRing new → MayPutChapter (without_hands out) new.ring → new.hands ≡ r.hands → MayPutHands out new
    may-put-same kept chapters same = may-put kept chapters (λ w apart. ap (λ b. hands_of b w) same)

    module _ (after : HandPassView) (put : PutsHandState out new after) where
      back-is : after ≡ hand_view_after_put (hand_view (known_with role v ∷ []) (Some took.taken)) new (Some took.taken)
      back-is = put ∙ ap (λ (x : HandPassView). hand_view_after_put x new x.out) now-is

      pub put-chapter : PutsChapterState (without_hands out) new.ring (without_hands after)
      put-chapter = ap without_hands back-is ∙ sym (ap (λ (x : HandPassView). chapter_view_after_put (without_hands x) new.ring (without_hands x).out) now-is)

      pub idle-after : IsIdleWith role after
      idle-after = subst (IsIdleWith role) (sym back-is) refl

      pub cut-after : cut_by after ≡ cut_of (chaptered_after took.taken.chaptered new.ring)
      cut-after = ap cut_by back-is

-- ---- a worker's pass

none-some : (o : OutRecord) → ◌≡◌ {A = Option OutRecord} None (Some o) → ⊥
none-some o e = cc

-- what a worker's call leaves
pub record LeavesSeat (w : ℕ) (v after : HandPassView) (sent : Contents) (hands : Hands) (Call : ChapterRing → ChapterRing → Type 0) : Type 0 where
  pub idle : IsIdleWith (Worker w) after
  pub call : LockedChapterCall (Worker w) (seen_with v) (seen_with after) (InRoomAt (room_with v) (cut_by after) Call)
  pub bytes : bytes_with after ≡ sent
  pub room : room_with after ≡ room_with v
  pub hands_are : hands_by after ≡ hands
  pub holds : HoldsOwnBusy (hands_by after) w (seen_with after).history
  pub cut : cut_by v ≤ cut_by after

module _ (w : ℕ) (v : HandPassView) (r : HandRing) (out : HandPassView) (idle : IsIdleWith (Worker w) v) (took : TakesHandState v r out) where
  -- the book contains what the pass shows
  pub shown : hands_by v ≡ hands_of r.hands w
  shown = (knows-taken (Worker w) v r out idle took).hands_are w refl ∙ ap (λ (x : HandRing). hands_of x.hands w) took.ring_is

  pub worker-low : w < r.ring.chapter.opening.setup.workers
  worker-low =
      let h = held-in (Worker w) (without_hands v) r.ring (without_hands out) (chapter-idle (Worker w) v r out idle took) took.chapters in
      subst (λ (x : ChapterRing). w < x.chapter.opening.setup.workers) h.ring_is h.is_role

  pub hand-free : (hand : ℕ) → IsFree (hands_by v) hand → IsFree (hands_of r.hands w) hand
  hand-free hand free = subst (λ hs. IsFree hs hand) shown free

  -- what the seat's hand shows is out on the ring
  pub out-there : (hand : ℕ) (g : Granted) → g.worker ≡ w → in_hand (hands_by v) hand ≡ Some (out_record g.pos g.serial (length g.bytes)) → HasInHand r hand g
  out-there hand g mine at = ap (λ u. hand_at r.hands u hand) mine ∙ ap (λ hs. in_hand hs hand) (sym shown) ∙ at

  pub hand-low : (hand : ℕ) (o : OutRecord) → in_hand (hands_by v) hand ≡ Some o → hand < 4
  hand-low hand o at = elim (cases_lt hand 4) [
    | inl near ↦ near
    | inr far ↦ absurd (none-some o (sym (get_or_past (hands_by v) hand None (subst (λ n. n ≤ hand) (sym (ap length shown ∙ (has-hands (Worker w) v r out idle took).shaped.four w worker-low)) far)) ∙ at))
  ]

  -- the worker's hands after one of them was changed
  pub hand-changed : (new : HandRing) (hand : ℕ) (x : Option OutRecord) → hand < 4 → new.hands ≡ with_hand r.hands w hand x → hands_of new.hands w ≡ set (hands_by v) hand x
  hand-changed new hand x low is =
      ap (λ b. hands_of b w) is
      ∙ own-hands r.ring.chapter.opening.setup.workers r.hands (has-hands (Worker w) v r out idle took).shaped w hand worker-low low x
      ∙ ap (λ hs. set hs hand x) (sym shown)

  pub hands-same : (new : HandRing) → new.hands ≡ r.hands → hands_of new.hands w ≡ hands_by v
  hands-same new same = ap (λ b. hands_of b w) same ∙ sym shown

  pub may-put-changed : (new : HandRing) (hand : ℕ) (x : Option OutRecord) → IsKeptHandRing new → MayPutChapter (without_hands out) new.ring → new.hands ≡ with_hand r.hands w hand x → MayPutHands out new
  may-put-changed new hand x kept chapters is = may-put (Worker w) v r out idle took new kept chapters (one-hand-leaves w hand x r.hands new.hands is)

  module _ (new : HandRing) (kept : IsKeptHandRing new) (same : IsSameChapter r.ring new.ring) (after : HandPassView) (put : PutsHandState out new after) where
    hands-after : hands_by after ≡ hands_of new.hands w
    hands-after = ap hands_by (back-is (Worker w) v r out idle took new after put)

    cut-same : cut_by after ≡ cut_of took.taken.chaptered
    cut-same =
        let here : IsSameChapter took.taken.chaptered.ring new.ring = subst (λ x. IsSameChapter x new.ring) (sym (ap (λ (x : HandRing). x.ring) took.ring_is)) same in
        cut-after (Worker w) v r out idle took new after put ∙ ap (λ hs. length (joined hs)) (handed-out-same took.taken.chaptered new.ring here)

    -- the hands that the pass then shows hold its worker's busy records in the history that it has seen
    holds-after : HoldsOwnBusy (hands_by after) w (seen_with after).history
    holds-after =
        let h = held-in (Worker w) (without_hands v) r.ring (without_hands out) (chapter-idle (Worker w) v r out idle took) took.chapters in
        let same_taken : IsSameChapter h.taken.ring new.ring = subst (λ x. IsSameChapter x new.ring) (sym h.ring_is) same in
        let has = has-same h.taken new.ring h.was_ring.has_chapters same_taken kept.kept.legal kept.kept.room in
        let whole = to-whole (joined h.taken.handed_out) new.ring.chapter (binds-continue h.taken.handed_out new.ring.chapter has.binds) new.hands kept.hands.holds in
        let b = book_of (whole_of (chaptered_ring h.taken.handed_out new.ring)) in
        let own = hands-are-seen w b b new.hands (all-seen (Worker w) b) whole in
        let seen : seen_with after ≡ b = seen-in (Worker w) (without_hands v) r.ring new.ring (without_hands out) h same kept.kept (without_hands after) (put-chapter (Worker w) v r out idle took new after put) in
        subst (λ hs. HoldsOwnBusy hs w (seen_with after).history) (sym hands-after) (subst (λ (x : Book). HoldsOwnBusy (hands_of new.hands w) w x.history) (sym seen) own)

    -- from what the call left, without hands
    pub leaves-seat : (sent : Contents) (Call : ChapterRing → ChapterRing → Type 0) (hands : Hands) → LeavesWorker w (without_hands v) (without_hands after) took.taken.chaptered sent Call → hands_of new.hands w ≡ hands → LeavesSeat w v after sent hands Call
    leaves-seat sent Call hands e are = record {
      idle = idle-after (Worker w) v r out idle took new after put;
      call = subst (λ room. LockedChapterCall (Worker w) (seen_with v) (seen_with after) (InRoomAt room (cut_by after) Call)) (sym (knows-taken (Worker w) v r out idle took).room_is)
          (subst (λ cut. LockedChapterCall (Worker w) (seen_with v) (seen_with after) (InRoomAt took.taken.chaptered.ring.chapter.room cut Call)) (sym cut-same) e.call);
      bytes = e.bytes;
      room = e.room;
      hands_are = hands-after ∙ are;
      holds = holds-after;
      cut = subst (λ n. cut_by v ≤ n) (sym cut-same) (cut-within took.taken.chaptered.handed_out (cut_by v) (length (seen_with v).history) (knows-taken (Worker w) v r out idle took).cut_is);
    }
