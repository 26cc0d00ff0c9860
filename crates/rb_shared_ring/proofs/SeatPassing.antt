-- Each call with a worker's seat under the lock: the state may be put back with its hands, and what the seat's pass
-- knows afterwards.
use Rattle.std.proofs.Common.{◌≡◌, ℕ, ◌<◌, List, Some, None, set, refl, ap, ◌∙◌, Result, Ok, Err, IfOk}
use Rattle.rb_history.specs.declared.answers.Notice.{Notice}
use Rattle.rb_chapter_ring.specs.ChapterCalls.{producer_by_chapter}
use Rattle.rb_chapter_ring.specs.declared.faults.ReserveFault.{ReserveFault}
use Rattle.rb_ledger.specs.Roles.Role.{Worker}
use Rattle.rb_ledger.specs.inner.ChapterAnswers.{QueriesInChapter, EndsInChapter}
use Rattle.rb_ledger.specs.RecordEnds.{sent_by_end}
use Rattle.rb_chapter_ring.specs.Hands.{out_record, Hands, hands_of, with_hand, IsFree}
use Rattle.rb_chapter_ring.specs.HandRing.{HandRing}
use Rattle.rb_chapter_ring.specs.RecordEnds.{EndsFromHand, Ends}
use Rattle.rb_chapter_ring.specs.HandGranted.{HandGranted}
use Rattle.rb_chapter_ring.specs.declared.record_end.RecordEnd.{RecordEnd}
use Rattle.rb_chapter_ring.specs.declared.record_end.RecordEnd.TheVariants.{Submit, Discard}
use Rattle.rb_ledger.specs.HandKnowledge.{HandPassView, without_hands}
use Rattle.rb_ledger.specs.HandLockSteps.{TakesHandState, MayPutHands, PutsHandState}
use Rattle.rb_shared_ring.specs.declared.audit.Audit.{Audit}
use Rattle.rb_shared_ring.specs.SharedCalls.{IsRefusedInRoomAs, granted_in, hands_reserved, sent_by_output_in_room}
use Rattle.rb_shared_ring.specs.inner.ChapterAnswers.{ReservesInChapter, OutputsInChapter, AuditsInChapter}
use Rattle.rb_shared_ring.specs.inner.HandCalls.{ReservesToHand, EndsOut, LeavesHands}
use Rattle.rb_shared_ring.specs.inner.HandPasses.{bytes_with, hands_by, IsIdleWith}
use Rattle.rb_shared_ring.specs.inner.LentState.{IsKeptHandRing}
use Rattle.rb_shared_ring.proofs.WholeAnswers.{stays, same-reserved, same-output, same-ended}
use Rattle.rb_shared_ring.proofs.WorkerPassing as chapter
use Rattle.rb_shared_ring.proofs.HandPassing.{LeavesSeat, chapter-idle, chapter-out, put-chapter, may-put-same, may-put-changed, hand-changed, hands-same, leaves-seat}

-- the same refusal, without the hand of what was granted
pub refused-in : (fault : ReserveFault) (a : Result HandGranted (ReserveFault × List ℕ)) → IsRefusedInRoomAs fault a → IsRefusedInRoomAs fault (granted_in a)
refused-in fault (Ok r) is = is
refused-in fault (Err e) is = is

pub serial-in-hand : (made : ℕ) (a : Result HandGranted (ReserveFault × List ℕ)) → IfOk (granted_in a) (λ g. g.serial ≡ made) → IfOk a (λ r. r.granted.serial ≡ made)
serial-in-hand made (Ok r) is = is
serial-in-hand made (Err e) is = tt

-- if nothing was granted, the hands are unchanged
pub hands-kept : (hands : Hands) (hand n : ℕ) (a : Result HandGranted (ReserveFault × List ℕ)) → ((r : HandGranted) → a ≡ Ok r → ⊥) → hands_reserved hands hand n a ≡ hands
hands-kept hands hand n (Ok r) none = absurd (none r refl)
hands-kept hands hand n (Err e) none = refl

-- a reservation into a hand is a reservation of the ring
pub reserves-in : (w hand n : ℕ) (a : Result HandGranted (ReserveFault × List ℕ)) (old new : HandRing) → ReservesToHand w hand n a old new → ReservesInChapter w n (granted_in a) old.ring new.ring
reserves-in w hand n (Ok r) old new c = (c.0.grants, c.1, c.2)
reserves-in w hand n (Err e) old new c = (c.0, c.1)

-- a commit from a hand is a commit in the ring's chapter, and frees the hand
ends-in : (end : RecordEnd) (g : HandGranted) (old new : HandRing) → EndsFromHand end g.hand g.granted old new → Ends end g.granted old.ring new.ring
ends-in Submit g old new e = e.submits
ends-in Discard g old new e = e.discards

frees-hand : (end : RecordEnd) (g : HandGranted) (old new : HandRing) → EndsFromHand end g.hand g.granted old new → new.hands ≡ with_hand old.hands g.granted.worker g.hand None
frees-hand Submit g old new e = e.freed
frees-hand Discard g old new e = e.freed

module _ (w : ℕ) (v : HandPassView) (r new : HandRing) (out : HandPassView) (idle : IsIdleWith (Worker w) v) (took : TakesHandState v r out) (kept : IsKeptHandRing new) where
  -- ---- the state may be put back

  pub put-query : (what answer : ℕ) → LeavesHands (QueriesInChapter what answer) r new → MayPutHands out new
  put-query what answer c =
      may-put-same (Worker w) v r out idle took new kept (chapter.put-query w (without_hands v) r.ring new.ring (without_hands out) (chapter-idle (Worker w) v r out idle took) took.chapters kept.kept what answer c.0) c.1

  pub put-audit : (a : Audit) → LeavesHands (AuditsInChapter w a) r new → MayPutHands out new
  put-audit a c =
      may-put-same (Worker w) v r out idle took new kept (chapter.put-audit w (without_hands v) r.ring new.ring (without_hands out) (chapter-idle (Worker w) v r out idle took) took.chapters kept.kept a c.0) c.1

  pub put-out : (b : List ℕ) (flags : ℕ) (a : Result Notice (ReserveFault × List ℕ)) → LeavesHands (OutputsInChapter w b flags a) r new → MayPutHands out new
  put-out b flags a c =
      may-put-same (Worker w) v r out idle took new kept (chapter.put-out w (without_hands v) r.ring new.ring (without_hands out) (chapter-idle (Worker w) v r out idle took) took.chapters kept.kept b flags a c.0) c.1

  pub put-reserve : (hand n : ℕ) (a : Result HandGranted (ReserveFault × List ℕ)) → ReservesToHand w hand n a r new → MayPutHands out new
  put-reserve hand n a c =
      by-answer a c (chapter.put-reserve w (without_hands v) r.ring new.ring (without_hands out) (chapter-idle (Worker w) v r out idle took) took.chapters kept.kept n (granted_in a) (reserves-in w hand n a r new c))
    where
      by-answer : (a : Result HandGranted (ReserveFault × List ℕ)) → ReservesToHand w hand n a r new → Rattle.rb_ledger.specs.ChapterLockSteps.MayPutChapter (without_hands out) new.ring → MayPutHands out new
      by-answer (Ok g) c m = may-put-changed w v r out idle took new hand (Some (out_record g.granted.pos g.granted.serial n)) kept m c.0.marked
      by-answer (Err e) c m = may-put-same (Worker w) v r out idle took new kept m c.2

  pub put-end : (end : RecordEnd) (g : HandGranted) (flags : ℕ) (notice : Notice) → g.granted.worker ≡ w → EndsOut end g flags notice r new → MayPutHands out new
  put-end end g flags notice mine c =
      may-put-changed w v r out idle took new g.hand None kept
      (chapter.put-end w (without_hands v) r.ring new.ring (without_hands out) (chapter-idle (Worker w) v r out idle took) took.chapters kept.kept end g.granted flags notice mine (ends-in end g r new c.0, c.1))
      (frees-hand end g r new c.0 ∙ ap (λ u. with_hand r.hands u g.hand None) mine)

  -- ---- what the pass knows afterwards

  module _ (after : HandPassView) (put : PutsHandState out new after) where
    pub queried : (what answer : ℕ) → LeavesHands (QueriesInChapter what answer) r new → LeavesSeat w v after (bytes_with v) (hands_by v) (QueriesInChapter what answer)
    queried what answer c =
        leaves-seat w v r out idle took new kept (stays r.ring new.ring c.0.0) after put (bytes_with v) (QueriesInChapter what answer) (hands_by v)
        (chapter.queried w (without_hands v) r.ring new.ring (without_hands out) (chapter-idle (Worker w) v r out idle took) took.chapters kept.kept (without_hands after) (put-chapter (Worker w) v r out idle took new after put) took.taken.chaptered (chapter-out (Worker w) v r out idle took) what answer c.0)
        (hands-same w v r out idle took new c.1)

    pub audited : (a : Audit) → LeavesHands (AuditsInChapter w a) r new → LeavesSeat w v after (bytes_with v) (hands_by v) (AuditsInChapter w a)
    audited a c =
        leaves-seat w v r out idle took new kept (stays r.ring new.ring c.0.same) after put (bytes_with v) (AuditsInChapter w a) (hands_by v)
        (chapter.audited w (without_hands v) r.ring new.ring (without_hands out) (chapter-idle (Worker w) v r out idle took) took.chapters kept.kept (without_hands after) (put-chapter (Worker w) v r out idle took new after put) took.taken.chaptered (chapter-out (Worker w) v r out idle took) a c.0)
        (hands-same w v r out idle took new c.1)

    pub output : (b : List ℕ) (flags : ℕ) (a : Result Notice (ReserveFault × List ℕ)) → LeavesHands (OutputsInChapter w b flags a) r new
        → LeavesSeat w v after (bytes_with after) (hands_by v) (λ old left. OutputsInChapter w b flags a old left × (bytes_with after ≡ sent_by_output_in_room (bytes_with v) (producer_by_chapter old) b a))
    output b flags a c =
        leaves-seat w v r out idle took new kept (same-output r.ring new.ring w b flags a c.0) after put (bytes_with after) (λ old left. OutputsInChapter w b flags a old left × (bytes_with after ≡ sent_by_output_in_room (bytes_with v) (producer_by_chapter old) b a)) (hands_by v)
        (chapter.output w (without_hands v) r.ring new.ring (without_hands out) (chapter-idle (Worker w) v r out idle took) took.chapters kept.kept (without_hands after) (put-chapter (Worker w) v r out idle took new after put) took.taken.chaptered (chapter-out (Worker w) v r out idle took) b flags a c.0)
        (hands-same w v r out idle took new c.1)

    pub reserved : (hand n : ℕ) (a : Result HandGranted (ReserveFault × List ℕ)) → IsFree (hands_by v) hand → ReservesToHand w hand n a r new → LeavesSeat w v after (bytes_with v) (hands_reserved (hands_by v) hand n a) (ReservesInChapter w n (granted_in a))
    reserved hand n a free c =
        leaves-seat w v r out idle took new kept (same-reserved r.ring new.ring w n (granted_in a) (reserves-in w hand n a r new c)) after put (bytes_with v) (ReservesInChapter w n (granted_in a)) (hands_reserved (hands_by v) hand n a)
        (chapter.reserved w (without_hands v) r.ring new.ring (without_hands out) (chapter-idle (Worker w) v r out idle took) took.chapters kept.kept (without_hands after) (put-chapter (Worker w) v r out idle took new after put) took.taken.chaptered (chapter-out (Worker w) v r out idle took) n (granted_in a) (reserves-in w hand n a r new c))
        (marked a c)
      where
        marked : (a : Result HandGranted (ReserveFault × List ℕ)) → ReservesToHand w hand n a r new → hands_of new.hands w ≡ hands_reserved (hands_by v) hand n a
        marked (Ok g) c = hand-changed w v r out idle took new hand (Some (out_record g.granted.pos g.granted.serial n)) free.below c.0.marked
        marked (Err e) c = hands-same w v r out idle took new c.2

    pub ended : (end : RecordEnd) (g : HandGranted) (flags : ℕ) (notice : Notice) → g.granted.worker ≡ w → g.hand < 4 → EndsOut end g flags notice r new
        → LeavesSeat w v after (sent_by_end end g.granted (bytes_with v)) (set (hands_by v) g.hand None) (EndsInChapter end g.granted flags notice)
    ended end g flags notice mine low c =
        let call : EndsInChapter end g.granted flags notice r.ring new.ring = (ends-in end g r new c.0, c.1) in
        leaves-seat w v r out idle took new kept (same-ended r.ring new.ring end g.granted flags notice call) after put (sent_by_end end g.granted (bytes_with v)) (EndsInChapter end g.granted flags notice) (set (hands_by v) g.hand None)
        (chapter.ended w (without_hands v) r.ring new.ring (without_hands out) (chapter-idle (Worker w) v r out idle took) took.chapters kept.kept (without_hands after) (put-chapter (Worker w) v r out idle took new after put) took.taken.chaptered (chapter-out (Worker w) v r out idle took) end g.granted flags notice call)
        (hand-changed w v r out idle took new g.hand None low (frees-hand end g r new c.0 ∙ ap (λ u. with_hand r.hands u g.hand None) mine))
