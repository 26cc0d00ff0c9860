-- Each call with the consumer's seat under the lock: the state may be put back with its hands, which do not change, and
-- what the seat's pass knows afterwards.
use Rattle.std.proofs.Common.{◌≡◌, List}
use Rattle.rb_history.specs.RingModel.{Contents}
use Rattle.rb_chapter_ring.specs.Chapters.{Chapter}
use Rattle.rb_ledger.specs.Roles.Role.{Consumer}
use Rattle.rb_ledger.specs.ChapteredRing.{ChapteredRing}
use Rattle.rb_ledger.specs.ChapterLockSteps.{MayPutChapter, PutsChapterState}
use Rattle.rb_ledger.specs.LockedChapterCalls.{LockedChapterCall}
use Rattle.rb_chapter_ring.specs.HandRing.{HandRing}
use Rattle.rb_ledger.specs.HandKnowledge.{HandPassView, without_hands}
use Rattle.rb_ledger.specs.HandLockSteps.{TakesHandState, MayPutHands, PutsHandState}
use Rattle.rb_shared_ring.specs.inner.HandPasses.{seen_with, bytes_with, room_with, handed_out_with, IsIdleWith}
use Rattle.rb_shared_ring.specs.inner.LentState.{IsKeptHandRing}
use Rattle.rb_shared_ring.proofs.ConsumerPassing.{LeavesConsumer}
use Rattle.rb_shared_ring.proofs.HandPassing.{may-put-same, put-chapter, idle-after}

pub record LeavesTaker (v after : HandPassView) (got : Contents) (handed_out : List Chapter) (Call : ChapteredRing → ChapteredRing → Type 0) : Type 0 where
  pub idle : IsIdleWith Consumer after
  pub call : LockedChapterCall Consumer (seen_with v) (seen_with after) Call
  pub bytes : bytes_with after ≡ got
  pub room : room_with after ≡ room_with v
  pub chapters : handed_out_with after ≡ handed_out

module _ (v : HandPassView) (r new : HandRing) (out : HandPassView) (idle : IsIdleWith Consumer v) (took : TakesHandState v r out) where
  pub put-taker : IsKeptHandRing new → MayPutChapter (without_hands out) new.ring → new.hands ≡ r.hands → MayPutHands out new
  put-taker kept chapters same = may-put-same Consumer v r out idle took new kept chapters same

  pub put-back-chapter : (after : HandPassView) → PutsHandState out new after → PutsChapterState (without_hands out) new.ring (without_hands after)
  put-back-chapter after put = put-chapter Consumer v r out idle took new after put

  pub leaves-taker : (after : HandPassView) → PutsHandState out new after → (got : Contents) (handed_out : List Chapter) (Call : ChapteredRing → ChapteredRing → Type 0) → LeavesConsumer (without_hands v) (without_hands after) got handed_out Call → LeavesTaker v after got handed_out Call
  leaves-taker after put got handed_out Call e = record { idle = idle-after Consumer v r out idle took new after put; call = e.call; bytes = e.bytes; room = e.room; chapters = e.chapters }
