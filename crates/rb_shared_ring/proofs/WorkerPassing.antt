-- A worker's call under the lock: the state may be put back, and what the worker's pass knows afterwards.
use Rattle.std.proofs.Common.{◌≡◌, ℕ, ◌<◌, List, Some, length, drop, refl, sym, ap, ◌∙◌, subst, Result}
use Rattle.rb_history.specs.declared.answers.Notice.{Notice}
use Rattle.rb_history.specs.ReservationModel.{Granted}
use Rattle.rb_history.specs.RingModel.{Contents}
use Rattle.rb_chapter_ring.specs.Chapters.{joined}
use Rattle.rb_chapter_ring.specs.ChapterRing.{ChapterRing}
use Rattle.rb_chapter_ring.specs.ChapterCalls.{IsSameChapter, producer_by_chapter}
use Rattle.rb_chapter_ring.specs.WholeHistory.{ContinuesHistory}
use Rattle.rb_chapter_ring.specs.declared.faults.ReserveFault.{ReserveFault}
use Rattle.rb_chapter_ring.specs.declared.record_end.RecordEnd.{RecordEnd}
use Rattle.rb_shared_ring.specs.declared.audit.Audit.{Audit}
use Rattle.rb_ledger.specs.Ledger.{IsRing}
use Rattle.rb_ledger.specs.Roles.Role.{Worker}
use Rattle.rb_ledger.specs.RoleKnowledge.{role_knowledge}
use Rattle.rb_ledger.specs.AddedBytes.{bytes_after}
use Rattle.rb_ledger.specs.LockSteps.{RoleStep, knowledge_after}
use Rattle.rb_ledger.proofs.Calls.{put-same, put-reserved, put-ended, put-output}
use Rattle.rb_ledger.proofs.Passing.{after-same, after-reserve, after-end, after-output}
use Rattle.rb_ledger.specs.ChapteredRing.{ChapteredRing, chaptered_ring, whole_of}
use Rattle.rb_ledger.specs.ChapterKnowledge.{ChapterPassView}
use Rattle.rb_ledger.specs.ChapterLockSteps.{TakesChapterState, MayPutChapter, PutsChapterState}
use Rattle.rb_ledger.specs.LockedChapterCalls.{LockedChapterCall}
use Rattle.rb_ledger.specs.inner.ChapterAnswers.{QueriesInChapter, EndsInChapter}
use Rattle.rb_ledger.specs.inner.ChapterRooms.{InRoomAt}
use Rattle.rb_ledger.specs.RecordEnds.{sent_by_end}
use Rattle.rb_chapter_ring.proofs.Chain.{binds-continue}
use Rattle.rb_ledger.proofs.WholeCalls.{ends-whole, queries-whole}
use Rattle.rb_shared_ring.specs.inner.SeatPasses.{seen_by, bytes_by, room_by, IsIdleIn}
use Rattle.rb_shared_ring.specs.inner.LentState.{IsKeptRing}
use Rattle.rb_shared_ring.specs.SharedCalls.{sent_by_output_in_room}
use Rattle.rb_shared_ring.specs.inner.ChapterAnswers.{ReservesInChapter, OutputsInChapter, AuditsInChapter}
use Rattle.rb_shared_ring.proofs.ChapterPassing.{HeldChapter, held-in, held-is-out, may-put-in, idle-in, bytes-in, room-in, is-locked-in}
use Rattle.rb_shared_ring.specs.AnswersOverAll.{whole_answer}
use Rattle.rb_shared_ring.proofs.WholeAnswers.{stays, same-reserved, same-output, same-ended, reserves-whole, outputs-whole, producer-same, sent-output}

-- what a worker's call leaves that was made on this ring
pub record LeavesWorker (w : ℕ) (v after : ChapterPassView) (c : ChapteredRing) (sent : Contents) (Call : ChapterRing → ChapterRing → Type 0) : Type 0 where
  pub idle : IsIdleIn (Worker w) after
  pub call : LockedChapterCall (Worker w) (seen_by v) (seen_by after) (InRoomAt c.ring.chapter.room (length (joined c.handed_out)) Call)
  pub bytes : bytes_by after ≡ sent
  pub room : room_by after ≡ room_by v

module _ (w : ℕ) (v : ChapterPassView) (r new : ChapterRing) (out : ChapterPassView) (idle : IsIdleIn (Worker w) v) (took : TakesChapterState v r out) (kept : IsKeptRing new) where
  -- the step of the whole ring that a call is
  abbrev StepsFrom : (h : HeldChapter (Worker w) v r out) → Type 0
  StepsFrom h = IsRing (whole_of (chaptered_ring h.taken.handed_out new))
      → RoleStep (role_knowledge (Worker w) (seen_by v) (bytes_by v)) (whole_of h.taken) (whole_of (chaptered_ring h.taken.handed_out new)) (knowledge_after (whole_of h.taken) (whole_of (chaptered_ring h.taken.handed_out new)) (role_knowledge (Worker w) (seen_by v) (bytes_by v)))

  pub puts-back : (Call : ChapterRing → ChapterRing → Type 0) → Call r new → IsSameChapter r new
      → ((h : HeldChapter (Worker w) v r out) → ContinuesHistory (joined h.taken.handed_out) h.taken.ring.chapter → w < h.taken.ring.chapter.opening.setup.workers → Call h.taken.ring new → StepsFrom h)
      → MayPutChapter out new
  puts-back Call call same steps =
      let h = held-in (Worker w) v r out idle took in
      may-put-in (Worker w) v r new out h same kept (steps h (binds-continue h.taken.handed_out h.taken.ring.chapter h.was_ring.has_chapters.binds) h.is_role (subst (λ x. Call x new) (sym h.ring_is) call))

  pub leaves : (after : ChapterPassView) → PutsChapterState out new after → (c : ChapteredRing) → out.out ≡ Some c → (Call : ChapterRing → ChapterRing → Type 0) → Call r new → IsSameChapter r new → (sent : Contents)
      → ((h : HeldChapter (Worker w) v r out) → ContinuesHistory (joined h.taken.handed_out) h.taken.ring.chapter → w < h.taken.ring.chapter.opening.setup.workers → Call h.taken.ring new
      → bytes_after (Worker w) (whole_of h.taken) (whole_of (chaptered_ring h.taken.handed_out new)) (drop (length (whole_of h.taken).history) (whole_of (chaptered_ring h.taken.handed_out new)).history) (bytes_by v) ≡ sent)
      → LeavesWorker w v after c sent Call
  leaves after put c there Call call same sent bytes =
      let h = held-in (Worker w) v r out idle took in
      let here = subst (λ x. Call x new) (sym h.ring_is) call in
      record {
        idle = idle-in (Worker w) v r new out h same kept after put;
        call = is-locked-in (Worker w) v r new out h same kept after put c.ring.chapter.room (length (joined c.handed_out)) (ap (λ (x : ChapteredRing). x.ring.chapter.room) (held-is-out (Worker w) v r out h c there)) (ap (λ (x : ChapteredRing). length (joined x.handed_out)) (held-is-out (Worker w) v r out h c there)) Call here;
        bytes = bytes-in (Worker w) v r new out h same kept after put ∙ bytes h (binds-continue h.taken.handed_out h.taken.ring.chapter h.was_ring.has_chapters.binds) h.is_role here;
        room = room-in (Worker w) v r new out h same kept after put;
      }

  -- ---- each call

  pub put-query : (what answer : ℕ) → QueriesInChapter what answer r new → MayPutChapter out new
  put-query what answer call = puts-back (QueriesInChapter what answer) call (stays r new call.0) (λ h is low c ring. put-same (Worker w) _ _ _ _ (queries-whole _ _ _ is what answer c).0 ring)

  pub put-audit : (a : Audit) → AuditsInChapter w a r new → MayPutChapter out new
  put-audit a call = puts-back (AuditsInChapter w a) call (stays r new call.same) (λ h is low c ring. put-same (Worker w) _ _ _ _ (ap (λ x. whole_of (chaptered_ring h.taken.handed_out x)) c.same) ring)

  pub put-reserve : (n : ℕ) (a : Result Granted (ReserveFault × List ℕ)) → ReservesInChapter w n a r new → MayPutChapter out new
  put-reserve n a call = puts-back (ReservesInChapter w n a) call (same-reserved r new w n a call) (λ h is low c ring. put-reserved w _ _ _ _ n (whole_answer a) (reserves-whole _ _ _ is w n a low c) ring)

  pub put-end : (end : RecordEnd) (g : Granted) (flags : ℕ) (n : Notice) → g.worker ≡ w → EndsInChapter end g flags n r new → MayPutChapter out new
  put-end end g flags n mine call = puts-back (EndsInChapter end g flags n) call (same-ended r new end g flags n call) (λ h is low c ring. put-ended w _ _ end _ _ g flags n mine (ends-whole _ _ _ is end g flags n c) ring)

  pub put-out : (b : List ℕ) (flags : ℕ) (a : Result Notice (ReserveFault × List ℕ)) → OutputsInChapter w b flags a r new → MayPutChapter out new
  put-out b flags a call = puts-back (OutputsInChapter w b flags a) call (same-output r new w b flags a call) (λ h is low c ring. put-output w _ _ _ _ b flags (whole_answer a) (outputs-whole _ _ _ is w b flags a low c) ring)

  module _ (after : ChapterPassView) (put : PutsChapterState out new after) (c : ChapteredRing) (there : out.out ≡ Some c) where
    pub queried : (what answer : ℕ) → QueriesInChapter what answer r new → LeavesWorker w v after c (bytes_by v) (QueriesInChapter what answer)
    queried what answer call = leaves after put c there (QueriesInChapter what answer) call (stays r new call.0) (bytes_by v) (λ h is low x. after-same (seen_by v) _ _ _ (Worker w) (queries-whole _ _ _ is what answer x).0)

    pub audited : (a : Audit) → AuditsInChapter w a r new → LeavesWorker w v after c (bytes_by v) (AuditsInChapter w a)
    audited a call = leaves after put c there (AuditsInChapter w a) call (stays r new call.same) (bytes_by v) (λ h is low x. after-same (seen_by v) _ _ _ (Worker w) (ap (λ y. whole_of (chaptered_ring h.taken.handed_out y)) x.same))

    pub reserved : (n : ℕ) (a : Result Granted (ReserveFault × List ℕ)) → ReservesInChapter w n a r new → LeavesWorker w v after c (bytes_by v) (ReservesInChapter w n a)
    reserved n a call = leaves after put c there (ReservesInChapter w n a) call (same-reserved r new w n a call) (bytes_by v) (λ h is low x. after-reserve (seen_by v) _ _ _ w n (whole_answer a) (reserves-whole _ _ _ is w n a low x))

    pub ended : (end : RecordEnd) (g : Granted) (flags : ℕ) (n : Notice) → EndsInChapter end g flags n r new → LeavesWorker w v after c (sent_by_end end g (bytes_by v)) (EndsInChapter end g flags n)
    ended end g flags n call = leaves after put c there (EndsInChapter end g flags n) call (same-ended r new end g flags n call) (sent_by_end end g (bytes_by v)) (λ h is low x. after-end (seen_by v) _ _ _ w end g flags n (ends-whole _ _ _ is end g flags n x))

    pub output : (b : List ℕ) (flags : ℕ) (a : Result Notice (ReserveFault × List ℕ)) → OutputsInChapter w b flags a r new
        → LeavesWorker w v after c (bytes_by after) (λ old left. OutputsInChapter w b flags a old left × (bytes_by after ≡ sent_by_output_in_room (bytes_by v) (producer_by_chapter old) b a))
    output b flags a call =
        let h = held-in (Worker w) v r out idle took in
        let same = same-output r new w b flags a call in
        let is = binds-continue h.taken.handed_out h.taken.ring.chapter h.was_ring.has_chapters.binds in
        let here = subst (λ x. OutputsInChapter w b flags a x new) (sym h.ring_is) call in
        let bytes = bytes-in (Worker w) v r new out h same kept after put
        ∙ after-output (seen_by v) _ _ _ w b flags (whole_answer a) (outputs-whole _ _ _ is w b flags a h.is_role here)
        ∙ sent-output (bytes_by v) _ _ b a (producer-same (joined h.taken.handed_out) h.taken.ring new is) in
        let is_out = held-is-out (Worker w) v r out h c there in
        record {
          idle = idle-in (Worker w) v r new out h same kept after put;
          call = is-locked-in (Worker w) v r new out h same kept after put c.ring.chapter.room (length (joined c.handed_out)) (ap (λ (x : ChapteredRing). x.ring.chapter.room) is_out) (ap (λ (x : ChapteredRing). length (joined x.handed_out)) is_out) (λ old left. OutputsInChapter w b flags a old left × (bytes_by after ≡ sent_by_output_in_room (bytes_by v) (producer_by_chapter old) b a)) (here, bytes);
          bytes = refl;
          room = room-in (Worker w) v r new out h same kept after put;
        }
