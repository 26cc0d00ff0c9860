-- Each call with a worker's seat, by the ring's chapter, is the call over the whole history with the room that the
-- chapter has.
use Rattle.std.proofs.Common.{◌≡◌, ◌↔◌, ℕ, ◌<◌, List, length, ap, ◌∙◌, sym, subst, Result, Ok, Err}
use Rattle.rb_history.specs.declared.entries.Entry.{Entry}
use Rattle.rb_history.specs.declared.answers.Notice.{Notice}
use Rattle.rb_history.specs.declared.answers.Notice.TheVariants.{Due}
use Rattle.rb_history.specs.NoticesAndQueries.{IsDue}
use Rattle.rb_history.specs.ReservationModel.{Granted}
use Rattle.rb_history.specs.RoomRule.{Setup}
use Rattle.rb_history.specs.RingModel.{Contents}
use Rattle.rb_history.specs.Calls.{producer_now as whole_producer_now, consumer_now as whole_consumer_now}
use Rattle.rb_chapter_ring.specs.Snapshot.{Snapshot}
use Rattle.rb_chapter_ring.specs.ChapterRing.{ChapterRing, whole_ring}
use Rattle.rb_chapter_ring.specs.ChapterCalls.{producer_by_chapter}
use Rattle.rb_chapter_ring.specs.WholeHistory.{ContinuesHistory}
use Rattle.rb_chapter_ring.specs.OpenedRing.{capped_counts}
use Rattle.rb_chapter_ring.specs.declared.faults.ReserveFault.{ReserveFault}
use Rattle.rb_chapter_ring.specs.declared.faults.ReserveFault.TheVariants.{Full, Flags, ChapterFull, Foreign, HandsFull}
use Rattle.rb_chapter_ring.specs.RingFaults.{RefusesInChapter}
use Rattle.rb_chapter_ring.specs.declared.record_end.RecordEnd.{RecordEnd}
use Rattle.rb_ledger.specs.Roles.{Book}
use Rattle.rb_ledger.specs.Roles.Role.{Worker}
use Rattle.rb_ledger.specs.LockedCalls.{LockedCall, Queries}
use Rattle.rb_ledger.specs.LockedChapterCalls.{LockedChapterCall}
use Rattle.rb_ledger.specs.inner.ChapterAnswers.{QueriesInChapter, EndsInChapter}
use Rattle.rb_ledger.specs.EntryRoom.{InRoom}
use Rattle.rb_ledger.specs.inner.ChapterRooms.{InRoomAt}
use Rattle.rb_ledger.specs.RecordEnds.{EndsAt}
use Rattle.rb_ledger.proofs.WholeCalls.{said, due-same, ends-whole, queries-whole}
use Rattle.rb_ledger.proofs.EntryRoom.{totals-are, grants-in-room, full-in-room, none-in-room, outputs-in-room, call-in-room}
use Rattle.rb_shared_ring.specs.declared.audit.Audit.{Audit}
use Rattle.rb_shared_ring.specs.SharedCalls.{RefusesInRoom, ReservesInRoom, OutputsInRoom, Audits, sent_by_output_in_room}
use Rattle.rb_shared_ring.specs.inner.ChapterAnswers.{ReservesInChapter, OutputsInChapter, AuditsInChapter}
use Rattle.rb_shared_ring.proofs.WholeAnswers.{stays, same-reserved, same-output, same-ended, producer-same}

-- ---- at one point

module _ (earlier : List Entry) (old new : ChapterRing) (is : ContinuesHistory earlier old.chapter) (room cut : ℕ) (room_is : old.chapter.room ≡ room) (cut_is : length earlier ≡ cut) (w : ℕ) (low : w < old.chapter.opening.setup.workers) where
  refuses-in-room : (n : ℕ) (f : ReserveFault) → RefusesInChapter old new w n f → RefusesInRoom room cut (whole_ring earlier old) (whole_ring earlier new) w n f
  refuses-in-room n Full a = full-in-room earlier old new is room cut room_is cut_is w low n a
  refuses-in-room n Flags a = ap (whole_ring earlier) a
  refuses-in-room n ChapterFull a = none-in-room earlier old new is room cut room_is cut_is w low n a
  refuses-in-room n Foreign a = absurd a
  refuses-in-room n HandsFull a = absurd a

  reserves-in-room : (n : ℕ) (a : Result Granted (ReserveFault × List ℕ)) → ReservesInChapter w n a old new → ReservesInRoom room cut w n a (whole_ring earlier old) (whole_ring earlier new)
  reserves-in-room n (Ok r) a = let whole = grants-in-room earlier old new is room cut room_is cut_is w low n r.pos r.serial a.0 in (whole.0, whole.1, a.1, a.2)
  reserves-in-room n (Err e) a = (refuses-in-room n e.0 a.0, a.1)

  output-in-room : (b : List ℕ) (flags : ℕ) (a : Result Notice (ReserveFault × List ℕ)) → OutputsInChapter w b flags a old new → OutputsInRoom room cut w b flags a (whole_ring earlier old) (whole_ring earlier new)
  output-in-room b flags (Ok n) a =
      let whole = outputs-in-room earlier old new is room cut room_is cut_is w low b a.0 in
      (whole.0, whole.1, subst (λ p. (n ≡ Due) ↔ IsDue (whole_consumer_now (whole_ring earlier old)) p flags) (sym (producer-same earlier old new is)) (due-same earlier old new is (producer_by_chapter old) flags a.1), a.2)
  output-in-room b flags (Err e) a = (refuses-in-room (length b) e.0 a.0, a.1)

  audits-whole : (x : Audit) → AuditsInChapter w x old new → Audits w x (whole_ring earlier old) (whole_ring earlier new)
  audits-whole x a =
      let same = said earlier old new is in
      record {
        producer_is = a.producer_is ∙ ap (λ (o : Snapshot). o.producer) same.stands;
        consumer_is = a.consumer_is ∙ ap (λ (o : Snapshot). o.consumer) same.stands;
        counts_are = a.counts_are ∙ ap capped_counts same.counts;
        own_is = a.own_is ∙ totals-are earlier old new w is low;
        same = ap (whole_ring earlier) a.same;
      }

-- ---- from what the seat had seen to what it has seen

module _ (w : ℕ) (before after : Book) (low : w < before.setup.workers) (room cut : ℕ) where
  there : (now : Setup) → now ≡ before.setup → w < now.workers
  there now same = subst (λ (r : Setup). w < r.workers) (sym same) low

  pub reserves-called : (n : ℕ) (a : Result Granted (ReserveFault × List ℕ)) → LockedChapterCall (Worker w) before after (InRoomAt room cut (ReservesInChapter w n a))
      → LockedCall (Worker w) before after (InRoom room cut (ReservesInRoom room cut w n a))
  reserves-called n a =
      call-in-room (Worker w) before after room cut (ReservesInChapter w n a) (ReservesInRoom room cut w n a)
      (λ earlier old new is setup room_is cut_is x. (same-reserved old new w n a x, reserves-in-room earlier old new is room cut room_is cut_is w (there _ setup) n a x))

  pub ends-called : (end : RecordEnd) (r : Granted) (flags : ℕ) (notice : Notice) → LockedChapterCall (Worker w) before after (InRoomAt room cut (EndsInChapter end r flags notice))
      → LockedCall (Worker w) before after (InRoom room cut (EndsAt end r flags notice))
  ends-called end r flags notice =
      call-in-room (Worker w) before after room cut (EndsInChapter end r flags notice) (EndsAt end r flags notice)
      (λ earlier old new is setup room_is cut_is x. (same-ended old new end r flags notice x, ends-whole earlier old new is end r flags notice x))

  pub query-called : (what answer : ℕ) → LockedChapterCall (Worker w) before after (InRoomAt room cut (QueriesInChapter what answer)) → LockedCall (Worker w) before after (InRoom room cut (Queries what answer))
  query-called what answer =
      call-in-room (Worker w) before after room cut (QueriesInChapter what answer) (Queries what answer)
      (λ earlier old new is setup room_is cut_is x. (stays old new x.0, queries-whole earlier old new is what answer x))

  pub audit-called : (x : Audit) → LockedChapterCall (Worker w) before after (InRoomAt room cut (AuditsInChapter w x)) → LockedCall (Worker w) before after (InRoom room cut (Audits w x))
  audit-called x =
      call-in-room (Worker w) before after room cut (AuditsInChapter w x) (Audits w x)
      (λ earlier old new is setup room_is cut_is a. (stays old new a.same, audits-whole earlier old new is room cut room_is cut_is w (there _ setup) x a))

  pub output-called : (b : List ℕ) (flags : ℕ) (a : Result Notice (ReserveFault × List ℕ)) (sent now : Contents)
      → LockedChapterCall (Worker w) before after (InRoomAt room cut (λ old new. OutputsInChapter w b flags a old new × (now ≡ sent_by_output_in_room sent (producer_by_chapter old) b a)))
      → LockedCall (Worker w) before after (InRoom room cut (λ old new. OutputsInRoom room cut w b flags a old new × (now ≡ sent_by_output_in_room sent (whole_producer_now old) b a)))
  output-called b flags a sent now =
      call-in-room (Worker w) before after room cut (λ old new. OutputsInChapter w b flags a old new × (now ≡ sent_by_output_in_room sent (producer_by_chapter old) b a))
      (λ old new. OutputsInRoom room cut w b flags a old new × (now ≡ sent_by_output_in_room sent (whole_producer_now old) b a))
      (λ earlier old new is setup room_is cut_is x. (
        same-output old new w b flags a x.0,
        (
          output-in-room earlier old new is room cut room_is cut_is w (there _ setup) b flags a x.0,
          x.1 ∙ ap (λ p. sent_by_output_in_room sent p b a) (sym (producer-same earlier old new is)),
        ),
      ))
