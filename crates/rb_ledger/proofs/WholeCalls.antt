-- Each call under the lock by the ring's chapter is the call on the ring with its whole history.
use Rattle.std.proofs.Common.{◌≡◌, ◌↔◌, ℕ, ◌<◌, List, [], ◌∷◌, ◌++◌, length, sym, ap, ◌∙◌, subst}
use Rattle.rb_history.specs.declared.entries.Entry.{Entry}
use Rattle.rb_history.specs.declared.answers.Notice.{Notice}
use Rattle.rb_history.specs.declared.answers.Taken.{Taken}
use Rattle.rb_history.specs.ReservationModel.{Granted}
use Rattle.rb_history.specs.NoticesAndQueries.{IsDue}
use Rattle.rb_history.specs.RoomRule.{Setup}
use Rattle.rb_history.specs.RingModel.{Ring}
use Rattle.rb_history.specs.Calls.{consumer_now as whole_consumer_now}
use Rattle.rb_chapter_ring.specs.Snapshot.{Snapshot}
use Rattle.rb_chapter_ring.specs.Chapters.{Chapter, joined}
use Rattle.rb_chapter_ring.specs.ChapterRing.{ChapterRing, whole_ring}
use Rattle.rb_chapter_ring.specs.ChapterCalls.{consumer_by_chapter}
use Rattle.rb_chapter_ring.specs.WholeHistory.{ContinuesHistory, IsSameFrom}
use Rattle.rb_chapter_ring.specs.declared.record_end.RecordEnd.{RecordEnd}
use Rattle.rb_chapter_ring.specs.declared.record_end.RecordEnd.TheVariants.{Submit, Discard}
use Rattle.rb_chapter_ring.proofs.Stands.{goes-on}
use Rattle.rb_chapter_ring.proofs.Alike.{calls-alike}
use Rattle.rb_ledger.specs.Roles.{Role, Book}
use Rattle.rb_ledger.specs.Roles.Role.{Consumer}
use Rattle.rb_ledger.specs.LockedCalls.{LockedCall, TakesAt, Queries}
use Rattle.rb_ledger.specs.ChapteredRing.{chaptered_ring, whole_of}
use Rattle.rb_ledger.specs.LockedChapterCalls.{LockedChapterCall, InOneChapter, InKnownChapter, HandsOutNext, EachCallIsWhole}
use Rattle.rb_ledger.specs.inner.ChapterAnswers.{TakesInChapter, QueriesInChapter, EndsInChapter}
use Rattle.rb_ledger.specs.inner.ChapterRooms.{InRoomAt}
use Rattle.rb_ledger.specs.RecordEnds.{EndsAt}
use Rattle.rb_chapter_ring.proofs.Chain.{binds-continue, binds-number}
use Rattle.rb_ledger.proofs.ChapterSteps.{handed-out-whole}

-- ---- at one point

module _ (earlier : List Entry) (old new : ChapterRing) (is : ContinuesHistory earlier old.chapter) where
  pub said : IsSameFrom old.chapter.opening.setup earlier old.chapter.opening old.chapter.entries
  said = (goes-on old.chapter.opening.setup earlier old.chapter.opening is.earlier_legal is.opened old.chapter.entries).1 is.legal

  pub consumer-same : consumer_by_chapter old ≡ whole_consumer_now (whole_ring earlier old)
  consumer-same = ap (λ (o : Snapshot). o.consumer) said.stands

  pub due-same : {A : Type 0} (p flags : ℕ) → A ↔ IsDue (consumer_by_chapter old) p flags → A ↔ IsDue (whole_consumer_now (whole_ring earlier old)) p flags
  due-same {A} p flags is_due = subst (λ c. A ↔ IsDue c p flags) consumer-same is_due

  pub ends-whole : (end : RecordEnd) (r : Granted) (flags : ℕ) (notice : Notice) → EndsInChapter end r flags notice old new → EndsAt end r flags notice (whole_ring earlier old) (whole_ring earlier new)
  ends-whole Submit r flags n a = let whole = ((calls-alike earlier old new is).submits r).0 a.0 in (whole.1, due-same r.pos flags a.1)
  ends-whole Discard r flags n a = let whole = ((calls-alike earlier old new is).discards r).0 a.0 in (whole.1, due-same r.pos flags a.1)

  pub takes-whole : (t : Taken) → TakesInChapter t old new → TakesAt t (whole_ring earlier old) (whole_ring earlier new)
  takes-whole t a =
      let calls = calls-alike earlier old new is in
      let whole = (calls.takes t).0 a.0 in
      let busy = calls.busy_front in
      let all = calls.all_taken in
      (whole.1, (λ x. busy.0 (a.1.0 x), λ y. a.1.1 (busy.1 y)), (λ x. all.0 (a.2.0 x), λ y. a.2.1 (all.1 y)))

  pub queries-whole : (what answer : ℕ) → QueriesInChapter what answer old new → Queries what answer (whole_ring earlier old) (whole_ring earlier new)
  queries-whole what answer a = (ap (whole_ring earlier) a.0, a.1 ∙ said.query what)

-- ---- from what a role had seen to what it has seen

-- a call in a chapter with its room is a call in one chapter
pub in-one-chapter : (role : Role) (before after : Book) (room cut : ℕ) (Call : ChapterRing → ChapterRing → Type 0) → LockedChapterCall role before after (InRoomAt room cut Call) → LockedChapterCall role before after (InOneChapter Call)
in-one-chapter role before after room cut Call t = record { point = t.point; left = t.left; goes_on = t.goes_on; was_ring = t.was_ring; called = t.called.call; is_ring = t.is_ring; seen = t.seen }

module _ (role : Role) (before after : Book) (call : ChapterRing → ChapterRing → Type 0) (whole : Ring → Ring → Type 0) where
  pub call-whole : ((earlier : List Entry) (old new : ChapterRing) → ContinuesHistory earlier old.chapter → call old new → whole (whole_ring earlier old) (whole_ring earlier new)) → LockedChapterCall role before after (InOneChapter call) → LockedCall role before after whole
  call-whole alike t = record {
    point = whole_of t.point;
    left = whole_of t.left;
    goes_on = t.goes_on;
    was_ring = t.was_ring.is_ring;
    called = subst (λ hs. whole (whole_of t.point) (whole_ring (joined hs) t.left.ring)) (sym t.called.0) (alike (joined t.point.handed_out) t.point.ring t.left.ring (binds-continue t.point.handed_out t.point.ring.chapter t.was_ring.has_chapters.binds) t.called.1);
    is_ring = t.is_ring.is_ring;
    seen = t.seen;
  }

  -- a worker of the ring that was seen is one of the ring's workers
  pub with-worker : (w : ℕ) → w < before.setup.workers → LockedChapterCall role before after (InOneChapter call) → LockedChapterCall role before after (InOneChapter (λ old new. (w < old.chapter.opening.setup.workers) × call old new))
  with-worker w low t = record {
    point = t.point;
    left = t.left;
    goes_on = t.goes_on;
    was_ring = t.was_ring;
    called = (t.called.0, (subst (λ (r : Setup). w < r.workers) (sym t.goes_on.setup_same) low, t.called.1));
    is_ring = t.is_ring;
    seen = t.seen;
  }

  pub any-chapter : (handed_out : List Chapter) → LockedChapterCall role before after (InKnownChapter handed_out call) → LockedChapterCall role before after (InOneChapter call)
  any-chapter handed_out t = record { point = t.point; left = t.left; goes_on = t.goes_on; was_ring = t.was_ring; called = t.called.1; is_ring = t.is_ring; seen = t.seen }

module _ (before after : Book) (handed_out : List Chapter) (c : Chapter) (t : LockedChapterCall Consumer before after (HandsOutNext handed_out c)) where
  same-whole : whole_of t.left ≡ whole_of t.point
  same-whole =
      let more : t.left.handed_out ≡ t.point.handed_out ++ t.point.ring.chapter ∷ [] = t.called.after ∙ (λ i. sym t.called.before i ++ t.called.hands_out.next.out_is i ∷ []) in
      ap (λ hs. whole_of (chaptered_ring hs t.left.ring)) more ∙ handed-out-whole t.point t.left.ring c t.was_ring.has_chapters t.called.hands_out

  hands-out-whole : LockedCall Consumer before after (λ old new. new ≡ old)
  hands-out-whole = record { point = whole_of t.point; left = whole_of t.left; goes_on = t.goes_on; was_ring = t.was_ring.is_ring; called = same-whole; is_ring = t.is_ring.is_ring; seen = t.seen }

  number-is : c.number ≡ length handed_out
  number-is = ap (λ (x : Chapter). x.number) t.called.hands_out.next.out_is ∙ binds-number t.point.handed_out t.point.ring.chapter t.was_ring.has_chapters.binds ∙ ap length t.called.before

pub each-call-is-whole : EachCallIsWhole
each-call-is-whole before after = record {
  tells_used = λ handed_out entries more call. call-whole Consumer before after _ (λ old new. new ≡ old) (λ earlier old new is a. ap (whole_ring earlier) a.0) (any-chapter Consumer before after _ (λ old new. Unit {0}) handed_out call);
  hands_out = λ handed_out c t. (hands-out-whole before after handed_out c t, number-is before after handed_out c t);
}
