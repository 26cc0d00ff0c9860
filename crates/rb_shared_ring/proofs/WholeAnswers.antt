-- The calls by a ring's chapter, with their results, are those of the ring with its whole history.
use Rattle.std.proofs.Common.{◌≡◌, ◌≢◌, ◌↔◌, ℕ, ◌<◌, List, length, refl, sym, ap, ◌∙◌, subst, Result, Ok, Err}
use Rattle.rb_history.specs.declared.entries.Entry.{Entry}
use Rattle.rb_history.specs.declared.answers.Notice.{Notice}
use Rattle.rb_history.specs.declared.answers.Notice.TheVariants.{Due}
use Rattle.rb_history.specs.NoticesAndQueries.{IsDue}
use Rattle.rb_history.specs.declared.answers.Taken.{Taken}
use Rattle.rb_history.specs.declared.answers.Taken.TheVariants.{Event, Skipped, BusyFront, Empty}
use Rattle.rb_history.specs.declared.answers.NoGrant.TheVariants.{Full as WholeFull, Memory, Flags as WholeFlags}
use Rattle.rb_history.specs.declared.tally.Tally.{Tally}
use Rattle.rb_history.specs.ReservationModel.{Granted}
use Rattle.rb_history.specs.RingModel.{Contents}
use Rattle.rb_history.specs.Calls.{Refuses, producer_now as whole_producer_now, consumer_now as whole_consumer_now}
use Rattle.rb_chapter_ring.specs.Snapshot.{Snapshot}
use Rattle.rb_chapter_ring.specs.Chapters.{Chapter}
use Rattle.rb_chapter_ring.specs.ChapterRing.{ChapterRing, whole_ring}
use Rattle.rb_chapter_ring.specs.ChapterCalls.{IsSameChapter, LogsByChapter, TakesByChapter, producer_by_chapter}
use Rattle.rb_chapter_ring.specs.WholeHistory.{ContinuesHistory}
use Rattle.rb_chapter_ring.proofs.Alike.{calls-alike}
use Rattle.rb_chapter_ring.specs.declared.faults.ReserveFault.{ReserveFault}
use Rattle.rb_chapter_ring.specs.declared.faults.ReserveFault.TheVariants.{Full, Flags, ChapterFull, Foreign, HandsFull}
use Rattle.rb_chapter_ring.specs.RingFaults.{RefusesInChapter}
use Rattle.rb_chapter_ring.specs.declared.record_end.RecordEnd.{RecordEnd}
use Rattle.rb_chapter_ring.specs.declared.record_end.RecordEnd.TheVariants.{Submit, Discard}
use Rattle.rb_ledger.specs.LockedCalls.{Reserves, OutputsAt, reserved_by, output_by, sent_by_output}
use Rattle.rb_ledger.specs.inner.ChapterAnswers.{EndsInChapter}
use Rattle.rb_ledger.proofs.WholeCalls.{said, due-same}
use Rattle.rb_shared_ring.specs.AnswersOverAll.{whole_fault, whole_answer}
use Rattle.rb_shared_ring.specs.SharedCalls.{reserved_in_room_by, output_in_room_by, sent_by_output_in_room}
use Rattle.rb_shared_ring.specs.inner.ChapterAnswers.{ReservesInChapter, OutputsInChapter}

-- ---- results

tally-refused : (t : Tally) (f : ReserveFault) (b : List ℕ) → reserved_by t (Err (whole_fault f, b)) ≡ reserved_in_room_by t (Err (f, b))
tally-refused t Full b = refl
tally-refused t Flags b = refl
tally-refused t ChapterFull b = refl
tally-refused t Foreign b = refl
tally-refused t HandsFull b = refl

pub tally-reserved : (t : Tally) (a : Result Granted (ReserveFault × List ℕ)) → reserved_by t (whole_answer a) ≡ reserved_in_room_by t a
tally-reserved t (Ok r) = refl
tally-reserved t (Err e) = tally-refused t e.0 e.1

pub tally-output : (t : Tally) (a : Result Notice (ReserveFault × List ℕ)) → output_by t (whole_answer a) ≡ output_in_room_by t a
tally-output t (Ok n) = refl
tally-output t (Err e) = tally-refused t e.0 e.1

pub sent-output : (m : Contents) (p q : ℕ) (b : List ℕ) (a : Result Notice (ReserveFault × List ℕ)) → p ≡ q → sent_by_output m p b (whole_answer a) ≡ sent_by_output_in_room m q b a
sent-output m p q b (Ok n) same = ap (λ x. sent_by_output_in_room m x b (Ok n)) same
sent-output m p q b (Err e) same = refl

pub flags-not : (f : ReserveFault) → f ≢ Flags → whole_fault f ≢ WholeFlags
flags-not Full off e = let no_way : WholeFull ≡ WholeFlags = e in cc
flags-not Flags off e = absurd (off refl)
flags-not ChapterFull off e = let no_way : Memory ≡ WholeFlags = e in cc
flags-not Foreign off e = let no_way : Memory ≡ WholeFlags = e in cc
flags-not HandsFull off e = let no_way : Memory ≡ WholeFlags = e in cc

pub flags-exact : (f : ReserveFault) (X : Type 0) → (f ≡ Flags) ↔ X → (whole_fault f ≡ WholeFlags) ↔ X
flags-exact Full X is = ((λ e. let no_way : WholeFull ≡ WholeFlags = e in cc), (λ x. let no_way : Full ≡ Flags = is.1 x in cc))
flags-exact Flags X is = ((λ e. is.0 refl), (λ x. refl))
flags-exact ChapterFull X is = ((λ e. let no_way : Memory ≡ WholeFlags = e in cc), (λ x. let no_way : ChapterFull ≡ Flags = is.1 x in cc))
flags-exact Foreign X is = ((λ e. let no_way : Memory ≡ WholeFlags = e in cc), (λ x. let no_way : Foreign ≡ Flags = is.1 x in cc))
flags-exact HandsFull X is = ((λ e. let no_way : Memory ≡ WholeFlags = e in cc), (λ x. let no_way : HandsFull ≡ Flags = is.1 x in cc))

-- ---- the same chapter

pub stays : (old new : ChapterRing) → new ≡ old → IsSameChapter old new
stays old new e = subst (IsSameChapter old) (sym e) refl

logs-same : (old new : ChapterRing) (es : List Entry) → LogsByChapter old new es → IsSameChapter old new
logs-same old new es logged = logged ∙ ap (λ x. record old.chapter { entries = x }) (sym (ap (λ (c : Chapter). c.entries) logged))

module _ (old new : ChapterRing) where
  same-refused : (w n : ℕ) (f : ReserveFault) → RefusesInChapter old new w n f → IsSameChapter old new
  same-refused w n Full a = logs-same old new _ a.logged
  same-refused w n Flags a = stays old new a
  same-refused w n ChapterFull a = stays old new a.same
  same-refused w n Foreign a = absurd a
  same-refused w n HandsFull a = absurd a

  pub same-reserved : (w n : ℕ) (a : Result Granted (ReserveFault × List ℕ)) → ReservesInChapter w n a old new → IsSameChapter old new
  same-reserved w n (Ok r) a = logs-same old new _ a.0.logged
  same-reserved w n (Err e) a = same-refused w n e.0 a.0

  pub same-output : (w : ℕ) (b : List ℕ) (flags : ℕ) (a : Result Notice (ReserveFault × List ℕ)) → OutputsInChapter w b flags a old new → IsSameChapter old new
  same-output w b flags (Ok n) a = logs-same old new _ a.0.logged
  same-output w b flags (Err e) a = same-refused w (length b) e.0 a.0

  pub same-ended : (end : RecordEnd) (r : Granted) (flags : ℕ) (notice : Notice) → EndsInChapter end r flags notice old new → IsSameChapter old new
  same-ended Submit r flags n a = logs-same old new _ a.0.logged
  same-ended Discard r flags n a = logs-same old new _ a.0.logged

  pub same-taken : (t : Taken) → TakesByChapter old new t → IsSameChapter old new
  same-taken (Event p w k b) a = logs-same old new _ a.logged
  same-taken (Skipped p n) a = logs-same old new _ a.logged
  same-taken BusyFront a = stays old new a.same
  same-taken Empty a = stays old new a.same

-- ---- at one point

module _ (earlier : List Entry) (old new : ChapterRing) (is : ContinuesHistory earlier old.chapter) where
  pub producer-same : whole_producer_now (whole_ring earlier old) ≡ producer_by_chapter old
  producer-same = sym (ap (λ (o : Snapshot). o.producer) (said earlier old new is).stands)

  refuses-whole : (w n : ℕ) (f : ReserveFault) → RefusesInChapter old new w n f → Refuses (whole_ring earlier old) (whole_ring earlier new) w n (whole_fault f)
  refuses-whole w n Full a = let whole = ((calls-alike earlier old new is).finds_full w n).0 a in whole.2
  refuses-whole w n Flags a = ap (whole_ring earlier) a
  refuses-whole w n ChapterFull a = ap (whole_ring earlier) a.same
  refuses-whole w n Foreign a = absurd a
  refuses-whole w n HandsFull a = absurd a

  pub reserves-whole : (w n : ℕ) (a : Result Granted (ReserveFault × List ℕ)) → w < old.chapter.opening.setup.workers → ReservesInChapter w n a old new → Reserves w n (whole_answer a) (whole_ring earlier old) (whole_ring earlier new)
  reserves-whole w n (Ok r) low a = let whole = ((calls-alike earlier old new is).grants w n r.pos r.serial low).0 a.0 in (whole.2, a.1, a.2)
  reserves-whole w n (Err e) low a = (refuses-whole w n e.0 a.0, flags-not e.0 a.1)

  pub outputs-whole : (w : ℕ) (b : List ℕ) (flags : ℕ) (a : Result Notice (ReserveFault × List ℕ)) → w < old.chapter.opening.setup.workers → OutputsInChapter w b flags a old new → OutputsAt w b flags (whole_answer a) (whole_ring earlier old) (whole_ring earlier new)
  outputs-whole w b flags (Ok n) low a =
      let whole = ((calls-alike earlier old new is).outputs w b low).0 a.0 in
      (whole.2, subst (λ p. (n ≡ Due) ↔ IsDue (whole_consumer_now (whole_ring earlier old)) p flags) (sym producer-same) (due-same earlier old new is (producer_by_chapter old) flags a.1), a.2)
  outputs-whole w b flags (Err e) low a = (refuses-whole w (length b) e.0 a.0, flags-exact e.0 _ a.1)
