-- The headline over chapters, in words: "Whenever a ring's lock is free, the chapter kept under it is legal from its
-- opening, as one thread's run, and is what the ring's state stands for; and once all seats, consumer and chapters are
-- gathered and bound, the history holds each worker's reservations once each in its own order, bytes taken are those
-- submitted, and reservations equal records consumed, discarded, waiting and busy, for any number of workers" (own). It
-- has one explicit premise: the chapters are those that the ring handed out.
use Rattle.std.specs.Prelude.{◌≡◌, ◌≢◌, ◌↔◌, ℕ, List, [], ◌∷◌}
use mathlib.Core.Option.{some}
use lib.ListN.{get_elem?}
use Rattle.rb_history.specs.declared.entries.Entry.{Entry}
use Rattle.rb_history.specs.RoomRule.{Setup}
use Rattle.rb_history.specs.OneCall.{IsOneCall}
use Rattle.rb_history.specs.RingModel.{Ring, fresh}
use Rattle.rb_chapter_ring.specs.Snapshot.{snapshot_of}
use Rattle.rb_chapter_ring.specs.CountedFrom.{IsLegalFrom}
use Rattle.rb_chapter_ring.specs.Chapters.{Chapter, IsLegalChapter, joined}
use Rattle.rb_chapter_ring.specs.ChapterRing.{ChapterRing, StandsForChapter}
use Rattle.rb_chapter_ring.specs.WholeHistory.{Binds, IsBound}
use Rattle.rb_ledger.specs.Seats.{WorkerSeat}
use Rattle.rb_ledger.specs.Headline.{IsRunFrom, IsClosed, IsGathered}
use Rattle.rb_ledger.specs.ChapteredRing.{chaptered_ring, whole_of}
use Rattle.rb_ledger.specs.ChapterKnowledge.{ChapterPassView, AllKnowHandedOut}
use Rattle.rb_ledger.specs.LockRule.{KeepsChapterLockRule}
use Rattle.rb_ledger.specs.ChapterSeats.{ChapterConsumerSeat, whole_consumer}
use Rattle.rb_ledger.specs.ChapterClosing.{MayBind, IsGatheredByChapters, IsClosedByChapters, AreTied, bound_book}

-- ---- whenever the lock is free

-- calls of the sequential ring, one for each entry, lead from the old ring to the new one
abbrev pub IsRunTo : Ring → List Entry → Ring → Type 0
IsRunTo old [] new = new ≡ old
IsRunTo old (e ∷ es) new = (next : Ring) × IsOneCall old e next × IsRunTo next es new

-- the entries are one thread's run of the sequential ring, which continues a run of the earlier entries from the ring's
-- opening
pub record IsRunBehind (setup : Setup) (earlier entries : List Entry) : Type 0 where
  pub at_opening : Ring
  pub earlier_run : IsRunTo (fresh setup.size setup.start setup.workers) earlier at_opening
  pub run : IsRunFrom at_opening entries

-- The ring under the lock, after these chapters were handed out: the opening of its chapter is their summary; it is
-- legal from there, as one thread's run that continues theirs; and the ring's state agrees with it.
pub record IsSequentialByChapter (handed_out : List Chapter) (v : ChapterRing) : Type 0 where
  pub goes_on : Binds handed_out v.chapter
  pub opening_is : v.chapter.opening ≡ snapshot_of v.chapter.opening.setup (joined handed_out)
  pub legal : IsLegalFrom v.chapter.opening v.chapter.entries
  pub one_run : IsRunBehind v.chapter.opening.setup (joined handed_out) v.chapter.entries
  pub stands_for : StandsForChapter v

-- "Whenever a ring's lock is free": the state is in the queue, and some pass has a role; the consumer knows the
-- chapters that were handed out.
abbrev pub WheneverFreeByChapter : Type 0
WheneverFreeByChapter =
    (v : ChapterRing) (views : List ChapterPassView) → KeepsChapterLockRule (v ∷ []) views → (pass : ℕ) (u : ChapterPassView) → get_elem? views pass ≡ some u → u.knows ≢ []
    → (handed_out : List Chapter) × IsSequentialByChapter handed_out v × AllKnowHandedOut v.chapter.room handed_out u.knows

-- ---- once all seats, consumer and chapters are gathered and bound

abbrev pub AllLegal : List Chapter → Type 0
AllLegal [] = Unit {0}
AllLegal (c ∷ cs) = IsLegalChapter c × AllLegal cs

-- chapters that are legal may be bound if and only if they are those of a ring
abbrev pub BindsWhereItMay : Type 0
BindsWhereItMay = (chapters : List Chapter) (last : Chapter) → AllLegal chapters → IsLegalChapter last → MayBind chapters last ↔ Binds chapters last

-- the chapters that the ring handed out, followed by its last one, are those of a ring
abbrev pub HandedOutBind : Type 0
HandedOutBind = (last : ChapterRing) (seats : List WorkerSeat) (consumer : ChapterConsumerSeat) → IsGatheredByChapters last seats consumer → Binds consumer.handed_out last.chapter

-- whatever chapters were bound, all seats agree with the history
abbrev pub TiedOnceBound : Type 0
TiedOnceBound =
    (last : ChapterRing) (seats : List WorkerSeat) (consumer : ChapterConsumerSeat) (chapters : List Chapter) (history : List Entry)
    → IsGatheredByChapters last seats consumer → IsBound chapters last.chapter history → AreTied seats consumer (bound_book last history)

-- the ring that was closed, with the history that was bound
abbrev pub bound_ring : ChapterRing → List Entry → Ring
bound_ring last history = record (whole_of (chaptered_ring [] last)) { history = history }

-- if the chapters are those that the ring handed out, the history is the ring's whole history: the ring is closed with
-- it, and gathered
abbrev pub GatheredOnceBound : Type 0
GatheredOnceBound =
    (last : ChapterRing) (seats : List WorkerSeat) (consumer : ChapterConsumerSeat) (chapters : List Chapter) (history : List Entry)
    → IsClosedByChapters last seats consumer → IsBound chapters last.chapter history → joined chapters ≡ joined consumer.handed_out
    → IsClosed (bound_ring last history) seats (whole_consumer consumer) × IsGathered (bound_ring last history) seats (whole_consumer consumer)
