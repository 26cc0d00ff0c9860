-- A shared ring that was closed, and its chapters, bound to one history (own).
use Rattle.std.specs.Prelude.{◌≡◌, ℕ, ◌+◌, List, [], ◌∷◌, ◌++◌, None}
use Rattle.std.specs.List.{All}
use Rattle.rb_history.specs.declared.entries.Entry.{Entry}
use Rattle.rb_history.specs.RoomRule.{Setup}
use Rattle.rb_history.specs.Counting.{counts_of}
use Rattle.rb_history.specs.WorkerCounts.{serials_of, numbers_below}
use Rattle.rb_chapter_ring.specs.Snapshot.{snapshot_of}
use Rattle.rb_chapter_ring.specs.Chapters.{Chapter}
use Rattle.rb_chapter_ring.specs.ChapterRing.{ChapterRing}
use Rattle.rb_ledger.specs.Roles.{Book, book_of}
use Rattle.rb_ledger.specs.Roles.Role.{Consumer}
use Rattle.rb_ledger.specs.RoleKnowledge.{role_knowledge}
use Rattle.rb_ledger.specs.Seats.{Shared, WorkerSeat, Ties, ConsumerTies, HasAll}
use Rattle.rb_ledger.specs.SeatRoles.{roles_of, HasOwnCounts}
use Rattle.rb_ledger.specs.Headline.{IsClosed, IsGathered, ReservationsBalance}
use Rattle.rb_ledger.specs.ChapteredRing.{chaptered_ring, whole_of}
use Rattle.rb_ledger.specs.ChapterKnowledge.{ChapterKnowledge, ChapterPassView, chapter_view, whole_knowledge}
use Rattle.rb_ledger.specs.ChapterLockSteps.{TakesChapterState}
use Rattle.rb_ledger.specs.ChapterSeats.{ChapterConsumerSeat, whole_consumer}

-- ---- chapters of a ring

-- numbered consecutively from n
abbrev pub AreNumberedFrom : ℕ → List Chapter → Type 0
AreNumberedFrom n [] = Unit {0}
AreNumberedFrom n (c ∷ cs) = (c.number ≡ n) × AreNumberedFrom (n + 1) cs

-- the opening of each is the summary of all entries before it, where `earlier` are those before the first
abbrev pub EachGoesOn : Setup → List Entry → List Chapter → Type 0
EachGoesOn setup earlier [] = Unit {0}
EachGoesOn setup earlier (c ∷ cs) = (c.opening ≡ snapshot_of setup earlier) × EachGoesOn setup (earlier ++ c.entries) cs

-- the chapters and the last one may be bound: they are numbered from 0, and continue the empty history
pub record MayBind (chapters : List Chapter) (last : Chapter) : Type 0 where
  pub numbered : AreNumberedFrom 0 (chapters ++ last ∷ [])
  pub opened : EachGoesOn last.opening.setup [] (chapters ++ last ∷ [])

-- ---- closed

-- a ring that was closed: which shared ring it was, and the ring at its end, with its last chapter
pub record ClosedChapterRing : Type 0 where
  pub shared : Shared
  pub at_end : ChapterRing

-- The counts of the seats and of the consumer are those of the history. So each worker's reservations are in it once
-- each, in its own order, and the number of reservations equals that of records consumed, discarded, waiting and busy.
pub record AreTied (seats : List WorkerSeat) (consumer : ChapterConsumerSeat) (b : Book) : Type 0 where
  pub seats_tie : All (λ s. Ties s.worker s.tally b) seats
  pub in_order : All (λ s. serials_of s.worker b.history ≡ numbers_below s.tally.made) seats
  pub consumer_ties : ConsumerTies consumer.consumed consumer.skipped consumer.position b
  pub balanced : ReservationsBalance seats (counts_of b.history)

-- All seats and the consumer are gathered at the ring with its whole history, which begins with the entries of the
-- chapters that the consumer was handed; these may be bound with the ring's last one.
pub record IsGatheredByChapters (last : ChapterRing) (seats : List WorkerSeat) (consumer : ChapterConsumerSeat) : Type 0 where
  pub may_bind : MayBind consumer.handed_out last.chapter
  pub tied : AreTied seats consumer (book_of (whole_of (chaptered_ring consumer.handed_out last)))
  pub gathered : IsGathered (whole_of (chaptered_ring consumer.handed_out last)) seats (whole_consumer consumer)

-- what `close` promises if it returns Ok: all are gathered, and each seat accounts for its part of the whole history
pub record IsClosedByChapters (last : ChapterRing) (seats : List WorkerSeat) (consumer : ChapterConsumerSeat) : Type 0 where
  pub gathered : IsGatheredByChapters last seats consumer
  pub closed : IsClosed (whole_of (chaptered_ring consumer.handed_out last)) seats (whole_consumer consumer)

-- what the consumer's pass knows
abbrev pub consumer_knowledge : ChapterConsumerSeat → ChapterKnowledge
consumer_knowledge c = record { whole = role_knowledge Consumer c.seen c.got; room = c.room; handed_out = c.handed_out }

-- this holds once a pass with the roles of all seats and of the consumer, each with its own counts, has taken the state
-- out
abbrev pub ClosedWhereGathered : Type 0
ClosedWhereGathered =
    (seats : List WorkerSeat) (consumer : ChapterConsumerSeat) (workers : List ChapterKnowledge) (r : ChapterRing) (after : ChapterPassView)
    → whole_knowledge workers ≡ roles_of seats → TakesChapterState (chapter_view (workers ++ consumer_knowledge consumer ∷ []) None) r after
    → All HasOwnCounts seats → ConsumerTies consumer.consumed consumer.skipped consumer.position consumer.seen → HasAll consumer.seen.setup.workers seats
    → IsClosedByChapters r seats consumer

-- ---- bound

-- a closed ring that was bound to these chapters, with all entries joined
pub record BoundRing : Type 0 where
  pub closed : ClosedChapterRing
  pub chapters : List Chapter
  pub history : List Entry

-- the book of the history, with the setup of the last chapter
abbrev pub bound_book : ChapterRing → List Entry → Book
bound_book last history = record { setup = last.chapter.opening.setup; history = history }
