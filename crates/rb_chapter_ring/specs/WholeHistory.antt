-- The laws that relate chapters to the whole history, so that what is stated for a ring by its chapter holds over the
-- whole history (own).
use Rattle.std.specs.Prelude.{ℕ, ◌≡◌, ◌<◌, ◌↔◌, false, List, [], ◌∷◌, ◌++◌}
use Rattle.std.specs.List.{Contains}
use Rattle.rb_history.specs.declared.entries.Entry.{Entry}
use Rattle.rb_history.specs.declared.entries.Entry.TheVariants.{Res}
use Rattle.rb_history.specs.declared.answers.Taken.{Taken}
use Rattle.rb_history.specs.History.{is_taken_at, status_of}
use Rattle.rb_history.specs.History.Status.{Waiting}
use Rattle.rb_history.specs.Counting.{counts_of}
use Rattle.rb_history.specs.NoticesAndQueries.{query_answer}
use Rattle.rb_history.specs.ReservationModel.{Granted}
use Rattle.rb_history.specs.RoomRule.{Setup, HasRoomFor}
use Rattle.rb_history.specs.Legal.{IsLegal}
use Rattle.rb_history.specs.RingModel.{StandsFor}
use Rattle.rb_history.specs.Calls.{IsBusy, RingHasRoom, Grants as WholeGrants, FindsFull as WholeFindsFull, Outputs as WholeOutputs, Submits as WholeSubmits, Discards as WholeDiscards, Strays as WholeStrays, Takes as WholeTakes, HasBusyFront as WholeHasBusyFront, AllTaken as WholeAllTaken}
use Rattle.rb_chapter_ring.specs.Snapshot.{Snapshot, snapshot_of}
use Rattle.rb_chapter_ring.specs.CountedFrom.{snapshot_after, counts_from, query_answer_from, status_from, HasRoomFrom, MayFollowFrom, IsLegalFrom}
use Rattle.rb_chapter_ring.specs.Chapters.{Chapter, closing_of, Meets, AreChaptersOf, joined, last_of}
use Rattle.rb_chapter_ring.specs.ChapterRoom.{HasRoomForEntry, HasRoomForOwed, MayGrant, MayRefuse, with_entry}
use Rattle.rb_chapter_ring.specs.ChapterRing.{ChapterRing, IsGranted, StandsForChapter, whole_ring}
use Rattle.rb_chapter_ring.specs.ChapterCalls.{IsBusyFrom, IsSameChapter, IsNextChapter, GrantsByChapter, FindsFullByChapter, FindsChapterFull, OutputsByChapter, SubmitsByChapter, DiscardsByChapter, StraysByChapter, TakesByChapter, HasBusyFrontByChapter, AllTakenByChapter, HandsOut}

-- What is counted from the opening o agrees with the whole history: both positions, the records, and the totals of each
-- worker and of the consumer, which make up the next opening; the counts, the answers to a query and the room; and, for
-- records that h did not take, their worker and their status.
pub record IsSameFrom (r : Setup) (h : List Entry) (o : Snapshot) (t : List Entry) : Type 0 where
  pub stands : snapshot_after o t ≡ snapshot_of r (h ++ t)
  pub counts : counts_from o t ≡ counts_of (h ++ t)
  pub query : (q : ℕ) → query_answer_from o t q ≡ query_answer r (h ++ t) q
  pub fits : (n : ℕ) → HasRoomFrom o t n ↔ HasRoomFor r (h ++ t) n
  pub status : (p : ℕ) → is_taken_at h p ≡ false → status_from o t p ≡ status_of (h ++ t) p
  pub waiting : (p : ℕ) → (status_from o t p ≡ Waiting) ↔ (status_of (h ++ t) p ≡ Waiting)
  pub granted : (p : ℕ) → is_taken_at h p ≡ false → (w k n : ℕ) → IsGranted o t w k n p ↔ Contains (h ++ t) (Res w k n p)
  pub busy : (p w k n : ℕ) → IsBusyFrom o t p w k n ↔ IsBusy (h ++ t) p w k n

-- if o is the summary of the legal history h, entries are legal from o if and only if h followed by them is legal, and
-- then both agree
abbrev pub CountedFromOpening : Type 0
CountedFromOpening =
    (r : Setup) (h : List Entry) (o : Snapshot) → IsLegal r h → o ≡ snapshot_of r h → (t : List Entry)
    → (IsLegalFrom o t ↔ IsLegal r (h ++ t)) × (IsLegalFrom o t → IsSameFrom r h o t)

-- ---- chapters that meet

-- the chapters join to a legal history, whose summary is the one at the end of the last chapter
pub record Join (r : Setup) (first : Chapter) (rest : List Chapter) : Type 0 where
  pub legal : IsLegal r (joined (first ∷ rest))
  pub stands : closing_of (last_of first rest) ≡ snapshot_of r (joined (first ∷ rest))

abbrev pub ChaptersJoin : Type 0
ChaptersJoin = (r : Setup) (first : Chapter) (rest : List Chapter) → AreChaptersOf r first rest → Join r first rest

-- the chapters followed by the last one are those of a ring: numbered from 0 on, beginning with the empty ring, each
-- meeting the next, and legal
pub record Binds (chapters : List Chapter) (last : Chapter) : Type 0 where
  pub first : Chapter
  pub rest : List Chapter
  pub all : first ∷ rest ≡ chapters ++ last ∷ []
  pub are : AreChaptersOf last.opening.setup first rest

-- the history consists of all their entries, is legal, and its summary is the one at the end of the last chapter
pub record IsBound (chapters : List Chapter) (last : Chapter) (history : List Entry) : Type 0 where
  pub entries : history ≡ joined chapters ++ last.entries
  pub legal : IsLegal last.opening.setup history
  pub stands : closing_of last ≡ snapshot_of last.opening.setup history

abbrev pub OnceBound : Type 0
OnceBound = (chapters : List Chapter) (last : Chapter) → Binds chapters last → IsBound chapters last (joined (chapters ++ last ∷ []))

-- ---- the chapter of a ring

-- the chapter continues the legal history before it: its opening is the summary of that history, and it is legal from
-- its opening
pub record ContinuesHistory (earlier : List Entry) (c : Chapter) : Type 0 where
  pub earlier_legal : IsLegal c.opening.setup earlier
  pub opened : c.opening ≡ snapshot_of c.opening.setup earlier
  pub legal : IsLegalFrom c.opening c.entries

-- after an entry that may follow there is room for everything that is then owed, if and only if there was room for the
-- entry
abbrev pub EntriesKeepRoom : Type 0
EntriesKeepRoom =
    (earlier : List Entry) (c : Chapter) (e : Entry) → ContinuesHistory earlier c → MayFollowFrom c.opening c.entries e
    → HasRoomForEntry c e ↔ HasRoomForOwed (with_entry c e)

-- a chapter that succeeds the one that is handed out has room for what it owes, and continues the longer history
abbrev pub NextHasRoom : Type 0
NextHasRoom =
    (earlier : List Entry) (c d : Chapter) → ContinuesHistory earlier c → HasRoomForOwed c → Meets c d → d.entries ≡ [] → d.room ≡ c.room
    → HasRoomForOwed d × ContinuesHistory (earlier ++ c.entries) d

-- the chapter continues the history, and has room for what it owes
pub record IsKept (earlier : List Entry) (c : Chapter) : Type 0 where
  pub continues : ContinuesHistory earlier c
  pub room : HasRoomForOwed c

-- ---- the calls of a ring

-- each call preserves these facts about the chapter, and so does handing one out
pub record AreKeepingCalls (earlier : List Entry) (old new : ChapterRing) : Type 0 where
  pub grants : (w n p k : ℕ) → w < old.chapter.opening.setup.workers → GrantsByChapter old new w n p k → IsKept earlier new.chapter
  pub finds_full : (w n : ℕ) → w < old.chapter.opening.setup.workers → FindsFullByChapter old new w n → IsKept earlier new.chapter
  pub finds_chapter_full : (w n : ℕ) → FindsChapterFull old new w n → IsKept earlier new.chapter
  pub outputs : (w : ℕ) (bytes : List ℕ) → w < old.chapter.opening.setup.workers → OutputsByChapter old new w bytes → IsKept earlier new.chapter
  pub submits : (r : Granted) → SubmitsByChapter old new r → IsKept earlier new.chapter
  pub discards : (r : Granted) → DiscardsByChapter old new r → IsKept earlier new.chapter
  pub strays : (r : Granted) → StraysByChapter old new r → IsKept earlier new.chapter
  pub takes : (t : Taken) → TakesByChapter old new t → IsKept earlier new.chapter
  pub hands_out : (out : Chapter) → HandsOut old new out → IsKept (earlier ++ out.entries) new.chapter

abbrev pub CallsKeepChapters : Type 0
CallsKeepChapters = (earlier : List Entry) (old new : ChapterRing) → IsKept earlier old.chapter → AreKeepingCalls earlier old new

-- a ring's state agrees with its chapter if and only if it agrees with its whole history
abbrev pub StandsAlike : Type 0
StandsAlike = (earlier : List Entry) (v : ChapterRing) → ContinuesHistory earlier v.chapter → StandsForChapter v ↔ StandsFor (whole_ring earlier v)

-- Each call by its chapter is exactly the call of the ring with its whole history, in the same chapter, if the chapter
-- has the room that the call needs. Handing out a chapter changes nothing of the ring with its whole history.
pub record AreWholeCalls (earlier : List Entry) (old new : ChapterRing) : Type 0 where
  pub grants : (w n p k : ℕ) → w < old.chapter.opening.setup.workers
      → GrantsByChapter old new w n p k ↔ (MayGrant old.chapter × IsSameChapter old new × WholeGrants (whole_ring earlier old) (whole_ring earlier new) w n p k)
  pub finds_full : (w n : ℕ) → FindsFullByChapter old new w n ↔ (MayRefuse old.chapter w × IsSameChapter old new × WholeFindsFull (whole_ring earlier old) (whole_ring earlier new) w n)
  pub finds_chapter_full : (w n : ℕ) → FindsChapterFull old new w n
      ↔ ((RingHasRoom (whole_ring earlier old) n → ¬ MayGrant old.chapter) × (¬ RingHasRoom (whole_ring earlier old) n → ¬ MayRefuse old.chapter w) × (new ≡ old))
  pub outputs : (w : ℕ) (bytes : List ℕ) → w < old.chapter.opening.setup.workers
      → OutputsByChapter old new w bytes ↔ (MayGrant old.chapter × IsSameChapter old new × WholeOutputs (whole_ring earlier old) (whole_ring earlier new) w bytes)
  pub submits : (r : Granted) → SubmitsByChapter old new r ↔ (IsSameChapter old new × WholeSubmits (whole_ring earlier old) (whole_ring earlier new) r)
  pub discards : (r : Granted) → DiscardsByChapter old new r ↔ (IsSameChapter old new × WholeDiscards (whole_ring earlier old) (whole_ring earlier new) r)
  pub strays : (r : Granted) → StraysByChapter old new r ↔ (IsSameChapter old new × WholeStrays (whole_ring earlier old) (whole_ring earlier new) r)
  pub takes : (t : Taken) → TakesByChapter old new t ↔ (IsSameChapter old new × WholeTakes (whole_ring earlier old) (whole_ring earlier new) t)
  pub busy_front : HasBusyFrontByChapter old ↔ WholeHasBusyFront (whole_ring earlier old)
  pub all_taken : AllTakenByChapter old ↔ WholeAllTaken (whole_ring earlier old)
  pub hands_out : (out : Chapter) → HandsOut old new out ↔ (IsNextChapter old new out × (whole_ring (earlier ++ out.entries) new ≡ whole_ring earlier old))

abbrev pub CallsAlike : Type 0
CallsAlike = (earlier : List Entry) (old new : ChapterRing) → ContinuesHistory earlier old.chapter → AreWholeCalls earlier old new
