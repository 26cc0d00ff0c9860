-- A payload that passes through a ring that keeps a chapter of its history, and the chapter in which the ring
-- continues.
use Rattle.std.proofs.Common.{◌≡◌, ℕ, ◌+◌, ◌<◌, ◌≤◌, ◌^◌, List, [], ◌++◌, Option, length, sym, ap, ◌∙◌, arith, subst, inl, inr}
use Rattle.std.proofs.lemmas.Bool.{cases_lt}
use Rattle.rb_history.specs.Span.{span}
use Rattle.rb_history.specs.declared.entries.Entry.{Entry}
use Rattle.rb_history.specs.declared.answers.Taken.{Taken}
use Rattle.rb_history.specs.declared.answers.Taken.TheVariants.{Event}
use Rattle.rb_history.specs.History.{producer_of, records}
use Rattle.rb_history.specs.Legal.{IsLegal}
use Rattle.rb_history.specs.inner.RecordRows.{InRow}
use Rattle.rb_history.proofs.Laws.{kept-from-legal}
use Rattle.rb_chapter_ring.specs.CountedFrom.{producer_from, consumer_from}
use Rattle.rb_chapter_ring.specs.Chapters.{Chapter}
use Rattle.rb_chapter_ring.specs.ChapterRoom.{MayGrant, owed, owed_for}
use Rattle.rb_chapter_ring.specs.ChapterRing.{ChapterRing, whole_ring}
use Rattle.rb_chapter_ring.specs.ChapterCalls.{AllTakenByChapter, IsSameChapter, OutputsByChapter, TakesByChapter, HandsOut, ChapterRingHasRoom, producer_by_chapter, consumer_by_chapter}
use Rattle.rb_chapter_ring.specs.WholeHistory.{IsKept, IsSameFrom}
use Rattle.rb_chapter_ring.proofs.Alike.{calls-alike}
use Rattle.rb_chapter_ring.proofs.Keeping.{calls-keep}
use Rattle.rb_chapter_ring.proofs.Stands.{goes-on}
use Rattle.rb_tape_commands.specs.ChapterTurns.{IsSpareOf, MakesChapterRoom}
use Rattle.rb_tape_commands.specs.Transfer.{MovesOn}
use Rattle.rb_tape_commands.proofs.RingPass.{IsPassed, PassesOn, passes_on, empty_row}

-- ---- what the whole history implies for the chapter

module _ (earlier : List Entry) (v : ChapterRing) (kept : IsKept earlier v.chapter) where
  said : IsSameFrom v.chapter.opening.setup earlier v.chapter.opening v.chapter.entries
  said =
      let c = kept.continues in
      (goes-on v.chapter.opening.setup earlier v.chapter.opening c.earlier_legal c.opened v.chapter.entries).1 c.legal

  legal_whole : IsLegal v.chapter.opening.setup (earlier ++ v.chapter.entries)
  legal_whole =
      let c = kept.continues in
      (goes-on v.chapter.opening.setup earlier v.chapter.opening c.earlier_legal c.opened v.chapter.entries).0.0 c.legal

  whole_producer : producer_by_chapter v ≡ producer_of v.chapter.opening.setup.start (earlier ++ v.chapter.entries)
  whole_producer = ap (λ o. o.producer) said.stands

  -- if every record was taken, nothing is owed
  nothing_owed : AllTakenByChapter v → owed v.chapter ≡ 0
  nothing_owed at =
      let whole = earlier ++ v.chapter.entries in
      let row = (kept-from-legal v.chapter.opening.setup whole legal_whole).in_row in
      let ends = ap (λ o. o.consumer) said.stands in
      let none : records whole ≡ [] = empty_row _ (records whole) (subst (InRow _ (records whole)) (sym whole_producer ∙ at ∙ ends) row) in
      ap owed_for (ap (λ o. o.records) said.stands ∙ none)

-- ---- a payload that is output and taken

-- its position, its bytes, and the ring's positions after it
pub record Passes (old new : ChapterRing) (bytes : List ℕ) (p : ℕ) (s : List ℕ) : Type 0 where
  pub position_is : p ≡ producer_by_chapter old
  pub bytes_are : s ≡ bytes
  pub moves : MovesOn old new (length bytes)

module _ (earlier : List Entry) (old mid new : ChapterRing) (bytes : List ℕ) (kept : IsKept earlier old.chapter) (worker : 0 < old.chapter.opening.setup.workers) (at : AllTakenByChapter old) (o : OutputsByChapter old mid 0 bytes) (t : Taken) (a : TakesByChapter mid new t) where
  kept_mid : IsKept earlier mid.chapter
  kept_mid = (calls-keep earlier old mid kept).outputs 0 bytes worker o

  kept_new : IsKept earlier new.chapter
  kept_new = (calls-keep earlier mid new kept_mid).takes t a

  whole : PassesOn (whole_ring earlier old) (whole_ring earlier new) bytes t
  whole =
      let output = (calls-alike earlier old mid kept.continues).outputs 0 bytes worker in
      let take = (calls-alike earlier mid new kept_mid.continues).takes t in
      passes_on (whole_ring earlier old) (whole_ring earlier mid) (whole_ring earlier new) bytes t ((calls-alike earlier old mid kept.continues).all_taken.0 at) (output.0 o).2 (legal_whole earlier new kept_new) (take.0 a).1

  same_chapter : IsSameChapter old new
  same_chapter =
      let output = (calls-alike earlier old mid kept.continues).outputs 0 bytes worker in
      let take = (calls-alike earlier mid new kept_mid.continues).takes t in
      (take.0 a).0 ∙ ap (λ (c : Chapter). record c { entries = new.chapter.entries }) (output.0 o).1

  -- what is taken is what was output
  pub is_event : IsPassed (whole_ring earlier old) bytes t
  is_event = whole.is_event

  pub passes : (p w k : ℕ) (s : List ℕ) → t ≡ Event p w k s → Passes old new bytes p s
  passes p w k s e =
      let from = whole_producer earlier old kept in
      let to = whole_producer earlier new kept_new in
      let event = subst (IsPassed (whole_ring earlier old) bytes) e whole.is_event in
      let by = whole.moves p w k s e in
      record {
        position_is = event.0 ∙ sym from;
        bytes_are = event.1;
        moves = record {
          same_chapter = same_chapter;
          all_taken = (calls-alike earlier new new kept_new.continues).all_taken.1 by.all_taken;
          producer_is = to ∙ by.producer_is ∙ ap (λ q. q + span (length bytes)) (sym from);
          bounded = subst (λ q. q + span (length bytes) ≤ 2 ^ 62) (sym from) by.bounded;
        };
      }

-- ---- the next chapter

-- the ring's positions are unchanged, in a chapter of the same room and setup, whose number is at most one more
pub record GoesOn (old new : ChapterRing) : Type 0 where
  pub setup_same : new.chapter.opening.setup ≡ old.chapter.opening.setup
  pub room_same : new.chapter.room ≡ old.chapter.room
  pub numbered : new.chapter.number ≤ old.chapter.number + 1
  pub producer_same : producer_by_chapter new ≡ producer_by_chapter old
  pub consumer_same : consumer_by_chapter new ≡ consumer_by_chapter old

turned : (old new : ChapterRing) (out : Chapter) → HandsOut old new out → GoesOn old new
turned old new out a =
    let next = a.next in
    let meets = next.next_is in
    let number = meets.next_number in
    let from = ap (λ o. o.producer) meets.goes_on in
    let to = ap (λ o. o.consumer) meets.goes_on in
    let none : producer_from new.chapter.opening [] ≡ new.chapter.opening.producer = omega arith in
    let none_taken : consumer_from new.chapter.opening [] ≡ new.chapter.opening.consumer = omega arith in
    record {
      setup_same = ap (λ o. o.setup) meets.goes_on;
      room_same = next.room_same;
      numbered = omega (arith, number);
      producer_same = ap (producer_from new.chapter.opening) next.no_entries ∙ none ∙ from;
      consumer_same = ap (consumer_from new.chapter.opening) next.no_entries ∙ none_taken ∙ to;
    }

pub goes_on : (old new : ChapterRing) → MakesChapterRoom old new → GoesOn old new
goes_on old new (inl same) =
    let e = same.1 in
    record {
      setup_same = ap (λ (v : ChapterRing). v.chapter.opening.setup) e;
      room_same = ap (λ (v : ChapterRing). v.chapter.room) e;
      numbered = omega (arith, ap (λ (v : ChapterRing). v.chapter.number) e);
      producer_same = ap producer_by_chapter e;
      consumer_same = ap consumer_by_chapter e;
    }
goes_on old new (inr out) = turned old new out.1.0 out.1.1

-- the next chapter of a ring in which every record was taken has room for a record
pub turn_gives_room : (earlier : List Entry) (old new : ChapterRing) (out : Chapter) → IsKept earlier old.chapter → AllTakenByChapter old → 8 ≤ old.chapter.room → HandsOut old new out → MayGrant new.chapter
turn_gives_room earlier old new out kept at room a =
    let next = turned old new out a in
    let used : length new.chapter.entries ≡ 0 = ap length a.next.no_entries in
    let none = nothing_owed (earlier ++ out.entries) new ((calls-keep earlier old new kept).hands_out out a) (next.producer_same ∙ at ∙ sym next.consumer_same) in
    omega (arith, used, none, next.room_same, room)

-- ---- the spare chapter

-- the spare chapter stays a spare for a ring in the same chapter
pub spare_stays : (old new : ChapterRing) (spare : Option Chapter) → IsSameChapter old new → IsSpareOf old spare → IsSpareOf new spare
spare_stays old new spare same is =
    let room = ap (λ (c : Chapter). c.room) same in
    let workers = ap (λ (c : Chapter). c.opening.setup.workers) same in
    rw (room, workers) is
