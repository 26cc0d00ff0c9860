-- A worker's counts after each call on a shared ring.
use Rattle.std.proofs.Common.{◌≡◌, ℕ, ◌<◌, ◌≤◌, ◌^◌, List, length, sym, ap, ◌∙◌, subst, arith, Result, Ok, Err, IfOk}
use Rattle.rb_history.specs.declared.answers.Notice.{Notice}
use Rattle.rb_history.specs.declared.tally.Tally.{Tally}
use Rattle.rb_history.specs.ReservationModel.{Granted}
use Rattle.rb_history.specs.WorkerCounts.{numbers_below}
use Rattle.rb_history.proofs.Settled.{settled-most}
use Rattle.rb_history.proofs.Tallies.{grants-low}
use Rattle.rb_chapter_ring.specs.CountedFrom.{tally_from}
use Rattle.std.proofs.lemmas.List.{length-map}
use Rattle.rb_chapter_ring.specs.Chapters.{Chapter, joined, closing_of}
use Rattle.rb_chapter_ring.specs.ChapterRing.{ChapterRing}
use Rattle.rb_chapter_ring.proofs.Limits.{spans-low}
use Rattle.rb_chapter_ring.proofs.ChapterNumbers.{length-below}
use Rattle.rb_chapter_ring.specs.declared.faults.ReserveFault.{ReserveFault}
use Rattle.rb_chapter_ring.specs.declared.faults.ReserveFault.TheVariants.{Full, Flags, ChapterFull, Foreign, HandsFull}
use Rattle.rb_chapter_ring.specs.RingFaults.{RefusesInChapter}
use Rattle.rb_chapter_ring.specs.declared.record_end.RecordEnd.{RecordEnd}
use Rattle.rb_chapter_ring.specs.RecordEnds.{tally_with_end}
use Rattle.rb_shared_ring.specs.declared.audit.Audit.{Audit}
use Rattle.rb_ledger.specs.Roles.{Role, Book, book_of}
use Rattle.rb_ledger.specs.Roles.Role.{Worker}
use Rattle.rb_ledger.specs.Seats.{IsBook, Ties}
use Rattle.rb_ledger.specs.LockedCalls.{LockedCall, Reserves, OutputsAt, Queries}
use Rattle.rb_ledger.proofs.Seated.{ring-book, ties-goes, reserve-ties, end-ties, output-ties, query-ties, serial-is}
use Rattle.rb_ledger.specs.ChapteredRing.{ChapteredRing, chaptered_ring, whole_of}
use Rattle.rb_ledger.specs.LockedChapterCalls.{LockedChapterCall, InOneChapter}
use Rattle.rb_ledger.specs.inner.ChapterAnswers.{QueriesInChapter, EndsInChapter}
use Rattle.rb_ledger.specs.RecordEnds.{EndsAt}
use Rattle.rb_chapter_ring.proofs.Chain.{binds-continue}
use Rattle.rb_ledger.proofs.WholeCalls.{call-whole, with-worker, ends-whole, queries-whole}
use Rattle.rb_ledger.proofs.EntryRoom.{totals-are}
use Rattle.rb_shared_ring.specs.SharedCalls.{IsRefusedInRoomAs, reserved_in_room_by, output_in_room_by}
use Rattle.rb_shared_ring.specs.inner.ChapterAnswers.{ReservesInChapter, OutputsInChapter, AuditsInChapter}
use Rattle.rb_chapter_ring.specs.Hands.{Hands}
use Rattle.rb_ledger.specs.HandKnowledge.{HandPassView}
use Rattle.rb_ledger.specs.NoStranger.{HoldsOwnBusy}
use Rattle.rb_shared_ring.specs.inner.HandPasses.{hands_by, seen_with, KeepsHands}
use Rattle.rb_shared_ring.specs.AnswersOverAll.{whole_answer}
use Rattle.rb_shared_ring.proofs.WholeAnswers.{tally-reserved, tally-output, reserves-whole, outputs-whole}

-- what a seat has seen is a book of the ring
pub book-in : (role : Role) (b a : Book) (Call : ChapteredRing → ChapteredRing → Type 0) → LockedChapterCall role b a Call → IsBook a
book-in role b a Call t = subst IsBook (sym t.seen) (ring-book (whole_of t.left) t.is_ring.is_ring)

-- a seat's counts fit in 64 bits, also after one more
pub record AreLow (t : Tally) : Type 0 where
  pub made : t.made ≤ 2 ^ 62
  pub submitted : t.submitted ≤ 2 ^ 62
  pub discarded : t.discarded ≤ 2 ^ 62

pub tied-low : (w : ℕ) (t : Tally) (b : Book) → IsBook b → Ties w t b → AreLow t
tied-low w t b book ties =
    let h = b.history in
    let made = ap (λ (x : Tally). x.made) ties.counted in
    let submitted = ap (λ (x : Tally). x.submitted) ties.counted in
    let discarded = ap (λ (x : Tally). x.discarded) ties.counted in
    let most = settled-most b.setup h book.legal w in
    let granted = grants-low w h in
    let low = spans-low b.setup h book.legal in
    record { made = omega (arith, made, granted, low); submitted = omega (arith, submitted, most, granted, low); discarded = omega (arith, discarded, most, granted, low) }

-- a seat's hands after a call are those that its pass then shows
pub keeps-hands : (before after : HandPassView) (w : ℕ) (old new : Hands) → KeepsHands before w old → hands_by after ≡ new → length new ≡ 4 → HoldsOwnBusy (hands_by after) w (seen_with after).history → KeepsHands after w new
keeps-hands before after w old new keeps shows four holds = record { shows = shows; four = four; holds = subst (λ hs. HoldsOwnBusy hs w (seen_with after).history) shows holds }

-- ---- for a seat, from what it had seen to what it has seen

module _ (w : ℕ) (t : Tally) (b a : Book) (ties : Ties w t b) where
  -- at the point of the call the seat's counts are the worker's totals
  tally-there : (Call : ChapterRing → ChapterRing → Type 0) (c : LockedChapterCall (Worker w) b a (InOneChapter Call)) → t ≡ tally_from c.point.ring.chapter.opening w c.point.ring.chapter.entries
  tally-there Call c =
      let there = ties-goes w t b (book_of (whole_of c.point)) c.goes_on c.was_ring.is_ring.legal ties in
      let is = binds-continue c.point.handed_out c.point.ring.chapter c.was_ring.has_chapters.binds in
      there.counted ∙ sym (totals-are (joined c.point.handed_out) c.point.ring c.left.ring w is there.in_ring)

  full-at : (old new : ChapterRing) (n : ℕ) (f : ReserveFault) → f ≡ Full → RefusesInChapter old new w n f → (tally_from old.chapter.opening w old.chapter.entries).refused < 2 ^ 62
  full-at old new n Full is call = call.chapter_room.1
  full-at old new n Flags is call = let no_way : Flags ≡ Full = is in cc
  full-at old new n ChapterFull is call = let no_way : ChapterFull ≡ Full = is in cc
  full-at old new n Foreign is call = absurd call
  full-at old new n HandsFull is call = absurd call

  full-reserve : (old new : ChapterRing) (n : ℕ) (r : Result Granted (ReserveFault × List ℕ)) → ReservesInChapter w n r old new → IsRefusedInRoomAs Full r → (tally_from old.chapter.opening w old.chapter.entries).refused < 2 ^ 62
  full-reserve old new n (Ok g) call full = absurd full
  full-reserve old new n (Err e) call full = full-at old new n e.0 full call.0

  full-output : (old new : ChapterRing) (bytes : List ℕ) (flags : ℕ) (r : Result Notice (ReserveFault × List ℕ)) → OutputsInChapter w bytes flags r old new → IsRefusedInRoomAs Full r → (tally_from old.chapter.opening w old.chapter.entries).refused < 2 ^ 62
  full-output old new bytes flags (Ok g) call full = absurd full
  full-output old new bytes flags (Err e) call full = full-at old new (length bytes) e.0 full call.0

  module _ (n : ℕ) (r : Result Granted (ReserveFault × List ℕ)) (c : LockedChapterCall (Worker w) b a (InOneChapter (ReservesInChapter w n r))) where
    pub reserve-fits : IsRefusedInRoomAs Full r → t.refused < 2 ^ 62
    reserve-fits full = subst (λ (x : Tally). x.refused < 2 ^ 62) (sym (tally-there (ReservesInChapter w n r) c)) (full-reserve c.point.ring c.left.ring n r c.called.1 full)

    whole-reserve : LockedCall (Worker w) b a (Reserves w n (whole_answer r))
    whole-reserve = call-whole (Worker w) b a _ (Reserves w n (whole_answer r)) (λ earlier old new is x. reserves-whole earlier old new is w n r x.0 x.1) (with-worker (Worker w) b a (ReservesInChapter w n r) (λ old new. Unit {0}) w ties.in_ring c)

    pub reserve-tied : Ties w (reserved_in_room_by t r) a
    reserve-tied = subst (λ u. Ties w u a) (tally-reserved t r) (reserve-ties w t b a n (whole_answer r) whole-reserve ties)

    serial-of : (r : Result Granted (ReserveFault × List ℕ)) → IfOk (whole_answer r) (λ g. g.serial ≡ t.made) → IfOk r (λ g. g.serial ≡ t.made)
    serial-of (Ok g) is = is
    serial-of (Err e) is = tt

    pub serial-in : IfOk r (λ g. g.serial ≡ t.made)
    serial-in = serial-of r (serial-is w t b a n (whole_answer r) whole-reserve ties)

  module _ (bytes : List ℕ) (flags : ℕ) (r : Result Notice (ReserveFault × List ℕ)) (More : ChapterRing → Type 0) (c : LockedChapterCall (Worker w) b a (InOneChapter (λ old new. OutputsInChapter w bytes flags r old new × More old))) where
    pub output-fits : IsRefusedInRoomAs Full r → t.refused < 2 ^ 62
    output-fits full = subst (λ (x : Tally). x.refused < 2 ^ 62) (sym (tally-there (λ old new. OutputsInChapter w bytes flags r old new × More old) c)) (full-output c.point.ring c.left.ring bytes flags r c.called.1.0 full)

    pub output-tied : Ties w (output_in_room_by t r) a
    output-tied =
        let whole : LockedCall (Worker w) b a (λ old new. OutputsAt w bytes flags (whole_answer r) old new × Unit {0}) =
        call-whole (Worker w) b a _ (λ old new. OutputsAt w bytes flags (whole_answer r) old new × Unit {0}) (λ earlier old new is x. (outputs-whole earlier old new is w bytes flags r x.0 x.1.0, tt))
        (with-worker (Worker w) b a (λ old new. OutputsInChapter w bytes flags r old new × More old) (λ old new. Unit {0}) w ties.in_ring c) in
        subst (λ u. Ties w u a) (tally-output t r) (output-ties w t b a bytes flags (whole_answer r) (λ old. Unit {0}) whole ties)

  pub end-tied : (end : RecordEnd) (g : Granted) (flags : ℕ) (n : Notice) → g.worker ≡ w → LockedChapterCall (Worker w) b a (InOneChapter (EndsInChapter end g flags n)) → Ties w (tally_with_end end t) a
  end-tied end g flags n mine c = end-ties w t b a end g flags n mine (call-whole (Worker w) b a (EndsInChapter end g flags n) (EndsAt end g flags n) (λ earlier old new is x. ends-whole earlier old new is end g flags n x) c) ties

  pub query-tied : (what n : ℕ) → LockedChapterCall (Worker w) b a (InOneChapter (QueriesInChapter what n)) → Ties w t a
  query-tied what n c = query-ties w t b a what n (call-whole (Worker w) b a (QueriesInChapter what n) (Queries what n) (λ earlier old new is x. queries-whole earlier old new is what n x) c) ties

  -- an audit leaves the ring as it was
  module _ (x : Audit) (c : LockedChapterCall (Worker w) b a (InOneChapter (AuditsInChapter w x))) where
    pub audit-tied : Ties w t a
    audit-tied =
        let there = ties-goes w t b (book_of (whole_of c.point)) c.goes_on c.was_ring.is_ring.legal ties in
        let same : c.left ≡ c.point = λ i. chaptered_ring (c.called.0 i) (c.called.1.same i) in
        subst (Ties w t) (ap (λ (y : ChapteredRing). book_of (whole_of y)) (sym same) ∙ sym c.seen) there

    pub audit-own : x.own ≡ t
    audit-own = c.called.1.own_is ∙ sym (tally-there (AuditsInChapter w x) c)

-- a chapter has totals for each worker
pub totals-long : (c : Chapter) → length (closing_of c).tallies ≡ c.opening.setup.workers
totals-long c = length-map (numbers_below c.opening.setup.workers) (λ w. tally_from c.opening w c.entries) ∙ length-below c.opening.setup.workers
