-- The calls of a ring that keeps a chapter, as calls of the ring with its whole history.
use Rattle.std.proofs.Common.{◌≡◌, ◌≢◌, ℕ, ◌<◌, ◌≤◌, List, [], ◌∷◌, ◌++◌, Some, None, length, replicate, refl, sym, ap, subst, ◌∙◌, append-nil, append_assoc}
use Rattle.std.specs.Prelude.{pos, negsuc}
use Rattle.rb_history.specs.declared.entries.Entry.{Entry}
use Rattle.rb_history.specs.declared.answers.Taken.{Taken}
use Rattle.rb_history.specs.NoticesAndQueries.{query_answer}
use Rattle.rb_history.specs.History.{grants}
use Rattle.rb_history.specs.ReservationModel.{Granted}
use Rattle.rb_history.specs.RingModel.{Ring, StandsFor}
use Rattle.rb_history.specs.Calls as ring
use Rattle.rb_chapter_ring.specs.Chapters.{Chapter, joined}
use Rattle.rb_chapter_ring.specs.ChapterRing.{ChapterRing, StandsForChapter, whole_ring}
use Rattle.rb_chapter_ring.specs.ChapterCalls.{IsSameChapter, GrantsByChapter, FindsFullByChapter, OutputsByChapter, TakesByChapter, HandsOut}
use Rattle.rb_chapter_ring.specs.CountedFrom.{query_answer_from}
use Rattle.rb_chapter_ring.specs.WholeHistory.{IsKept}
use Rattle.rb_chapter_ring.proofs.Alike.{stands-alike, calls-alike}
use Rattle.rb_chapter_ring.proofs.Keeping.{calls-keep}
use Rattle.rb_chapter_ring.proofs.Stands.{goes-on}
use Rattle.rb_chapter_ring.specs.RingFaults.{RefusesInChapter}
use Rattle.rb_chapter_ring.specs.TaggedRing.{TaggedRing}
use Rattle.rb_chapter_ring.specs.declared.faults.ReserveFault.{ReserveFault}
use Rattle.rb_chapter_ring.specs.declared.faults.ReserveFault.TheVariants.{Full, Flags, ChapterFull, Foreign, HandsFull}
use Rattle.rb_semantics.specs.HelperCalls.{Taken as TakenAnswer}
use Rattle.rb_world.specs.CallsInWorld.{RingSteps, BadFlags, Unlogged, NoRoom, Made}
use Rattle.rb_chapter_ring.specs.declared.record_end.RecordEnd.{RecordEnd}
use Rattle.rb_chapter_ring.specs.declared.record_end.RecordEnd.TheVariants.{Submit, Discard}
use Rattle.rb_world.specs.WorldValue.{KeptRing, world_ring}
use Rattle.rb_world.specs.TurnsDone.{HandsChapterOut, chapters_of}
use Rattle.rb_chapter_ring.specs.RecordEnds.{EndsFromHand}
use Rattle.rb_world.specs.inner.RecordEnds.{WorkerEnds}
use Rattle.rb_world.specs.inner.RingAnswers.{untaken_ring, IsReserved, IsOutput, IsWholeAnswer}

moved : (P : Ring → Ring → Type 0) (old new : Ring) → P old new → StandsFor new → RingSteps P [] (untaken_ring old) (untaken_ring new)
moved P old new p stands = record { stepped = p; stands = stands; taken_are = refl }

granted-is : (r : Granted) (w : ℕ) (bytes : List ℕ) → r.worker ≡ w → r.bytes ≡ bytes → r ≡ record { pos = r.pos; worker = w; serial = r.serial; bytes = bytes }
granted-is r w bytes e f = ap (λ v. record r { worker = v }) e ∙ ap (λ b. record { pos = r.pos; worker = w; serial = r.serial; bytes = b }) f

-- the ring with its whole history represents that history
pub stands-whole : (earlier : List Entry) (v : ChapterRing) → IsKept earlier v.chapter → StandsForChapter v → StandsFor (whole_ring earlier v)
stands-whole earlier v kept stands = (stands-alike earlier v kept.continues).0 stands

-- ---- a record is requested

module _ (old new : ChapterRing) (w : ℕ) where
  pub reserve-unlogged : (len flags : ℕ) → flags ≡ 0 → new ≡ old → IsWholeAnswer (λ v v'. IsReserved v v' w len flags None) old new
  reserve-unlogged len flags none same = λ earlier kept. (subst (λ (v : ChapterRing). IsKept earlier v.chapter) (sym same) kept, (Unlogged, tt, (none, ap (λ v. untaken_ring (whole_ring earlier v)) same)))

  pub reserve-made : (len flags : ℕ) (r : Granted) → w < old.chapter.opening.setup.workers → flags ≡ 0 → StandsForChapter new → GrantsByChapter old new w len r.pos r.serial → r.worker ≡ w → r.bytes ≡ replicate len 0 → IsWholeAnswer (λ v v'. IsReserved v v' w len flags (Some r)) old new
  reserve-made len flags r there none stands grants mine zeros = λ earlier kept.
      let kept_on = (calls-keep earlier old new kept).grants w len r.pos r.serial there grants in
      let whole = ((calls-alike earlier old new kept.continues).grants w len r.pos r.serial there).0 grants in (
        kept_on,
        (
          Made r.pos r.serial,
          granted-is r w (replicate len 0) mine zeros,
          (none, moved (λ v v'. ring.Grants v v' w len r.pos r.serial) (whole_ring earlier old) (whole_ring earlier new) whole.2 (stands-whole earlier new kept_on stands)),
        ),
      )

  full-kept : (n : ℕ) → w < old.chapter.opening.setup.workers → StandsForChapter new → FindsFullByChapter old new w n → IsWholeAnswer (λ v v'. RingSteps (λ u u'. ring.FindsFull u u' w n) [] (untaken_ring v) (untaken_ring v')) old new
  full-kept n there stands full = λ earlier kept.
      let kept_on = (calls-keep earlier old new kept).finds_full w n there full in
      let whole = ((calls-alike earlier old new kept.continues).finds_full w n).0 full in
      (kept_on, moved (λ v v'. ring.FindsFull v v' w n) (whole_ring earlier old) (whole_ring earlier new) whole.2 (stands-whole earlier new kept_on stands))

  pub reserve-refused : (len flags : ℕ) (fault : ReserveFault) → w < old.chapter.opening.setup.workers → flags ≡ 0 → StandsForChapter new → RefusesInChapter old new w len fault → IsWholeAnswer (λ v v'. IsReserved v v' w len flags None) old new
  reserve-refused len flags Full there none stands h = λ earlier kept. let full = full-kept len there stands h earlier kept in (full.0, (NoRoom, tt, (none, full.1)))
  reserve-refused len flags Flags there none stands h = reserve-unlogged len flags none h
  reserve-refused len flags ChapterFull there none stands h = reserve-unlogged len flags none h.same
  reserve-refused len flags Foreign there none stands h = absurd h
  reserve-refused len flags HandsFull there none stands h = absurd h

  pub output-bad : (bytes : List ℕ) (flags : ℕ) → 3 < flags → new ≡ old → IsWholeAnswer (λ v v'. IsOutput v v' w bytes flags (negsuc 21)) old new
  output-bad bytes flags bad same = λ earlier kept. (subst (λ (v : ChapterRing). IsKept earlier v.chapter) (sym same) kept, (BadFlags, refl, (bad, ap (λ v. untaken_ring (whole_ring earlier v)) same)))

  pub output-unlogged : (bytes : List ℕ) (flags : ℕ) → flags ≤ 3 → new ≡ old → IsWholeAnswer (λ v v'. IsOutput v v' w bytes flags (negsuc 10)) old new
  output-unlogged bytes flags few same = λ earlier kept. (subst (λ (v : ChapterRing). IsKept earlier v.chapter) (sym same) kept, (Unlogged, refl, (few, ap (λ v. untaken_ring (whole_ring earlier v)) same)))

  pub output-made : (bytes : List ℕ) (flags : ℕ) → w < old.chapter.opening.setup.workers → flags ≤ 3 → StandsForChapter new → OutputsByChapter old new w bytes → IsWholeAnswer (λ v v'. IsOutput v v' w bytes flags (pos 0)) old new
  output-made bytes flags there few stands outputs = λ earlier kept.
      let kept_on = (calls-keep earlier old new kept).outputs w bytes there outputs in
      let whole = ((calls-alike earlier old new kept.continues).outputs w bytes there).0 outputs in (
        kept_on,
        (
          Made (ring.producer_now (whole_ring earlier old)) (grants w (whole_ring earlier old).history),
          refl,
          (few, refl, refl, moved (λ v v'. ring.Outputs v v' w bytes) (whole_ring earlier old) (whole_ring earlier new) whole.2 (stands-whole earlier new kept_on stands)),
        ),
      )

  pub output-refused : (n : ℕ) (bytes : List ℕ) (flags : ℕ) (fault : ReserveFault) → w < old.chapter.opening.setup.workers → flags ≤ 3 → n ≡ length bytes → StandsForChapter new → RefusesInChapter old new w n fault → IsWholeAnswer (λ v v'. IsOutput v v' w bytes flags (negsuc 10)) old new
  output-refused n bytes flags Full there few long stands h = λ earlier kept. let full = full-kept (length bytes) there stands (subst (λ m. FindsFullByChapter old new w m) long h) earlier kept in (full.0, (NoRoom, refl, (few, full.1)))
  output-refused n bytes flags Flags there few long stands h = output-unlogged bytes flags few h
  output-refused n bytes flags ChapterFull there few long stands h = output-unlogged bytes flags few h.same
  output-refused n bytes flags Foreign there few long stands h = absurd h
  output-refused n bytes flags HandsFull there few long stands h = absurd h

-- ---- submits, discards and takes

module _ (s : KeptRing) (new : TaggedRing) (kept : IsKept (joined s.chapters) s.ring.state.ring.chapter) where
  abbrev after : KeptRing
  after = record s { ring = new }

  pub end-kept : (ending : RecordEnd) (hand : ℕ) (r : Granted) → EndsFromHand ending hand r s.ring.state new.state → IsKept (joined s.chapters) new.state.ring.chapter
  end-kept Submit hand r h = (calls-keep (joined s.chapters) s.ring.state.ring new.state.ring kept).submits r h.submits
  end-kept Discard hand r h = (calls-keep (joined s.chapters) s.ring.state.ring new.state.ring kept).discards r h.discards

  stepped-to : (step : Ring → Ring → Type 0) → step (world_ring s).ring (world_ring after).ring → IsKept (joined s.chapters) new.state.ring.chapter → StandsForChapter new.state.ring → RingSteps step [] (world_ring s) (world_ring after)
  stepped-to step stepped kept_on stands = record { stepped = stepped; stands = stands-whole (joined s.chapters) new.state.ring kept_on stands; taken_are = sym (append-nil s.taken) }

  pub ended : (ending : RecordEnd) (hand : ℕ) (r : Granted) → StandsForChapter new.state.ring → EndsFromHand ending hand r s.ring.state new.state → WorkerEnds ending r TakenAnswer (world_ring s) (world_ring after)
  ended Submit hand r stands h = stepped-to (λ v v'. ring.Submits v v' r) (((calls-alike (joined s.chapters) s.ring.state.ring new.state.ring kept.continues).submits r).0 h.submits).1 (end-kept Submit hand r h) stands
  ended Discard hand r stands h = stepped-to (λ v v'. ring.Discards v v' r) (((calls-alike (joined s.chapters) s.ring.state.ring new.state.ring kept.continues).discards r).0 h.discards).1 (end-kept Discard hand r h) stands

  pub take-stands : (found : Taken) → StandsForChapter new.state.ring → TakesByChapter s.ring.state.ring new.state.ring found → ring.Takes (world_ring s).ring (world_ring after).ring found × StandsFor (world_ring after).ring
  take-stands found stands h = (
    (((calls-alike (joined s.chapters) s.ring.state.ring new.state.ring kept.continues).takes found).0 h).1,
    stands-whole (joined s.chapters) new.state.ring ((calls-keep (joined s.chapters) s.ring.state.ring new.state.ring kept).takes found h) stands,
  )

pub query-whole : (s : KeptRing) (what : ℕ) → IsKept (joined s.chapters) s.ring.state.ring.chapter → query_answer_from s.ring.state.ring.chapter.opening s.ring.state.ring.chapter.entries what ≡ query_answer (world_ring s).ring.setup (world_ring s).ring.history what
query-whole s what kept =
    let c = s.ring.state.ring.chapter in
    ((goes-on c.opening.setup (joined s.chapters) c.opening kept.continues.earlier_legal kept.continues.opened c.entries).1 kept.continues.legal).query what

-- ---- chapters

pub same-chapters : (s : KeptRing) (new : TaggedRing) (taken : List Taken) → new.tag ≡ s.ring.tag → IsSameChapter s.ring.state.ring new.state.ring → chapters_of (record { ring = new; chapters = s.chapters; taken = taken }) ≡ chapters_of s
same-chapters s new taken tag same = λ i. (tag i, s.chapters, record (same i) { entries = [] })

joined-more : (cs : List Chapter) (c : Chapter) → joined (cs ++ c ∷ []) ≡ joined cs ++ c.entries
joined-more [] c = append-nil c.entries
joined-more (d ∷ cs) c = ap (λ l. d.entries ++ l) (joined-more cs c) ∙ sym (append_assoc d.entries (joined cs) c.entries)

module _ (s : KeptRing) (new : TaggedRing) (kept : IsKept (joined s.chapters) s.ring.state.ring.chapter) (out : Chapter) (h : HandsOut s.ring.state.ring new.state.ring out) where
  pub out-turned : new.tag ≡ s.ring.tag → new.state.hands ≡ s.ring.state.hands → HandsChapterOut out.number s (record s { ring = new; chapters = s.chapters ++ out ∷ [] })
  out-turned tag hands = record {
    number_is = ap (λ (c : Chapter). c.number) h.next.out_is;
    handed_out = subst (λ c. HandsOut s.ring.state.ring new.state.ring c) h.next.out_is h;
    hands_same = hands;
    tag_same = tag;
    kept = ap (λ c. s.chapters ++ c ∷ []) h.next.out_is;
    taken_same = refl;
  }
