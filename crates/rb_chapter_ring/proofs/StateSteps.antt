-- What the calls of a ring with hands preserve of its book, and of the ordinals beside it.
use Rattle.std.proofs.Common.{◌≡◌, ℕ, ◌-◌, ◌<◌, List, [], ◌++◌, Some, None, length, length-set, replicate, get_or, set, inl, inr, sym, ap, subst, ◌∙◌, arith}
use Rattle.rb_history.specs.RoomRule.{Setup}
use Rattle.rb_history.specs.declared.entries.Entry.{Entry}
use Rattle.rb_history.specs.ReservationModel.{Granted}
use Rattle.rb_history.specs.declared.answers.Taken.{Taken}
use Rattle.rb_history.specs.inner.RecordRows.{IsBusyAt}
use Rattle.rb_history.proofs.Row.{get_or-default}
use Rattle.rb_chapter_ring.specs.Chapters.{Chapter, closing_of, empty_ring}
use Rattle.rb_chapter_ring.specs.ChapterRing.{ChapterRing, IsGranted, StandsForChapter}
use Rattle.rb_chapter_ring.specs.ChapterCalls.{OutputsByChapter, TakesByChapter, HandsOut}
use Rattle.rb_chapter_ring.specs.WholeHistory.{IsKept}
use Rattle.rb_chapter_ring.specs.declared.faults.ReserveFault.{ReserveFault}
use Rattle.rb_chapter_ring.specs.declared.faults.ReserveFault.TheVariants.{Full, Flags, ChapterFull, Foreign, HandsFull}
use Rattle.rb_chapter_ring.proofs.Keeping.{calls-keep}
use Rattle.rb_chapter_ring.specs.OpenedRing.{opened_ring}
use Rattle.rb_chapter_ring.specs.RingFaults.{RefusesInChapter}
use Rattle.rb_chapter_ring.specs.inner.Ordinals.{IsHandState, HasBusyOrdinal, HasOrdinal, KeepsNumbers, ordinal_at, taken_before}
use Rattle.rb_chapter_ring.proofs.FreedHands.{freed-stays}
use Rattle.rb_chapter_ring.proofs.Ordinals.{busy-at-ordinal, opened-ordinals, ordinals-granted, ordinals-stay}
use Rattle.rb_chapter_ring.specs.declared.out_record.OutRecord.{OutRecord}
use Rattle.rb_chapter_ring.specs.Hands.{free_book, hand_at, hands_of, out_record, with_hand}
use Rattle.rb_chapter_ring.specs.HandRing.{HandRing, hand_ring, HasHands, HasInHand, GrantsToHand}
use Rattle.rb_chapter_ring.specs.RecordEnds.{EndsFromHand, Ends}
use Rattle.rb_chapter_ring.specs.declared.record_end.RecordEnd.{RecordEnd}
use Rattle.rb_chapter_ring.specs.declared.record_end.RecordEnd.TheVariants.{Submit, Discard}
use Rattle.rb_chapter_ring.proofs.BusyEntries.{in-ring, below-four}
use Rattle.rb_chapter_ring.proofs.FourHands.{book-begins-free}
use Rattle.rb_chapter_ring.proofs.HandCalls.{in-hand-is-busy, whole-legal, to-whole, keep-hands}

-- an occupied hand belongs to a worker of the ring, and is one of its four
pub record IsBelow (v : HandRing) (hand w : ℕ) : Type 0 where
  pub worker : w < v.ring.chapter.opening.setup.workers
  pub four : hand < 4

pub out-below : (earlier : List Entry) (v : HandRing) → IsKept earlier v.ring.chapter → HasHands v → (hand : ℕ) (r : Granted) → HasInHand v hand r → IsBelow v hand r.worker
out-below earlier v kept has hand r at =
    let is = to-whole earlier v.ring.chapter kept.continues v.hands has.holds in
    let legal = whole-legal earlier v.ring.chapter kept.continues in
    let b = is.out_is_busy r.worker hand (out_record r.pos r.serial (length r.bytes)) at in
    let low = in-ring v.ring.chapter.opening.setup _ v.hands legal has.shaped is r.worker r.serial (length r.bytes) r.pos b.granted_is in
    record { worker = low; four = below-four v.ring.chapter.opening.setup _ v.hands legal has.shaped is r.worker hand (out_record r.pos r.serial (length r.bytes)) low at }

-- a record in a hand has the ordinal that is stored for its hand
pub has-busy-ordinal : (earlier : List Entry) (v : HandRing) (ordinals : List (List ℕ)) → IsKept earlier v.ring.chapter → StandsForChapter v.ring → IsHandState v ordinals → (hand : ℕ) (r : Granted) → HasInHand v hand r
    → (w : ℕ) (row : List ℕ) → w ≡ r.worker → row ≡ get_or ordinals w row → HasBusyOrdinal v.ring r (get_or row hand 0)
has-busy-ordinal earlier v ordinals kept stands state hand r out w row mine row_is =
    let b = out-below earlier v kept state.has hand r out in
    let low : w < length ordinals = omega (arith, mine, b.worker, state.counted.workers) in
    let own : row ≡ get_or ordinals r.worker [] = row_is ∙ get_or-default ordinals w row [] low ∙ ap (λ u. get_or ordinals u []) mine in
    let number : get_or row hand 0 ≡ ordinal_at ordinals r.worker hand = ap (λ l. get_or l hand 0) own in
    let there = busy-at-ordinal earlier v.ring.chapter kept r (ordinal_at ordinals r.worker hand) (in-hand-is-busy v hand r state.has out) (state.counted.numbered r.worker hand (out_record r.pos r.serial (length r.bytes)) out) in
    record {
      passed = omega (arith, there.0, number);
      here = subst (λ ss. IsBusyAt ss (get_or row hand 0 - taken_before (closing_of v.ring.chapter)) r.pos (length r.bytes)) (sym stands.shown)
          (subst (λ n. IsBusyAt (closing_of v.ring.chapter).records n r.pos (length r.bytes)) (ap (λ n. n - taken_before (closing_of v.ring.chapter)) (sym number)) there.1);
    }

-- the commit of a record that was in a hand
pub ends-from : (end : RecordEnd) (old new : HandRing) (hand : ℕ) (r : Granted) → HasInHand old hand r → Ends end r old.ring new.ring → new.hands ≡ with_hand old.hands r.worker hand None → EndsFromHand end hand r old new
ends-from Submit old new hand r out ends freed = record { was_out = out; submits = ends; freed = freed }
ends-from Discard old new hand r out ends freed = record { was_out = out; discards = ends; freed = freed }

module _ (earlier : List Entry) (old new : HandRing) (kept : IsKept earlier old.ring.chapter) (has : HasHands old) where
  refused-keeps : (w n : ℕ) → w < old.ring.chapter.opening.setup.workers → (f : ReserveFault) → RefusesInChapter old.ring new.ring w n f → new.hands ≡ old.hands → HasHands new
  refused-keeps w n low Full a same = (keep-hands earlier old new kept has).finds_full w n low a same
  refused-keeps w n low ChapterFull a same = (keep-hands earlier old new kept has).finds_chapter_full w n a same
  refused-keeps w n low Flags a same = subst HasHands (λ i. hand_ring (sym a i) (sym same i)) has
  refused-keeps w n low Foreign a same = absurd a
  refused-keeps w n low HandsFull a same = absurd a

  granted-keeps : (w hand n p k : ℕ) → w < old.ring.chapter.opening.setup.workers → GrantsToHand old new w hand n p k → HasHands new
  granted-keeps = (keep-hands earlier old new kept has).grants

  output-keeps : (w : ℕ) (bytes : List ℕ) → w < old.ring.chapter.opening.setup.workers → OutputsByChapter old.ring new.ring w bytes → new.hands ≡ old.hands → HasHands new
  output-keeps = (keep-hands earlier old new kept has).outputs

  taken-keeps : (t : Taken) → TakesByChapter old.ring new.ring t → new.hands ≡ old.hands → HasHands new
  taken-keeps = (keep-hands earlier old new kept has).takes

  handed-keeps : (out : Chapter) → HandsOut old.ring new.ring out → new.hands ≡ old.hands → HasHands new
  handed-keeps = (keep-hands earlier old new kept has).hands_out

-- ---- the ordinals

refused-kept : (earlier : List Entry) (old new : ChapterRing) → IsKept earlier old.chapter → (w n : ℕ) → w < old.chapter.opening.setup.workers → (f : ReserveFault) → RefusesInChapter old new w n f → IsKept earlier new.chapter
refused-kept earlier old new kept w n low Full a = (calls-keep earlier old new kept).finds_full w n low a
refused-kept earlier old new kept w n low ChapterFull a = (calls-keep earlier old new kept).finds_chapter_full w n a
refused-kept earlier old new kept w n low Flags a = subst (λ (r : ChapterRing). IsKept earlier r.chapter) (sym a) kept
refused-kept earlier old new kept w n low Foreign a = absurd a
refused-kept earlier old new kept w n low HandsFull a = absurd a

module _ (earlier : List Entry) (old new : HandRing) (ordinals : List (List ℕ)) (kept : IsKept earlier old.ring.chapter) (state : IsHandState old ordinals) (keeps : KeepsNumbers old.ring.chapter new.ring.chapter) where
  -- the number of workers does not change
  as-many : HasHands new → length new.hands ≡ length old.hands → new.ring.chapter.opening.setup.workers ≡ old.ring.chapter.opening.setup.workers
  as-many has long = sym has.shaped.each_worker ∙ long ∙ state.has.shaped.each_worker

  stays : (later : List Entry) → IsKept later new.ring.chapter → HasHands new → new.hands ≡ old.hands → IsHandState new ordinals
  stays later kept_on has same = record {
    has = has;
    counted = ordinals-stay earlier old new ordinals kept state.counted later kept_on has keeps (as-many has (ap length same)) (λ w h o is. ap (λ b. hand_at b w h) (sym same) ∙ is);
  }

  frees : IsKept earlier new.ring.chapter → HasHands new → (hand : ℕ) (r : Granted) → HasInHand old hand r → new.hands ≡ with_hand old.hands r.worker hand None → IsHandState new ordinals
  frees kept_on has hand r out freed =
      let b = out-below earlier old kept state.has hand r out in
      record {
        has = has;
        counted = ordinals-stay earlier old new ordinals kept state.counted earlier kept_on has keeps (as-many has (ap length freed ∙ length-set old.hands r.worker (set (hands_of old.hands r.worker) hand None)))
            (λ w h o is. freed-stays old.ring.chapter.opening.setup.workers old.hands state.has.shaped r.worker hand b.worker b.four w h o (ap (λ k. hand_at k w h) (sym freed) ∙ is));
      }

  pub refused-holds : (w n : ℕ) → w < old.ring.chapter.opening.setup.workers → (f : ReserveFault) → RefusesInChapter old.ring new.ring w n f → new.hands ≡ old.hands → IsHandState new ordinals
  refused-holds w n low f a same = stays earlier (refused-kept earlier old.ring new.ring kept w n low f a) (refused-keeps earlier old new kept state.has w n low f a same) same

  pub granted-holds : (w hand n p k m : ℕ) → w < old.ring.chapter.opening.setup.workers → GrantsToHand old new w hand n p k → HasOrdinal (closing_of new.ring.chapter) p m → IsHandState new (set ordinals w (set (get_or ordinals w []) hand m))
  granted-holds w hand n p k m low g number =
      let kept_on = (calls-keep earlier old.ring new.ring kept).grants w n p k low g.grants in
      let has = granted-keeps earlier old new kept state.has w hand n p k low g in
      record {
        has = has;
        counted = ordinals-granted earlier old new ordinals kept state.counted earlier kept_on has keeps w hand m (out_record p k n) low g.was_free.below (as-many has (ap length g.marked ∙ length-set old.hands w (set (hands_of old.hands w) hand (Some (out_record p k n))))) state.has.shaped g.marked number;
      }

  pub ended-holds : (end : RecordEnd) (hand : ℕ) (r : Granted) → EndsFromHand end hand r old new → IsHandState new ordinals
  ended-holds Submit hand r h = frees ((calls-keep earlier old.ring new.ring kept).submits r h.submits) ((keep-hands earlier old new kept state.has).submits hand r h) hand r h.was_out h.freed
  ended-holds Discard hand r h = frees ((calls-keep earlier old.ring new.ring kept).discards r h.discards) ((keep-hands earlier old new kept state.has).discards hand r h) hand r h.was_out h.freed

  pub output-holds : (w : ℕ) (bytes : List ℕ) → w < old.ring.chapter.opening.setup.workers → OutputsByChapter old.ring new.ring w bytes → new.hands ≡ old.hands → IsHandState new ordinals
  output-holds w bytes low made same = stays earlier ((calls-keep earlier old.ring new.ring kept).outputs w bytes low made) (output-keeps earlier old new kept state.has w bytes low made same) same

  pub taken-holds : (t : Taken) → TakesByChapter old.ring new.ring t → new.hands ≡ old.hands → IsHandState new ordinals
  taken-holds t takes same = stays earlier ((calls-keep earlier old.ring new.ring kept).takes t takes) (taken-keeps earlier old new kept state.has t takes same) same

  pub handed-holds : (out : Chapter) → HandsOut old.ring new.ring out → new.hands ≡ old.hands → IsHandState new ordinals
  handed-holds out handed same = stays (earlier ++ out.entries) ((calls-keep earlier old.ring new.ring kept).hands_out out handed) (handed-keeps earlier old new kept state.has out handed same) same

-- a new ring has free hands
opened-has : (room : ℕ) (r : Setup) → HasHands (hand_ring (opened_ring room r) (free_book r.workers))
opened-has room r =
    let begins = book-begins-free r.workers in
    record {
      shaped = begins.0;
      holds = record {
        out_is_busy = λ w h o at. let none : (begins.1.out_is_busy w h o at).granted_is.0 < 0 = (begins.1.out_is_busy w h o at).granted_is.1 in absurd (omega arith);
        busy_is_out = λ p w k n b. absurd (not-busy p w k n b.granted_is);
        each_once = begins.1.each_once;
      };
    }
  where
    not-busy : (p w k n : ℕ) → IsGranted (empty_ring r) [] w k n p → ⊥
    not-busy p w k n g = elim g [
      | inl shown ↦ absurd (omega (arith, shown.1.1))
      | inr more ↦ absurd (omega (arith, more.1))
    ]

opened-then : (room : ℕ) (r : Setup) (v : HandRing) → v.ring ≡ opened_ring room r → v.hands ≡ free_book r.workers → HasHands v
opened-then room r v ring hands = subst HasHands (λ i. hand_ring (sym ring i) (sym hands i)) (opened-has room r)

none-out : (workers w h : ℕ) (o : OutRecord) → hand_at (free_book workers) w h ≡ Some o → ⊥
none-out workers w h o at =
    let b = (book-begins-free workers).1.out_is_busy w h o at in
    let none : b.granted_is.0 < 0 = b.granted_is.1 in
    absurd (omega (arith, none))

pub opened-holds : (room : ℕ) (r : Setup) (v : HandRing) (ordinals : List (List ℕ)) → v.ring ≡ opened_ring room r → v.hands ≡ free_book r.workers → ordinals ≡ replicate r.workers (replicate 4 0) → IsHandState v ordinals
opened-holds room r v ordinals ring hands are = record {
  has = opened-then room r v ring hands;
  counted = opened-ordinals v ordinals r.workers are (ap (λ (x : ChapterRing). x.chapter.opening.setup.workers) ring) (λ w h o at. none-out r.workers w h o (ap (λ b. hand_at b w h) (sym hands) ∙ at));
}
