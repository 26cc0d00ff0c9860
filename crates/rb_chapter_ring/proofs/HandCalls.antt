-- Each call of a ring preserves its book of hands.
use Rattle.std.proofs.Common.{◌≡◌, ◌↔◌, ℕ, ◌<◌, List, [], ◌∷◌, ◌++◌, Some, None, length, sym, ap, subst}
use Rattle.rb_history.specs.declared.entries.Entry.{Entry}
use Rattle.rb_history.specs.declared.entries.Entry.TheVariants.{Res, Full, Sub, Dis, Take}
use Rattle.rb_history.specs.declared.answers.Taken.{Taken}
use Rattle.rb_history.specs.declared.answers.Taken.TheVariants.{Event, Skipped, BusyFront, Empty}
use Rattle.rb_history.specs.ReservationModel.{Granted}
use Rattle.rb_history.specs.RoomRule.{Setup}
use Rattle.rb_history.specs.Legal.{IsLegal}
use Rattle.rb_history.specs.RingModel.{Ring}
use Rattle.rb_history.specs.Calls.{IsBusy, Logs as WholeLogs}
use Rattle.rb_chapter_ring.specs.Chapters.{Chapter}
use Rattle.rb_chapter_ring.specs.ChapterRing.{whole_ring}
use Rattle.rb_chapter_ring.specs.ChapterCalls.{IsBusyFrom, TakesByChapter}
use Rattle.rb_chapter_ring.specs.WholeHistory.{ContinuesHistory, IsKept, AreKeepingCalls}
use Rattle.rb_chapter_ring.proofs.Stands.{goes-on}
use Rattle.rb_chapter_ring.proofs.Keeping.{calls-keep}
use Rattle.rb_chapter_ring.proofs.Alike.{calls-alike}
use Rattle.rb_chapter_ring.specs.Hands.{out_record, HandBook, with_hand, IsShaped, HoldsBusy, IsBookOf}
use Rattle.rb_chapter_ring.specs.HandRing.{HandRing, HasHands, HasInHand}
use Rattle.rb_chapter_ring.specs.HandLaws.{EntriesKeepBook, CallsKeepHands, EachCallKeepsHands, InHandIsBusy, BookIsWhole}
use Rattle.rb_chapter_ring.proofs.ChangedHands.{still-shaped}
use Rattle.rb_chapter_ring.proofs.BusyEntries.{book-goes-on, in-ring, below-four}

-- a book of the busy records by one definition is a book by an equivalent one
pub holds-same : (book : HandBook) (A B : ℕ → ℕ → ℕ → ℕ → Type 0) → ((p w k n : ℕ) → A p w k n ↔ B p w k n) → HoldsBusy book A → HoldsBusy book B
holds-same book A B same is = record {
  out_is_busy = λ w h o at. (same o.pos w o.serial o.len).0 (is.out_is_busy w h o at);
  busy_is_out = λ p w k n b. is.busy_is_out p w k n ((same p w k n).1 b);
  each_once = is.each_once;
}

module _ (earlier : List Entry) (c : Chapter) (is : ContinuesHistory earlier c) where
  pub whole-legal : IsLegal c.opening.setup (earlier ++ c.entries)
  whole-legal = (goes-on c.opening.setup earlier c.opening is.earlier_legal is.opened c.entries).0.0 is.legal

  pub busy-alike : (p w k n : ℕ) → IsBusyFrom c.opening c.entries p w k n ↔ IsBusy (earlier ++ c.entries) p w k n
  busy-alike = ((goes-on c.opening.setup earlier c.opening is.earlier_legal is.opened c.entries).1 is.legal).busy

  pub to-whole : (book : HandBook) → HoldsBusy book (IsBusyFrom c.opening c.entries) → IsBookOf book (earlier ++ c.entries)
  to-whole book = holds-same book (IsBusyFrom c.opening c.entries) (IsBusy (earlier ++ c.entries)) busy-alike

  pub from-whole : (book : HandBook) → IsBookOf book (earlier ++ c.entries) → HoldsBusy book (IsBusyFrom c.opening c.entries)
  from-whole book = holds-same book (IsBusy (earlier ++ c.entries)) (IsBusyFrom c.opening c.entries) (λ p w k n. ((busy-alike p w k n).1, (busy-alike p w k n).0))

pub book-is-whole : BookIsWhole
book-is-whole earlier v is shaped = ((λ has. to-whole earlier v.ring.chapter is v.hands has.holds), λ whole. record { shaped = shaped; holds = from-whole earlier v.ring.chapter is v.hands whole })

pub in-hand-is-busy : InHandIsBusy
in-hand-is-busy v hand r has at = has.holds.out_is_busy r.worker hand (out_record r.pos r.serial (length r.bytes)) at

module _ (earlier : List Entry) (old new : HandRing) (kept : IsKept earlier old.ring.chapter) (has : HasHands old) where
  h : List Entry
  h = earlier ++ old.ring.chapter.entries

  r : Setup
  r = old.ring.chapter.opening.setup

  abbrev Steps : Type 0
  Steps = EntriesKeepBook old.ring.chapter.opening.setup (earlier ++ old.ring.chapter.entries) old.hands

  steps : Steps
  steps = book-goes-on old.ring.chapter.opening.setup (earlier ++ old.ring.chapter.entries) old.hands (whole-legal earlier old.ring.chapter kept.continues) has.shaped (to-whole earlier old.ring.chapter kept.continues old.hands has.holds)

  -- the new book, if the new chapter continues the same history
  pub has-then : (book : HandBook) (added : List Entry) → IsKept earlier new.ring.chapter → WholeLogs (whole_ring earlier old.ring) (whole_ring earlier new.ring) added
      → new.hands ≡ book → IsShaped old.ring.chapter.opening.setup.workers book → IsBookOf book ((earlier ++ old.ring.chapter.entries) ++ added) → HasHands new
  has-then book added kept' logged same shaped is = record {
    shaped = subst (λ n. IsShaped n new.hands) (ap (λ (s : Setup). s.workers) (sym logged.setup_same)) (subst (IsShaped old.ring.chapter.opening.setup.workers) (sym same) shaped);
    holds = from-whole earlier new.ring.chapter kept'.continues new.hands (subst (λ b. IsBookOf b (earlier ++ new.ring.chapter.entries)) (sym same) (subst (IsBookOf book) (sym logged.history_is) is));
  }

  -- the entries may follow
  pub longer : (added : List Entry) → IsKept earlier new.ring.chapter → WholeLogs (whole_ring earlier old.ring) (whole_ring earlier new.ring) added
      → IsLegal old.ring.chapter.opening.setup ((earlier ++ old.ring.chapter.entries) ++ added)
  longer added kept' logged = subst (λ s. IsLegal s ((earlier ++ old.ring.chapter.entries) ++ added)) logged.setup_same (subst (IsLegal new.ring.chapter.opening.setup) logged.history_is (whole-legal earlier new.ring.chapter kept'.continues))

  keeping : AreKeepingCalls earlier old.ring new.ring
  keeping = calls-keep earlier old.ring new.ring kept

  same-has : new.ring ≡ old.ring → new.hands ≡ old.hands → HasHands new
  same-has ring hands = subst HasHands (λ i. record { ring = sym ring i; hands = sym hands i }) has

  takes-keep : (t : Taken) → TakesByChapter old.ring new.ring t → new.hands ≡ old.hands → HasHands new
  takes-keep (Event p w k b) t same =
      let kept' = keeping.takes (Event p w k b) t in
      let whole = ((calls-alike earlier old.ring new.ring kept.continues).takes (Event p w k b)).0 t in
      has-then old.hands (Take p ∷ []) kept' whole.1.logged same has.shaped (steps.takes p (longer (Take p ∷ []) kept' whole.1.logged))
  takes-keep (Skipped p n) t same =
      let kept' = keeping.takes (Skipped p n) t in
      let whole = ((calls-alike earlier old.ring new.ring kept.continues).takes (Skipped p n)).0 t in
      has-then old.hands (Take p ∷ []) kept' whole.1.logged same has.shaped (steps.takes p (longer (Take p ∷ []) kept' whole.1.logged))
  takes-keep BusyFront t same = same-has t.same same
  takes-keep Empty t same = same-has t.same same

  pub keep-hands : CallsKeepHands old new
  keep-hands = record {
    grants = λ w hand n p k low g.
        let kept' = keeping.grants w n p k low g.grants in
        let whole = ((calls-alike earlier old.ring new.ring kept.continues).grants w n p k low).0 g.grants in
        has-then (with_hand old.hands w hand (Some (out_record p k n))) (Res w k n p ∷ []) kept' whole.2.logged g.marked
        (still-shaped old.ring.chapter.opening.setup.workers old.hands has.shaped w hand low g.was_free.below (Some (out_record p k n)))
        (steps.grants w k n p hand (longer (Res w k n p ∷ []) kept' whole.2.logged) low g.was_free);
    finds_full = λ w n low f same.
        let kept' = keeping.finds_full w n low f in
        let whole = ((calls-alike earlier old.ring new.ring kept.continues).finds_full w n).0 f in
        has-then old.hands (Full w n ∷ []) kept' whole.2.logged same has.shaped (steps.refuses w n);
    finds_chapter_full = λ w n f same. same-has f.same same;
    outputs = λ w bytes low o same.
        let kept' = keeping.outputs w bytes low o in
        let whole = ((calls-alike earlier old.ring new.ring kept.continues).outputs w bytes low).0 o in
        has-then old.hands _ kept' whole.2.logged same has.shaped (steps.outputs w _ (length bytes) _ (longer _ kept' whole.2.logged));
    submits = λ hand g s.
        let whole = ((calls-alike earlier old.ring new.ring kept.continues).submits g).0 s.submits in
        given-back g hand (Sub g.pos ∷ []) s.was_out (keeping.submits g s.submits) whole.1.logged s.freed (steps.submits g.worker hand (out_record g.pos g.serial (length g.bytes)) s.was_out);
    discards = λ hand g s.
        let whole = ((calls-alike earlier old.ring new.ring kept.continues).discards g).0 s.discards in
        given-back g hand (Dis g.pos ∷ []) s.was_out (keeping.discards g s.discards) whole.1.logged s.freed (steps.discards g.worker hand (out_record g.pos g.serial (length g.bytes)) s.was_out);
    takes = takes-keep;
    hands_out = λ out x same.
        let kept' = keeping.hands_out out x in
        let whole = ((calls-alike earlier old.ring new.ring kept.continues).hands_out out).0 x in
        let history : (earlier ++ out.entries) ++ new.ring.chapter.entries ≡ earlier ++ old.ring.chapter.entries = ap (λ (v : Ring). v.history) whole.1 in
        let setup : new.ring.chapter.opening.setup ≡ old.ring.chapter.opening.setup = ap (λ (v : Ring). v.setup) whole.1 in
        record {
          shaped = subst (λ n. IsShaped n new.hands) (ap (λ (s : Setup). s.workers) (sym setup)) (subst (IsShaped old.ring.chapter.opening.setup.workers) (sym same) has.shaped);
          holds = from-whole (earlier ++ out.entries) new.ring.chapter kept'.continues new.hands (subst (λ b. IsBookOf b ((earlier ++ out.entries) ++ new.ring.chapter.entries)) (sym same) (subst (IsBookOf old.hands) (sym history) (to-whole earlier old.ring.chapter kept.continues old.hands has.holds)));
        };
  }
    where
      low-worker : (g : Granted) (hand : ℕ) → HasInHand old hand g → g.worker < old.ring.chapter.opening.setup.workers
      low-worker g hand at =
          let is = to-whole earlier old.ring.chapter kept.continues old.hands has.holds in
          let b = is.out_is_busy g.worker hand (out_record g.pos g.serial (length g.bytes)) at in
          in-ring old.ring.chapter.opening.setup (earlier ++ old.ring.chapter.entries) old.hands (whole-legal earlier old.ring.chapter kept.continues) has.shaped is g.worker g.serial (length g.bytes) g.pos b.granted_is

      low-hand : (g : Granted) (hand : ℕ) → g.worker < old.ring.chapter.opening.setup.workers → HasInHand old hand g → hand < 4
      low-hand g hand low at =
          below-four old.ring.chapter.opening.setup (earlier ++ old.ring.chapter.entries) old.hands (whole-legal earlier old.ring.chapter kept.continues) has.shaped (to-whole earlier old.ring.chapter kept.continues old.hands has.holds) g.worker hand (out_record g.pos g.serial (length g.bytes)) low at

      given-back : (g : Granted) (hand : ℕ) (added : List Entry) → HasInHand old hand g → IsKept earlier new.ring.chapter → WholeLogs (whole_ring earlier old.ring) (whole_ring earlier new.ring) added → new.hands ≡ with_hand old.hands g.worker hand None
          → IsBookOf (with_hand old.hands g.worker hand None) ((earlier ++ old.ring.chapter.entries) ++ added) → HasHands new
      given-back g hand added out kept' logged freed is =
          let low = low-worker g hand out in
          has-then (with_hand old.hands g.worker hand None) added kept' logged freed (still-shaped old.ring.chapter.opening.setup.workers old.hands has.shaped g.worker hand low (low-hand g hand low out) None) is

pub each-call-keeps-hands : EachCallKeepsHands
each-call-keeps-hands earlier old new kept has = keep-hands earlier old new kept has
