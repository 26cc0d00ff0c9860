use Rattle.std.proofs.Common.{rules, ◌≡◌, ◌/◌, ◌≤◌, ℕ, [], length, map, refl, sym, ap, ◌∙◌, subst}
use Rattle.std.specs.Int.{IsPowerOfTwo}
use Rattle.rb_history.specs.RingModel.{IsRingSize, IsStartPosition, IsWorkerCount}
use Rattle.rb_history.specs.RoomRule.{Setup}
use Rattle.rb_history.specs.StoredRecords.{shown_record, contents_of}
use Rattle.rb_chapter_ring.specs.Chapters.{Chapter, IsChapterRoom, closing_of, first_chapter}
use Rattle.rb_chapter_ring.specs.HandRing.{hand_ring}
use Rattle.rb_chapter_ring.specs.OpenedRing.{opened_ring}
use Rattle.rb_chapter_ring.specs.inner.RingBody.{ring_of, stored_in, stored_of}
use Rattle.rb_chapter_ring.proofs.Begins.{begins-closing, begins}
use Rattle.rb_chapter_ring.proofs.CountSteps.{zero_counts}
use Rattle.rb_chapter_ring.proofs.Keeps.{transport-ring}
use Rattle.rb_chapter_ring.proofs.StateSteps.{opened-holds}
use Rattle.rb_chapter_ring.proofs.ring.RingState.new.Goals as goal

pub invariant_of-result : goal.invariant_of-result
invariant_of-result c =
    let r : Setup = record { size = c.args.size; start = c.args.start; workers = c.args.workers } in
    let size : IsRingSize c.args.size = search rules in
    let start : IsStartPosition c.args.start = search rules in
    let workers : IsWorkerCount c.args.workers = search rules in
    let room : IsChapterRoom c.args.room = search rules in
    let chapter : c.open_first.new.self ≡ first_chapter c.args.room r =
    c.open_first.ensures.first ∙ ap (λ (x : Chapter). first_chapter x.room (record { size = c.args.size; start = c.args.start; workers = x.opening.setup.workers })) c.in_ok-chapter.ensures.empty in
    let sheets = c.in_ok-empty_sheets.field-0.items in
    let many : length sheets ≡ c.slots_for.result = c.in_ok-empty_sheets.ensures.many in
    let none : [] ≡ stored_of c.open_first.new.self sheets = sym (ap (λ d. stored_of d sheets) chapter ∙ ap (λ o. stored_in o sheets) (begins-closing c.args.room r)) in
    let slots : (n : ℕ) → n ≤ c.args.size / 8 → n ≤ c.args.room → n ≤ length sheets = λ n within low. subst (λ x. n ≤ x) (sym many) (c.slots_for.ensures.slots n within low) in
    let closing = ap closing_of chapter ∙ begins-closing c.args.room r in
    let opened : ring_of c.open_first.new.self (stored_of c.open_first.new.self sheets) ≡ opened_ring c.args.room r =
    λ j. record { chapter = chapter j; contents = contents_of (sym none j); shown = map shown_record (sym none j); producer = (closing j).producer; consumer = (closing j).consumer } in
    record {
      parts = record {
        earlier = [];
        counts = zero_counts;
        refused_is = refl;
        discarded_is = refl;
        ring = transport-ring _ _ _ _ _ _ [] (sym chapter) none refl (begins c.args.room r size start workers room);
        power = subst IsPowerOfTwo (sym many) c.slots_for.ensures.power;
        slots = subst (λ (d : Chapter). (n : ℕ) → n ≤ d.opening.setup.size / 8 → n ≤ d.room → n ≤ length sheets) (sym chapter) slots;
      };
      hands = opened-holds c.args.room r (hand_ring (ring_of c.open_first.new.self (stored_of c.open_first.new.self sheets)) c.in_ok-free_table.field-0.items) c.in_ok-no_ordinals.field-0.items opened c.in_ok-free_table.ensures.free c.in_ok-no_ordinals.ensures.rows;
    }
