-- A new ring.
use Rattle.std.proofs.Common.{◌≡◌, ℕ, [], refl, sym, ap, subst, arith}
use Rattle.std.proofs.lemmas.List.Elements.{All-nil}
use Rattle.rb_history.specs.RoomRule.{Setup}
use Rattle.rb_history.specs.RingModel.{IsRingSize, IsStartPosition, IsWorkerCount}
use Rattle.rb_history.specs.StoredRecords.{IsSized}
use Rattle.rb_chapter_ring.specs.Chapters.{IsChapterRoom, closing_of, empty_ring, first_chapter}
use Rattle.rb_chapter_ring.proofs.Empty.{empty-kept}
use Rattle.rb_chapter_ring.proofs.Running.{closing-none}
use Rattle.rb_chapter_ring.proofs.CountSteps.{zero_counts}
use Rattle.rb_chapter_ring.specs.inner.Ordinals.{taken_before}
use Rattle.rb_chapter_ring.specs.inner.RingBody.{IsStored, IsRingOf}

-- the summary at the end of its chapter
pub begins-closing : (room : ℕ) (r : Setup) → closing_of (first_chapter room r) ≡ empty_ring r
begins-closing room r = closing-none [] (first_chapter room r) (empty-kept room r).continues refl

pub begins : (room : ℕ) (r : Setup) → IsRingSize r.size → IsStartPosition r.start → IsWorkerCount r.workers → IsChapterRoom room → IsRingOf [] (first_chapter room r) [] zero_counts
begins room r size start workers fits =
    let kept = empty-kept room r in
    let stands : IsStored r.size (empty_ring r) [] = record {
      limit = omega (arith, start.1);
      space = omega arith;
      aligned = start.0;
      shown = refl;
      behind = omega arith;
    } in
    record {
      kept = kept;
      size = size;
      start = start;
      workers = workers;
      chapter_room = fits;
      stands = subst (λ o. IsStored r.size o []) (sym (begins-closing room r)) stands;
      sized = All-nil IsSized;
      counted = refl;
      granted = ap taken_before (sym (begins-closing room r));
    }
