-- The law of bytes that are written in a range.
use Rattle.std.proofs.Common.{◌≡◌, sym, ap, ◌∙◌, ℕ, ◌+◌, ◌≤◌, List, ◌++◌, length, take, drop, arith, drop-drop}
use Rattle.std.proofs.Math.Seq.{drop-append_seam}
use Rattle.std.proofs.lemmas.Grind.{common_steps}
use Rattle.rb_lend.specs.Ranges.{written_at}
use Rattle.rb_lend.specs.RangeLaws.{RangesAreAlone}

pub size_kept : (off : ℕ) (old new : List ℕ) → off + length new ≤ length old → length (written_at off old new) ≡ length old
size_kept off old new inside = grind (arith, common_steps)

before_kept : (off : ℕ) (old new : List ℕ) → off + length new ≤ length old → take off (written_at off old new) ≡ take off old
before_kept off old new inside = grind (arith, common_steps)

between_new : (off : ℕ) (old new : List ℕ) → off + length new ≤ length old → take (length new) (drop off (written_at off old new)) ≡ new
between_new off old new inside = grind (arith, common_steps)

from_seam : (off : ℕ) (old new : List ℕ) → off + length new ≤ length old → drop off (written_at off old new) ≡ new ++ drop (length new) (drop off old)
from_seam off old new inside = grind (arith, common_steps)

behind_kept : (off : ℕ) (old new : List ℕ) → off + length new ≤ length old → drop (off + length new) (written_at off old new) ≡ drop (off + length new) old
behind_kept off old new inside =
    sym (drop-drop (length new) off (written_at off old new)) ∙ ap (drop (length new)) (from_seam off old new inside)
    ∙ drop-append_seam new (drop (length new) (drop off old)) ∙ drop-drop (length new) off old

pub ranges_are_alone : RangesAreAlone
ranges_are_alone off old new inside =
    record { size = size_kept off old new inside; before = before_kept off old new inside; between = between_new off old new inside; behind = behind_kept off old new inside }
