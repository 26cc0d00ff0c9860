-- The law of bytes that are written in a range.
use Rattle.std.specs.Prelude.{◌≡◌, ℕ, ◌+◌, ◌≤◌, List, length, take, drop}
use Rattle.rb_lend.specs.Ranges.{written_at}

-- writing `new` at `off` keeps the length and the bytes before and after the range, and puts `new` in between
pub record WritesAlone (off : ℕ) (old new : List ℕ) : Type 0 where
  pub size : length (written_at off old new) ≡ length old
  pub before : take off (written_at off old new) ≡ take off old
  pub between : take (length new) (drop off (written_at off old new)) ≡ new
  pub behind : drop (off + length new) (written_at off old new) ≡ drop (off + length new) old

-- writing a range that lies inside changes nothing else
abbrev pub RangesAreAlone : Type 0
RangesAreAlone = (off : ℕ) (old new : List ℕ) → off + length new ≤ length old → WritesAlone off old new
