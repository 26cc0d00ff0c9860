-- The parts of a record on a tape, as they are written.
use Rattle.std.specs.Prelude.{ℕ, List, []}
use Rattle.rb_history.specs.TapeBytes.{Item}
use Rattle.rb_history.specs.TapeBytes.Item.{Event, Skip}

-- the bytes between the header and the padding zeros
abbrev pub bytes_before_zeros : Item → List ℕ
bytes_before_zeros (Event position bytes) = bytes
bytes_before_zeros (Skip position len) = []
