-- Text that is assembled in a buffer (own).
use Rattle.std.specs.Prelude.{ℕ, List}

-- the text, and the size of the buffer, including the text
pub record RoomForText : Type 0 where
  pub text : List ℕ
  pub room : ℕ
