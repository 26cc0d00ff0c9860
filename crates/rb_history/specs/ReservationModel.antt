-- The worker's view of a record that was granted to it: its three numbers, and its bytes, whose number is its length.
use Rattle.std.specs.Prelude.{ℕ, List}

pub record Granted : Type 0 where
  pub pos : ℕ
  pub worker : ℕ
  pub serial : ℕ
  pub bytes : List ℕ
