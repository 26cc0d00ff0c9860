-- What a worker holds for a record that was granted into one of its hands (own).
use Rattle.std.specs.Prelude.{ℕ}
use Rattle.rb_history.specs.ReservationModel.{Granted}

-- the ring's tag, the worker's hand, and the record's numbers and bytes
pub record HandGranted : Type 0 where
  pub tag : ℕ
  pub hand : ℕ
  pub granted : Granted
