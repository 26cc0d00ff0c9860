use Rattle.rb_shared_ring.proofs.KeptReservations.{reservations-are-kept}
use Rattle.rb_shared_ring.proofs.kept_reservations.reservations_are_kept.Goals as goal

pub returns : goal.returns
returns c = record { law = reservations-are-kept }
