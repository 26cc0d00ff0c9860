use Rattle.rb_ring_rows.proofs.OwnSeats.{opened_consumer, opened_own}
use Rattle.rb_ring_rows.proofs.shared_rings.SharedPlace.open.Goals as goal

pub invariant_of-result : goal.invariant_of-result
invariant_of-result g c =
    record {
      own_seats = opened_own c.in-Ok.ring c.args.tag _ _ _ _ c.in-Ok.ensures.tag c.in-Ok.ensures.seats;
      own_consumer = opened_consumer c.in-Ok.ring c.args.tag _ _ _ c.in-Ok.ensures.tag c.in-Ok.ensures.consumer;
    }
