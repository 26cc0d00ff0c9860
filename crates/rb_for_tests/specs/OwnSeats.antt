-- A shared ring with its own seats (own).
use Rattle.std.specs.Prelude.{◌≡◌, All}
use Rattle.rb_for_tests.specs.declared.open_ring.OpenRing.{OpenRing}

-- all seats and the consumer's seat belong to the ring
pub record HasOwnSeats (o : OpenRing) : Type 0 where
  pub seats : All (λ s. s.ring ≡ o.ring.ring) o.seats.items
  pub consumer : o.consumer.ring ≡ o.ring.ring
