-- A ring of one thread, with the tag that its reservations name (own).
use Rattle.std.specs.Prelude.{ℕ}
use Rattle.rb_chapter_ring.specs.HandRing.{HandRing}

-- the ring's tag, and the ring with its book of hands
pub record TaggedRing : Type 0 where
  pub tag : ℕ
  pub state : HandRing
