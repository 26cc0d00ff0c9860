-- The ledger (the ring under the lock, and all bytes that were ever submitted), and what agrees with it (own).
use Rattle.std.specs.Prelude.{◌<◌}
use Rattle.rb_history.specs.Legal.{IsLegal}
use Rattle.rb_history.specs.RoomRule.{Setup}
use Rattle.rb_history.specs.RingModel.{Ring, Contents, StandsFor, IsWithinBounds}
use Rattle.rb_ledger.specs.Roles.{Role, book_of, ExtendsSeen}
use Rattle.rb_ledger.specs.Roles.Role.{Consumer, Worker}
use Rattle.rb_ledger.specs.RoleKnowledge.{RoleKnowledge}
use Rattle.rb_ledger.specs.SentBytes.{IsWithin, AreSubmitted, IsAllSentBy}

-- the ring under the lock, and the bytes of all records that were ever submitted, by position
pub record Ledger : Type 0 where
  pub ring : Ring
  pub sent : Contents

-- the invariant of a ring that is made by calls
pub record IsRing (r : Ring) : Type 0 where
  pub legal : IsLegal r.setup r.history
  pub stands : StandsFor r
  pub bounded : IsWithinBounds r

-- what is in the ring was sent, and only submitted records were
pub record IsSoundLedger (s : Ledger) : Type 0 where
  pub is_ring : IsRing s.ring
  pub within : IsWithin s.ring.contents s.sent
  pub submitted : AreSubmitted s.ring.history s.sent

abbrev pub IsRoleIn : Setup → Role → Type 0
IsRoleIn setup Consumer = Unit {0}
IsRoleIn setup (Worker w) = w < setup.workers

-- the bytes that a worker sent are everything that was sent of its records; what the consumer received was sent
abbrev pub BytesFit : Ledger → Role → Contents → Type 0
BytesFit s Consumer got = IsWithin got s.sent
BytesFit s (Worker w) sent = IsAllSentBy w s.ring.history s.sent sent

-- What a role knows agrees with the ledger: the ring continues what the role saw, with no entry of its own, and its
-- bytes are those that were sent.
pub record FitsLedger (s : Ledger) (k : RoleKnowledge) : Type 0 where
  pub sound : IsSoundLedger s
  pub is_role : IsRoleIn s.ring.setup k.role
  pub goes_on : ExtendsSeen k.role k.seen (book_of s.ring)
  pub bytes_fit : BytesFit s k.role k.bytes
