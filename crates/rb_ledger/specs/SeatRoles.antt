-- The roles of seats that are gathered, and when a seat's counts are its own (own).
use Rattle.std.specs.Prelude.{List, [], ◌∷◌}
use Rattle.rb_ledger.specs.Roles.Role.{Worker}
use Rattle.rb_ledger.specs.RoleKnowledge.{RoleKnowledge, role_knowledge}
use Rattle.rb_ledger.specs.Seats.{WorkerSeat, Ties}

-- the roles of the seats, with what each has seen and sent
abbrev pub roles_of : List WorkerSeat → List RoleKnowledge
roles_of [] = []
roles_of (s ∷ ss) = role_knowledge (Worker s.worker) s.seen s.sent ∷ roles_of ss

-- the seat's counts are those of its worker's entries in what it has seen
abbrev pub HasOwnCounts : WorkerSeat → Type 0
HasOwnCounts s = Ties s.worker s.tally s.seen
