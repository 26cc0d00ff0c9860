-- Seats that are kept with the ring that they were opened with.
use Rattle.std.specs.Prelude.{◌≡◌, List, All}
use Rattle.rb_ledger.specs.Seats.{Shared, WorkerSeat}

-- the seat was opened with the ring
abbrev pub IsOwnSeat : Shared → WorkerSeat → Type 0
IsOwnSeat ring seat = (seat.tag ≡ ring.tag) × (seat.ring ≡ ring.ring)

-- all seats were opened with the ring
abbrev pub AreOwnSeats : Shared → List WorkerSeat → Type 0
AreOwnSeats ring seats = All (IsOwnSeat ring) seats
