-- The seats of all rings, as a table: a row for each ring, a column for each worker (own).
use Rattle.std.specs.Prelude.{ℕ, List, map, slice_get}
use Rattle.std.specs.List.{filter_map}
use Rattle.rb_ledger.specs.Seats.{WorkerSeat}
use Rattle.rb_workers.specs.declared.opened.Opened.{Opened}

-- the seats of all rings, a row for each ring
abbrev pub seat_rows : {S : Type 0} → List (Opened S) → List (List WorkerSeat)
seat_rows opened = map (λ o. o.seats.items) opened

-- a worker's seats, one of each row
abbrev pub worker_column : ℕ → List (List WorkerSeat) → List WorkerSeat
worker_column worker seats = filter_map (λ row. slice_get row worker) seats
