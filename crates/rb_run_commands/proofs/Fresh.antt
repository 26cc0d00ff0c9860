-- Newly opened rings.
use Rattle.std.proofs.Common.{◌≡◌, ℕ, List, [], ◌∷◌, ◌++◌, map, refl, sym, ◌∙◌}
use Rattle.std.proofs.lemmas.List.{same_from_push}
use Rattle.atomic_table.specs.Seated.{TableId}
use Rattle.rb_ledger.specs.Roles.{Book}
use Rattle.rb_ledger.specs.Seats.{Shared, WorkerSeat, fresh_seat, fresh_seats}
use Rattle.rb_jobs.specs.SeatHelpers.{AtRings}
use Rattle.rb_run_commands.specs.DrainedRings.{AreConsumersOf}
use Rattle.rb_run_commands.specs.FreshRings.{fresh_worker, fresh_taker}

-- the last seat of a ring for one worker is its only seat
pub one_seat : (tag : ℕ) (ring : TableId) (room : ℕ) (seen : Book) (seats rest : List WorkerSeat) (seat : WorkerSeat) → seats ≡ fresh_seats tag ring room seen 0 1 → seats ≡ rest ++ seat ∷ [] → seat ≡ fresh_seat tag ring room 0 seen
one_seat tag ring room seen seats rest seat is parts = (same_from_push rest [] seat (fresh_seat tag ring room 0 seen) (sym parts ∙ is)).1

pub fresh_at : (rings : List Shared) → AtRings rings (map fresh_worker rings)
fresh_at [] = tt
fresh_at (ring ∷ rings) = ((refl, refl), fresh_at rings)

pub fresh_consumers : (rings : List Shared) → AreConsumersOf rings (map fresh_taker rings)
fresh_consumers [] = tt
fresh_consumers (ring ∷ rings) = ((refl, refl), fresh_consumers rings)
