use Rattle.std.proofs.Common.{◌≡◌, take, map, vec_len, vec_capacity}
use Rattle.rb_workers.proofs.ring_close.tallies_of.Given as goal

abbrev pub invariant-loop-seat : goal.invariant-loop-seat
invariant-loop-seat l = (vec_len l.row ≡ l.seat-index) × (vec_capacity l.row ≡ vec_capacity l.initial.row) × (l.row.items ≡ map (λ s. s.tally) (take l.seat-index l.seats))
