use Rattle.std.proofs.Common.{◌≡◌, ℕ, ◌<◌, length}
use Rattle.std.specs.Prelude.{slice_index_or}
use Rattle.rb_verifier.specs.Annotation.{state_at}
use Rattle.rb_cost.specs.Cost.{IsRingCost, no_ring_cost}
use Rattle.rb_cost.proofs.program_cost.cost_under.Given as goal

abbrev pub invariant-loop-ring : goal.invariant-loop-ring
invariant-loop-ring l = record {
  count : length l.costs.items ≡ l.ring;
  each : (ring : ℕ) → ring < l.ring → IsRingCost l.program (state_at l.states) ring (slice_index_or l.costs.items ring no_ring_cost);
}
