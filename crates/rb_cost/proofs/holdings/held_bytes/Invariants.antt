use Rattle.std.proofs.Common.{◌≡◌, ◌≤◌, ◌*◌, ◌^◌, take}
use Rattle.std.specs.Prelude.{sum_by}
use Rattle.rb_cost.specs.Requests.{held_span}
use Rattle.rb_cost.proofs.holdings.held_bytes.Given as goal

abbrev pub invariant-loop-reference : goal.invariant-loop-reference
invariant-loop-reference l = record {
  sum : l.bytes ≡ sum_by (held_span l.ring) (take l.reference-index l.references);
  small : l.bytes ≤ l.reference-index * 2 ^ 33;
}
