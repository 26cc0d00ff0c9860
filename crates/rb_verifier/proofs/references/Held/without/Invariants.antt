use Rattle.std.proofs.Common.{◌≡◌, ◌≤◌, length, filter, take}
use Rattle.rb_verifier.specs.References.{other_than}
use Rattle.rb_verifier.proofs.references.Held.without.Given as goal

abbrev pub invariant-loop-reference : goal.invariant-loop-reference
invariant-loop-reference l = record {
  kept : l.items.items ≡ filter (other_than l.id) (take l.reference-index l.reference-items);
  inline : l.items.capacity ≡ 4;
  room : length l.items.items ≤ l.reference-index;
}
