use Rattle.std.proofs.Common.{◌≡◌, map, take}
use Rattle.rb_verifier.specs.References.{tested_in}
use Rattle.rb_verifier.proofs.references.Held.tested.Given as goal

abbrev pub invariant-loop-reference : goal.invariant-loop-reference
invariant-loop-reference l = record {
  mapped : l.items.items ≡ map (tested_in l.id) (take l.reference-index l.reference-items);
  inline : l.items.capacity ≡ 4;
}
