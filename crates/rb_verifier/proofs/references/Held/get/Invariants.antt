use Rattle.std.proofs.Common.{◌≡◌, drop, find}
use Rattle.rb_verifier.specs.References.{has_id}
use Rattle.rb_verifier.proofs.references.Held.get.Given as goal

abbrev pub invariant-loop-reference : goal.invariant-loop-reference
invariant-loop-reference l = find (has_id l.id) (drop l.reference-index l.reference-items) ≡ find (has_id l.id) l.reference-items
