use Rattle.std.proofs.Common.{◌<◌}
use Rattle.std.specs.List.{AllWithin}
use Rattle.rb_program_rows.proofs.states.are_earlier.Given as goal

abbrev pub invariant-loop-reference : goal.invariant-loop-reference
invariant-loop-reference l = AllWithin (λ r. r.id < l.unit) l.reference-items 0 l.reference-index
