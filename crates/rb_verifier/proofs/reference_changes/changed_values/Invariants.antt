use Rattle.std.proofs.Common.{◌≡◌, ◌++◌, map, take, drop, length}
use Rattle.rb_verifier.specs.inner.ChangedValues.{after_change}
use Rattle.rb_verifier.proofs.reference_changes.changed_values.Given as goal

abbrev pub invariant-loop-i : goal.invariant-loop-i
invariant-loop-i l = record {
  count : length l.values ≡ 11;
  mapped : l.values ≡ map (after_change l.change) (take l.i l.fn.values) ++ drop l.i l.fn.values;
}
