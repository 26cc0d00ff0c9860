use Rattle.std.proofs.Common.{◌≡◌, ◌-◌, ◌≤◌, ◌++◌, length, take, map}
use Rattle.rb_source.proofs.list_source.append.Given as goal

-- the counted contexts were appended
abbrev pub invariant-loop-count : goal.invariant-loop-count
invariant-loop-count l = record {
  within : l.count ≤ length l.contexts;
  appended : l.piece ≡ record l.initial.piece { contexts = l.initial.piece.contexts ++ map (λ v. v.items) (take l.count l.contexts) };
}

abbrev pub decreases-loop-count : goal.decreases-loop-count
decreases-loop-count l = length l.contexts - l.count
