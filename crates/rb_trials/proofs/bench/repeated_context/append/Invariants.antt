use Rattle.std.proofs.Common.{◌≡◌, ◌-◌, ◌+◌, length}
use Rattle.rb_trials.proofs.bench.repeated_context.append.Given as goal

-- the counted contexts were appended
abbrev pub invariant-loop-count : goal.invariant-loop-count
invariant-loop-count l = record {
  size : l.piece.ctx_len ≡ l.initial.piece.ctx_len;
  appended : length l.piece.contexts ≡ length l.initial.piece.contexts + l.count;
}

abbrev pub decreases-loop-count : goal.decreases-loop-count
decreases-loop-count l = l.most - l.count
