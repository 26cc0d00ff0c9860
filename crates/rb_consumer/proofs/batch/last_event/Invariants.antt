use Rattle.std.proofs.Common.{◌≡◌, ◌≤◌, [], filter, length, drop}
use Rattle.rb_consumer.specs.Batches.{is_event}
use Rattle.rb_consumer.proofs.batch.last_event.Given as goal

-- there is no event from this index on
abbrev pub invariant-loop-behind : goal.invariant-loop-behind
invariant-loop-behind l = record {
  within : l.behind ≤ length l.taken;
  none : filter is_event (drop l.behind l.taken) ≡ [];
}

abbrev pub decreases-loop-behind : goal.decreases-loop-behind
decreases-loop-behind l = l.behind
