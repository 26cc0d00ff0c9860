use Rattle.std.proofs.Common.{◌≡◌, filter, length}
use Rattle.rb_consumer.specs.Batches.{is_event}
use Rattle.rb_consumer.proofs.batch_items.EventsIterator.next.Given as goal

-- the events that are left are those that were left initially
abbrev pub invariant-loop-self : goal.invariant-loop-self
invariant-loop-self l = filter is_event l.self-inside.rest.now ≡ l.fn.self

abbrev pub decreases-loop-self : goal.decreases-loop-self
decreases-loop-self l = length l.self-inside.rest.now
