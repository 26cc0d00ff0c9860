use Rattle.std.proofs.Common.{◌≡◌, drop}
use Rattle.std.specs.List.{list_any}
use Rattle.rb_consumer.specs.Batches.{is_longer_event}
use Rattle.rb_consumer.proofs.batch.Batch.has_longer.Given as goal

-- the results that were examined contain no longer event
abbrev pub invariant-loop-answer : goal.invariant-loop-answer
invariant-loop-answer l = list_any (is_longer_event l.n) l.self.taken ≡ list_any (is_longer_event l.n) (drop l.answer-index l.self.taken)
