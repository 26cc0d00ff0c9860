use Rattle.std.specs.Prelude.{◌≡◌}
use Rattle.rb_workers.proofs.consumer_task.ConsumerTask.hand_on.Given as goal

abbrev pub invariant-loop : goal.invariant-loop
invariant-loop g l = (l.self.consumer ≡ l.initial.self.consumer) × (l.self.sink ≡ l.initial.self.sink) × (l.self.returned_seats ≡ l.initial.self.returned_seats) × (l.self.keeper ≡ l.initial.self.keeper)
