use Rattle.std.proofs.Common.{◌≡◌, ◌++◌, length, vec_capacity}
use Rattle.rb_history.specs.ManyTakes.{TakesEach, pushed}
use Rattle.rb_for_tests.proofs.plain_ring.PlainRing.take_many.Given as goal

-- this many records were taken, and appended to what was there
abbrev pub invariant-loop-count : goal.invariant-loop-count
invariant-loop-count l = record {
  same_ring : l.self.setup ≡ l.fn.self.setup;
  each : TakesEach l.fn.self (pushed l.fn.out.items l.out.items) l.self;
  kept : l.out.items ≡ l.fn.out.items ++ pushed l.fn.out.items l.out.items;
  count_is : l.count ≡ length (pushed l.fn.out.items l.out.items);
  capacity : vec_capacity l.out ≡ vec_capacity l.fn.out;
}
