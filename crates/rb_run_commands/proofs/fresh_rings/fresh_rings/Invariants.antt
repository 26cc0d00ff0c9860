use Rattle.std.proofs.Common.{◌≡◌, length, map}
use Rattle.rb_run_commands.specs.FreshRings.{AreNumbered, fresh_taker, fresh_worker}
use Rattle.rb_run_commands.proofs.fresh_rings.fresh_rings.Given as goal

abbrev pub invariant-loop-tag : goal.invariant-loop-tag
invariant-loop-tag g l = record {
  len : length l.rings.items ≡ l.tag;
  numbered : AreNumbered l.tag l.rings.items;
  seats : l.seats.items ≡ map fresh_worker l.rings.items;
  consumers : l.consumers.items ≡ map fresh_taker l.rings.items;
}
