use Rattle.std.proofs.Common.{◌≡◌, map, take}
use Rattle.rb_engine.specs.OpenedEngine.{fresh_ring}
use Rattle.rb_engine.proofs.engine.open_rings.Given as goal

abbrev pub invariant-loop-number : goal.invariant-loop-number
invariant-loop-number l = l.rings.items ≡ map fresh_ring (take l.number l.sizes)
