use Rattle.std.proofs.Common.{◌≡◌, take}
use Rattle.std.specs.Prelude.{map}
use Rattle.rb_segments.specs.Known.{stored}
use Rattle.rb_segments.specs.MemorySegments.{memory_segment}
use Rattle.rb_segments.proofs.memory_store.listed.Given as goal

abbrev pub invariant-loop-at : goal.invariant-loop-at
invariant-loop-at l = l.list.items ≡ map stored (map memory_segment (take l.at l.closed.items))
