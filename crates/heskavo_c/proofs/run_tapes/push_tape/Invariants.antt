use Rattle.std.proofs.Common.{◌≡◌, ◌++◌, take}
use Rattle.rb_history.specs.TapeBytes.{tape}
use Rattle.rb_world.specs.TakenTapes.{taken_items}
use Rattle.heskavo_c.proofs.run_tapes.push_tape.Given as goal

abbrev pub invariant-loop-taken : goal.invariant-loop-taken
invariant-loop-taken l = l.bytes.items ≡ l.initial.bytes.items ++ tape l.size (taken_items (take l.taken-index l.records))
