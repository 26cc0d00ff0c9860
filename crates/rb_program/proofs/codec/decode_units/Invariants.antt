use Rattle.std.proofs.Common.{◌-◌, length}
use Rattle.rb_program.specs.inner.Decoded.{IsDecoded}
use Rattle.rb_program.proofs.codec.decode_units.Given as goal

abbrev pub invariant-loop-units : goal.invariant-loop-units
invariant-loop-units l = IsDecoded l.bytes l.units.items

abbrev pub decreases-loop-units : goal.decreases-loop-units
decreases-loop-units l = l.count - length l.units.items
