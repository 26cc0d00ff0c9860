use Rattle.std.proofs.Common.{take}
use Rattle.rb_insn.specs.Spelling.{SpellsAll}
use Rattle.rb_program.specs.Program.{units_of}
use Rattle.rb_program.specs.DecodedUnits.{insns_in}
use Rattle.rb_program.proofs.codec.encode.Given as goal

abbrev pub invariant-loop-unit : goal.invariant-loop-unit
invariant-loop-unit l = SpellsAll (insns_in (take l.unit (units_of l.program))) l.bytes.items
