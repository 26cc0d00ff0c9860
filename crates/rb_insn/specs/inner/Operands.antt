-- The fields of an instruction's first unit that encode the second operand.
use Rattle.std.specs.Prelude.{ℕ}
use Rattle.rb_insn.specs.declared.insn.Operand.{Operand}
use Rattle.rb_insn.specs.declared.insn.Operand.TheVariants.{Immediate, Register}
use Rattle.rb_insn.specs.Opcodes.{source_k, source_x}
use Rattle.rb_insn.specs.Spelling.{bits32}

abbrev pub source_of : Operand → ℕ
source_of (Immediate value) = source_k
source_of (Register src) = source_x

abbrev pub src_of : Operand → ℕ
src_of (Immediate value) = 0
src_of (Register src) = src.number

abbrev pub imm_of : Operand → ℕ
imm_of (Immediate value) = bits32 value
imm_of (Register src) = 0
