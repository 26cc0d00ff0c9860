use Rattle.std.proofs.Common.{◌≡◌, ◌<◌, ◌∙◌, length, arith}
use Rattle.rb_semantics.specs.ProgramStates.{State, register, operand_in}
use Rattle.rb_semantics.specs.Instructions.{execute_arithmetic}
use Rattle.rb_interp.specs.ShownState.{state_of}
use Rattle.rb_interp.proofs.Renumbering.{arithmetic_gives, near-meant}
use Rattle.rb_interp.proofs.cpu.Cpu.execute_arithmetic.Goals as goal

pub renumber_and_advance-requires-clause-meant : goal.renumber_and_advance-requires-clause-meant
renumber_and_advance-requires-clause-meant g c =
    let s : State = state_of g.R.Lent.bytes_of g.C.Context.shown c.args.self.now in
    let bound = c.args.dst.bounded in
    let count : length s.registers ≡ 11 = c.facts.ensures in
    let low : c.args.dst.number < length s.registers = omega (arith, bound, count) in
    let same = arithmetic_gives c.args.insn.now c.args.width c.args.op c.args.dst c.args.operand (register s c.args.dst.number) (operand_in s c.args.operand) c.number-a.result c.operand_number-b.result c.value.result s c.requires.insn c.number-a.type_inv
    c.operand_number-b.type_inv c.operand_number-b.ensures.said low c.number-a.ensures c.operand_number-b.ensures.kept c.value.ensures.value c.requires.meant in
    λ stuck. near-meant c.args.dst (execute_arithmetic c.args.width c.args.op c.args.insn.now c.args.dst (register s c.args.dst.number) (operand_in s c.args.operand) s) c.requires.meant (same ∙ stuck)

pub returns-clause-goes : goal.returns-clause-goes
returns-clause-goes g c =
    let s : State = state_of g.R.Lent.bytes_of g.C.Context.shown c.args.self.now in
    let bound = c.args.dst.bounded in
    let count : length s.registers ≡ 11 = c.facts.ensures in
    let low : c.args.dst.number < length s.registers = omega (arith, bound, count) in
    let same = arithmetic_gives c.args.insn.now c.args.width c.args.op c.args.dst c.args.operand (register s c.args.dst.number) (operand_in s c.args.operand) c.number-a.result c.operand_number-b.result c.value.result s c.requires.insn c.number-a.type_inv
    c.operand_number-b.type_inv c.operand_number-b.ensures.said low c.number-a.ensures c.operand_number-b.ensures.kept c.value.ensures.value c.requires.meant in
    same ∙ c.renumber_and_advance.ensures.goes
