use Rattle.std.proofs.Common.{◌∙◌, sym, ap}
use Rattle.rb_semantics.specs.ProgramStates.{State, register, operand_in}
use Rattle.rb_semantics.specs.Instructions.{goes_by_edge, edge_taken}
use Rattle.rb_interp.specs.ShownState.{state_of}
use Rattle.rb_interp.proofs.Comparing.{compared_numbers}
use Rattle.rb_interp.proofs.cpu.Cpu.execute_number_compare.Goals as goal

pub follow_branch-requires-clause-meant : goal.follow_branch-requires-clause-meant
follow_branch-requires-clause-meant g c =
    let s : State = state_of g.R.Lent.bytes_of g.C.Context.shown c.args.self.now in
    let same = compared_numbers c.args.insn.now (register s c.args.dst.number) (operand_in s c.args.operand) c.number-a.result c.operand_number-b.result s c.requires.meant c.number-a.ensures c.operand_number-b.ensures.kept in
    λ stuck. c.requires.meant (same ∙ (ap (λ b. goes_by_edge (edge_taken b) c.args.insn.now s) (sym c.jumps.ensures.jumps) ∙ stuck))

pub returns-clause-goes : goal.returns-clause-goes
returns-clause-goes g c =
    let s : State = state_of g.R.Lent.bytes_of g.C.Context.shown c.args.self.now in
    let same = compared_numbers c.args.insn.now (register s c.args.dst.number) (operand_in s c.args.operand) c.number-a.result c.operand_number-b.result s c.requires.meant c.number-a.ensures c.operand_number-b.ensures.kept in
    same ∙ (ap (λ b. goes_by_edge (edge_taken b) c.args.insn.now s) (sym c.jumps.ensures.jumps) ∙ c.follow_branch.ensures.goes)
