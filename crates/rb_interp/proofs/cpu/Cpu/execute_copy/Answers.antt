use Rattle.std.proofs.Common.{◌∙◌}
use Rattle.rb_semantics.specs.ProgramStates.{State, register}
use Rattle.rb_interp.specs.ShownState.{state_of}
use Rattle.rb_interp.proofs.Renumbering.{copy_gives}
use Rattle.rb_interp.proofs.cpu.Cpu.execute_copy.Goals as goal

pub copy_and_advance-requires-clause-meant : goal.copy_and_advance-requires-clause-meant
copy_and_advance-requires-clause-meant g c =
    let s : State = state_of g.R.Lent.bytes_of g.C.Context.shown c.args.self.now in
    λ stuck. c.requires.meant (copy_gives c.args.insn.now c.args.dst (register s c.args.src.number) s c.requires.meant ∙ stuck)

pub returns-clause-goes : goal.returns-clause-goes
returns-clause-goes g c =
    let s : State = state_of g.R.Lent.bytes_of g.C.Context.shown c.args.self.now in
    copy_gives c.args.insn.now c.args.dst (register s c.args.src.number) s c.requires.meant ∙ c.copy_and_advance.ensures.goes
