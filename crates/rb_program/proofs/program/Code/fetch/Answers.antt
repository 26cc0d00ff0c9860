use Rattle.std.proofs.Common.{◌≡◌, ◌≢◌, List, Some, None, sym, ap, subst, ◌∙◌, arith}
use Rattle.rb_insn.specs.declared.insn.Insn.{Insn}
use Rattle.rb_program.specs.Program.{slot_at}
use Rattle.rb_program.proofs.Kept.{known_within, known_slot}
use Rattle.rb_program.proofs.program.Code.fetch.Goals as goal

pub bounds-self-inside-unit : goal.bounds-self-inside-unit
bounds-self-inside-unit c =
    let known = subst (λ (program : List Insn). slot_at program c.args.unit ≢ None) (sym c.self.view_is) c.requires in
    let below = known_within c.self.inside.units.now c.args.unit c.self.invariant.laid_out known in
    omega arith

pub returns : goal.returns
returns c =
    let known = subst (λ (program : List Insn). slot_at program c.args.unit ≢ None) (sym c.self.view_is) c.requires in
    let found = known_slot c.self.inside.units.now c.args.unit c.index-self-unit.result c.self.invariant.laid_out known c.index-self-unit.is in
    subst (λ (program : List Insn). slot_at program c.args.unit ≡ Some c.index-self-unit.result) c.self.view_is found ∙ ap Some c.index-self-unit.is
