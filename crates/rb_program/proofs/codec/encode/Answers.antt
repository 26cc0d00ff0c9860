use Rattle.std.proofs.Common.{◌≡◌, ◌≤◌, ◌<◌, Some, None, List, Vec, Global, ℕ, take, sym, subst, ap, ◌+◌, ◌∙◌, arith}
use Rattle.std.proofs.lemmas.List.{take_all, get_or_default}
use Rattle.std.specs.Option.{option_copied}
use Rattle.rb_insn.specs.declared.insn.Insn.{Insn}
use Rattle.rb_insn.specs.Spelling.{SpellsAll}
use Rattle.rb_program.specs.Program.{units_of, unit_count}
use Rattle.rb_program.specs.DecodedUnits.{insns_in}
use Rattle.rb_program.proofs.Kept.{insns_in-units_of}
use Rattle.rb_program.proofs.FirstFaults.{encoded_more, encoded_second}
use Rattle.rb_program.proofs.codec.encode.Goals as goal
use Rattle.rb_program.proofs.codec.encode.Goals.{in-Some+in_ok-extend_from_slice, in_default}

pub loop-unit-preserved : goal.loop-unit-preserved
loop-unit-preserved c =
    let program = c.args.program.now in
    let unit = c.loop-unit.unit in
    let below : unit < unit_count program = omega arith in
    elim c.match-at.branch [
      | in-Some+in_ok-extend_from_slice w ↦
          let insn = w.in-Some.insn.now in
          let at = w.in-Some.ensures ∙ get_or_default (units_of program) unit None (Some insn) below in
          let bytes = ap (λ (v : Vec ℕ Global). v.items) w.bytes-is ∙ w.in_ok-extend_from_slice.ensures.items in
          subst (λ l. SpellsAll (insns_in (take (unit + 1) (units_of program))) l) (sym bytes)
          (encoded_more (units_of program) unit insn c.loop-unit.bytes.items _ below at c.loop-unit.invariant w.spell-count.ensures.spelled)
      | in_default w ↦
          let at = ap option_copied (sym w.in_default.is) ∙ c.at.ensures in
          let bytes = ap (λ (v : Vec ℕ Global). v.items) w.bytes-is in
          subst (λ l. SpellsAll (insns_in (take (unit + 1) (units_of program))) l) (sym bytes)
          (encoded_second (units_of program) unit c.loop-unit.bytes.items below at c.loop-unit.invariant)
    ]

pub returns : goal.returns
returns c =
    let program = c.args.program.now in
    let past : unit_count program ≤ c.loop-unit.unit = omega arith in
    let whole : insns_in (take c.loop-unit.unit (units_of program)) ≡ program = ap insns_in (take_all c.loop-unit.unit (units_of program) past) ∙ insns_in-units_of program in
    subst (λ (insns : List Insn). SpellsAll insns c.loop-unit.bytes.items) whole c.loop-unit.invariant
