use Rattle.std.proofs.Common.{sym, ◌∙◌, ap, below_more, arith}
use Rattle.std.specs.Option.{option_copied}
use Rattle.rb_program.proofs.Faultless.{IsFaultless, faultless_none, well_shaped_from}
use Rattle.rb_program.proofs.shape_check.first_fault.Goals as goal
use Rattle.rb_program.proofs.shape_check.first_fault.Goals.{in-Some+in_default-fault_at, in_default}

pub returns-in-Some-fault_at : goal.returns-in-Some-fault_at
returns-in-Some-fault_at c = record {
  here = c.in-Some-fault_at.ensures;
  none_before = λ lower before. (c.loop-unit.invariant lower before).no_fault;
}

pub loop-unit-preserved : goal.loop-unit-preserved
loop-unit-preserved c =
    below_more (IsFaultless c.args.program.now) c.loop-unit.unit c.loop-unit.invariant (elim c.match-at.branch [
      | in-Some+in_default-fault_at w ↦ record { no_fault = w.in_default-fault_at.ensures.0; reached = λ _. w.in_default-fault_at.ensures.1 }
      | in_default w ↦ faultless_none c.args.program.now c.loop-unit.unit (sym c.at.ensures ∙ ap option_copied w.in_default.is)
    ])

pub returns : goal.returns
returns c = well_shaped_from c.args.program.now (λ unit inside. c.loop-unit.invariant unit (omega arith))
