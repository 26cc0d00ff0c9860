use Rattle.std.proofs.Common.{◌*◌, take, None, true, false, sym, ap, subst, ◌∙◌, arith}
use Rattle.std.proofs.lemmas.Result.{err_from_is_err_and}
use Rattle.rb_program.specs.declared.fields.Fields.{Fields}
use Rattle.rb_program.specs.UnitFields.{fields_at}
use Rattle.rb_program.specs.DecodeFaults.{is_left_out}
use Rattle.rb_program.specs.inner.Operations.{operation_at}
use Rattle.rb_program.specs.inner.SecondUnit.{IsSecondUnit, IsSecondFault}
use Rattle.rb_insn.specs.declared.insn.Insn.{Insn}
use Rattle.rb_insn.specs.Units.{units_taken}
use Rattle.rb_insn.specs.Spelling.{Spells}
use Rattle.rb_program.specs.inner.FieldChecks.{is_named_by, row_for, registers_fit, numbers_fit, insn_from}
use Rattle.rb_program.proofs.Front.{no_operation, unnamed, register_above, number_unused, second_fault, wide_spelled, narrow_spelled, computed, found, keeps}
use Rattle.rb_program.proofs.insn_at.insn_at.Goals as goal

pub returns-in_default-clause-err : goal.returns-in_default-clause-err
returns-in_default-clause-err c =
    let f = c.read_fields-fields.result in
    let bytes = c.args.bytes.now in
    let at = c.read_fields-fields.ensures in
    no_operation bytes (λ i. omega (arith, c.type_inv.bytes i))
    (computed is_left_out f bytes c.is_left_out.result false at c.is_left_out.ensures c.if-is_left_out.false)
    (computed (λ g. operation_at g.opcode) f bytes c.of.result None at c.of.ensures c.in_default.is)

pub returns-then-not-is_named_by-clause-err : goal.returns-then-not-is_named_by-clause-err
returns-then-not-is_named_by-clause-err c =
    let f = c.read_fields-fields.result in
    let bytes = c.args.bytes.now in
    let op = c.in-Some.operation in
    let at = c.read_fields-fields.ensures in
    let is_found = found op f bytes c.is_left_out.result c.of.result at (λ i. omega (arith, c.type_inv.bytes i)) c.is_left_out.ensures c.if-is_left_out.false c.of.ensures c.in-Some.is in
    unnamed op bytes is_found (computed (is_named_by op) f bytes c.is_named_by.result false at c.is_named_by.ensures c.if-not-is_named_by.true)

pub returns-then-not-has_registers-clause-err : goal.returns-then-not-has_registers-clause-err
returns-then-not-has_registers-clause-err c =
    let f = c.read_fields-fields.result in
    let bytes = c.args.bytes.now in
    let op = c.in-Some.operation in
    let at = c.read_fields-fields.ensures in
    let is_found = found op f bytes c.is_left_out.result c.of.result at (λ i. omega (arith, c.type_inv.bytes i)) c.is_left_out.ensures c.if-is_left_out.false c.of.ensures c.in-Some.is in
    register_above op bytes is_found
    (computed (is_named_by op) f bytes c.is_named_by.result true at c.is_named_by.ensures c.if-not-is_named_by.false)
    (computed (λ g. registers_fit (row_for op g.src) g) f bytes c.has_registers.result false at c.has_registers.ensures c.if-not-has_registers.true)

pub returns-then-not-has_numbers-clause-err : goal.returns-then-not-has_numbers-clause-err
returns-then-not-has_numbers-clause-err c =
    let f = c.read_fields-fields.result in
    let bytes = c.args.bytes.now in
    let op = c.in-Some.operation in
    let at = c.read_fields-fields.ensures in
    let is_found = found op f bytes c.is_left_out.result c.of.result at (λ i. omega (arith, c.type_inv.bytes i)) c.is_left_out.ensures c.if-is_left_out.false c.of.ensures c.in-Some.is in
    number_unused op bytes is_found
    (computed (is_named_by op) f bytes c.is_named_by.result true at c.is_named_by.ensures c.if-not-is_named_by.false)
    (computed (λ g. registers_fit (row_for op g.src) g) f bytes c.has_registers.result true at c.has_registers.ensures c.if-not-has_registers.false)
    (computed (λ g. numbers_fit (row_for op g.src) g) f bytes c.has_numbers.result false at c.has_numbers.ensures c.if-not-has_numbers.true)

pub returns-in_err-next_imm-clause-err : goal.returns-in_err-next_imm-clause-err
returns-in_err-next_imm-clause-err c =
    let f = c.read_fields-fields.result in
    let bytes = c.args.bytes.now in
    let op = c.in-Some.operation in
    let at = c.read_fields-fields.ensures in
    let is_found = found op f bytes c.is_left_out.result c.of.result at (λ i. omega (arith, c.type_inv.bytes i)) c.is_left_out.ensures c.if-is_left_out.false c.of.ensures c.in-Some.is in
    let is_kept = keeps op f bytes c.is_named_by.result c.has_registers.result c.has_numbers.result at is_found c.is_named_by.ensures c.if-not-is_named_by.false c.has_registers.ensures c.if-not-has_registers.false c.has_numbers.ensures c.if-not-has_numbers.false in
    let kind = c.in_err-next_imm.field-0.0 in
    let bad : IsSecondFault bytes (fields_at bytes).src kind = subst (λ (g : Fields). IsSecondFault bytes g.src kind) at c.in_err-next_imm.ensures.err in
    let p = err_from_is_err_and c.from_residual.result c.from_residual.ensures.1 in
    rw (p.1, p.2) (second_fault op bytes kind is_kept (sym (c.is_wide.ensures (fields_at bytes).src) ∙ c.if-is_wide.true) bad)

pub returns-in_ok-next_imm-clause-ok : goal.returns-in_ok-next_imm-clause-ok
returns-in_ok-next_imm-clause-ok c =
    let f = c.read_fields-fields.result in
    let bytes = c.args.bytes.now in
    let op = c.in-Some.operation in
    let at = c.read_fields-fields.ensures in
    let is_found = found op f bytes c.is_left_out.result c.of.result at (λ i. omega (arith, c.type_inv.bytes i)) c.is_left_out.ensures c.if-is_left_out.false c.of.ensures c.in-Some.is in
    let is_kept = keeps op f bytes c.is_named_by.result c.has_registers.result c.has_numbers.result at is_found c.is_named_by.ensures c.if-not-is_named_by.false c.has_registers.ensures c.if-not-has_registers.false c.has_numbers.ensures c.if-not-has_numbers.false in
    let next = c.in_ok-next_imm.next_imm in
    let second : IsSecondUnit bytes (fields_at bytes).src next = subst (λ (g : Fields). IsSecondUnit bytes g.src next) at c.in_ok-next_imm.ensures.ok in
    let made = c.insn.ensures ∙ ap (λ (g : Fields). insn_from op g next) at in
    subst (λ (i : Insn). Spells i (take (8 * units_taken i) bytes)) (sym made) (wide_spelled op bytes next is_kept (sym (c.is_wide.ensures (fields_at bytes).src) ∙ c.if-is_wide.true) second)

pub returns-else-is_wide-clause-ok : goal.returns-else-is_wide-clause-ok
returns-else-is_wide-clause-ok c =
    let f = c.read_fields-fields.result in
    let bytes = c.args.bytes.now in
    let op = c.in-Some.operation in
    let at = c.read_fields-fields.ensures in
    let is_found = found op f bytes c.is_left_out.result c.of.result at (λ i. omega (arith, c.type_inv.bytes i)) c.is_left_out.ensures c.if-is_left_out.false c.of.ensures c.in-Some.is in
    let is_kept = keeps op f bytes c.is_named_by.result c.has_registers.result c.has_numbers.result at is_found c.is_named_by.ensures c.if-not-is_named_by.false c.has_registers.ensures c.if-not-has_registers.false c.has_numbers.ensures c.if-not-has_numbers.false in
    let made = c.insn-else-is_wide.ensures ∙ ap (λ (g : Fields). insn_from op g 0) at in
    subst (λ (i : Insn). Spells i (take (8 * units_taken i) bytes)) (sym made) (narrow_spelled op bytes is_kept (sym (c.is_wide.ensures (fields_at bytes).src) ∙ c.if-is_wide.false) c.requires)
