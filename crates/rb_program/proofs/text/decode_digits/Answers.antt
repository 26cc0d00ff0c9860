use Rattle.std.proofs.Common.{sym, subst}
use Rattle.std.proofs.lemmas.Result.{err_from_is_err_and}
use Rattle.rb_program.specs.Text.{IsHexOf}
use Rattle.rb_program.proofs.Texts.{hex_fault, decode_fault, decode_of-is_hex}
use Rattle.rb_program.proofs.text.decode_digits.Goals as goal

pub returns-in_err-bytes-clause-fault : goal.returns-in_err-bytes-clause-fault
returns-in_err-bytes-clause-fault c =
    let p = err_from_is_err_and c.from_residual.result c.from_residual.ensures.1 in
    rw (p.1, p.2) (hex_fault c.args.digits.now c.in_err-bytes.field-0.0 c.in_err-bytes.ensures.err)

pub returns-in_err-program-clause-fault : goal.returns-in_err-program-clause-fault
returns-in_err-program-clause-fault c =
    let p = err_from_is_err_and c.from_residual-in_err-program.result c.from_residual-in_err-program.ensures.1 in
    let hex : IsHexOf c.args.digits.now c.deref.result.now = subst (IsHexOf c.args.digits.now) (sym c.deref.ensures.value) (decode_of-is_hex c.args.digits.now c.in_ok-bytes.bytes.items c.in_ok-bytes.ensures.ok) in
    rw (p.1, p.2) (decode_fault c.args.digits.now c.deref.result.now c.in_err-program.field-0.0 hex c.in_err-program.ensures.fault)

pub returns-clause-spelled : goal.returns-clause-spelled
returns-clause-spelled c =
    let hex : IsHexOf c.args.digits.now c.deref.result.now = subst (IsHexOf c.args.digits.now) (sym c.deref.ensures.value) (decode_of-is_hex c.args.digits.now c.in_ok-bytes.bytes.items c.in_ok-bytes.ensures.ok) in
    (c.deref.result.now, hex, c.in_ok-program.ensures.spelled)
