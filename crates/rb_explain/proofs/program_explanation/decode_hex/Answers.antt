use Rattle.std.proofs.lemmas.Result.{err_from_is_err_and}
use Rattle.rb_program.proofs.Texts.{hex_fault, decode_of-is_hex}
use Rattle.rb_explain.proofs.program_explanation.decode_hex.Goals as goal

pub returns-in_err-bytes-clause-fault : goal.returns-in_err-bytes-clause-fault
returns-in_err-bytes-clause-fault c =
    let p = err_from_is_err_and c.from_residual.result c.from_residual.ensures.1 in
    rw (p.1, p.2) (hex_fault c.args.digits.now c.in_err-bytes.field-0.0 c.in_err-bytes.ensures.err)

pub returns-clause-hex : goal.returns-clause-hex
returns-clause-hex c = decode_of-is_hex c.args.digits.now c.in_ok-bytes.bytes.items c.in_ok-bytes.ensures.ok
