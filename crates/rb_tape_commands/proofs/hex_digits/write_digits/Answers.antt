use Rattle.std.proofs.Common.{ℕ, ◌/◌, ◌%◌, arith, slice_index, ap, ◌∙◌}
use Rattle.std.proofs.lemmas.Nat.{and_mask}
use Rattle.hex.specs.Hex.{lower_digits}
use Rattle.hex.proofs.Pairs.{encode_step, encode_done}
use Rattle.rb_tape_commands.specs.inner.HexDigits.{digit_code}
use Rattle.rb_tape_commands.proofs.Digits.{digit_of}
use Rattle.rb_tape_commands.proofs.hex_digits.write_digits.Goals as goal

pub bytes-preserved : goal.bytes-preserved
bytes-preserved c =
    let byte : ℕ = slice_index c.args.bytes.now c.bytes.i in
    encode_step lower_digits c.args.bytes.now c.bytes.out c.bytes.i _ _ (omega arith) (omega arith)
    (c.digit.ensures.value ∙ digit_of (byte / 16) (omega arith))
    (c.digit-in-bytes.ensures.value ∙ (ap digit_code (and_mask byte 4) ∙ digit_of (byte % 16) (omega arith))) c.bytes.invariant

pub returns : goal.returns
returns c = record { digits = encode_done _ _ _ c.bytes.i (omega arith) (omega arith) c.bytes.invariant }
