use Rattle.std.proofs.Common.{◌≡◌, rules}
use Rattle.std.specs.Prelude.{string_bytes}
use Rattle.hex.specs.Hex.{encode_lower}
use Rattle.rb_insn.specs.Spelling.{spelling}
use Rattle.rb_explain.proofs.Pieces.{insn_written}
use Rattle.rb_explain.proofs.objects.push_insn_fields.Goals as goal

pub returns : goal.returns
returns c =
    let spelled : string_bytes c.in_ok-bytes.bytes ≡ encode_lower (spelling c.args.insn.now) = search rules in
    record { added = insn_written c.write.result _ _ c.args.unit (string_bytes c.in_ok-bytes.bytes) c.args.insn.now spelled c.write.ensures.bytes }
