use Rattle.std.proofs.Common.{◌+◌, arith}
use Rattle.rb_history.specs.TapeBytes.{item_bytes}
use Rattle.rb_history.proofs.HeaderLaws.{length-item_bytes}
use Rattle.rb_tape.specs.Items.{item_of}
use Rattle.rb_tape.proofs.Pieces.{first-out, then-out}
use Rattle.rb_tape.proofs.piece.write_after_header.Goals as goal

pub returns-then-sent-end-clause-bytes : goal.returns-then-sent-end-clause-bytes
returns-then-sent-end-clause-bytes g c = first-out (item_bytes c.args.size (item_of c.args.item.now)) _ _ c.args.from c.write_payload.result c.write_payload.ensures.bytes

pub returns-clause-bytes : goal.returns-clause-bytes
returns-clause-bytes g c =
    let text = item_bytes c.args.size (item_of c.args.item.now) in
    let n = c.write_payload.result in
    let rest = c.write_zeros-2.ensures in
    let len = length-item_bytes c.args.size (item_of c.args.item.now) in
    then-out text _ _ _ c.args.from (c.args.from + n) c.write_zeros-2.result (omega arith) rest.more (omega (arith, len, rest.more, rest.bound)) (first-out text _ _ c.args.from n c.write_payload.ensures.bytes) rest.bytes
