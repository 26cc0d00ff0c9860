use Rattle.std.proofs.Common.{◌-◌, arith}
use Rattle.rb_tape.specs.Items.{item_of}
use Rattle.rb_tape.proofs.Pieces.{payload-out, slice-behind}
use Rattle.rb_tape.proofs.piece.write_payload.Goals as goal

pub returns-clause-bytes : goal.returns-clause-bytes
returns-clause-bytes g c =
    let bytes = c.payload-payload.ensures in
    let w = c.write_out.ensures in
    payload-out c.args.size (item_of c.args.item.now) _ _ _ c.args.at (c.args.at - 8) _ (slice-behind _ _ (c.args.at - 8) bytes) (omega (arith, c.requires.behind)) (omega (arith, c.requires.within)) w.bound w.bytes
