use Rattle.std.proofs.Common.{◌-◌, ◌++◌, length, take, drop, sym, ap, subst, ◌∙◌, arith, length-take}
use Rattle.std.proofs.Math.Seq.{take-add, take-take}
use Rattle.std.specs.Io.KnownBytes.{Appends}
use Rattle.std.proofs.KnownBytes.{Appends-trans}
use Rattle.rb_io.proofs.device.write_out.Goals as goal

pub returns-clause-bytes : goal.returns-clause-bytes
returns-clause-bytes g c =
    let sent = c.in-Ok.sent in
    let rest = c.write_in_parts in
    let all = c.args.piece.now in
    let most = length-take (length all - sent) (drop sent all) in
    let joined = ap (λ l. take sent all ++ l) (take-take rest.result (length all - sent) (drop sent all) (omega (arith, rest.ensures.bound, most))) ∙ sym (take-add sent rest.result all) in
    subst (Appends _ _) joined (Appends-trans _ _ _ _ _ c.in-Ok.ensures.bytes rest.ensures.bytes)
