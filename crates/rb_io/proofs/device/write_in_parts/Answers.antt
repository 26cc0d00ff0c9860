use Rattle.std.proofs.Common.{◌-◌, ◌++◌, length, take, drop, sym, ap, subst, ◌∙◌, arith, length-take}
use Rattle.std.proofs.Math.Seq.{take-add, take-take}
use Rattle.std.specs.Io.KnownBytes.{Appends}
use Rattle.std.proofs.KnownBytes.{Appends-trans}
use Rattle.rb_io.proofs.device.write_in_parts.Goals as goal

pub loop-sent-preserved : goal.loop-sent-preserved
loop-sent-preserved g c =
    let sent = c.loop-sent.sent in
    let n = c.in-Ok.n in
    let all = c.args.piece.now in
    let before = c.loop-sent.invariant in
    let fits = c.in-Ok.ensures.bound in
    let most = length-take (length all - sent) (drop sent all) in
    let joined = ap (λ l. take sent all ++ l) (take-take n (length all - sent) (drop sent all) (omega arith)) ∙ sym (take-add sent n all) in
    record { within = omega arith; bytes = subst (Appends _ _) joined (Appends-trans _ _ _ _ _ before.bytes c.in-Ok.ensures.bytes) }
