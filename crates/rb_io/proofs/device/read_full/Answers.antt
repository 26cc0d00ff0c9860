use Rattle.std.proofs.Common.{◌≡◌, ◌+◌, ◌-◌, ◌++◌, length, take, sym, ap, subst, ◌∙◌, arith}
use Rattle.std.proofs.lemmas.List.{length-append, length-take-le}
use borrow.Rule.Slice.PartMut.{post_of, put_mid}
use Rattle.std.specs.Io.KnownBytes.{Consumes}
use Rattle.std.proofs.KnownBytes.{Consumes-trans}
use Rattle.rb_io.proofs.Sending.{take_parts}
use Rattle.rb_io.proofs.device.read_full.Goals as goal

pub loop-at-preserved : goal.loop-at-preserved
loop-at-preserved g c =
    let at = c.loop-at.at in
    let n = c.in-Ok.n in
    let old = c.loop-at.buf in
    let read = c.read_some.new.buf in
    let past = post_of at (length old - at) old in
    let before = c.loop-at.invariant in
    let front : length (take at old) ≡ at = length-take-le at old before.within in
    let most = c.in-Ok.ensures.bound.0 in
    let whole : length (put_mid at (length old - at) old read) ≡ length (take at old) + length (read ++ past) = length-append (take at old) (read ++ past) in
    let behind = length-append read past in
    let joined : take (at + n) (take at old ++ (read ++ past)) ≡ take at old ++ take n read =
    ap (λ k. take (k + n) (take at old ++ (read ++ past))) (sym front) ∙ take_parts (take at old) read past n most in
    record {
      within = omega (arith, before.within);
      bytes = subst (Consumes _ _) (sym joined) (Consumes-trans _ _ _ _ _ before.bytes c.in-Ok.ensures.bytes.0);
    }
