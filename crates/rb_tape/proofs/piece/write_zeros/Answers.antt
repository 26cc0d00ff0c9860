use Rattle.std.proofs.Common.{◌-◌, ◌≤◌, ℕ, replicate, ap, arith}
use Rattle.std.proofs.lemmas.List.{length-take}
use Rattle.rb_history.specs.Span.{span}
use Rattle.rb_history.specs.TapeBytes.{item_bytes, item_span}
use Rattle.rb_history.proofs.HeaderLaws.{length-item_bytes}
use Rattle.rb_tape.specs.Items.{item_of}
use Rattle.rb_tape.proofs.Pieces.{filling-out, went-out}
use Rattle.rb_tape.proofs.piece.write_zeros.Goals as goal

pub loop-sent-preserved : goal.loop-sent-preserved
loop-sent-preserved g c =
    let i = c.loop-sent.invariant in
    let w = c.in-Ok.ensures in
    let item = item_of c.args.item.now in
    let len = length-item_bytes c.args.size item in
    let sent = c.loop-sent.sent in
    let most = c.min-most in
    let left : most.result ≤ item_span item - sent = omega (arith, most.ensures, c.span-span.ensures.value, ap span c.len.ensures) in
    let short = length-take most.result (replicate {A = ℕ} 64 0) in
    record {
      more = omega (arith, i.more);
      within = omega (arith, w.bound, left, short);
      bytes = went-out (item_bytes c.args.size item) _ _ _ c.args.at sent c.in-Ok.n i.more (omega (arith, i.within, len)) i.bytes
          (filling-out c.args.size item _ _ sent c.in-Ok.n most.result 64 (omega (arith, c.requires.behind, i.more)) (omega (arith, most.ensures)) left w.bound w.bytes);
    }
