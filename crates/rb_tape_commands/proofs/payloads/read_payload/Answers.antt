use Rattle.std.proofs.Common.{◌≡◌, ◌<◌, length, refl, ap, ◌∙◌, arith}
use Rattle.rb_history.specs.Span.{span}
use Rattle.rb_tape_commands.proofs.PayloadReads.{some_read, cut_read}
use Rattle.rb_tape_commands.proofs.payloads.read_payload.Goals as goal

pub returns-in_default-read_full : goal.returns-in_default-read_full
returns-in_default-read_full g c = some_read _ _ _ c.in-Some.len (rw c.in-Some.is at c.in_ok-len.ensures).1 c.in_default-read_full.ensures.lost

pub returns-then-count-len : goal.returns-then-count-len
returns-then-count-len g c =
    let len = rw c.in-Some.is at c.in_ok-len.ensures in
    let read = c.in-Ok-read_full.ensures in
    let test = c.if-span-size.false in
    let room : span c.in-Some.len < c.args.size = omega (arith, c.span.ensures.value) in
    let whole : length c.read_full.new.buf ≡ c.in-Some.len =
    c.read_full.auto.buf ∙ ap length c.bytes_mut.ensures.value ∙ c.in-Ok.ensures.sized in
    let short = c.if-count-len.true in
    (refl, cut_read c.args.size _ _ _ c.in-Some.len c.in-Ok-read_full.count c.read_full.new.buf len.1 read.bytes len.0 room read.bound short (read.end (omega arith)))
