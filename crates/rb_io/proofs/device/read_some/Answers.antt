use Rattle.std.proofs.Common.{◌≤◌, length, take, drop, ap, ◌∙◌, arith, length-append, length-drop, length-take}
use Rattle.rb_io.proofs.Reading.{held_copied}
use Rattle.rb_io.proofs.device.read_some.Goals as goal

pub returns-clause-bytes : goal.returns-clause-bytes
returns-clause-bytes g c =
    let n = c.min-count.result in
    let reader = c.fill_if_empty.new.reader in
    let seen = c.at_hand-seen.ensures.value in
    let copied = c.copy_from_slice.new.self in
    let buf = c.args.buf.now in
    let within : n ≤ length (g.R.Incoming.held reader) = omega (arith, c.min-count.ensures, ap length seen) in (
      held_copied _ _ _ (g.R.Incoming.held reader) copied buf n c.in_ok-fill_if_empty.ensures.bytes c.consume.ensures.bytes (c.copy_from_slice.ensures.after ∙ ap (take n) seen) within,
      λ none some. absurd (grind (arith, none, some, c.min-count.ensures, c.if-is_empty.ensures, c.copy_from_slice.ensures.len, length-append copied (drop n buf), length-drop n buf, length-take n buf)),
    )
