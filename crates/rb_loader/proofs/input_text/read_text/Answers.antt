use Rattle.std.proofs.Common.{ℕ, ◌++◌, ap, arith, take}
use Rattle.std.proofs.KnownBytes.{Consumes-trans}
use Rattle.rb_loader.proofs.HexTexts.{odd_input, whole_input}
use Rattle.rb_loader.proofs.input_text.read_text.Goals as goal

pub returns-then-count-eq0-clause-stands : goal.returns-then-count-eq0-clause-stands
returns-then-count-eq0-clause-stands g c =
    let before = g.R.Read.remaining c.args.input.now in
    let after = g.R.Read.remaining c.read.new.self in
    let read = c.loop.invariant.0 in
    let piece = take c.in-Ok.count c.read.new.buf in
    whole_input before after read piece _ c.loop.digits
    (Consumes-trans before (g.R.Read.remaining c.loop.input) after read piece c.loop.invariant.1 c.in-Ok.ensures.bytes.0) (ap (λ (n : ℕ). take n c.read.new.buf) c.if-count-eq0.true) (c.in-Ok.ensures.bytes.1 c.if-count-eq0.true (omega arith))
    c.loop.invariant.2 c.into_text.ensures.digits c.into_text.ensures.text

pub returns-then-not-branch-clause-stands : goal.returns-then-not-branch-clause-stands
returns-then-not-branch-clause-stands g c =
    let before = g.R.Read.remaining c.args.input.now in
    let after = g.R.Read.remaining c.read.new.self in
    let read = c.loop.invariant.0 in
    let piece = take c.in-Ok.count c.read.new.buf in
    odd_input before after read piece _ (Consumes-trans before (g.R.Read.remaining c.loop.input) after read piece c.loop.invariant.1 c.in-Ok.ensures.bytes.0) (c.in_ok-add.ensures.odd c.if-not-branch.true)
    c.in_ok-from_str.ensures.ok

pub loop-preserved : goal.loop-preserved
loop-preserved g c =
    let before = g.R.Read.remaining c.args.input.now in
    let after = g.R.Read.remaining c.read.new.self in
    let read = c.loop.invariant.0 in
    let piece = take c.in-Ok.count c.read.new.buf in (
      read ++ piece,
      Consumes-trans before (g.R.Read.remaining c.loop.input) after read piece c.loop.invariant.1 c.in-Ok.ensures.bytes.0,
      c.in_ok-add.ensures.kept c.if-not-branch.false read c.loop.invariant.2,
    )
