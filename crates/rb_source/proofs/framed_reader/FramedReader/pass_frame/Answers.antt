use Rattle.std.proofs.Common.{◌≡◌, ◌≢◌, ℕ, ◌+◌, ◌-◌, ◌<◌, ◌≤◌, ◌^◌, min, Bool, true, false, eqb, Option, None, Some, List, [], ◌++◌, length, take, drop, refl, sym, ap, ◌∙◌, subst, arith}
use Rattle.rb_source.specs.declared.long.Long.TheVariants.{Frame}
use Rattle.rb_source.specs.Stream.{FramedInput}
use Rattle.rb_source.specs.inner.Steps.{Appends}
use Rattle.rb_source.proofs.Steps.{frame_done, frame_more}
use Rattle.rb_source.proofs.framed_reader.FramedReader.pass_frame.Goals as goal

pub returns-then-missing-gt0-clause-gave : goal.returns-then-missing-gt0-clause-gave
returns-then-missing-gt0-clause-gave g c =
    let S = FramedInput g.row.R.Denot in
    let rem = g.R.Read.remaining in
    let old : S = record { reader = c.self.inside.reader; framing = c.self.inside.framing; form = c.self.inside.form; rest = c.self.inside.window; long = c.self.inside.long; kept = c.self.inside.kept.items; counts = c.self.inside.counts; over = c.self.inside.over } in
    let count = c.min-count.result in
    let new : S = record old { rest = c.drop_front.new.self; long = Some (Frame c.args.total (c.args.missing - count)) } in
    let long : c.self.inside.long ≡ Some (Frame c.args.total c.args.missing) = ap (λ (s : S). s.long) c.self.view_is ∙ c.requires.long in
    let size = ap length c.bytes.ensures.value in
    let is : count ≡ min (length c.self.inside.window) c.args.missing = (let m = c.min-count.ensures in omega arith) in
    subst (λ (s : S). Appends rem s new c.args.piece.now c.args.piece.now) c.self.view_is
    (frame_more rem old c.args.total c.args.missing count c.drop_front.new.self c.args.piece.now long is (omega (arith, c.if-missing-gt0.true)) c.drop_front.ensures.rest)

pub returns-clause-gave : goal.returns-clause-gave
returns-clause-gave g c =
    let S = FramedInput g.row.R.Denot in
    let rem = g.R.Read.remaining in
    let old : S = record { reader = c.self.inside.reader; framing = c.self.inside.framing; form = c.self.inside.form; rest = c.self.inside.window; long = c.self.inside.long; kept = c.self.inside.kept.items; counts = c.self.inside.counts; over = c.self.inside.over } in
    let count = c.min-count.result in
    let long : c.self.inside.long ≡ Some (Frame c.args.total c.args.missing) = ap (λ (s : S). s.long) c.self.view_is ∙ c.requires.long in
    let size = ap length c.bytes.ensures.value in
    let is : count ≡ min (length c.self.inside.window) c.args.missing = (let m = c.min-count.ensures in omega arith) in
    subst (λ (s : S). Appends rem s c.finish_long.new.self c.args.piece.now c.finish_long.new.piece) c.self.view_is
    (frame_done rem old c.finish_long.new.self c.args.total c.args.missing count c.drop_front.new.self c.args.piece.now c.finish_long.new.piece long is (omega (arith, c.if-missing-gt0.false)) c.drop_front.ensures.rest c.self.invariant.lawful c.finish_long.ensures.finished c.finish_long.ensures.given)
