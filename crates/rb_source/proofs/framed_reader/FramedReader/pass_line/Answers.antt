use Rattle.std.proofs.Common.{◌≡◌, ◌≢◌, ℕ, ◌+◌, ◌-◌, ◌<◌, ◌≤◌, ◌^◌, min, Bool, true, false, eqb, Option, None, Some, List, [], ◌++◌, length, take, drop, refl, sym, ap, ◌∙◌, subst, arith}
use Rattle.rb_source.specs.declared.long.Long.TheVariants.{Line}
use Rattle.rb_source.specs.Form.{largest_u32}
use Rattle.rb_source.specs.Framing.{HasNoLineFeed}
use Rattle.rb_source.specs.Stream.{FramedInput}
use Rattle.rb_source.specs.inner.Look.{FindsLineFeed}
use Rattle.rb_source.specs.inner.Steps.{Appends}
use Rattle.rb_source.proofs.Steps.{line_done, line_more}
use Rattle.rb_source.proofs.framed_reader.FramedReader.pass_line.Goals as goal

pub returns-in-Some-clause-gave : goal.returns-in-Some-clause-gave
returns-in-Some-clause-gave g c =
    let S = FramedInput g.row.R.Denot in
    let rem = g.R.Read.remaining in
    let old : S = record { reader = c.self.inside.reader; framing = c.self.inside.framing; form = c.self.inside.form; rest = c.self.inside.window; long = c.self.inside.long; kept = c.self.inside.kept.items; counts = c.self.inside.counts; over = c.self.inside.over } in
    let place = c.in-Some.place in
    let long : c.self.inside.long ≡ Some (Line c.args.total) = ap (λ (s : S). s.long) c.self.view_is ∙ c.requires.long in
    let found : FindsLineFeed c.self.inside.window (Some place) = subst (λ (b : List ℕ). FindsLineFeed b (Some place)) c.bytes-bytes.ensures.value c.in-Some.ensures.finds in
    let now = c.saturating_add.result in
    subst (λ (s : S). Appends rem s c.finish_long.new.self c.args.piece.now c.finish_long.new.piece) c.self.view_is
    (line_done rem old c.finish_long.new.self c.args.total now place c.drop_front.new.self c.args.piece.now c.finish_long.new.piece long found c.saturating_add.ensures c.drop_front.ensures.rest c.self.invariant.lawful c.finish_long.ensures.finished c.finish_long.ensures.given)

pub returns-in-None-clause-gave : goal.returns-in-None-clause-gave
returns-in-None-clause-gave g c =
    let S = FramedInput g.row.R.Denot in
    let rem = g.R.Read.remaining in
    let old : S = record { reader = c.self.inside.reader; framing = c.self.inside.framing; form = c.self.inside.form; rest = c.self.inside.window; long = c.self.inside.long; kept = c.self.inside.kept.items; counts = c.self.inside.counts; over = c.self.inside.over } in
    let now = c.saturating_add-in-None.result in
    let new : S = record old { rest = c.clear.new.self; long = Some (Line now) } in
    let long : c.self.inside.long ≡ Some (Line c.args.total) = ap (λ (s : S). s.long) c.self.view_is ∙ c.requires.long in
    let none : HasNoLineFeed c.self.inside.window = subst (λ (b : List ℕ). HasNoLineFeed b) c.bytes-bytes.ensures.value c.in-None.ensures.finds in
    let is : now ≡ min (c.args.total + length c.self.inside.window) largest_u32 = c.saturating_add-in-None.ensures ∙ ap (λ (b : List ℕ). min (c.args.total + length b) largest_u32) c.bytes-bytes.ensures.value in
    subst (λ (s : S). Appends rem s new c.args.piece.now c.args.piece.now) c.self.view_is (line_more rem old c.args.total now c.clear.new.self c.args.piece.now long none is c.clear.ensures.empty)
