use Rattle.std.proofs.Common.{◌≡◌, ◌≢◌, ℕ, ◌+◌, ◌-◌, ◌<◌, ◌≤◌, ◌^◌, min, Bool, true, false, eqb, Option, None, Some, List, [], ◌++◌, length, take, drop, refl, sym, ap, ◌∙◌, subst, arith}
use Rattle.rb_source.specs.declared.framing.Framing.{Framing}
use Rattle.rb_source.specs.Framing.Portion.{Content, Flush}
use Rattle.rb_source.specs.Stream.{FramedInput}
use Rattle.rb_source.specs.inner.Look.{at_place, BeginsWith}
use Rattle.rb_source.specs.inner.Steps.{Appends}
use Rattle.rb_source.proofs.Steps.{flush_front, gives_none, no_step, over_gives, whole_front}
use Rattle.rb_source.proofs.framed_reader.FramedReader.take_front.Goals as goal

pub returns-in-Partial-clause-gave : goal.returns-in-Partial-clause-gave
returns-in-Partial-clause-gave g c = gives_none g.R.Read.remaining c.args.self.now c.args.self.now c.args.piece.now (no_step g.R.Read.remaining c.args.self.now)

pub returns-in-End-clause-gave : goal.returns-in-End-clause-gave
returns-in-End-clause-gave g c =
    let S = FramedInput g.row.R.Denot in
    let rem = g.R.Read.remaining in
    let old : S = record { reader = c.self.inside.reader; framing = c.self.inside.framing; form = c.self.inside.form; rest = c.self.inside.window; long = c.self.inside.long; kept = c.self.inside.kept.items; counts = c.self.inside.counts; over = c.self.inside.over } in
    let new : S = record old { over = true } in
    subst (λ (s : S). Appends rem s new c.args.piece.now c.args.piece.now) c.self.view_is (over_gives rem old true c.args.piece.now)

pub returns-in-Flush-clause-gave : goal.returns-in-Flush-clause-gave
returns-in-Flush-clause-gave g c =
    let S = FramedInput g.row.R.Denot in
    let rem = g.R.Read.remaining in
    let old : S = record { reader = c.self.inside.reader; framing = c.self.inside.framing; form = c.self.inside.form; rest = c.self.inside.window; long = c.self.inside.long; kept = c.self.inside.kept.items; counts = c.self.inside.counts; over = c.self.inside.over } in
    let new : S = record old { rest = c.drop_front.new.self } in
    let short : c.self.inside.long ≡ None = ap (λ (s : S). s.long) c.self.view_is ∙ c.requires.short in
    let begins : BeginsWith c.self.inside.framing c.self.inside.form.len c.self.inside.window Flush 4 = subst (λ (b : List ℕ). BeginsWith c.self.inside.framing c.self.inside.form.len b Flush 4) c.bytes-bytes.ensures.value c.in-Flush.ensures.finds in
    subst (λ (s : S). Appends rem s new c.args.piece.now c.args.piece.now) c.self.view_is (flush_front rem old c.drop_front.new.self c.args.piece.now short begins c.drop_front.ensures.rest)

pub returns-in-Whole-clause-gave : goal.returns-in-Whole-clause-gave
returns-in-Whole-clause-gave g c =
    let S = FramedInput g.row.R.Denot in
    let rem = g.R.Read.remaining in
    let old : S = record { reader = c.self.inside.reader; framing = c.self.inside.framing; form = c.self.inside.form; rest = c.self.inside.window; long = c.self.inside.long; kept = c.self.inside.kept.items; counts = c.self.inside.counts; over = c.self.inside.over } in
    let place = c.in-Whole.place in
    let bytes = c.bytes-bytes.result.now in
    let is : bytes ≡ c.self.inside.window = c.bytes-bytes.ensures.value in
    let front = take (place.start + place.len - place.start) (drop place.start bytes) in
    let new : S = record old { rest = c.drop_front-in-Whole.new.self; counts = c.emit.new.counts } in
    let short : c.self.inside.long ≡ None = ap (λ (s : S). s.long) c.self.view_is ∙ c.requires.short in
    let begins : BeginsWith c.self.inside.framing c.self.inside.form.len c.self.inside.window (Content (at_place place c.self.inside.window)) place.span =
    subst (λ (b : List ℕ). BeginsWith c.self.inside.framing c.self.inside.form.len b (Content (at_place place b)) place.span) is c.in-Whole.ensures.finds.0 in
    let size = ap length is in
    let inside : place.start + place.len ≤ length c.self.inside.window = (let i = c.in-Whole.ensures.finds.1 in omega arith) in
    let small : length c.self.inside.window ≤ 131072 = omega (arith, c.bytes-bytes.ensures.bound) in
    let n : place.start + place.len - place.start ≡ place.len = omega arith in
    let same : front ≡ at_place place c.self.inside.window = ap (λ k. take k (drop place.start bytes)) n ∙ ap (λ (b : List ℕ). at_place place b) is in
    subst (λ (s : S). Appends rem s new c.args.piece.now c.emit.new.piece) c.self.view_is
    (whole_front rem old place c.drop_front-in-Whole.new.self front c.emit.new.counts c.args.piece.now c.emit.new.piece short begins inside small same c.drop_front-in-Whole.ensures.rest c.self.invariant.lawful c.emit.ensures.counted c.emit.ensures.given)
