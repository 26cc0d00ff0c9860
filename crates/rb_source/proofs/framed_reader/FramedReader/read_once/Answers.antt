use Rattle.std.proofs.Common.{◌≡◌, ◌≢◌, ℕ, ◌+◌, ◌-◌, ◌<◌, ◌≤◌, ◌^◌, min, Bool, true, false, eqb, Option, None, Some, List, [], ◌++◌, length, take, drop, refl, sym, ap, ◌∙◌, subst, arith}
use Rattle.rb_source.specs.Stream.{FramedInput}
use Rattle.rb_source.specs.inner.Steps.{GivesNone}
use Rattle.rb_source.proofs.Steps.{reads_on}
use Rattle.rb_source.proofs.framed_reader.FramedReader.read_once.Goals as goal

pub returns-clause-gave : goal.returns-clause-gave
returns-clause-gave g c =
    let S = FramedInput g.row.R.Denot in
    let rem = g.R.Read.remaining in
    let old : S = record { reader = c.self.inside.reader; framing = c.self.inside.framing; form = c.self.inside.form; rest = c.self.inside.window; long = c.self.inside.long; kept = c.self.inside.kept.items; counts = c.self.inside.counts; over = c.self.inside.over } in
    let came = c.read_from.ensures.came in
    let new : S = record old { reader = c.read_from.new.reader; rest = c.read_from.new.self } in
    subst (λ (s : S). GivesNone rem s new) c.self.view_is (reads_on rem old c.read_from.new.reader c.read_from.new.self came.0 came.1 came.2)
