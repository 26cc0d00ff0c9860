use Rattle.std.proofs.Common.{◌≡◌, ◌≢◌, ℕ, ◌+◌, ◌-◌, ◌<◌, ◌≤◌, ◌^◌, min, Bool, true, false, eqb, Option, None, Some, List, [], ◌++◌, length, take, drop, refl, sym, ap, ◌∙◌, subst, arith}
use Rattle.rb_source.specs.declared.framing.Framing.TheVariants.{Lines}
use Rattle.rb_source.specs.declared.long.Long.TheVariants.{Line}
use Rattle.rb_source.specs.Framing.{IsPartial}
use Rattle.rb_source.specs.Stream.{FramedInput}
use Rattle.rb_source.specs.inner.Steps.{GivesNone}
use Rattle.rb_source.proofs.Steps.{line_begun}
use Rattle.rb_source.proofs.framed_reader.FramedReader.begin_line.Goals as goal

pub returns-clause-gave : goal.returns-clause-gave
returns-clause-gave g c =
    let S = FramedInput g.row.R.Denot in
    let rem = g.R.Read.remaining in
    let old : S = record { reader = c.self.inside.reader; framing = c.self.inside.framing; form = c.self.inside.form; rest = c.self.inside.window; long = c.self.inside.long; kept = c.self.inside.kept.items; counts = c.self.inside.counts; over = c.self.inside.over } in
    let short : c.self.inside.long ≡ None = ap (λ (s : S). s.long) c.self.view_is ∙ c.requires.short in
    let partial : IsPartial c.self.inside.framing c.self.inside.form.len c.self.inside.window = subst (λ (s : S). IsPartial s.framing s.form.len s.rest) (sym c.self.view_is) c.requires.partial in
    let full : length c.self.inside.window ≡ 131072 = ap (λ (s : S). length s.rest) c.self.view_is ∙ c.requires.full in
    let is : c.bytes-bytes.result.now ≡ c.self.inside.window = c.bytes-bytes.ensures.value in
    let total = length c.bytes-bytes.result.now in
    let len = c.self.inside.form.len in
    let new : S = record old { rest = c.clear.new.self; long = Some (Line total); kept = c.keep.new.kept.items } in
    let lines : c.self.inside.framing ≡ Lines = ap (λ (s : S). s.framing) c.self.view_is ∙ c.requires.lines in
    let n : len - 0 ≡ len = omega arith in
    let kept : c.keep.new.kept.items ≡ take len c.self.inside.window = c.keep.ensures ∙ ap (λ (b : List ℕ). take len b) is in
    subst (λ (s : S). GivesNone rem s new) c.self.view_is
    (line_begun rem old total c.clear.new.self c.keep.new.kept.items lines short partial full c.self.invariant.lawful kept (ap length is) c.clear.ensures.empty)
