use Rattle.std.proofs.Common.{◌≡◌, ◌≢◌, ℕ, ◌+◌, ◌-◌, ◌<◌, ◌≤◌, ◌^◌, min, Bool, true, false, eqb, Option, None, Some, List, [], ◌++◌, length, take, drop, refl, sym, ap, ◌∙◌, subst, arith}
use Rattle.rb_source.specs.Framing.{IsPartial}
use Rattle.rb_source.specs.Stream.{FramedInput}
use Rattle.rb_source.proofs.Steps.{fixed_fits}
use Rattle.rb_source.proofs.framed_reader.FramedReader.begin_long.Goals as goal

pub unreachable-requires : goal.unreachable-requires
unreachable-requires g c =
    let S = FramedInput g.row.R.Denot in
    let partial : IsPartial c.self.inside.framing c.self.inside.form.len c.self.inside.window = subst (λ (s : S). IsPartial s.framing s.form.len s.rest) (sym c.self.view_is) c.requires.partial in
    let full : length c.self.inside.window ≡ 131072 = ap (λ (s : S). length s.rest) c.self.view_is ∙ c.requires.full in
    fixed_fits c.self.inside.framing c.self.inside.form c.self.inside.window c.in-Fixed.is c.self.invariant.lawful partial full
