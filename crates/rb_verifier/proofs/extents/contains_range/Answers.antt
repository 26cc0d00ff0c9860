use Rattle.std.proofs.Common.{◌≡◌, ap, subst, sym, ◌∙◌, arith}
use Rattle.std.specs.Prelude.{◌+ℤ◌, ◌-ℤ◌, ◌≤ℤ◌, nat_abs, nat_le, FitsSigned}
use Rattle.std.proofs.lemmas.Int.{ints}
use mir.Syntax.{w64}
use Rattle.rb_verifier.specs.Extents.{contains_range}
use Rattle.rb_verifier.proofs.Numbers.{contains-from, cast-gap}
use Rattle.rb_verifier.proofs.extents.contains_range.Goals as goal

pub returns : goal.returns
returns c =
    let at = c.in-Some.ensures.1 in
    let from : c.in-Some.from ≡ c.args.offset +ℤ c.args.by = omega (arith, ints, at) in
    let low : c.args.first ≤ℤ c.in-Some.from = grind (arith, ints) in
    let high : c.in-Some.from ≤ℤ c.args.end = grind (arith, ints) in
    let fits : FitsSigned w64 c.in-Some.from = subst (FitsSigned w64) (sym at) c.in-Some.ensures.0 in
    let gap = cast-gap c.args.end c.in-Some.from c.ranges.end fits (grind (arith, ints)) high c.requires.end in
    let left : c.unsigned_abs.result ≡ nat_abs (c.args.end -ℤ c.in-Some.from) = c.unsigned_abs.ensures.value ∙ ap nat_abs gap in
    ap (nat_le c.args.len) left ∙ contains-from c.args.first c.args.end c.in-Some.from c.args.len low high
    ∙ ap (λ z. contains_range (record { first = c.args.first; end = c.args.end }) z c.args.len) from
