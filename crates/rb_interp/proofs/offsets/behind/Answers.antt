use Rattle.std.proofs.Common.{◌≡◌, ap, sym, ◌∙◌, subst, arith}
use Rattle.std.specs.Prelude.{◌+ℤ◌, FitsSigned}
use Rattle.std.specs.Int.{cast_signed, cast_unsigned}
use Rattle.std.proofs.lemmas.Int.{ints, to_z-of_z}
use mir.Syntax.{w64}
use Rattle.rb_interp.specs.inner.NearOffsets.{IsNear}
use Rattle.rb_interp.proofs.Nearness.{near_sum, far_fits}
use Rattle.rb_interp.proofs.offsets.behind.Goals as goal

pub overflow_add-result : goal.overflow_add-result
overflow_add-result c =
    let sum : cast_signed w64 (cast_unsigned w64 c.args.start) +ℤ cast_signed w64 (cast_unsigned w64 c.from.result) ≡ c.args.start +ℤ c.args.by = omega (arith, ints) in
    subst (FitsSigned w64) (sym sum) (far_fits (c.args.start +ℤ c.args.by) (near_sum c.args.start c.args.by c.requires c.ranges.by))

pub returns : goal.returns
returns c =
    let near : IsNear (c.args.start +ℤ c.args.by) = near_sum c.args.start c.args.by c.requires c.ranges.by in
    let sum : cast_signed w64 (cast_unsigned w64 c.args.start) +ℤ cast_signed w64 (cast_unsigned w64 c.from.result) ≡ c.args.start +ℤ c.args.by = omega (arith, ints) in
    let value : cast_signed w64 (cast_unsigned w64 (cast_signed w64 (cast_unsigned w64 c.args.start) +ℤ cast_signed w64 (cast_unsigned w64 c.from.result))) ≡ c.args.start +ℤ c.args.by =
    ap (λ z. cast_signed w64 (cast_unsigned w64 z)) sum ∙ to_z-of_z w64 (c.args.start +ℤ c.args.by) (far_fits (c.args.start +ℤ c.args.by) near) in
    record { sum = value; near = subst IsNear (sym value) near }
