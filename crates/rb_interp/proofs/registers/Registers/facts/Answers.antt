use Rattle.std.proofs.Common.{◌≡◌, length, sym, ap, ◌∙◌}
use Rattle.rb_interp.specs.inner.RegisterValues.{RegisterValues}
use Rattle.rb_interp.proofs.RegisterLaws.{as_many}
use Rattle.rb_interp.proofs.registers.Registers.facts.Goals as goal

pub returns : goal.returns
returns c =
    let kinds = c.self.inside.kinds in
    let same : length kinds ≡ length c.self.inside.numbers = c.self.invariant ∙ sym c.self.told in
    let count : length kinds ≡ 11 = c.self.invariant in
    ap (λ (l : RegisterValues). length l) (sym c.self.view_is) ∙ (as_many kinds c.self.inside.numbers same ∙ count)
