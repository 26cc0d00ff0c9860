use Rattle.std.proofs.Common.{◌≡◌, length, set, sym, ap, ◌∙◌}
use Rattle.rb_semantics.specs.declared.value.Value.TheVariants.{Nothing}
use Rattle.rb_interp.specs.inner.RegisterValues.{RegisterValues}
use Rattle.rb_interp.proofs.RegisterLaws.{arguments_cleared}
use Rattle.rb_interp.proofs.registers.Registers.clear_arguments.Goals as goal

pub returns : goal.returns
returns c =
    let kinds = c.self.inside.kinds in
    let numbers = c.self.inside.numbers in
    let many : length kinds ≡ 11 = c.self.invariant in
    let as_many : length kinds ≡ length numbers = c.self.invariant ∙ sym c.self.told in
    arguments_cleared kinds numbers many (sym as_many ∙ many) ∙ ap (λ (l : RegisterValues). set (set (set (set (set l 1 Nothing) 2 Nothing) 3 Nothing) 4 Nothing) 5 Nothing) c.self.view_is
