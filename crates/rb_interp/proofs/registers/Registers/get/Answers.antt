use Rattle.std.proofs.Common.{get_or, sym, ap, ◌∙◌, arith}
use Rattle.rb_semantics.specs.declared.value.Value.TheVariants.{Nothing}
use Rattle.rb_interp.specs.declared.registers.Kind.TheVariants as kind
use Rattle.rb_interp.specs.inner.RegisterValues.{RegisterValues, shown_value}
use Rattle.rb_interp.proofs.RegisterLaws.{value_at}
use Rattle.rb_interp.proofs.registers.Registers.get.Goals as goal

pub returns : goal.returns
returns c =
    let kinds = c.self.inside.kinds in
    let numbers = c.self.inside.numbers in
    let i = c.args.reg.number in
    let told = c.self.told in
    let bound = c.args.reg.bounded in
    let at = value_at kinds numbers i kind.Nothing 0 (omega (arith, told, bound)) (omega (arith, told, bound)) in
    c.shown.ensures ∙ (ap (λ j. shown_value (get_or kinds j kind.Nothing) (get_or numbers j 0)) c.index-at.ensures.value ∙ (sym at ∙ ap (λ (l : RegisterValues). get_or l i Nothing) c.self.view_is))
