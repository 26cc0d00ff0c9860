use Rattle.std.proofs.Common.{get_or, set, ap, ◌∙◌, arith}
use Rattle.rb_semantics.specs.declared.value.Value.TheVariants.{Nothing}
use Rattle.rb_interp.specs.inner.RegisterValues.{RegisterValues, shown_values, renumbered}
use Rattle.rb_interp.proofs.RegisterLaws.{number_set}
use Rattle.rb_interp.proofs.registers.Registers.renumber.Goals as goal

pub returns : goal.returns
returns c =
    let kinds = c.self.inside.kinds in
    let numbers = c.self.inside.numbers in
    let i = c.args.reg.number in
    let n = c.args.number in
    let told = c.self.told in
    let bound = c.args.reg.bounded in
    let done = number_set kinds numbers i n (omega (arith, told, bound)) (omega (arith, told, bound)) in
    ap (λ j. shown_values kinds (set numbers j n)) c.index.ensures.value ∙ (done ∙ ap (λ (l : RegisterValues). set l i (renumbered (get_or l i Nothing) n)) c.self.view_is)
