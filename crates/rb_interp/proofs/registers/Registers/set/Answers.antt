use Rattle.std.proofs.Common.{set, ap, ◌∙◌, arith}
use Rattle.rb_interp.specs.inner.RegisterValues.{RegisterValues, shown_values}
use Rattle.rb_interp.proofs.RegisterLaws.{value_set}
use Rattle.rb_interp.proofs.registers.Registers.set.Goals as goal

pub returns : goal.returns
returns c =
    let kinds = c.self.inside.kinds in
    let numbers = c.self.inside.numbers in
    let i = c.args.reg.number in
    let k = c.kept-kind.result.0 in
    let n = c.kept-kind.result.1 in
    let told = c.self.told in
    let bound = c.args.reg.bounded in
    let done = value_set kinds numbers i k n (omega (arith, told, bound)) (omega (arith, told, bound)) in
    ap (λ j. shown_values (set kinds j k) (set numbers j n)) c.index-at.ensures.value
    ∙ (done ∙ (ap (λ v. set (shown_values kinds numbers) i v) c.kept-kind.ensures ∙ ap (λ (l : RegisterValues). set l i c.args.value) c.self.view_is))
