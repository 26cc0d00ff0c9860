use Rattle.std.proofs.Common.{get_or, set, sym, ap, ◌∙◌, arith}
use Rattle.rb_semantics.specs.declared.value.Value.TheVariants.{Nothing}
use Rattle.rb_interp.specs.declared.registers.Kind.TheVariants as kind
use Rattle.rb_interp.specs.inner.RegisterValues.{RegisterValues, shown_values}
use Rattle.rb_interp.proofs.RegisterLaws.{value_at, value_set}
use Rattle.rb_interp.proofs.registers.Registers.copy.Goals as goal

pub returns : goal.returns
returns c =
    let kinds = c.self.inside.kinds in
    let numbers = c.self.inside.numbers in
    let i = c.args.dst.number in
    let j = c.args.src.number in
    let k = get_or kinds j kind.Nothing in
    let n = get_or numbers j 0 in
    let told = c.self.told in
    let bound_i = c.args.dst.bounded in
    let bound_j = c.args.src.bounded in
    let at = value_at kinds numbers j kind.Nothing 0 (omega (arith, told, bound_j)) (omega (arith, told, bound_j)) in
    let done = value_set kinds numbers i k n (omega (arith, told, bound_i)) (omega (arith, told, bound_i)) in
    ap (λ d. shown_values (set kinds d (get_or kinds c.index.result kind.Nothing)) (set numbers c.index-4.result (get_or numbers c.index-3.result 0))) c.index-2.ensures.value
    ∙ (ap (λ d. shown_values (set kinds i (get_or kinds d kind.Nothing)) (set numbers c.index-4.result (get_or numbers c.index-3.result 0))) c.index.ensures.value
    ∙ (ap (λ d. shown_values (set kinds i k) (set numbers d (get_or numbers c.index-3.result 0))) c.index-4.ensures.value
    ∙ (ap (λ d. shown_values (set kinds i k) (set numbers i (get_or numbers d 0))) c.index-3.ensures.value
    ∙ (done ∙ (ap (λ v. set (shown_values kinds numbers) i v) (sym at) ∙ ap (λ (l : RegisterValues). set l i (get_or l j Nothing)) c.self.view_is)))))
