use Rattle.std.proofs.Common.{◌≡◌, Decides, sym, ◌∙◌, rules}
use Rattle.std.proofs.lemmas.Slice.Eq.{slice_eq-Decides}
use Rattle.rb_verifier.proofs.references.Held.is_same.Goals as goal

pub returns : goal.returns
returns c =
    let decides : Decides c.eq.result (c.as_slice.result.now ≡ c.as_slice-2.result.now) = slice_eq-Decides (λ a b. search rules) c.as_slice.result.now c.as_slice-2.result.now c.eq.result c.eq.ensures in
    let left : c.as_slice.result.now ≡ c.args.self.now = c.as_slice.ensures.items in
    let right : c.as_slice-2.result.now ≡ c.args.other.now = c.as_slice-2.ensures.items in
    (λ t. sym left ∙ decides.0 t ∙ right, λ e. decides.1 (left ∙ e ∙ sym right))
