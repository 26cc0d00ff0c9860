-- Texts without a byte that JSON escapes.
use Rattle.std.proofs.Common.{◌≡◌, ℕ, List, ◌++◌, true, ◌∙◌, ap}
use Rattle.std.specs.Prelude.{codes, ◌&&◌}
use Rattle.std.specs.List.{list_all}
use Rattle.std.proofs.lemmas.List.Folds.{list_all-append}
use Rattle.rb_explain.specs.Explanations.{IsPlainText, is_plain_byte}

-- a name, a colon and an advice
pub named_plain : (name advice text : List ℕ) → text ≡ name ++ codes ": " ++ advice → IsPlainText name → IsPlainText advice → IsPlainText text
named_plain name advice text is first rest =
    let front : IsPlainText (name ++ codes ": ") = list_all-append is_plain_byte name (codes ": ") ∙ (λ i. first i && true) in
    ap (list_all is_plain_byte) is ∙ list_all-append is_plain_byte (name ++ codes ": ") advice ∙ (λ i. front i && rest i)
