-- Pieces of a text, appended one after another.
use Rattle.std.proofs.Common.{◌≡◌, ℕ, List, ◌++◌, Result, Ok, Err, OnOk, refl, ap, ◌∙◌, append_assoc}
use Rattle.std.specs.Prelude.{is_ok, if◌then◌else◌}

-- two pieces, and a last one that may fail
pub three_pieces : {A E : Type 0} (r : Result A E) (old one two new a b c : List ℕ) → one ≡ old ++ a → two ≡ one ++ b → new ≡ (if is_ok r then two ++ c else two) → OnOk r (new ≡ old ++ (a ++ b ++ c))
three_pieces (Ok x) old one two new a b c first second last = last ∙ (ap (λ l. l ++ c) (second ∙ ap (λ l. l ++ b) first) ∙ simp append_assoc refl)
three_pieces (Err x) old one two new a b c first second last = tt
