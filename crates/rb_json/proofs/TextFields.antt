-- The text field is present only for UTF-8.
use Rattle.std.proofs.Common.{◌≡◌, ℕ, List, [], ◌∷◌, ◌++◌, Bool, true, false, Result, Ok, Err, ap, sym, subst, refl, ◌∙◌, append_assoc}
use Rattle.std.specs.Prelude.{IsUtf8, OnOk, codes}
use Rattle.std.specs.Str.{is_utf8}
use Rattle.std.proofs.lemmas.List.{append-nil}
use Rattle.std.proofs.lemmas.Str.{IsUtf8-from_is_utf8, is_utf8-from_IsUtf8}
use Rattle.rb_json.specs.Json.{json_text, text_field}

not_true : (b : Bool) → (b ≡ true → ⊥) → b ≡ false
not_true true h = absurd (h refl)
not_true false h = refl

-- the field was appended after its label
pub text_added : {A B : Type 0} (answer : Result A B) (old was new text bytes : List ℕ) → IsUtf8 bytes → text ≡ bytes → was ≡ old ++ codes ",\"text\":"
    → OnOk answer (new ≡ was ++ json_text text) → OnOk answer (new ≡ old ++ text_field bytes)
text_added (Ok a) old was new text bytes is same label added =
    rw (is_utf8-from_IsUtf8 bytes is) (added ∙ ap (λ w. w ++ json_text text) label ∙ ap (λ t. old ++ codes ",\"text\":" ++ json_text t) same ∙ append_assoc old (codes ",\"text\":") (json_text bytes))
text_added (Err e) old was new text bytes is same label added = tt

-- bytes that are not UTF-8 have no text field
pub no_text : (old bytes : List ℕ) → ¬ (IsUtf8 bytes) → old ≡ old ++ text_field bytes
no_text old bytes isnt = rw (not_true (is_utf8 bytes) (λ e. isnt (IsUtf8-from_is_utf8 bytes e))) (sym (append-nil old))
