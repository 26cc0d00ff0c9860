use Rattle.std.proofs.Common.{◌≡◌, ℕ, ◌+◌, ◌/◌, ◌%◌, ◌<◌, ◌∷◌, [], ◌++◌, ap, ◌∙◌, lit<}
use Rattle.std.proofs.lemmas.Fmt.{decimal_digit}
use Rattle.std.specs.Fmt.{decimal}
use Rattle.rb_version.specs.declared.TheConstants.{VERSION_NUMBER}
use Rattle.rb_version.proofs.versions_agree.Goals as goal

-- the text of three numbers of one digit each
of_digits : (a b c : ℕ) → a < 10 → b < 10 → c < 10 → decimal a ++ 46 ∷ (decimal b ++ 46 ∷ decimal c) ≡ (48 + a) ∷ 46 ∷ (48 + b) ∷ 46 ∷ (48 + c) ∷ []
of_digits a b c x y z =
    ap (λ d. d ++ 46 ∷ (decimal b ++ 46 ∷ decimal c)) (decimal_digit a x) ∙ ap (λ d. (48 + a) ∷ 46 ∷ (d ++ 46 ∷ decimal c)) (decimal_digit b y) ∙ ap (λ d. (48 + a) ∷ 46 ∷ (48 + b) ∷ 46 ∷ d) (decimal_digit c z)

pub returns : goal.returns
returns c =
    let text = of_digits (VERSION_NUMBER / 65536) (VERSION_NUMBER / 256 % 256) (VERSION_NUMBER % 256) (lit< tt) (lit< tt) (lit< tt) in
    cc
