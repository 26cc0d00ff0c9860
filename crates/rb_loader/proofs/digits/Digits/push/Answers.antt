use Rattle.std.proofs.Common.{◌≡◌, ◌≤◌, ◌++◌, ◌∷◌, ◌∙◌, [], ℕ, List, true, ap, length, subst, sym}
use Rattle.std.specs.Char.{is_ascii_hexdigit}
use Rattle.std.specs.List.{list_all}
use Rattle.rb_loader.proofs.KeptDigits.{kept_one_more, kept_still}
use Rattle.rb_loader.proofs.digits.Digits.push.Goals as goal

pub invariant_of-self : goal.invariant_of-self
invariant_of-self c =
    subst (λ (l : List ℕ). (list_all is_ascii_hexdigit l ≡ true) × (length l ≤ 65568)) (sym (c.in_err-push.ensures.items ∙ c.shorten.ensures))
    (kept_still c.self.inside.kept.items c.self.invariant.0 c.self.invariant.1)

pub invariant_of-self-2 : goal.invariant_of-self-2
invariant_of-self-2 c =
    subst (λ (l : List ℕ). (list_all is_ascii_hexdigit l ≡ true) × (length l ≤ 65568)) (sym (c.in_ok-push.ensures.items ∙ ap (λ (l : List ℕ). l ++ c.args.digit ∷ []) c.shorten.ensures))
    (kept_one_more c.self.inside.kept.items c.args.digit c.requires.digit c.self.invariant.0 c.self.invariant.1)
