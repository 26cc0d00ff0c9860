-- Lemmas for loops that append one text at each turn.
use Rattle.std.proofs.Common.{◌≡◌, ℕ, suc, ◌+◌, ◌<◌, List, ◌++◌, ap, sym, ◌∙◌, arith, get_or, take, length}
use mathlib.Core.List.{append_assoc}
use Rattle.std.specs.List.{flat_map}
use Rattle.std.proofs.lemmas.List.{flat_map_more, take_more}
use Rattle.rb_explain.specs.Joined.{joined_below}

pub joined_more : (text : ℕ → List ℕ) (n : ℕ) → joined_below text (n + 1) ≡ joined_below text n ++ text n
joined_more text n = let next : n + 1 ≡ suc n = omega arith in ap (joined_below text) next

-- if a loop has appended the texts below `n` and appends that of `n`, it has appended those below `n + 1`
pub joins : (text : ℕ → List ℕ) (n : ℕ) (first before after : List ℕ) → before ≡ first ++ joined_below text n → after ≡ before ++ text n
    → after ≡ first ++ joined_below text (n + 1)
joins text n first before after was is =
    is ∙ ap (λ x. x ++ text n) was ∙ append_assoc first (joined_below text n) (text n) ∙ ap (λ x. first ++ x) (sym (joined_more text n))

-- the same for the texts of a list's items
pub joins_item : {A : Type 0} (text : A → List ℕ) (items : List A) (n : ℕ) (item : A) (first before after : List ℕ) → n < length items
    → before ≡ first ++ flat_map text (take n items) → after ≡ before ++ text (get_or items n item)
    → after ≡ first ++ flat_map text (take (n + 1) items)
joins_item text items n item first before after inside was is =
    is ∙ ap (λ x. x ++ text (get_or items n item)) was ∙ flat_map_more text first (take n items) (get_or items n item)
    ∙ ap (λ xs. first ++ flat_map text xs) (sym (take_more items n item inside))

-- five texts in a row
pub five : (t0 t1 t2 t3 t4 t5 a b c d e : List ℕ) → t1 ≡ t0 ++ a → t2 ≡ t1 ++ b → t3 ≡ t2 ++ c → t4 ≡ t3 ++ d → t5 ≡ t4 ++ e → t5 ≡ t0 ++ (a ++ (b ++ (c ++ (d ++ e))))
five t0 t1 t2 t3 t4 t5 a b c d e e1 e2 e3 e4 e5 =
    e5 ∙ ap (λ x. x ++ e) e4 ∙ append_assoc t3 d e ∙ ap (λ x. x ++ (d ++ e)) e3 ∙ append_assoc t2 c (d ++ e) ∙ ap (λ x. x ++ (c ++ (d ++ e))) e2
    ∙ append_assoc t1 b (c ++ (d ++ e)) ∙ ap (λ x. x ++ (b ++ (c ++ (d ++ e)))) e1 ∙ append_assoc t0 a (b ++ (c ++ (d ++ e)))
