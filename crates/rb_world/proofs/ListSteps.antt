-- Lists that a loop traverses element by element.
use Rattle.std.proofs.Common.{◌≡◌, ℕ, ◌+◌, ◌<◌, ◌≤◌, List, [], ◌∷◌, ◌++◌, length, take, get_or, false, refl, sym, ap, subst, arith}
use Rattle.std.specs.Prelude.{All, ◌==◌}
use Rattle.std.specs.List.{AllZip}
use Rattle.std.proofs.lemmas.List.{take_more, take_all}
use Rattle.std.proofs.lemmas.List.Elements.{All-more}

module _ {X : Type 0} (P : X → Type 0) (xs : List X) (i : ℕ) where
  -- one more element satisfies P
  pub all-more : (d : X) → i < length xs → P (get_or xs i d) → All P (take i xs) → All P (take (i + 1) xs)
  all-more d low holds so_far = All-more P xs i d low so_far holds

  -- all elements do
  pub all-done : length xs ≤ i → All P (take i xs) → All P xs
  all-done high so_far = subst (All P) (take_all i xs high) so_far

module _ {X Y : Type 0} where
  zip-push : (R : X → Y → Type 0) (xs : List X) (ys : List Y) (x : X) (y : Y) → AllZip R xs ys → R x y → AllZip R (xs ++ x ∷ []) (ys ++ y ∷ [])
  zip-push R [] [] x y h r = (r, tt)
  zip-push R [] (b ∷ ys) x y h r = absurd h
  zip-push R (a ∷ xs) [] x y h r = absurd h
  zip-push R (a ∷ xs) (b ∷ ys) x y h r = (h.0, zip-push R xs ys x y h.1 r)

  pub zip-more : (R : X → Y → Type 0) (xs : List X) (i : ℕ) (ys : List Y) (d : X) (y : Y) → i < length xs → R (get_or xs i d) y → AllZip R (take i xs) ys → AllZip R (take (i + 1) xs) (ys ++ y ∷ [])
  zip-more R xs i ys d y low r so_far = subst (λ l. AllZip R l (ys ++ y ∷ [])) (sym (take_more xs i d low)) (zip-push R (take i xs) ys (get_or xs i d) y so_far r)

  pub zip-long : (R : X → Y → Type 0) (xs : List X) (ys : List Y) → AllZip R xs ys → length xs ≡ length ys
  zip-long R [] [] h = refl
  zip-long R [] (b ∷ ys) h = absurd h
  zip-long R (a ∷ xs) [] h = absurd h
  zip-long R (a ∷ xs) (b ∷ ys) h = ap ℕ.suc (zip-long R xs ys h.1)

pub some-element : (n : ℕ) → (n == 0) ≡ false → 1 ≤ n
some-element ℕ.zero e = absurd (cc)
some-element (ℕ.suc n) e = omega arith
