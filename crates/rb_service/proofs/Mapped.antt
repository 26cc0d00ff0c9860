-- A list that grows with another one: their images are equal so far.
use Rattle.std.proofs.Common.{◌≡◌, ℕ, ◌+◌, ◌<◌, ◌≤◌, List, [], ◌∷◌, ◌++◌, get_or, length, map, take, sym, ap, ◌∙◌, arith}
use Rattle.std.proofs.lemmas.List.{get_or-map, length-map, map-append, take_all, take_more}

module _ {A B C : Type 0} (f : A → C) (g : B → C) (of : List B) where
  -- one more element
  pub map_more : (made mid new : List A) (i : ℕ) (one : A) (d : B) → i < length of → mid ≡ made → new ≡ mid ++ one ∷ [] → f one ≡ g (get_or of i d) → map f made ≡ take i (map g of) → map f new ≡ take (i + 1) (map g of)
  map_more made mid new i one d below same grown is so_far =
      let within : i < length (map g of) = omega (arith, length-map of g) in
      ap (map f) (grown ∙ ap (λ l. l ++ one ∷ []) same)
      ∙ (map-append f made (one ∷ [])
      ∙ (ap (λ l. l ++ f one ∷ []) so_far
      ∙ (ap (λ e. take i (map g of) ++ e ∷ []) (is ∙ sym (get_or-map g of i d (g d) below))
      ∙ sym (take_more (map g of) i (g d) within))))

  -- the whole
  pub map_whole : (made : List A) (i : ℕ) → length of ≤ i → map f made ≡ take i (map g of) → map f made ≡ map g of
  map_whole made i all so_far = so_far ∙ take_all i (map g of) (omega (arith, length-map of g))
