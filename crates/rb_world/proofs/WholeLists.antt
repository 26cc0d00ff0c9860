-- The rings of a world, and the same rings with their whole histories.
use Rattle.std.proofs.Common.{◌≡◌, ℕ, ◌<◌, List, [], ◌∷◌, length, map, get_or, set, refl, sym, ap, subst, ◌∙◌, arith}
use Rattle.rb_history.specs.RoomRule.{Setup}
use Rattle.rb_chapter_ring.specs.Chapters.{Chapter}
use Rattle.rb_world.specs.WorldValue.{KeptRing, world_ring}
use Rattle.rb_world.specs.TurnsDone.{chapters_of}
use Rattle.rb_world.specs.inner.FittingWorlds.{setups_of}

module _ {X Y : Type 0} (f : X → Y) where
  pub map-length : (xs : List X) → length (map f xs) ≡ length xs
  map-length [] = refl
  map-length (x ∷ xs) = ap ℕ.suc (map-length xs)

  pub map-low : (xs : List X) (i : ℕ) → i < length xs → i < length (map f xs)
  map-low xs i low = subst (λ n. i < n) (sym (map-length xs)) low

  pub map-there : (xs : List X) (i : ℕ) (x : X) → x ≡ get_or xs i x → f x ≡ get_or (map f xs) i (f x)
  map-there [] i x e = refl
  map-there (y ∷ xs) ℕ.zero x e = ap f e
  map-there (y ∷ xs) (ℕ.suc i) x e = map-there xs i x e

  pub map-at : (xs : List X) (i : ℕ) (d : X) (e : Y) → i < length xs → get_or (map f xs) i e ≡ f (get_or xs i d)
  map-at [] i d e low = absurd (omega arith)
  map-at (y ∷ xs) ℕ.zero d e low = refl
  map-at (y ∷ xs) (ℕ.suc i) d e low = map-at xs i d e (omega arith)

  pub map-set : (xs : List X) (i : ℕ) (x : X) → map f (set xs i x) ≡ set (map f xs) i (f x)
  map-set [] i x = refl
  map-set (y ∷ xs) ℕ.zero x = refl
  map-set (y ∷ xs) (ℕ.suc i) x = ap (λ l. f y ∷ l) (map-set xs i x)

  -- replacing an element by one with the same image
  pub map-set-same : (xs : List X) (i : ℕ) (x y : X) → x ≡ get_or xs i x → f y ≡ f x → map f (set xs i y) ≡ map f xs
  map-set-same [] i x y there same = refl
  map-set-same (z ∷ xs) ℕ.zero x y there same = ap (λ u. u ∷ map f xs) (same ∙ ap f there)
  map-set-same (z ∷ xs) (ℕ.suc i) x y there same = ap (λ l. f z ∷ l) (map-set-same xs i x y there same)

abbrev setup-shown : ℕ × List Chapter × Chapter → Setup
setup-shown m = m.2.opening.setup

setups-shown : (rings : List KeptRing) → setups_of (map world_ring rings) ≡ map setup-shown (map chapters_of rings)
setups-shown [] = refl
setups-shown (s ∷ rings) = ap (λ l. s.ring.state.ring.chapter.opening.setup ∷ l) (setups-shown rings)

-- rings in the same chapters have the same setups
pub setups-by-chapters : (one other : List KeptRing) → map chapters_of one ≡ map chapters_of other → setups_of (map world_ring one) ≡ setups_of (map world_ring other)
setups-by-chapters one other same = setups-shown one ∙ (ap (map setup-shown) same ∙ sym (setups-shown other))

pub length-by-chapters : (one other : List KeptRing) → map chapters_of one ≡ map chapters_of other → length one ≡ length other
length-by-chapters one other same = sym (map-length chapters_of one) ∙ (ap length same ∙ map-length chapters_of other)
