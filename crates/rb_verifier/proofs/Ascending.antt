-- References stay in ascending order of their ids.
use Rattle.std.proofs.Common.{◌≡◌, ℕ, ◌+◌, ◌<◌, Bool, true, false, cond, refl, sym, subst, List, [], ◌∷◌, ◌++◌, filter, map, arith}
use Rattle.std.specs.List.{AllByRecursion}
use Rattle.std.specs.Prelude.{◌==◌, if◌then◌else◌}
use Rattle.rb_verifier.specs.declared.references.Reference.{Reference}
use Rattle.rb_verifier.specs.References.{IsAscending, AreEarlier, tested_in}

-- marking a reference as tested keeps its id
pub tested_in-id : (id : ℕ) (r : Reference) → (tested_in id r).id ≡ r.id
tested_in-id id r = elim (r.id == id) as (λ b. (if b then record r { sure = true } else r).id ≡ r.id) [ true ↦ refl | false ↦ refl ]

module _ (P : ℕ → Type 0) where
  abbrev AllIds : List Reference → Type 0
  AllIds = AllByRecursion (λ r. P r.id)

  pub ids_tested : (id : ℕ) (rs : List Reference) → AllIds rs → AllIds (map (tested_in id) rs)
  ids_tested id [] h = tt
  ids_tested id (r ∷ rs) h = (subst P (sym (tested_in-id id r)) h.0, ids_tested id rs h.1)

  pub ids_filtered : (p : Reference → Bool) (rs : List Reference) → AllIds rs → AllIds (filter p rs)
  ids_filtered p [] h = tt
  ids_filtered p (r ∷ rs) h =
      elim (p r) as (λ b. AllIds (cond b (r ∷ filter p rs) (filter p rs))) [ true ↦ (h.0, ids_filtered p rs h.1) | false ↦ ids_filtered p rs h.1 ]

  pub ids_added : (r : Reference) (rs : List Reference) → AllIds rs → P r.id → AllIds (rs ++ r ∷ [])
  ids_added r [] h k = (k, tt)
  ids_added r (q ∷ rs) h k = (h.0, ids_added r rs h.1 k)

pub ids_weaker : (P Q : ℕ → Type 0) → ((n : ℕ) → P n → Q n) → (rs : List Reference) → AllIds P rs → AllIds Q rs
ids_weaker P Q f [] h = tt
ids_weaker P Q f (r ∷ rs) h = (f r.id h.0, ids_weaker P Q f rs h.1)

pub ascending_tested : (id : ℕ) (rs : List Reference) → IsAscending rs → IsAscending (map (tested_in id) rs)
ascending_tested id [] h = tt
ascending_tested id (r ∷ rs) h =
    (subst (λ n. AllIds (λ later. n < later) (map (tested_in id) rs)) (sym (tested_in-id id r)) (ids_tested (λ later. r.id < later) id rs h.0), ascending_tested id rs h.1)

pub ascending_filtered : (p : Reference → Bool) (rs : List Reference) → IsAscending rs → IsAscending (filter p rs)
ascending_filtered p [] h = tt
ascending_filtered p (r ∷ rs) h =
    elim (p r) as (λ b. IsAscending (cond b (r ∷ filter p rs) (filter p rs)))
    [ true ↦ (ids_filtered (λ later. r.id < later) p rs h.0, ascending_filtered p rs h.1) | false ↦ ascending_filtered p rs h.1 ]

pub ascending_added : (r : Reference) (rs : List Reference) → IsAscending rs → AreEarlier r.id rs → IsAscending (rs ++ r ∷ [])
ascending_added r [] h k = (tt, tt)
ascending_added r (q ∷ rs) h k = (ids_added (λ later. q.id < later) r rs h.0 k.0, ascending_added r rs h.1 k.1)

-- a reference reserved before a unit is reserved before the next unit, too
pub earlier_next : (unit : ℕ) (rs : List Reference) → AreEarlier unit rs → AreEarlier (unit + 1) rs
earlier_next unit rs h = ids_weaker (λ n. n < unit) (λ n. n < unit + 1) (λ n lt. omega arith) rs h
