-- How the contexts of a stream are dealt to workers (own).
use Rattle.std.specs.Prelude.{ℕ, ◌-◌, ◌<◌, ◌^◌, ◌==◌, min, Bool, false, List, filter, flat_map, All, IfSome, Option, None, Some, is_none}

-- contexts that were dealt together, in order: the worker that got them, or none if they were dropped
pub record DealtPiece : Type 0 where
  pub contexts : List (List ℕ)
  pub worker : Option ℕ

-- the contexts of the pieces, in order
abbrev pub contexts_in : List DealtPiece → List (List ℕ)
contexts_in pieces = flat_map (λ p. p.contexts) pieces

abbrev pub is_worker : ℕ → Option ℕ → Bool
is_worker k None = false
is_worker k (Some worker) = worker == k

-- the contexts that this worker got, in order
abbrev pub dealt_to : ℕ → List DealtPiece → List (List ℕ)
dealt_to k pieces = contexts_in (filter (λ p. is_worker k p.worker) pieces)

-- the contexts that no worker got, in order
abbrev pub dropped_in : List DealtPiece → List (List ℕ)
dropped_in pieces = contexts_in (filter (λ p. is_none p.worker) pieces)

-- each piece was dealt to one of `count` workers, or dropped
abbrev pub AreDealtAmong : ℕ → List DealtPiece → Type 0
AreDealtAmong count pieces = All (λ p. IfSome p.worker (λ k. k < count)) pieces

-- a 64-bit count, which saturates at the greatest number
abbrev pub saturated : ℕ → ℕ
saturated n = min n (2 ^ 64 - 1)
