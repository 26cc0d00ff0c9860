-- The ids of the records that a state holds.
use Rattle.std.specs.Prelude.{ℕ, ◌<◌, List, [], ◌∷◌}
use Rattle.std.specs.List.{AllByRecursion}

-- the ids of the records are strictly ascending
abbrev pub IdsAscend : List (ℕ × List ℕ) → Type 0
IdsAscend [] = Unit {0}
IdsAscend (r ∷ records) = AllByRecursion (λ later. r.0 < later.0) records × IdsAscend records

-- each record was reserved before the unit
abbrev pub IdsAreBefore : ℕ → List (ℕ × List ℕ) → Type 0
IdsAreBefore unit records = AllByRecursion (λ r. r.0 < unit) records
