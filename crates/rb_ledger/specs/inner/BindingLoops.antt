-- What the loops over chapters that are bound compute.
use Rattle.std.specs.Prelude.{◌≡◌, ℕ, ◌+◌, ◌==◌, ◌&&◌, Bool, true, List, [], ◌∷◌}
use Rattle.rb_chapter_ring.specs.Chapters.{Chapter, Meets, empty_ring, closing_of}

-- the chapters are numbered consecutively from n
abbrev pub numbered_from : ℕ → List Chapter → Bool
numbered_from n [] = true
numbered_from n (c ∷ cs) = (c.number == n) && numbered_from (n + 1) cs

-- each of the chapters after c meets the previous one
abbrev pub EachMeets : Chapter → List Chapter → Type 0
EachMeets c [] = Unit {0}
EachMeets c (d ∷ ds) = Meets c d × EachMeets d ds

-- each of the chapters after c begins where the previous one ends
abbrev pub EachFollows : Chapter → List Chapter → Type 0
EachFollows c [] = Unit {0}
EachFollows c (d ∷ ds) = (d.opening ≡ closing_of c) × EachFollows d ds

-- the first opens an empty ring, and each further one begins where the previous one ends
abbrev pub AreOpenedInTurn : List Chapter → Type 0
AreOpenedInTurn [] = Unit {0}
AreOpenedInTurn (c ∷ cs) = (c.opening ≡ empty_ring c.opening.setup) × EachFollows c cs
