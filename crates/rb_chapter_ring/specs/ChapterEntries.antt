-- The entries of a chapter, as they are read in turn (own).
use Rattle.std.specs.Prelude.{◌≡◌, List, [], ◌∷◌, Option, None, Some}
use Rattle.rb_history.specs.declared.entries.Entry.{Entry}

-- the next entry is the oldest of those that are left; none if nothing is left
abbrev pub GivesEntry : List Entry → Option Entry → List Entry → Type 0
GivesEntry old None new = (old ≡ []) × (new ≡ [])
GivesEntry old (Some e) new = old ≡ e ∷ new
