-- Bytes that are overwritten by others.
use Rattle.std.specs.Prelude.{ℕ, List, ◌++◌, take, drop, length}

-- `new` in place of `old`, truncated, or completed from `old`, so that the length does not change
abbrev pub in_place_of : List ℕ → List ℕ → List ℕ
in_place_of old new = take (length old) (new ++ drop (length new) old)

-- `bytes`, of which those from index `at` are overwritten by `new`
abbrev pub written_at : ℕ → List ℕ → List ℕ → List ℕ
written_at at bytes new = take at bytes ++ (new ++ drop (length new) (drop at bytes))
