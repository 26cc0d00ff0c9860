-- A prefix of what was read, as a sequence of parts.
use Rattle.std.proofs.Common.{◌≡◌, ℕ, ◌+◌, ◌≤◌, List, [], ◌∷◌, ◌++◌, length, take, ap, zero-add, suc-add}
use Rattle.std.proofs.lemmas.List.{take-append-le}

-- a prefix that consists of whole parts and a prefix of the next part
pub take_parts : (done part rest : List ℕ) (n : ℕ) → n ≤ length part → take (length done + n) (done ++ (part ++ rest)) ≡ done ++ take n part
take_parts [] part rest n h = rw zero-add (take-append-le n part rest h)
take_parts (x ∷ done) part rest n h = rw suc-add (ap (λ xs. x ∷ xs) (take_parts done part rest n h))
