-- A buffer whose first bytes wait.
use Rattle.std.proofs.Common.{◌≡◌, ℕ, ◌+◌, ◌-◌, ◌≤◌, List, ◌++◌, length, take, drop, sym, ap, ◌∙◌, arith, length-drop, take-append-drop}
use Rattle.std.specs.List.{copy_within}
use lib.Seq.{paste}
use Rattle.std.proofs.lemmas.List.{drop-take}
use Rattle.std.proofs.lemmas.List.Edits.{take-paste}

-- the waiting bytes, after the unsent ones were moved to the front
pub moved_to_front : (room : List ℕ) (sent count : ℕ) → sent ≤ count → count ≤ length room → take (count - sent) (copy_within room sent count 0) ≡ drop sent (take count room)
moved_to_front room sent count less within =
    let left : count - sent ≡ 0 + (count - sent) = omega arith in
    let whole : sent + (count - sent) ≡ count = omega arith in
    ap (λ k. take k (paste room 0 (drop sent room) (count - sent))) left
    ∙ take-paste room 0 (drop sent room) (count - sent) (omega arith) (omega (arith, length-drop sent room))
    ∙ sym (drop-take sent (count - sent) room) ∙ ap (λ k. drop sent (take k room)) whole

-- the bytes that waited are those that were sent, followed by those that still wait
pub sent_and_left : (room : List ℕ) (sent count : ℕ) → sent ≤ count → count ≤ length room → take count room ≡ take sent (take count room) ++ take (count - sent) (copy_within room sent count 0)
sent_and_left room sent count less within =
    sym (take-append-drop sent (take count room)) ∙ ap (λ rest. take sent (take count room) ++ rest) (sym (moved_to_front room sent count less within))
