-- The bytes of a window.
use Rattle.std.proofs.Common.{◌≡◌, ℕ, ◌+◌, ◌-◌, ◌≤◌, List, ◌++◌, length, take, drop, sym, ap, ◌∙◌, append_assoc, arith}
use Rattle.std.specs.List.{copy_within}
use lib.Seq.{paste}
use Rattle.std.proofs.lemmas.List.{drop-take, length-drop, length-take-le, take-append-le}
use Rattle.std.proofs.lemmas.List.Edits.{take-paste}
use Rattle.std.proofs.Math.Seq.{take-append-add, take-take}

-- the bytes from `at` to `end`, after they were moved to the front
pub moved_front : (room : List ℕ) (at end : ℕ) → at ≤ end → end ≤ length room → take (end - at) (copy_within room at end 0) ≡ drop at (take end room)
moved_front room at end less within =
    let left : end - at ≡ 0 + (end - at) = omega arith in
    let whole : at + (end - at) ≡ end = omega arith in
    ap (λ k. take k (paste room 0 (drop at room) (end - at))) left
    ∙ take-paste room 0 (drop at room) (end - at) (omega arith) (omega (arith, length-drop at room))
    ∙ sym (drop-take at (end - at) room) ∙ ap (λ k. drop at (take k room)) whole

regroup : (a b c d : List ℕ) → (a ++ (b ++ c)) ++ d ≡ a ++ (b ++ (c ++ d))
regroup a b c d = simp append_assoc

-- bytes that were read after the first k
pub read_behind : (k n len : ℕ) (room read past more : List ℕ) → k ≤ length room → n ≤ length read → k + n ≤ len → take (k + n) (take len ((take k room ++ (read ++ past)) ++ more)) ≡ take k room ++ take n read
read_behind k n len room read past more a b c =
    let front : length (take k room) ≡ k = length-take-le k room a in
    take-take (k + n) len ((take k room ++ (read ++ past)) ++ more) c
    ∙ ap (take (k + n)) (regroup (take k room) read past more)
    ∙ ap (λ m. take (m + n) (take k room ++ (read ++ (past ++ more)))) (sym front)
    ∙ take-append-add (take k room) (read ++ (past ++ more)) n
    ∙ ap (λ r. take k room ++ r) (take-append-le n read (past ++ more) b)
