-- Buffered bytes, and their consumption.
use Rattle.std.proofs.Common.{◌≡◌, ℕ, ◌+◌, ◌-◌, ◌≤◌, List, ◌++◌, Option, None, Some, length, take, drop, slice_range, sym, ap, ◌∙◌, subst, arith, drop-drop, length-drop, length-take-le, take-append-drop}
use Rattle.std.proofs.lemmas.List.{drop-take}
use Rattle.std.proofs.Math.Seq.{take-append_seam}
use Rattle.std.specs.Io.KnownBytes.{Consumes, Keeps, prepend_known}
use Rattle.std.proofs.KnownBytes.{Keeps-refl, prepend_known-read}

-- a range of bytes, without its first n
pub range_advance : (xs : List ℕ) (start end n : ℕ) → start + n ≤ end → slice_range xs (start + n) end ≡ drop n (slice_range xs start end)
range_advance xs start end n within =
    let whole : n + (end - (start + n)) ≡ end - start = omega arith in
    ap (take (end - (start + n))) (sym (drop-drop n start xs))
    ∙ sym (drop-take n (end - (start + n)) (drop start xs))
    ∙ ap (λ k. drop n (take k (drop start xs))) whole

pub range_length : (xs : List ℕ) (start end : ℕ) → start ≤ end → end ≤ length xs → length (slice_range xs start end) ≡ end - start
range_length xs start end ordered within = length-take-le (end - start) (drop start xs) (omega (arith, length-drop start xs))

-- the first of the buffered bytes were consumed
pub held_consumed : (held left : List ℕ) (below : Option (List ℕ)) (n : ℕ) → left ≡ drop n held → Consumes (prepend_known held below) (prepend_known left below) (take n held)
held_consumed held left below n is =
    (prepend_known-read (prepend_known held below) below held left (take n held) ⊥ (Keeps-refl (prepend_known held below)) (sym (ap (λ l. take n held ++ l) is ∙ take-append-drop n held)) (λ e. absurd e)).0

-- nothing was consumed, and then these bytes were
kept_then : (a b c : Option (List ℕ)) (front : List ℕ) → Keeps a b → Consumes b c front → Consumes a c front
kept_then None b c front kept read = tt
kept_then (Some xs) None c front kept read = absurd kept
kept_then (Some xs) (Some ys) None front kept read = absurd read
kept_then (Some xs) (Some ys) (Some zs) front kept read = sym kept ∙ read

-- the first of the buffered bytes were copied to the front of a buffer, and consumed
pub held_copied : (a b c : Option (List ℕ)) (held copied buf : List ℕ) (n : ℕ) → Keeps a b → Consumes b c (take n held) → copied ≡ take n held → n ≤ length held → Consumes a c (take n (copied ++ drop n buf))
held_copied a b c held copied buf n kept read is within =
    let count : length copied ≡ n = ap length is ∙ length-take-le n held within in
    let front : take n (copied ++ drop n buf) ≡ copied = ap (λ k. take k (copied ++ drop n buf)) (sym count) ∙ take-append_seam copied (drop n buf) in
    subst (Consumes a c) (sym (front ∙ is)) (kept_then a b c (take n held) kept read)
