-- The law of bytes that are overwritten by equally many others: the result is the new bytes.
use Rattle.std.proofs.Common.{◌≡◌, ℕ, List, length, take, drop, ◌++◌, sym, ◌∙◌, ap}
use Rattle.std.proofs.Math.Seq.{take-append_seam}
use Rattle.rb_lend.specs.Ranges.{in_place_of}

pub rewritten_in_place : (s w : List ℕ) → length w ≡ length s → in_place_of s w ≡ w
rewritten_in_place s w e = ap (λ n. take n (w ++ drop (length w) s)) (sym e) ∙ take-append_seam w (drop (length w) s)
