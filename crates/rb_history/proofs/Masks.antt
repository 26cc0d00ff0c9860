-- A power of two as a mask.
use Rattle.std.proofs.Common.{◌≡◌, ℕ, ◌-◌, ◌%◌, sym, subst, bit_and}
use Rattle.std.specs.Int.{IsPowerOfTwo}
use Rattle.std.proofs.lemmas.Nat.{and_mask}

pub mask-is : (size p : ℕ) → IsPowerOfTwo size → bit_and p (size - 1) ≡ p % size
mask-is size p z = subst (λ s. bit_and p (s - 1) ≡ p % s) (sym z.1) (and_mask p z.0)
