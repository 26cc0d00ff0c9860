use Rattle.std.proofs.Common.{◌≡◌, ℕ, ◌+◌, ◌*◌, ◌/◌, ◌<◌, ◌≤◌, ◌^◌, max, sym, ap, ◌∙◌, inl, inr, arith}
use Rattle.std.proofs.lemmas.Bool.{cases_order, eq-eqb, eqb-true}
use Rattle.std.proofs.lemmas.Nat.{pow_below, pow_pos, pow-add}
use Rattle.rb_linux_ring.proofs.linux_header.is_linux_size.Goals as goal

-- a higher power of two is at least twice the lower one
doubles : (j k : ℕ) → k < j → 2 ^ k * 2 ≤ 2 ^ j
doubles j k more = elim (cases_order (k + 1) j) [
  | inl e ↦ let last : 2 ^ (k + 1) ≡ 2 ^ j = ap (λ x. 2 ^ x) e in let twice : 2 ^ (k + 1) ≡ 2 ^ k * 2 = pow-add 2 k 1 in omega arith
  | inr (inl below) ↦ let less : 2 ^ (k + 1) < 2 ^ j = pow_below (k + 1) j below in let twice : 2 ^ (k + 1) ≡ 2 ^ k * 2 = pow-add 2 k 1 in omega arith
  | inr (inr above) ↦ absurd (omega arith)
]

-- the next power of two of a power of two is that power
next-is-same : (p s j k : ℕ) → p ≡ 2 ^ j → s ≡ 2 ^ k → s ≤ p → p / 2 < max 1 s → p ≡ s
next-is-same p s j k is too low high = elim (cases_order j k) [
  | inl e ↦ is ∙ ap (λ x. 2 ^ x) e ∙ sym too
  | inr (inl below) ↦ let less : 2 ^ j < 2 ^ k = pow_below j k below in absurd (omega arith)
  | inr (inr above) ↦ let some : 0 < 2 ^ k = pow_pos k in let more : 2 ^ k * 2 ≤ 2 ^ j = doubles j k above in absurd (omega arith)
]

pub returns : goal.returns
returns c =
    let n = c.next_power_of_two in record {
      test = (
        (λ t. (let e : n.result ≡ c.args.size = eqb-true _ _ t in (n.ensures.power.0, sym e ∙ n.ensures.power.1), omega arith, omega arith)),
        (λ z. eq-eqb _ _ (next-is-same n.result c.args.size n.ensures.power.0 z.0.0 n.ensures.power.1 z.0.1 n.ensures.lower_bound n.ensures.upper_bound)),
      );
    }
