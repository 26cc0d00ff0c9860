use Rattle.std.proofs.Common.{◌≡◌, ℕ, ◌+◌, ◌*◌, ◌/◌, ◌<◌, ◌≤◌, ◌^◌, max, sym, ap, ◌∙◌, inl, inr, arith}
use Rattle.std.proofs.lemmas.Bool.{cases_order, cases_lt, eq-eqb, eqb-true}
use Rattle.std.proofs.lemmas.Nat.{pow_below, pow_pos, pow-add}
use Rattle.rb_history.proofs.bounds.is_size.Goals as goal

-- the least power of two that is not less than a power of two is that power
same-power : (p s j k : ℕ) → p ≡ 2 ^ j → s ≡ 2 ^ k → s ≤ p → p / 2 < max 1 s → p ≡ s
same-power p s j k is too low high = elim (cases_order j k) [
  | inl e ↦ is ∙ ap (λ x. 2 ^ x) e ∙ sym too
  | inr (inl below) ↦ let less : 2 ^ j < 2 ^ k = pow_below j k below in absurd (omega arith)
  | inr (inr above) ↦
      let some : 0 < 2 ^ k = pow_pos k in
      let twice : 2 ^ (k + 1) ≡ 2 ^ k * 2 = pow-add 2 k 1 in
      elim (cases_lt (k + 1) j) [
        | inl far ↦ let less : 2 ^ (k + 1) < 2 ^ j = pow_below (k + 1) j far in absurd (omega arith)
        | inr near ↦ let next : j ≡ k + 1 = omega arith in let last : 2 ^ j ≡ 2 ^ (k + 1) = ap (λ x. 2 ^ x) next in absurd (omega arith)
      ]
]

pub returns : goal.returns
returns c =
    let n = c.next_power_of_two in record {
      test = (
        (λ t. (let e : n.result ≡ c.args.size = eqb-true _ _ t in (n.ensures.power.0, sym e ∙ n.ensures.power.1), omega arith, omega arith)),
        (λ z. eq-eqb _ _ (same-power n.result c.args.size n.ensures.power.0 z.0.0 n.ensures.power.1 z.0.1 n.ensures.lower_bound n.ensures.upper_bound)),
      );
    }
