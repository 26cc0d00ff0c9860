-- Registers by their numbers.
use Rattle.std.proofs.Common.{◌≡◌, ℕ, ◌≤◌, min, ap, subst, arith}
use Rattle.std.proofs.Math.Bridge.{le_prop}
use Rattle.rb_insn.specs.declared.reg.Reg.{Reg}

same_reg : (n m : ℕ) → n ≡ m → (h : n ≤ 10) (g : m ≤ 10) → (let r : Reg = record { number = n; bounded = h } in r) ≡ record { number = m; bounded = g }
same_reg n m e h =
    let P : ℕ → Type 0 = λ i. (g : i ≤ 10) → (let r : Reg = record { number = n; bounded = h } in r) ≡ record { number = i; bounded = g } in
    subst P e (λ g. ap (λ (f : n ≤ 10). (let r : Reg = record { number = n; bounded = f } in r)) (le_prop h g))

-- registers with the same number are equal
pub reg-by_number : (a b : Reg) → a.number ≡ b.number → a ≡ b
reg-by_number a b e = same_reg a.number b.number e a.bounded b.bounded

-- the register with this number, or r10 if the number is greater
pub reg_of : ℕ → Reg
reg_of n = record { number = min n 10; bounded = omega arith }

pub reg_of-number : (r : Reg) → reg_of r.number ≡ r
unfolding reg_of
reg_of-number r = let h = r.bounded in reg-by_number (reg_of r.number) r (omega arith)
