-- The maximum over the units of a program.
use Rattle.std.proofs.Common.{◌≡◌, ◌⊎◌, inl, inr, ⊎_elim, ℕ, ◌+◌, ◌<◌, ◌≤◌, sym, ◌∙◌, ap, subst, List, Some, None, arith}
use Rattle.std.specs.Prelude.{max}
use Rattle.std.proofs.lemmas.Bool.{cases_lt}
use Rattle.rb_insn.specs.declared.insn.Insn.{Insn}
use Rattle.rb_program.specs.Program.{unit_count, slot_at}
use Rattle.rb_program.specs.Shape.{IsInstructionStart}
use Rattle.rb_program.proofs.ShapeLaws.{begins-lt}
use Rattle.rb_cost.specs.Paths.{IsMost}
use Rattle.rb_cost.specs.inner.Pass.{IsMostBefore}

module _ (program : List Insn) (f : ℕ → ℕ) where
  module _ {most unit : ℕ} (h : IsMostBefore program f most unit) where
    -- a unit at which no instruction begins changes nothing
    pub none_here : slot_at program unit ≡ None → IsMostBefore program f most (unit + 1)
    none_here none = record {
      passed = λ other lt there. ⊎_elim
          (λ earlier. h.passed other earlier there)
          (λ late. let here : unit ≡ other = omega arith in let both : None ≡ Some there.0 = sym none ∙ (ap (slot_at program) here ∙ there.1) in cc)
          (cases_lt other unit);
      found = h.found;
    }

    -- at an instruction
    pub one_more : (insn : Insn) → slot_at program unit ≡ Some insn → (n : ℕ) → n ≡ f unit → IsMostBefore program f (max most n) (unit + 1)
    one_more insn begins n is = record {
      passed = λ other lt there. ⊎_elim
          (λ earlier. let below : f other ≤ most = h.passed other earlier there in omega arith)
          (λ late. let here : unit ≡ other = omega arith in let same : f unit ≡ f other = ap f here in omega arith)
          (cases_lt other unit);
      found = found_after (cases_lt most n);
    }
      where
        found_after : (most < n) ⊎ (n ≤ most) → (max most n ≡ 0) ⊎ ((other : ℕ) × IsInstructionStart program other × (f other ≡ max most n))
        found_after (inl more) = inr (unit, (insn, begins), omega arith)
        found_after (inr less) =
            let old : max most n ≡ most = omega arith in
            subst (λ m. (m ≡ 0) ⊎ ((other : ℕ) × IsInstructionStart program other × (f other ≡ m))) (sym old) h.found

    pub most_of_units : unit ≡ unit_count program → IsInstructionStart program 0 → IsMost (IsInstructionStart program) f most
    most_of_units last first = record {
      reached = ⊎_elim
          (λ zero. (0, first, let below : f 0 ≤ most = most_of 0 first in omega arith))
          (λ some. some)
          h.found;
      most = most_of;
    }
      where
        most_of : (other : ℕ) → IsInstructionStart program other → f other ≤ most
        most_of other there = let inside : other < unit_count program = begins-lt program other there.0 there.1 in h.passed other (omega arith) there
