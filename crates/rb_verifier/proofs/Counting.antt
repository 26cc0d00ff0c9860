-- The CALL instructions of a program are those that begin at its units.
use Rattle.std.proofs.Common.{◌≡◌, ℕ, zero, suc, ◌+◌, ◌-◌, Bool, cond, refl, sym, ◌∙◌, ap, List, [], ◌∷◌, ◌++◌, replicate, Option, Some, None, zero-add}
use Rattle.std.proofs.lemmas.List.Sums.{sum_by-cons}
use Rattle.std.specs.Prelude.{count_by}
use Rattle.rb_insn.specs.declared.insn.Insn.{Insn}
use Rattle.rb_insn.specs.Units.{units_taken}
use Rattle.rb_program.specs.Program.{units_of}
use Rattle.rb_verifier.specs.Subject.{calls, is_call, call_count}

-- the number of elements that pass a test, from the first element and the rest
pub count_by-cons : {X : Type 0} (p : X → Bool) (x : X) (xs : List X) → count_by p (x ∷ xs) ≡ cond (p x) 1 0 + count_by p xs
count_by-cons p x xs = sum_by-cons (λ x. cond (p x) 1 0) x xs

-- the other units of an instruction contain no CALL
passed_over : (n : ℕ) (slots : List (Option Insn)) → count_by calls (replicate n None ++ slots) ≡ count_by calls slots
passed_over zero slots = refl
passed_over (suc n) slots = count_by-cons calls None (replicate n None ++ slots) ∙ zero-add (count_by calls (replicate n None ++ slots)) ∙ passed_over n slots

pub count-units_of : (program : List Insn) → count_by calls (units_of program) ≡ call_count program
count-units_of [] = refl
count-units_of (insn ∷ insns) =
    let slots : List (Option Insn) = replicate (units_taken insn - 1) None ++ units_of insns in
    count_by-cons calls (Some insn) slots ∙ ap (λ n. cond (is_call insn) 1 0 + n) (passed_over (units_taken insn - 1) (units_of insns) ∙ count-units_of insns)
    ∙ sym (count_by-cons is_call insn insns)
