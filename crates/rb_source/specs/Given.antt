-- The result of a call of a source (own).
use Rattle.std.specs.Prelude.{ℕ, ◌≡◌, ◌<◌, List, [], ◌++◌, length, Result, Ok, Err}
use Rattle.std.proofs.Common.{ap, sym, ◌∙◌, append_assoc}
use Rattle.rb_source.specs.declared.source.Filled.{Filled}
use Rattle.rb_source.specs.declared.source.Filled.TheVariants.{More, End}
use Rattle.rb_source.specs.declared.source.SourceFault.{SourceFault}

-- the number of contexts that the call gave: one or more if it returns that more may come, none at the end and at a
-- fault
abbrev pub HasGiven : List (List ℕ) → Result Filled SourceFault → Type 0
HasGiven contexts (Ok More) = 0 < length contexts
HasGiven contexts (Ok End) = contexts ≡ []
HasGiven contexts (Err fault) = contexts ≡ []

-- the proposition holds if the call returns that the input has ended
abbrev pub OnEnd : Result Filled SourceFault → Type 0 → Type 0
OnEnd (Ok More) p = Unit {0}
OnEnd (Ok End) p = p
OnEnd (Err fault) p = Unit {0}

-- the contexts of a list: those that a source over it gives next, and their length
pub record ListedContexts : Type 0 where
  pub rest : List (List ℕ)
  pub ctx_len : ℕ

-- what is taken first and what is taken next from a list
pub both_listed : (a b c : ListedContexts) (xs ys : List (List ℕ)) → a.rest ≡ xs ++ b.rest → b.rest ≡ ys ++ c.rest → a.rest ≡ (xs ++ ys) ++ c.rest
both_listed a b c xs ys p q = p ∙ ap (λ l. xs ++ l) q ∙ sym (append_assoc xs ys c.rest)
