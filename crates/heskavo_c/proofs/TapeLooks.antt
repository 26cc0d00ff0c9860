-- The result of a tape's reader at its first record, in the terms of the export.
use Rattle.std.proofs.Common.{◌≡◌, ◌≢◌, ℕ, List, Some, Result, Err, inl, inr, ◌∙◌, sym, ap, subst, arith}
use Rattle.rb_tape.specs.declared.fault.TapeKind.{TapeKind}
use Rattle.rb_tape.specs.declared.fault.TapeKind.TheVariants.{Busy, Page, Padding, TooLong, DiscardedBytes, Truncated, Memory}
use Rattle.rb_tape.specs.TapeFront.{IsUndecided}
use Rattle.rb_tape.specs.TapeReading.{Reading, IsToldAtEnd, ReadsToEnd, reading_from}
use Rattle.rb_tape.specs.declared.fault.TapeFault.{TapeFault}
use Rattle.rb_tape.specs.declared.record.Record.{Record}
use Rattle.heskavo_c.specs.Tapes.{FindsFault, fault_number}

-- a number above 0 is not 0
no_number : {A : Type 0} (n : ℕ) → n ≡ 0 → n ≢ 0 → A
no_number n is isnt = absurd (isnt is)

module _ (size position : ℕ) (bytes : List ℕ) where
  told_undecided : (kind : TapeKind) → fault_number kind ≡ 0 → IsToldAtEnd (reading_from size position bytes) kind → IsUndecided size position bytes
  told_undecided Busy none told = let no : ⊥ = omega (arith, none) in absurd no
  told_undecided Page none told = let no : ⊥ = omega (arith, none) in absurd no
  told_undecided Padding none told = let no : ⊥ = omega (arith, none) in absurd no
  told_undecided TooLong none told = let no : ⊥ = omega (arith, none) in absurd no
  told_undecided DiscardedBytes none told = let no : ⊥ = omega (arith, none) in absurd no
  told_undecided Truncated none (inl shown) = absurd shown.3
  told_undecided Truncated none (inr told) = told.0
  told_undecided Memory none (inl shown) = absurd shown.3
  told_undecided Memory none (inr told) = told.0

  told_at : (reading after : Reading) (answer : Result Record TapeFault) (fault : TapeFault) → reading ≡ reading_from size position bytes → answer ≡ Err fault
      → ReadsToEnd reading after (Some answer) → IsToldAtEnd (reading_from size position bytes) fault.kind
  told_at reading after answer fault opened is reads =
      let reads : ReadsToEnd reading after (Some (Err fault)) = subst (λ a. ReadsToEnd reading after (Some a)) is reads in
      subst (λ r. IsToldAtEnd r fault.kind) opened reads.2

  -- if a reader of these bytes reports a kind without a number, the bytes are undecided
  pub undecided : (reading after : Reading) (answer : Result Record TapeFault) (fault : TapeFault) (number : ℕ) → reading ≡ reading_from size position bytes → answer ≡ Err fault
      → number ≡ fault_number fault.kind → number ≡ 0 → ReadsToEnd reading after (Some answer) → IsUndecided size position bytes
  undecided reading after answer fault number opened is numbered none reads =
      told_undecided fault.kind (sym numbered ∙ none) (told_at reading after answer fault opened is reads)

  told_fault : (kind : TapeKind) (number : ℕ) → number ≡ fault_number kind → number ≢ 0 → IsToldAtEnd (reading_from size position bytes) kind
      → FindsFault size position bytes (record { offset = 0; span = 0; len = 0; discarded = 0; fault = number })
  told_fault kind number is isnt (inl shown) = record { kind = kind; shown = shown; told_is = ap (λ n. record { offset = 0; span = 0; len = 0; discarded = 0; fault = n }) is }
  told_fault kind number is isnt (inr told) = no_number number (is ∙ ap fault_number told.2) isnt

  -- if it reports a kind with a number, that is the first fault that they show
  pub fault_found : (reading after : Reading) (answer : Result Record TapeFault) (fault : TapeFault) (number : ℕ) → reading ≡ reading_from size position bytes → answer ≡ Err fault
      → number ≡ fault_number fault.kind → number ≢ 0 → ReadsToEnd reading after (Some answer)
      → FindsFault size position bytes (record { offset = 0; span = 0; len = 0; discarded = 0; fault = number })
  fault_found reading after answer fault number opened is numbered some reads =
      told_fault fault.kind number numbered some (told_at reading after answer fault opened is reads)
