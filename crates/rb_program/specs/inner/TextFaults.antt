-- The condition on a text's digits for each fault of a text.
use Rattle.std.specs.Prelude.{ℕ, List}
use Rattle.rb_program.specs.declared.fault.TextFault.{TextFault}
use Rattle.rb_program.specs.declared.fault.TextFault.TheVariants.{NotHex, Memory, Decode}
use Rattle.rb_program.specs.FirstDecodeFault.{IsFirstDecodeFault}
use Rattle.rb_program.specs.Text.{IsHexOf}

abbrev pub IsHexFault : List ℕ → TextFault → Type 0
IsHexFault digits NotHex = (bytes : List ℕ) → IsHexOf digits bytes → ⊥
IsHexFault digits Memory = Unit {0}
IsHexFault digits (Decode fault) = ⊥

abbrev pub IsTextFault : List ℕ → TextFault → Type 0
IsTextFault digits NotHex = (bytes : List ℕ) → IsHexOf digits bytes → ⊥
IsTextFault digits Memory = Unit {0}
IsTextFault digits (Decode fault) = (bytes : List ℕ) × IsHexOf digits bytes × IsFirstDecodeFault bytes fault
