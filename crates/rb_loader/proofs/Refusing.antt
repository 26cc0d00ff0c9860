-- The fault that is returned for a text is the first one of its layer.
use Rattle.std.proofs.Common.{◌≡◌, ◌⊎◌, ℕ, List, Result, Err, sym, ap, subst, inl, inr}
use Rattle.rb_insn.specs.declared.insn.Insn.{Insn}
use Rattle.rb_insn.specs.Spelling.{SpellsAll}
use Rattle.rb_program.specs.ShapeFaults.{IsFirstShapeFault, shape_no_memory}
use Rattle.rb_program.specs.declared.shape_fault.ShapeFault.{ShapeFault}
use Rattle.rb_program.specs.declared.shape_fault.ShapeFaultKind.{ShapeFaultKind}
use Rattle.rb_program.specs.declared.shape_fault.ShapeFaultKind.TheVariants as shape_faults
use Rattle.rb_program.specs.FirstDecodeFault.{IsFirstDecodeFault}
use Rattle.rb_program.specs.Program.{IsProgram}
use Rattle.rb_program.specs.Text.{IsHexOf, without_white_space}
use Rattle.rb_program.specs.declared.fault.DecodeFault.{DecodeFault}
use Rattle.rb_program.specs.declared.fault.TextFault.{TextFault}
use Rattle.rb_program.specs.declared.fault.TextFault.TheVariants.{NotHex, Memory, Decode}
use Rattle.rb_loader.specs.Acceptance.{HasFirstShapeFault, IsRightFault, fault_of_shape, fault_of_text, shape_fault_at}
use Rattle.rb_explain.specs.Explanations.{IsNoHex}
use Rattle.rb_loader.specs.declared.program.ProgramFault.{ProgramFault}

module _ (text : List ℕ) (ctx_len rings : ℕ) (answer : Result (List Insn) TextFault) (no_hex : answer ≡ Err NotHex → IsNoHex text) (first : (fault : DecodeFault) → answer ≡ Err (Decode fault) → (bytes : List ℕ) × IsHexOf (without_white_space text) bytes × IsFirstDecodeFault bytes fault) where
  right : (fault : TextFault) → answer ≡ Err fault → IsRightFault text ctx_len rings (fault_of_text fault)
  right NotHex is = no_hex is
  right Memory is = tt
  right (Decode fault) is = let f = first fault is in record { bytes = f.0; hex = f.1; first = f.2 }

  pub text_refused : (fault : TextFault) (made : ProgramFault) → answer ≡ Err fault → made ≡ fault_of_text fault → IsRightFault text ctx_len rings made
  text_refused fault made is e = subst (IsRightFault text ctx_len rings) (sym e) (right fault is)

module _ (text : List ℕ) (ctx_len rings : ℕ) (program : List Insn) (spelled : (bytes : List ℕ) × IsHexOf (without_white_space text) bytes × SpellsAll program bytes) (bounds : IsProgram program) where
  module _ (unit : ℕ) (kind : ShapeFaultKind) (found : (record { unit = unit; kind = kind } ≡ shape_no_memory) ⊎ IsFirstShapeFault program (record { unit = unit; kind = kind })) where
    first : (kind ≡ shape_faults.Memory → ⊥) → IsFirstShapeFault program (record { unit = unit; kind = kind })
    first other = elim found [ inl none ↦ absurd (other (ap (λ (f : ShapeFault). f.kind) none)) | inr f ↦ f ]

    has_first : (kind ≡ shape_faults.Memory → ⊥) → HasFirstShapeFault text kind unit
    has_first other = record { program = program; bytes = spelled.0; hex = spelled.1; spelled = spelled.2; bounds = bounds; first = first other }

  right_shape : (unit : ℕ) (kind : ShapeFaultKind) → (record { unit = unit; kind = kind } ≡ shape_no_memory) ⊎ IsFirstShapeFault program (record { unit = unit; kind = kind }) → IsRightFault text ctx_len rings (shape_fault_at kind unit)
  right_shape unit shape_faults.Memory found = tt
  right_shape unit shape_faults.Backward found = has_first unit shape_faults.Backward found (λ e. cc)
  right_shape unit shape_faults.OutOfProgram found = has_first unit shape_faults.OutOfProgram found (λ e. cc)
  right_shape unit shape_faults.IntoWide found = has_first unit shape_faults.IntoWide found (λ e. cc)
  right_shape unit shape_faults.FallsOff found = has_first unit shape_faults.FallsOff found (λ e. cc)
  right_shape unit shape_faults.Unreachable found = has_first unit shape_faults.Unreachable found (λ e. cc)

  pub shape_refused : (fault : ShapeFault) (made : ProgramFault) → (fault ≡ shape_no_memory) ⊎ IsFirstShapeFault program fault → made ≡ fault_of_shape fault → IsRightFault text ctx_len rings made
  shape_refused fault made found e = subst (IsRightFault text ctx_len rings) (sym e) (right_shape fault.unit fault.kind found)
