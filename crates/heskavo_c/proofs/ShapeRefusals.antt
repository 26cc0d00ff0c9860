-- The fault of a shape is the verdict on its program's bytes.
use Rattle.std.proofs.Common.{◌≡◌, ◌⊎◌, ℕ, List, Option, sym, ap, subst, inl, inr}
use Rattle.std.specs.Prelude.{IfSome}
use Rattle.rb_insn.specs.declared.insn.Insn.{Insn}
use Rattle.rb_insn.specs.Spelling.{SpellsAll}
use Rattle.rb_program.specs.Program.{IsProgram}
use Rattle.rb_program.specs.ShapeFaults.{IsFirstShapeFault, shape_no_memory}
use Rattle.rb_program.specs.declared.shape_fault.ShapeFault.{ShapeFault}
use Rattle.rb_program.specs.declared.shape_fault.ShapeFaultKind.{ShapeFaultKind}
use Rattle.rb_program.specs.declared.shape_fault.ShapeFaultKind.TheVariants as shape_faults
use Rattle.heskavo_c.specs.Verdicts.{BytesHaveShapeFault, BytesAreRefused}
use Rattle.heskavo_c.specs.declared.load.Refused.{Refused}
use Rattle.heskavo_c.specs.inner.Loading.{refused_shape, refused_shape_at}

module _ (bytes : List ℕ) (ctx_len rings : ℕ) (program : List Insn) (spelled : SpellsAll program bytes) (bounds : IsProgram program) where
  has-first : (unit : ℕ) (kind : ShapeFaultKind) → (record { unit = unit; kind = kind } ≡ shape_no_memory) ⊎ IsFirstShapeFault program (record { unit = unit; kind = kind }) → (kind ≡ shape_faults.Memory → ⊥)
      → BytesHaveShapeFault bytes (record { unit = unit; kind = kind })
  has-first unit kind (inl none) other = absurd (other (ap (λ (f : ShapeFault). f.kind) none))
  has-first unit kind (inr first) other = record { program = program; spelled = spelled; bounds = bounds; first = first }

  right-shape : (unit : ℕ) (kind : ShapeFaultKind) → (record { unit = unit; kind = kind } ≡ shape_no_memory) ⊎ IsFirstShapeFault program (record { unit = unit; kind = kind }) → IfSome (refused_shape_at kind unit) (BytesAreRefused bytes ctx_len rings)
  right-shape unit shape_faults.Memory found = tt
  right-shape unit shape_faults.Backward found = has-first unit shape_faults.Backward found (λ e. cc)
  right-shape unit shape_faults.OutOfProgram found = has-first unit shape_faults.OutOfProgram found (λ e. cc)
  right-shape unit shape_faults.IntoWide found = has-first unit shape_faults.IntoWide found (λ e. cc)
  right-shape unit shape_faults.FallsOff found = has-first unit shape_faults.FallsOff found (λ e. cc)
  right-shape unit shape_faults.Unreachable found = has-first unit shape_faults.Unreachable found (λ e. cc)

  pub shape-refused : (fault : ShapeFault) (made : Option Refused) → (fault ≡ shape_no_memory) ⊎ IsFirstShapeFault program fault → made ≡ refused_shape fault → IfSome made (BytesAreRefused bytes ctx_len rings)
  shape-refused fault made found e = subst (λ r. IfSome r (BytesAreRefused bytes ctx_len rings)) (sym e) (right-shape fault.unit fault.kind found)
