-- Abstract conditional jumps: the states along both edges (own profile).
use Rattle.std.specs.Prelude.{ℕ, pos, Option, Some, None, Result, Ok}
use Rattle.rb_insn.specs.declared.insn.Condition.{Condition}
use Rattle.rb_insn.specs.declared.insn.Condition.TheVariants.{Equal, NotEqual}
use Rattle.rb_insn.specs.declared.insn.Operand.{Operand}
use Rattle.rb_insn.specs.declared.insn.Operand.TheVariants.{Immediate}
use Rattle.rb_insn.specs.declared.insn.Width.{Width}
use Rattle.rb_insn.specs.declared.insn.Width.TheVariants.{W64}
use Rattle.rb_verifier.specs.declared.branches.NullTest.{NullTest}
use Rattle.rb_verifier.specs.declared.branches.NullTest.TheVariants.{JumpsIfNull, JumpsIfThere}
use Rattle.rb_verifier.specs.declared.rule.Rule.{Rule}
use Rattle.rb_verifier.specs.declared.rule.Rule.TheVariants as rule
use Rattle.rb_verifier.specs.declared.state.AbsState.{AbsState}
use Rattle.rb_verifier.specs.declared.state.Effect.{Effect}
use Rattle.rb_verifier.specs.declared.value.Abs.{Abs}
use Rattle.rb_verifier.specs.declared.value.Abs.TheVariants.{Perhaps}
use Rattle.rb_verifier.specs.ReferenceChanges.{null_state, there_state}
use Rattle.rb_verifier.specs.ValueChecks.{◌>>=◌, check_readable, check_number}
use Rattle.rb_verifier.specs.AbstractStates.{effect_on_both}

-- a null test is a 64-bit JEQ or JNE against the immediate 0
abbrev pub null_test_of : Width → Condition → Operand → Option NullTest
null_test_of W64 Equal (Immediate (pos ℕ.zero)) = Some JumpsIfNull
null_test_of W64 NotEqual (Immediate (pos ℕ.zero)) = Some JumpsIfThere
null_test_of _ _ _ = None

-- a null test of a reservation refines the state along each edge; any other comparison needs two numbers
abbrev pub check_branch : Option NullTest → Abs → Abs → AbsState → Result Effect Rule
check_branch (Some JumpsIfNull) (Perhaps id) operand s = Ok (record { next = there_state id s; jump = null_state id s })
check_branch (Some JumpsIfThere) (Perhaps id) operand s = Ok (record { next = null_state id s; jump = there_state id s })
check_branch test dst operand s = do
  _ ← check_readable dst
  _ ← check_readable operand
  _ ← check_number rule.PointerCompared dst
  _ ← check_number rule.PointerCompared operand
  Ok (effect_on_both s)
