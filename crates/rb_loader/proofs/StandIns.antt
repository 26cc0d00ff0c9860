-- A result that is right for a text is right for the input that it stands for.
use Rattle.std.proofs.Common.{◌≡◌, ℕ, Bool, true, false, List, length, Option, Some, None, Result, Ok, Err, sym, ap, subst, ◌∙◌, arith, inl, inr}
use Rattle.std.specs.Prelude.{IfErr, IfOk, IfSome}
use Rattle.rb_insn.specs.declared.insn.Insn.{Insn}
use Rattle.rb_insn.specs.Spelling.{SpellsAll}
use Rattle.rb_program.specs.FirstDecodeFault.{HasBadLength, IsFirstFaultAt}
use Rattle.rb_program.specs.Program.{IsProgram}
use Rattle.rb_program.specs.Text.{IsHexOf, without_white_space}
use Rattle.rb_program.specs.declared.fault.DecodeKind.{DecodeKind}
use Rattle.rb_program.specs.declared.fault.DecodeKind.TheVariants as kinds
use Rattle.rb_program.proofs.FirstFaults.{length-spelled}
use Rattle.rb_explain.specs.Explanations.{ExplainsAs, ShowsDecodeFault}
use Rattle.rb_explain.specs.declared.explanation.Reason.{Reason}
use Rattle.rb_explain.specs.declared.explanation.Reason.TheVariants as reasons
use Rattle.rb_json.specs.declared.form.LineForm.{LineForm}
use Rattle.rb_verifier.specs.Subject.{Subject}
use Rattle.rb_verifier.specs.declared.limits.Limits.{Limits}
use Rattle.rb_loader.specs.Acceptance.{IsAccepted, IsRightFault}
use Rattle.rb_loader.specs.Explained.{ExplainsAccepted}
use Rattle.rb_loader.specs.RequestedFindings.{TellsRequested}
use Rattle.rb_loader.specs.StandIn.{AreTooLong, StandsFor}
use Rattle.rb_loader.specs.declared.program.ProgramFault.{ProgramFault}
use Rattle.rb_loader.specs.declared.program.ProgramFault.TheVariants.{Text, Decode, Shape, Verify, Memory, Device}

pub holds_for_input : (Holds : List ℕ → Type 0) (input : Option (List ℕ)) (text given : List ℕ) → given ≡ text → IfSome input (λ unread. StandsFor unread text)
    → ((unread : List ℕ) → StandsFor unread given → Holds unread) → IfSome input Holds
holds_for_input Holds None text given same stands carried = tt
holds_for_input Holds (Some unread) text given same stands carried = carried unread (subst (StandsFor unread) (sym same) stands)

-- ---- bytes that are too long

module _ (own bytes : List ℕ) (long : AreTooLong own bytes) where
  bad_length : HasBadLength bytes → HasBadLength own
  bad_length (inl none) = absurd (let n = ap length none in let l = long.second in omega (arith, n, l))
  bad_length (inr cut) = inr (λ whole. cut (sym long.alike ∙ whole))

  bad_length_back : HasBadLength own → HasBadLength bytes
  bad_length_back (inl none) = absurd (let n = ap length none in let l = long.first in omega (arith, n, l))
  bad_length_back (inr cut) = inr (λ whole. cut (long.alike ∙ whole))

  fault_moves : (unit : ℕ) (kind : DecodeKind) → IsFirstFaultAt bytes unit kind → IsFirstFaultAt own unit kind
  fault_moves unit kinds.Length fault = (fault.0, bad_length fault.1)
  fault_moves unit kinds.TooLong fault = (fault.0, long.first, λ bad. fault.2 (bad_length_back bad))
  fault_moves unit kinds.Memory fault = absurd fault
  fault_moves unit kinds.LeftOut fault = absurd (fault.2 long.second)
  fault_moves unit kinds.BadOpcode fault = absurd (fault.2 long.second)
  fault_moves unit kinds.BadRegister fault = absurd (fault.2 long.second)
  fault_moves unit kinds.UnusedField fault = absurd (fault.2 long.second)
  fault_moves unit kinds.HalfWide fault = absurd (fault.2 long.second)

  shown_moves : (form : LineForm) (told : List ℕ) (unit : ℕ) (kind : DecodeKind) → IsFirstFaultAt bytes unit kind → ShowsDecodeFault form bytes unit kind told
      → ShowsDecodeFault form own unit kind told
  shown_moves form told unit kinds.Length fault shows = shows
  shown_moves form told unit kinds.TooLong fault shows = shows
  shown_moves form told unit kinds.Memory fault shows = absurd fault
  shown_moves form told unit kinds.LeftOut fault shows = absurd (fault.2 long.second)
  shown_moves form told unit kinds.BadOpcode fault shows = absurd (fault.2 long.second)
  shown_moves form told unit kinds.BadRegister fault shows = absurd (fault.2 long.second)
  shown_moves form told unit kinds.UnusedField fault shows = absurd (fault.2 long.second)
  shown_moves form told unit kinds.HalfWide fault shows = absurd (fault.2 long.second)

-- ---- the result for a text

module _ (input text : List ℕ) (stands : StandsFor input text) where
  -- bytes that encode a program are not too long
  program_hex : (program : List Insn) (bytes : List ℕ) → IsHexOf (without_white_space text) bytes → SpellsAll program bytes → IsProgram program
      → IsHexOf (without_white_space input) bytes
  program_hex program bytes hex spelled bounds =
      elim (stands.hex bytes hex) [
        | inl same ↦ same
        | inr more ↦
            let n = ap length spelled.bytes_are ∙ length-spelled program in
            let few = bounds.not_too_long in
            let many = more.2.second in
            absurd (omega (arith, n, few, many))
      ]

  pub accepted : (ctx_len rings : ℕ) (subject : Subject) → IsAccepted text ctx_len rings subject → IsAccepted input ctx_len rings subject
  accepted ctx_len rings subject a = record {
    bytes = a.bytes;
    hex = program_hex subject.program a.bytes a.hex a.spelled a.bounds;
    spelled = a.spelled;
    bounds = a.bounds;
    well_shaped = a.well_shaped;
    context = a.context;
    known = a.known;
    valid = a.valid;
  }

  pub right_fault : (ctx_len rings : ℕ) (fault : ProgramFault) → IsRightFault text ctx_len rings fault → IsRightFault input ctx_len rings fault
  right_fault ctx_len rings Text f = stands.no_hex f
  right_fault ctx_len rings (Decode kind unit) f =
      elim (stands.hex f.bytes f.hex) [
        | inl same ↦ record { bytes = f.bytes; hex = same; first = f.first }
        | inr more ↦ record { bytes = more.0; hex = more.1; first = fault_moves more.0 f.bytes more.2 unit kind f.first }
      ]
  right_fault ctx_len rings (Shape kind unit) f =
      record { program = f.program; bytes = f.bytes; hex = program_hex f.program f.bytes f.hex f.spelled f.bounds; spelled = f.spelled; bounds = f.bounds; first = f.first }
  right_fault ctx_len rings (Verify number unit) f = record {
    program = f.program;
    bytes = f.bytes;
    rule = f.rule;
    hex = program_hex f.program f.bytes f.hex f.spelled f.bounds;
    spelled = f.spelled;
    bounds = f.bounds;
    well_shaped = f.well_shaped;
    no_valid = f.no_valid;
    first = f.first;
    number_is = f.number_is;
  }
  right_fault ctx_len rings Memory f = tt
  right_fault ctx_len rings Device f = tt

  pub explained : (form : LineForm) (limits : Limits) (reason : Option Reason) (told : List ℕ) → ExplainsAs form text limits reason told → ExplainsAs form input limits reason told
  explained form limits None told e = (e.0, program_hex e.2.0 e.0 e.1 e.2.1.program_of.spelled e.2.1.program_of.bounds, e.2)
  explained form limits (Some reasons.Text) told e = (stands.no_hex e.0, e.1)
  explained form limits (Some (reasons.Decode fault)) told e =
      elim (stands.hex e.0 e.1) [
        | inl same ↦ (e.0, same, e.2)
        | inr more ↦ (more.0, more.1, (fault_moves more.0 e.0 more.2 fault.unit fault.kind e.2.0, shown_moves more.0 e.0 more.2 form told fault.unit fault.kind e.2.0 e.2.1))
      ]
  explained form limits (Some (reasons.Shape fault)) told e = (e.0, program_hex e.2.0 e.0 e.1 e.2.1.spelled e.2.1.bounds, e.2)
  explained form limits (Some (reasons.Rule unit rule)) told e = (e.0, program_hex e.2.0 e.0 e.1 e.2.1.program_of.spelled e.2.1.program_of.bounds, e.2)

  pub requested : (portable : Bool) (form : LineForm) (ctx_len rings : ℕ) (lines : List ℕ) → TellsRequested portable form text ctx_len rings lines
      → TellsRequested portable form input ctx_len rings lines
  requested false form ctx_len rings lines found = found
  requested true form ctx_len rings lines found = (found.0, accepted ctx_len rings found.0 found.1, found.2)

  pub accepted_explained : (portable : Bool) (form : LineForm) (limits : Limits) (told : List ℕ) → ExplainsAccepted portable form text limits told
      → ExplainsAccepted portable form input limits told
  accepted_explained portable form limits told e = record {
    explanation = e.explanation;
    explained = explained form limits None e.explanation e.explained;
    findings = e.findings;
    found = requested portable form limits.ctx_len limits.rings e.findings e.found;
    told_is = e.told_is;
  }

-- ---- the same for an input, if it is known

module _ (input : Option (List ℕ)) (text given : List ℕ) (same : given ≡ text) (stands : IfSome input (λ unread. StandsFor unread text)) (ctx_len rings : ℕ) where
  pub program_for_input : (answer : Result Subject ProgramFault) → IfOk answer (IsAccepted given ctx_len rings) → IfOk answer (λ program. IfSome input (λ unread. IsAccepted unread ctx_len rings program))
  program_for_input (Ok program) a = holds_for_input (λ unread. IsAccepted unread ctx_len rings program) input text given same stands (λ unread s. accepted unread given s ctx_len rings program a)
  program_for_input (Err fault) a = tt

  pub refusal_for_input : {A : Type 0} (answer : Result A ProgramFault) → IfErr answer (IsRightFault given ctx_len rings) → IfErr answer (λ fault. IfSome input (λ unread. IsRightFault unread ctx_len rings fault))
  refusal_for_input (Ok value) f = tt
  refusal_for_input (Err fault) f = holds_for_input (λ unread. IsRightFault unread ctx_len rings fault) input text given same stands (λ unread s. right_fault unread given s ctx_len rings fault f)
