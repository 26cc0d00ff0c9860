use Rattle.std.proofs.Common.{◌≡◌, ◌≤◌, ◌<◌, ◌*◌, ◌%◌, ◌-◌, ℕ, List, take, drop, length, inl, inr, sym, subst, ap, ◌∙◌, arith}
use Rattle.std.proofs.lemmas.Grind.{common_steps}
use Rattle.rb_insn.specs.Units.{units_taken}
use Rattle.rb_insn.specs.Spelling.{Spells}
use Rattle.rb_program.specs.DecodeFaults.{IsFirstKind}
use Rattle.rb_program.specs.FirstDecodeFault.{HasBadLength, HasTooManyUnits, IsFirstFaultAt}
use Rattle.rb_program.specs.inner.Decoded.{IsDecoded}
use Rattle.rb_program.proofs.Kept.{counted}
use Rattle.rb_program.proofs.FirstFaults.{decoded_more, fault_here, rest_of}
use Rattle.rb_program.proofs.codec.decode_units.Goals as goal

pub loop-units-preserved : goal.loop-units-preserved
loop-units-preserved c =
    let bytes = c.args.bytes.now in
    let units = c.loop-units.units.items in
    let insn = c.in-Ok.insn in
    let at : c.len-unit.result ≡ length units = omega arith in
    let rest = ap (λ n. take (length bytes - 8 * n) (drop (8 * n) bytes)) at ∙ rest_of (8 * length units) bytes in
    let room = subst (λ (l : List ℕ). 8 * units_taken insn ≤ length l) rest c.in-Ok.ensures.within in
    let spells = subst (λ (l : List ℕ). Spells insn (take (8 * units_taken insn) l)) rest c.in-Ok.ensures.ok in
    subst (IsDecoded bytes) (sym c.in_ok-push_insn-in-Ok.ensures) (decoded_more bytes units insn c.loop-units.invariant room spells)

pub returns-clause-kept : goal.returns-clause-kept
returns-clause-kept c =
    let units = c.loop-units.units.items in
    let count = counted units c.loop-units.invariant.laid_out in
    record {
      laid_out = c.loop-units.invariant.laid_out;
      bounds = record { not_empty = let h = c.is_empty.ensures in let k = c.if-is_empty.ensures in grind (arith, common_steps, count, h, k); not_too_long = omega arith };
      fit = c.loop-units.invariant.spelled.fit;
    }

pub returns-in-Err-clause-fault : goal.returns-in-Err-clause-fault
returns-in-Err-clause-fault c =
    let bytes = c.args.bytes.now in
    let units = c.loop-units.units.items in
    let kind = c.in-Err.kind in
    let at : c.len-unit.result ≡ length units = omega arith in
    let rest = ap (λ n. take (length bytes - 8 * n) (drop (8 * n) bytes)) at ∙ rest_of (8 * length units) bytes in
    let first = subst (λ (l : List ℕ). IsFirstKind kind l) rest c.in-Err.ensures.err in
    let more : 8 * length units < length bytes = omega arith in
    let whole : length bytes % 8 ≡ 0 = omega arith in
    let length_fits : HasBadLength bytes → ⊥ = λ bad. elim bad [
      | inl empty ↦ let none : length bytes ≡ 0 = ap length empty in absurd (omega arith)
      | inr uneven ↦ uneven whole
    ] in
    let not_long : HasTooManyUnits bytes → ⊥ = λ long. absurd (omega arith) in
    let fault = fault_here bytes units kind c.loop-units.invariant more length_fits not_long first in
    inr (subst (λ (n : ℕ). IsFirstFaultAt bytes n kind) (sym at) fault)
