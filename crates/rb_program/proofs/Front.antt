-- The decoder's result for the front of the bytes: a lemma for each exit of its one step.
use Rattle.std.proofs.Common.{◌≡◌, ℕ, ◌+◌, ◌*◌, ◌^◌, ◌<◌, ◌≤◌, ◌⊎◌, inl, inr, Bool, true, false, cond, ◌||◌, ◌&&◌, eqb, List, [], ◌++◌, length, take, drop, slice_index, get_or, Option, Some, None, refl, sym, ap, subst, ◌∙◌, arith}
use Rattle.std.specs.Prelude.{IsSomeAnd, is_some, ◌≢◌}
use Rattle.std.proofs.lemmas.Bool.{eqb-true}
use Rattle.std.proofs.lemmas.List.{append-nil, get_or-drop}
use Rattle.std.proofs.Math.Seq.{take-add}
use Rattle.byteorder.specs.Numbers.{little_from-lt}
use Rattle.rb_insn.specs.declared.insn.Insn.{Insn}
use Rattle.rb_insn.specs.Units.{units_taken}
use Rattle.rb_insn.specs.Spelling.{second_unit, spelling, FieldsFit, Spells}
use Rattle.rb_program.specs.declared.fields.Fields.{Fields}
use Rattle.rb_program.specs.declared.fault.DecodeKind.{DecodeKind}
use Rattle.rb_program.specs.declared.fault.DecodeKind.TheVariants.{BadOpcode, BadRegister, UnusedField, HalfWide}
use Rattle.rb_program.specs.declared.opcode_meaning.OpcodeMeaning.{OpcodeMeaning}
use Rattle.rb_program.specs.declared.opcode_meaning.OpcodeMeaning.TheVariants.{Binary, Division, Move, Branch, Wide}
use Rattle.rb_program.specs.declared.opcode_meaning.SourceOperand.TheVariants.{Immediate, Register}
use Rattle.rb_insn.specs.declared.insn.Width.TheVariants.{W32, W64}
use Rattle.rb_program.specs.UnitFields.{fields_at, next_imm_at}
use Rattle.rb_program.specs.OpcodeTable.{Row, wide_number_row, wide_map_row}
use Rattle.rb_program.specs.OpcodeTable.{unused as zero_only}
use Rattle.rb_program.specs.DecodeFaults.{is_left_out, IsNotAllowed, HasBadSecondUnit, IsFirstKind}
use Rattle.rb_program.specs.inner.Operations.{operation_at}
use Rattle.rb_program.specs.inner.FieldChecks.{is_named_by, row_for, registers_fit, numbers_fit, insn_from}
use Rattle.rb_program.specs.inner.SecondUnit.{has_zeros, IsSecondUnit, IsBadSecond, IsSecondFault}
use Rattle.rb_program.proofs.Opcodes.{opcode_of, operation_at-some, row_of-unlisted}
use Rattle.rb_program.proofs.Named.{row_of-named, row_of-unnamed}
use Rattle.rb_program.proofs.FirstKinds.{InRow, numbers_fit-each, has_bad_register, has_no_bad_register, has_unused, has_no_unused, first_bad_opcode, first_bad_register, first_unused, first_half}
use Rattle.rb_program.proofs.Building.{unit_of, second_of, IsInRange, IsChecked, NextFits, units_for, insn_from-spelled, insn_from-units, insn_from-fits}
use Rattle.rb_program.proofs.Spelled.{zeros, not_refused_zero}
use Rattle.rb_program.proofs.Bytes.{IsBytes, unit_of-fields_at, second_unit-next_imm_at}

-- ---- the opcode

pub no_operation : (bytes : List ℕ) → IsBytes bytes → is_left_out (fields_at bytes) ≡ false → operation_at (fields_at bytes).opcode ≡ None → IsFirstKind BadOpcode bytes
no_operation bytes fits kept none = first_bad_opcode bytes kept (row_of-unlisted (fields_at bytes) (fits 0) none)

-- what the decoder has found for the unit at the front
pub record IsFound (op : OpcodeMeaning) (bytes : List ℕ) : Type 0 where
  pub bytes_fit : IsBytes bytes
  pub kept : is_left_out (fields_at bytes) ≡ false
  pub operation : operation_at (fields_at bytes).opcode ≡ Some op

opcode_is : (op : OpcodeMeaning) (bytes : List ℕ) → IsFound op bytes → opcode_of op ≡ (fields_at bytes).opcode
opcode_is op bytes found = operation_at-some (fields_at bytes).opcode op (found.bytes_fit 0) found.operation

pub unnamed : (op : OpcodeMeaning) (bytes : List ℕ) → IsFound op bytes → is_named_by op (fields_at bytes) ≡ false → IsFirstKind BadOpcode bytes
unnamed op bytes found h = first_bad_opcode bytes found.kept (row_of-unnamed op (fields_at bytes) (opcode_is op bytes found) h)

abbrev row_at : OpcodeMeaning → List ℕ → Row
row_at op bytes = row_for op (fields_at bytes).src

in_row : (op : OpcodeMeaning) (bytes : List ℕ) → IsFound op bytes → is_named_by op (fields_at bytes) ≡ true → InRow (row_at op bytes) bytes
in_row op bytes found named = record { kept = found.kept; row = row_of-named op (fields_at bytes) (opcode_is op bytes found) named }

-- ---- the fields of the first unit

pub register_above : (op : OpcodeMeaning) (bytes : List ℕ) → IsFound op bytes → is_named_by op (fields_at bytes) ≡ true
    → registers_fit (row_at op bytes) (fields_at bytes) ≡ false → IsFirstKind BadRegister bytes
register_above op bytes found named h =
    first_bad_register (row_at op bytes) bytes (in_row op bytes found named) (has_bad_register (row_at op bytes) (fields_at bytes) h)

pub number_unused : (op : OpcodeMeaning) (bytes : List ℕ) → IsFound op bytes → is_named_by op (fields_at bytes) ≡ true
    → registers_fit (row_at op bytes) (fields_at bytes) ≡ true → numbers_fit (row_at op bytes) (fields_at bytes) ≡ false → IsFirstKind UnusedField bytes
number_unused op bytes found named registers h =
    first_unused (row_at op bytes) bytes (in_row op bytes found named) (has_no_bad_register (row_at op bytes) (fields_at bytes) registers) (has_unused (row_at op bytes) bytes h)

-- what it has found for the fields of that unit
pub record IsKept (op : OpcodeMeaning) (bytes : List ℕ) : Type 0 where
  pub found : IsFound op bytes
  pub named : is_named_by op (fields_at bytes) ≡ true
  pub registers : registers_fit (row_at op bytes) (fields_at bytes) ≡ true
  pub numbers : numbers_fit (row_at op bytes) (fields_at bytes) ≡ true

-- ---- the second unit

not_zero : (b : Bool) → (b ≡ true → ⊥) → (b || false) ≡ false
not_zero true h = absurd (h refl)
not_zero false h = refl

refused_zero : (n : ℕ) → n ≢ 0 → IsNotAllowed zero_only n
refused_zero n h = not_zero (eqb n 0) (λ e. h (eqb-true n 0 e))

only_wide : (op : OpcodeMeaning) (src : ℕ) → is_some (row_for op src).next ≡ true → op ≡ Wide
only_wide Wide src h = refl
only_wide (Binary w op Immediate) src h = absurd cc
only_wide (Binary w op Register) src h = absurd cc
only_wide (Division w op Immediate) src h = absurd cc
only_wide (Division w op Register) src h = absurd cc
only_wide (Move w Immediate) src h = absurd cc
only_wide (Move W32 Register) src h = absurd cc
only_wide (Move W64 Register) src h = absurd cc
only_wide (Branch w c Immediate) src h = absurd cc
only_wide (Branch w c Register) src h = absurd cc
only_wide op src h = absurd cc

wide_next : (b : Bool) → is_some (cond b wide_number_row wide_map_row).next ≡ true
wide_next true = refl
wide_next false = refl

only_narrow : (op : OpcodeMeaning) (src : ℕ) → is_some (row_for op src).next ≡ false → op ≡ Wide → ⊥
only_narrow op src h e =
    let wide : is_some (row_for Wide src).next ≡ false = ap (λ (o : OpcodeMeaning). is_some (row_for o src).next) (sym e) ∙ h in
    let next = wide_next (eqb src 0) in
    absurd cc

and_parts : (a b : Bool) → (a && b) ≡ true → (a ≡ true) × (b ≡ true)
and_parts true b h = (refl, h)
and_parts false b h = absurd cc

and_false : (a b : Bool) → (a && b) ≡ false → (a ≡ false) ⊎ (b ≡ false)
and_false true b h = inr h
and_false false b h = inl refl

-- the bytes before the next immediate are zero, given the result of the test
record AreZeros (bytes : List ℕ) : Type 0 where
  eighth : slice_index bytes 8 ≡ 0
  ninth : slice_index bytes 9 ≡ 0
  tenth : slice_index bytes 10 ≡ 0
  eleventh : slice_index bytes 11 ≡ 0

are_zeros : (bytes : List ℕ) → has_zeros bytes ≡ true → AreZeros bytes
are_zeros bytes h =
    let byte : ℕ → Bool = λ i. eqb (slice_index bytes i) 0 in
    let a = and_parts (byte 8) (byte 9 && (byte 10 && byte 11)) h in
    let b = and_parts (byte 9) (byte 10 && byte 11) a.1 in
    let c = and_parts (byte 10) (byte 11) b.1 in
    record { eighth = eqb-true _ _ a.0; ninth = eqb-true _ _ b.0; tenth = eqb-true _ _ c.0; eleventh = eqb-true _ _ c.1 }

not_zero_byte : (n : ℕ) → eqb n 0 ≡ false → n ≢ 0
not_zero_byte n h e = let same : eqb n 0 ≡ true = ap (λ (m : ℕ). eqb m 0) e in absurd cc

abbrev HasNonzero : List ℕ → Type 0
HasNonzero bytes = (i : ℕ) × (8 ≤ i) × (i < 12) × (slice_index bytes i ≢ 0)

nonzero : (bytes : List ℕ) → has_zeros bytes ≡ false → HasNonzero bytes
nonzero bytes h =
    let byte : ℕ → Bool = λ i. eqb (slice_index bytes i) 0 in
    elim (and_false (byte 8) (byte 9 && (byte 10 && byte 11)) h) [
      | inl e ↦ (8, omega arith, omega arith, not_zero_byte (slice_index bytes 8) e)
      | inr e ↦ elim (and_false (byte 9) (byte 10 && byte 11) e) [
        | inl e ↦ (9, omega arith, omega arith, not_zero_byte (slice_index bytes 9) e)
        | inr e ↦ elim (and_false (byte 10) (byte 11) e) [
          | inl e ↦ (10, omega arith, omega arith, not_zero_byte (slice_index bytes 10) e)
          | inr e ↦ (11, omega arith, omega arith, not_zero_byte (slice_index bytes 11) e)
        ]
      ]
    ]

-- a bad byte or next immediate of a second unit is one that the row does not allow
bad_second : (b : Bool) (bytes : List ℕ) (src : ℕ) → eqb src 0 ≡ b → IsBadSecond bytes src → IsSomeAnd (cond b wide_number_row wide_map_row).next (λ next. HasBadSecondUnit next bytes)
bad_second true bytes src e (inl bad) = inl (nonzero bytes bad)
bad_second true bytes src e (inr bad) = absurd (bad.0 (eqb-true src 0 e))
bad_second false bytes src e (inl bad) = inl (nonzero bytes bad)
bad_second false bytes src e (inr bad) = inr (refused_zero (next_imm_at bytes) bad.1)

second_zeros : (bytes : List ℕ) (src next : ℕ) → IsSecondUnit bytes src next → (i : ℕ) × (8 ≤ i) × (i < 12) × (slice_index bytes i ≢ 0) → ⊥
second_zeros bytes src next second bad = let z = are_zeros bytes second.zeros in zeros bytes z.eighth z.ninth z.tenth z.eleventh bad

good_second : (b : Bool) (bytes : List ℕ) (src next : ℕ) → eqb src 0 ≡ b → IsSecondUnit bytes src next
    → IsSomeAnd (cond b wide_number_row wide_map_row).next (λ row. HasBadSecondUnit row bytes) → ⊥
good_second true bytes src next e second (inl bad) = second_zeros bytes src next second bad
good_second true bytes src next e second (inr bad) = bad
good_second false bytes src next e second (inl bad) = second_zeros bytes src next second bad
good_second false bytes src next e second (inr bad) =
    elim second.fits [
      | inl zero ↦ let same : eqb src 0 ≡ true = ap (λ (n : ℕ). eqb n 0) zero in absurd cc
      | inr zero ↦ not_refused_zero (next_imm_at bytes) (sym second.reads ∙ zero) bad
    ]

-- a fault of the second unit is the first one
pub second_fault : (op : OpcodeMeaning) (bytes : List ℕ) (kind : DecodeKind) → IsKept op bytes → is_some (row_at op bytes).next ≡ true
    → IsSecondFault bytes (fields_at bytes).src kind → IsFirstKind kind bytes
second_fault op bytes UnusedField keeps wide bad =
    let src = (fields_at bytes).src in
    let P : OpcodeMeaning → Type 0 = λ o. IsSomeAnd (row_for o src).next (λ next. HasBadSecondUnit next bytes) in
    let second : P op = subst P (sym (only_wide op src wide)) (bad_second (eqb src 0) bytes src refl bad.1) in
    first_unused (row_at op bytes) bytes (in_row op bytes keeps.found keeps.named) (has_no_bad_register (row_at op bytes) (fields_at bytes) keeps.registers) (inr (inr (inr (inr (bad.0, second)))))
second_fault op bytes HalfWide keeps wide short =
    first_half (row_at op bytes) bytes (in_row op bytes keeps.found keeps.named) (has_no_bad_register (row_at op bytes) (fields_at bytes) keeps.registers)
    (has_no_unused (row_at op bytes) bytes keeps.numbers (λ bad. let long : 16 ≤ length bytes = bad.0 in absurd (omega arith))) wide short
second_fault op bytes kind keeps wide bad = absurd bad

-- ---- the instruction

in_range : (bytes : List ℕ) → IsBytes bytes → IsInRange (fields_at bytes)
in_range bytes fits = record {
  offset = little_from-lt 0 2 (drop 2 bytes) (λ i. rw get_or-drop (fits (2 + i)));
  imm = little_from-lt 0 4 (drop 4 bytes) (λ i. rw get_or-drop (fits (4 + i)));
}

next_range : (bytes : List ℕ) → IsBytes bytes → next_imm_at bytes < 2 ^ 32
next_range bytes fits = little_from-lt 0 4 (drop 12 bytes) (λ i. rw get_or-drop (fits (12 + i)))

is_checked : (op : OpcodeMeaning) (bytes : List ℕ) → IsKept op bytes → IsChecked op (fields_at bytes)
is_checked op bytes keeps = record {
  opcode = opcode_is op bytes keeps.found;
  named = keeps.named;
  registers = keeps.registers;
  numbers = numbers_fit-each (row_at op bytes) (fields_at bytes) keeps.numbers;
  range = in_range bytes keeps.found.bytes_fit;
}

units_for-narrow : (op : OpcodeMeaning) → (op ≡ Wide → ⊥) → units_for op ≡ 1
units_for-narrow Wide h = absurd (h refl)
units_for-narrow op h = refl

second_of-narrow : (op : OpcodeMeaning) → (op ≡ Wide → ⊥) → second_of op 0 ≡ []
second_of-narrow Wide h = absurd (h refl)
second_of-narrow op h = refl

next_fits-zero : (op : OpcodeMeaning) (f : Fields) → NextFits op f 0
next_fits-zero Wide f = λ e. refl
next_fits-zero op f = tt

-- the encoding of an instruction, given its number of units
spelled : (insn : Insn) (units : ℕ) (bytes : List ℕ) → FieldsFit insn → units_taken insn ≡ units → spelling insn ≡ take (8 * units) bytes → Spells insn (take (8 * units_taken insn) bytes)
spelled insn units bytes fits taken e = record {
  fits = fits;
  bytes_are = ap (λ (n : ℕ). take (8 * n) bytes) taken ∙ sym e;
}

-- a narrow instruction
pub narrow_spelled : (op : OpcodeMeaning) (bytes : List ℕ) → IsKept op bytes → is_some (row_at op bytes).next ≡ false → 8 ≤ length bytes
    → Spells (insn_from op (fields_at bytes) 0) (take (8 * units_taken (insn_from op (fields_at bytes) 0)) bytes)
narrow_spelled op bytes keeps narrow len =
    let f = fields_at bytes in
    let not_wide : op ≡ Wide → ⊥ = only_narrow op f.src narrow in
    let bytes_are : spelling (insn_from op f 0) ≡ take 8 bytes =
    insn_from-spelled op f 0 (is_checked op bytes keeps) (next_fits-zero op f)
    ∙ ap (λ (l : List ℕ). unit_of f ++ l) (second_of-narrow op not_wide)
    ∙ append-nil (unit_of f)
    ∙ unit_of-fields_at bytes len keeps.found.bytes_fit in
    spelled (insn_from op f 0) 1 bytes (insn_from-fits op f 0 (in_range bytes keeps.found.bytes_fit) (omega arith))
    (insn_from-units op f 0 ∙ units_for-narrow op not_wide) bytes_are

ring_next : (src next : ℕ) → (src ≡ 0) ⊎ (next ≡ 0) → src ≡ 5 → next ≡ 0
ring_next src next (inl zero) five = absurd (omega arith)
ring_next src next (inr zero) five = zero

IsBytes-drop : (n : ℕ) (bytes : List ℕ) → IsBytes bytes → IsBytes (drop n bytes)
IsBytes-drop n bytes fits i = rw get_or-drop (fits (n + i))

byte_behind : (bytes : List ℕ) (i : ℕ) → slice_index bytes (8 + i) ≡ 0 → get_or (drop 8 bytes) i 0 ≡ 0
byte_behind bytes i e = get_or-drop 8 bytes i 0 ∙ e

second_bytes : (bytes : List ℕ) (src next : ℕ) → IsBytes bytes → IsSecondUnit bytes src next → second_unit next ≡ take 8 (drop 8 bytes)
second_bytes bytes src next fits second =
    let long : 16 ≤ length bytes = second.whole in
    let z = are_zeros bytes second.zeros in
    ap second_unit second.reads
    ∙ second_unit-next_imm_at bytes (omega arith) (IsBytes-drop 8 bytes fits)
    (byte_behind bytes 0 z.eighth) (byte_behind bytes 1 z.ninth) (byte_behind bytes 2 z.tenth) (byte_behind bytes 3 z.eleventh) long

spelled_wide : (bytes : List ℕ) (next : ℕ) → IsKept Wide bytes → IsSecondUnit bytes (fields_at bytes).src next
    → Spells (insn_from Wide (fields_at bytes) next) (take (8 * units_taken (insn_from Wide (fields_at bytes) next)) bytes)
spelled_wide bytes next keeps second =
    let f = fields_at bytes in
    let fits = keeps.found.bytes_fit in
    let long : 16 ≤ length bytes = second.whole in
    let read : next ≡ next_imm_at bytes = second.reads in
    let range : next_imm_at bytes < 2 ^ 32 = next_range bytes fits in
    let bytes_are : spelling (insn_from Wide f next) ≡ take 16 bytes =
    insn_from-spelled Wide f next (is_checked Wide bytes keeps) (ring_next f.src next second.fits)
    ∙ ap (λ (l : List ℕ). l ++ second_unit next) (unit_of-fields_at bytes (omega arith) fits)
    ∙ ap (λ (l : List ℕ). take 8 bytes ++ l) (second_bytes bytes f.src next fits second)
    ∙ sym (take-add 8 8 bytes) in
    spelled (insn_from Wide f next) 2 bytes (insn_from-fits Wide f next (in_range bytes fits) (rw read range)) (insn_from-units Wide f next) bytes_are

-- a wide instruction
pub wide_spelled : (op : OpcodeMeaning) (bytes : List ℕ) (next : ℕ) → IsKept op bytes → is_some (row_at op bytes).next ≡ true → IsSecondUnit bytes (fields_at bytes).src next
    → Spells (insn_from op (fields_at bytes) next) (take (8 * units_taken (insn_from op (fields_at bytes) next)) bytes)
wide_spelled op bytes next keeps wide second =
    let P : OpcodeMeaning → Type 0 = λ o. IsKept o bytes → Spells (insn_from o (fields_at bytes) next) (take (8 * units_taken (insn_from o (fields_at bytes) next)) bytes) in
    subst P (sym (only_wide op (fields_at bytes).src wide)) (λ k. spelled_wide bytes next k second) keeps

-- ---- the results of the step's calls, for the bytes

-- a function of the fields, given the result of a call
pub computed : {A : Type 0} (g : Fields → A) (f : Fields) (bytes : List ℕ) (answer value : A) → f ≡ fields_at bytes → answer ≡ g f → answer ≡ value → g (fields_at bytes) ≡ value
computed g f bytes answer value at answered is = ap g (sym at) ∙ sym answered ∙ is

pub found : (op : OpcodeMeaning) (f : Fields) (bytes : List ℕ) (out : Bool) (answer : Option OpcodeMeaning) → f ≡ fields_at bytes → IsBytes bytes
    → out ≡ is_left_out f → out ≡ false → answer ≡ operation_at f.opcode → answer ≡ Some op → IsFound op bytes
found op f bytes out answer at fits left kept answered is = record {
  bytes_fit = fits;
  kept = computed is_left_out f bytes out false at left kept;
  operation = computed (λ g. operation_at g.opcode) f bytes answer (Some op) at answered is;
}

pub keeps : (op : OpcodeMeaning) (f : Fields) (bytes : List ℕ) (named registers numbers : Bool) → f ≡ fields_at bytes → IsFound op bytes
    → named ≡ is_named_by op f → named ≡ true → registers ≡ registers_fit (row_for op f.src) f → registers ≡ true → numbers ≡ numbers_fit (row_for op f.src) f → numbers ≡ true
    → IsKept op bytes
keeps op f bytes named registers numbers at is_found n nt r rt m mt = record {
  found = is_found;
  named = computed (is_named_by op) f bytes named true at n nt;
  registers = computed (λ g. registers_fit (row_for op g.src) g) f bytes registers true at r rt;
  numbers = computed (λ g. numbers_fit (row_for op g.src) g) f bytes numbers true at m mt;
}
