-- There is no fault at a unit where an encoded instruction begins.
use Rattle.std.proofs.Common.{◌≡◌, ℕ, ◌/◌, ◌%◌, ◌^◌, ◌<◌, ◌≤◌, inl, inr, true, ◌&&◌, leb, List, [], ◌∷◌, ◌++◌, length, slice_index, refl, ap, subst, ◌∙◌, arith}
use Rattle.std.specs.Prelude.{IsSome, ◌≢◌}
use Rattle.std.proofs.lemmas.Bool.{cases_lt, le-leb}
use Rattle.std.proofs.lemmas.List.{length-append}
use Rattle.rb_insn.specs.declared.reg.Reg.{Reg}
use Rattle.rb_insn.specs.declared.insn.Width.TheVariants.{W32, W64}
use Rattle.rb_insn.specs.declared.insn.Signedness.TheVariants.{Unsigned, Signed}
use Rattle.rb_insn.specs.declared.insn.Extend32.TheVariants as extend32
use Rattle.rb_insn.specs.declared.insn.Extend64.TheVariants as extend64
use Rattle.rb_insn.specs.declared.insn.SwapWidth.TheVariants.{B16, B32, B64}
use Rattle.rb_insn.specs.declared.insn.Operand.TheVariants as operands
use Rattle.rb_insn.specs.declared.insn.Insn.{Insn}
use Rattle.rb_insn.specs.declared.insn.Insn.TheVariants as insns
use Rattle.rb_insn.specs.Opcodes.{division_offset, extend32_offset, extend64_offset, swap_bits, map_by_index}
use Rattle.rb_insn.specs.Spelling.{unit, second_unit, bits16, bits32, spelling, FieldsFit}
use Rattle.rb_insn.proofs.Units as spelled
use Rattle.rb_insn.proofs.Units.{bits16-bound, bits32-bound, next-second_unit}
use Rattle.rb_program.specs.declared.fields.Fields.{Fields}
use Rattle.rb_program.specs.declared.opcode_meaning.SourceOperand.TheVariants.{Immediate, Register}
use Rattle.rb_program.specs.declared.opcode_meaning.OpcodeMeaning.{OpcodeMeaning}
use Rattle.rb_program.specs.declared.opcode_meaning.OpcodeMeaning.TheVariants.{Binary, Division, Negate, Move, Reorder, Branch, Jump, JumpFar, Call, Exit, Wide, Load, LoadSigned, StoreImmediate, StoreRegister}
use Rattle.rb_program.specs.declared.fault.DecodeKind.{DecodeKind}
use Rattle.rb_program.specs.UnitFields.{fields_at, next_imm_at}
use Rattle.rb_program.specs.OpcodeTable.{any, one_of, row_of}
use Rattle.rb_program.specs.OpcodeTable.{unused as zero_only}
use Rattle.rb_program.specs.DecodeFaults.{is_left_out, IsNotAllowed, HasBadSecondUnit, HasDecodeFault}
use Rattle.rb_program.specs.inner.FieldChecks.{is_named_by, row_for, registers_fit, numbers_fit}
use Rattle.rb_program.proofs.Opcodes.{opcode_of}
use Rattle.rb_program.proofs.Named.{fields, row_of-named, not_left_out}
use Rattle.rb_program.proofs.FirstKinds.{InRow, SecondFits, has_no_bad_register, has_no_unused, no_kind}

-- ---- the operation and the fields of an instruction

abbrev op_of : Insn → OpcodeMeaning
op_of (insns.Binary w op dst (operands.Immediate v)) = Binary w op Immediate
op_of (insns.Binary w op dst (operands.Register src)) = Binary w op Register
op_of (insns.Division w op sign dst (operands.Immediate v)) = Division w op Immediate
op_of (insns.Division w op sign dst (operands.Register src)) = Division w op Register
op_of (insns.Negate w dst) = Negate w
op_of (insns.Move w dst (operands.Immediate v)) = Move w Immediate
op_of (insns.Move w dst (operands.Register src)) = Move w Register
op_of (insns.MoveExtended32 extension dst src) = Move W32 Register
op_of (insns.MoveExtended64 extension dst src) = Move W64 Register
op_of (insns.Reorder order width dst) = Reorder order
op_of (insns.Branch w c dst (operands.Immediate v) distance) = Branch w c Immediate
op_of (insns.Branch w c dst (operands.Register src) distance) = Branch w c Register
op_of (insns.Jump distance) = Jump
op_of (insns.JumpFar distance) = JumpFar
op_of (insns.Call helper) = Call
op_of insns.Exit = Exit
op_of (insns.LoadNumber dst value) = Wide
op_of (insns.LoadRing dst ring) = Wide
op_of (insns.Load size dst base offset) = Load size
op_of (insns.LoadSigned size dst base offset) = LoadSigned size
op_of (insns.StoreImmediate size base offset value) = StoreImmediate size
op_of (insns.StoreRegister size base offset src) = StoreRegister size

-- the fields after the opcode: destination, source, offset, immediate
abbrev four : OpcodeMeaning → ℕ → ℕ → ℕ → ℕ → Fields
four op d s o i = fields (opcode_of op) d s o i

abbrev fields_of : Insn → Fields
fields_of (insns.Binary w op dst (operands.Immediate v)) = four (Binary w op Immediate) dst.number 0 0 (bits32 v)
fields_of (insns.Binary w op dst (operands.Register src)) = four (Binary w op Register) dst.number src.number 0 0
fields_of (insns.Division w op sign dst (operands.Immediate v)) = four (Division w op Immediate) dst.number 0 (division_offset sign) (bits32 v)
fields_of (insns.Division w op sign dst (operands.Register src)) = four (Division w op Register) dst.number src.number (division_offset sign) 0
fields_of (insns.Negate w dst) = four (Negate w) dst.number 0 0 0
fields_of (insns.Move w dst (operands.Immediate v)) = four (Move w Immediate) dst.number 0 0 (bits32 v)
fields_of (insns.Move w dst (operands.Register src)) = four (Move w Register) dst.number src.number 0 0
fields_of (insns.MoveExtended32 extension dst src) = four (Move W32 Register) dst.number src.number (extend32_offset extension) 0
fields_of (insns.MoveExtended64 extension dst src) = four (Move W64 Register) dst.number src.number (extend64_offset extension) 0
fields_of (insns.Reorder order width dst) = four (Reorder order) dst.number 0 0 (swap_bits width)
fields_of (insns.Branch w c dst (operands.Immediate v) distance) = four (Branch w c Immediate) dst.number 0 (bits16 distance) (bits32 v)
fields_of (insns.Branch w c dst (operands.Register src) distance) = four (Branch w c Register) dst.number src.number (bits16 distance) 0
fields_of (insns.Jump distance) = four Jump 0 0 (bits16 distance) 0
fields_of (insns.JumpFar distance) = four JumpFar 0 0 0 (bits32 distance)
fields_of (insns.Call helper) = four Call 0 0 0 helper
fields_of insns.Exit = four Exit 0 0 0 0
fields_of (insns.LoadNumber dst value) = four Wide dst.number 0 0 (value % 2 ^ 32)
fields_of (insns.LoadRing dst ring) = four Wide dst.number map_by_index 0 ring
fields_of (insns.Load size dst base offset) = four (Load size) dst.number base.number (bits16 offset) 0
fields_of (insns.LoadSigned size dst base offset) = four (LoadSigned size) dst.number base.number (bits16 offset) 0
fields_of (insns.StoreImmediate size base offset value) = four (StoreImmediate size) base.number 0 (bits16 offset) (bits32 value)
fields_of (insns.StoreRegister size base offset src) = four (StoreRegister size) base.number src.number (bits16 offset) 0

-- what the decoder reads from an encoding
abbrev without_next : spelled.Fields → Fields
without_next f = fields f.opcode f.dst f.src f.offset f.imm

fields_at-unit : (op d s o i : ℕ) (rest : List ℕ) → d < 16 → o < 2 ^ 16 → i < 2 ^ 32 → fields_at (unit op d s o i ++ rest) ≡ fields op d s o i
fields_at-unit op d s o i rest hd ho hi = ap without_next (spelled.fields_at-unit op d s o i rest hd ho hi)

dst16 : (r : Reg) → r.number < 16
dst16 r = let h = r.bounded in omega arith

zero16 : 0 < 2 ^ 16
zero16 = omega arith

zero32 : 0 < 2 ^ 32
zero32 = omega arith

fields_at-spelling : (a : Insn) (p : List ℕ) → FieldsFit a → fields_at (spelling a ++ p) ≡ fields_of a
fields_at-spelling (insns.Binary w op dst (operands.Immediate v)) p fits = fields_at-unit _ _ _ _ _ p (dst16 dst) zero16 (bits32-bound v fits.imm)
fields_at-spelling (insns.Binary w op dst (operands.Register src)) p fits = fields_at-unit _ _ _ _ _ p (dst16 dst) zero16 zero32
fields_at-spelling (insns.Division w op Unsigned dst (operands.Immediate v)) p fits = fields_at-unit _ _ _ _ _ p (dst16 dst) zero16 (bits32-bound v fits.imm)
fields_at-spelling (insns.Division w op Signed dst (operands.Immediate v)) p fits = fields_at-unit _ _ _ _ _ p (dst16 dst) (omega arith) (bits32-bound v fits.imm)
fields_at-spelling (insns.Division w op Unsigned dst (operands.Register src)) p fits = fields_at-unit _ _ _ _ _ p (dst16 dst) zero16 zero32
fields_at-spelling (insns.Division w op Signed dst (operands.Register src)) p fits = fields_at-unit _ _ _ _ _ p (dst16 dst) (omega arith) zero32
fields_at-spelling (insns.Negate w dst) p fits = fields_at-unit _ _ _ _ _ p (dst16 dst) zero16 zero32
fields_at-spelling (insns.Move w dst (operands.Immediate v)) p fits = fields_at-unit _ _ _ _ _ p (dst16 dst) zero16 (bits32-bound v fits.imm)
fields_at-spelling (insns.Move w dst (operands.Register src)) p fits = fields_at-unit _ _ _ _ _ p (dst16 dst) zero16 zero32
fields_at-spelling (insns.MoveExtended32 extend32.From8 dst src) p fits = fields_at-unit _ _ _ _ _ p (dst16 dst) (omega arith) zero32
fields_at-spelling (insns.MoveExtended32 extend32.From16 dst src) p fits = fields_at-unit _ _ _ _ _ p (dst16 dst) (omega arith) zero32
fields_at-spelling (insns.MoveExtended64 extend64.From8 dst src) p fits = fields_at-unit _ _ _ _ _ p (dst16 dst) (omega arith) zero32
fields_at-spelling (insns.MoveExtended64 extend64.From16 dst src) p fits = fields_at-unit _ _ _ _ _ p (dst16 dst) (omega arith) zero32
fields_at-spelling (insns.MoveExtended64 extend64.From32 dst src) p fits = fields_at-unit _ _ _ _ _ p (dst16 dst) (omega arith) zero32
fields_at-spelling (insns.Reorder order B16 dst) p fits = fields_at-unit _ _ _ _ _ p (dst16 dst) zero16 (omega arith)
fields_at-spelling (insns.Reorder order B32 dst) p fits = fields_at-unit _ _ _ _ _ p (dst16 dst) zero16 (omega arith)
fields_at-spelling (insns.Reorder order B64 dst) p fits = fields_at-unit _ _ _ _ _ p (dst16 dst) zero16 (omega arith)
fields_at-spelling (insns.Branch w c dst (operands.Immediate v) distance) p fits = fields_at-unit _ _ _ _ _ p (dst16 dst) (bits16-bound distance fits.offset) (bits32-bound v fits.imm)
fields_at-spelling (insns.Branch w c dst (operands.Register src) distance) p fits = fields_at-unit _ _ _ _ _ p (dst16 dst) (bits16-bound distance fits.offset) zero32
fields_at-spelling (insns.Jump distance) p fits = fields_at-unit _ _ _ _ _ p (omega arith) (bits16-bound distance fits.offset) zero32
fields_at-spelling (insns.JumpFar distance) p fits = fields_at-unit _ _ _ _ _ p (omega arith) zero16 (bits32-bound distance fits.imm)
fields_at-spelling (insns.Call helper) p fits = fields_at-unit _ _ _ _ _ p (omega arith) zero16 fits.imm
fields_at-spelling insns.Exit p fits = fields_at-unit _ _ _ _ _ p (omega arith) zero16 zero32
fields_at-spelling (insns.LoadNumber dst value) p fits =
    let fit : value < 2 ^ 64 = fits.imm in
    fields_at-unit _ _ _ _ _ (second_unit (value / 2 ^ 32) ++ p) (dst16 dst) zero16 (omega arith)
fields_at-spelling (insns.LoadRing dst ring) p fits = fields_at-unit _ _ _ _ _ (second_unit 0 ++ p) (dst16 dst) zero16 fits.imm
fields_at-spelling (insns.Load size dst base offset) p fits = fields_at-unit _ _ _ _ _ p (dst16 dst) (bits16-bound offset fits.offset) zero32
fields_at-spelling (insns.LoadSigned size dst base offset) p fits = fields_at-unit _ _ _ _ _ p (dst16 dst) (bits16-bound offset fits.offset) zero32
fields_at-spelling (insns.StoreImmediate size base offset value) p fits = fields_at-unit _ _ _ _ _ p (dst16 base) (bits16-bound offset fits.offset) (bits32-bound value fits.imm)
fields_at-spelling (insns.StoreRegister size base offset src) p fits = fields_at-unit _ _ _ _ _ p (dst16 base) (bits16-bound offset fits.offset) zero32

-- ---- the decoder's checks on them

record IsGood (a : Insn) : Type 0 where
  opcode : opcode_of (op_of a) ≡ (fields_of a).opcode
  named : is_named_by (op_of a) (fields_of a) ≡ true
  registers : registers_fit (row_for (op_of a) (fields_of a).src) (fields_of a) ≡ true
  numbers : numbers_fit (row_for (op_of a) (fields_of a).src) (fields_of a) ≡ true

reg_fits : (r : Reg) → leb r.number 10 ≡ true
reg_fits r = le-leb r.number 10 r.bounded

reg_and : (r : Reg) → (leb r.number 10 && true) ≡ true
reg_and r = let e = reg_fits r in rw e refl

reg_both : (r s : Reg) → (leb r.number 10 && leb s.number 10) ≡ true
reg_both r s = let e = reg_fits r in let f = reg_fits s in rw (e, f) refl

good : (a : Insn) → opcode_of (op_of a) ≡ (fields_of a).opcode → is_named_by (op_of a) (fields_of a) ≡ true
    → registers_fit (row_for (op_of a) (fields_of a).src) (fields_of a) ≡ true → numbers_fit (row_for (op_of a) (fields_of a).src) (fields_of a) ≡ true → IsGood a
good a opcode named registers numbers = record { opcode = opcode; named = named; registers = registers; numbers = numbers }

is_good : (a : Insn) → IsGood a
is_good (insns.Binary w op dst (operands.Immediate v)) = good _ refl refl (reg_and dst) refl
is_good (insns.Binary w op dst (operands.Register src)) = good _ refl refl (reg_both dst src) refl
is_good (insns.Division w op Unsigned dst (operands.Immediate v)) = good _ refl refl (reg_and dst) refl
is_good (insns.Division w op Signed dst (operands.Immediate v)) = good _ refl refl (reg_and dst) refl
is_good (insns.Division w op Unsigned dst (operands.Register src)) = good _ refl refl (reg_both dst src) refl
is_good (insns.Division w op Signed dst (operands.Register src)) = good _ refl refl (reg_both dst src) refl
is_good (insns.Negate w dst) = good _ refl refl (reg_and dst) refl
is_good (insns.Move w dst (operands.Immediate v)) = good _ refl refl (reg_and dst) refl
is_good (insns.Move W32 dst (operands.Register src)) = good _ refl refl (reg_both dst src) refl
is_good (insns.Move W64 dst (operands.Register src)) = good _ refl refl (reg_both dst src) refl
is_good (insns.MoveExtended32 extend32.From8 dst src) = good _ refl refl (reg_both dst src) refl
is_good (insns.MoveExtended32 extend32.From16 dst src) = good _ refl refl (reg_both dst src) refl
is_good (insns.MoveExtended64 extend64.From8 dst src) = good _ refl refl (reg_both dst src) refl
is_good (insns.MoveExtended64 extend64.From16 dst src) = good _ refl refl (reg_both dst src) refl
is_good (insns.MoveExtended64 extend64.From32 dst src) = good _ refl refl (reg_both dst src) refl
is_good (insns.Reorder order B16 dst) = good _ refl refl (reg_and dst) refl
is_good (insns.Reorder order B32 dst) = good _ refl refl (reg_and dst) refl
is_good (insns.Reorder order B64 dst) = good _ refl refl (reg_and dst) refl
is_good (insns.Branch w c dst (operands.Immediate v) distance) = good _ refl refl (reg_and dst) refl
is_good (insns.Branch w c dst (operands.Register src) distance) = good _ refl refl (reg_both dst src) refl
is_good (insns.Jump distance) = good _ refl refl refl refl
is_good (insns.JumpFar distance) = good _ refl refl refl refl
is_good (insns.Call helper) = good _ refl refl refl refl
is_good insns.Exit = good _ refl refl refl refl
is_good (insns.LoadNumber dst value) = good _ refl refl (reg_and dst) refl
is_good (insns.LoadRing dst ring) = good _ refl refl (reg_and dst) refl
is_good (insns.Load size dst base offset) = good _ refl refl (reg_both dst base) refl
is_good (insns.LoadSigned size dst base offset) = good _ refl refl (reg_both dst base) refl
is_good (insns.StoreImmediate size base offset value) = good _ refl refl (reg_and base) refl
is_good (insns.StoreRegister size base offset src) = good _ refl refl (reg_both base src) refl

-- ---- the second unit

between : (P : ℕ → Type 0) → P 8 → P 9 → P 10 → P 11 → (i : ℕ) → 8 ≤ i → i < 12 → P i
between P a b c d i low high =
    elim (cases_lt i 9) [
      | inl h ↦ let e : 8 ≡ i = omega arith in subst P e a
      | inr h9 ↦ elim (cases_lt i 10) [
        | inl h ↦ let e : 9 ≡ i = omega arith in subst P e b
        | inr h10 ↦ elim (cases_lt i 11) [
          | inl h ↦ let e : 10 ≡ i = omega arith in subst P e c
          | inr h11 ↦ let e : 11 ≡ i = omega arith in subst P e d
        ]
      ]
    ]

-- the bytes before the next immediate are zero
pub zeros : (bytes : List ℕ) → slice_index bytes 8 ≡ 0 → slice_index bytes 9 ≡ 0 → slice_index bytes 10 ≡ 0 → slice_index bytes 11 ≡ 0
    → (i : ℕ) × (8 ≤ i) × (i < 12) × (slice_index bytes i ≢ 0) → ⊥
zeros bytes a b c d bad = bad.3 (between (λ i. slice_index bytes i ≡ 0) a b c d bad.0 bad.1 bad.2)

pub not_refused_zero : (n : ℕ) → n ≡ 0 → IsNotAllowed zero_only n → ⊥
not_refused_zero n e h = let same : one_of (0 ∷ []) n ≡ true = ap (one_of (0 ∷ [])) e in absurd cc

second_number : (dst : Reg) (value : ℕ) (p : List ℕ) → HasBadSecondUnit any (spelling (insns.LoadNumber dst value) ++ p) → ⊥
second_number dst value p (inl bad) = zeros (spelling (insns.LoadNumber dst value) ++ p) refl refl refl refl bad
second_number dst value p (inr bad) = bad

second_map : (dst : Reg) (ring : ℕ) (p : List ℕ) → HasBadSecondUnit zero_only (spelling (insns.LoadRing dst ring) ++ p) → ⊥
second_map dst ring p (inl bad) = zeros (spelling (insns.LoadRing dst ring) ++ p) refl refl refl refl bad
second_map dst ring p (inr bad) = not_refused_zero (next_imm_at (spelling (insns.LoadRing dst ring) ++ p)) (next-second_unit 0 p zero32) bad

second_fits : (a : Insn) (p : List ℕ) → SecondFits (row_for (op_of a) (fields_of a).src) (spelling a ++ p)
second_fits (insns.LoadNumber dst value) p bad = second_number dst value p bad.1
second_fits (insns.LoadRing dst ring) p bad = second_map dst ring p bad.1
second_fits (insns.Binary w op dst (operands.Immediate v)) p bad = bad.1
second_fits (insns.Binary w op dst (operands.Register src)) p bad = bad.1
second_fits (insns.Division w op sign dst (operands.Immediate v)) p bad = bad.1
second_fits (insns.Division w op sign dst (operands.Register src)) p bad = bad.1
second_fits (insns.Move w dst (operands.Immediate v)) p bad = bad.1
second_fits (insns.Move W32 dst (operands.Register src)) p bad = bad.1
second_fits (insns.Move W64 dst (operands.Register src)) p bad = bad.1
second_fits (insns.Branch w c dst (operands.Immediate v) distance) p bad = bad.1
second_fits (insns.Branch w c dst (operands.Register src) distance) p bad = bad.1
second_fits a p bad = bad.1

whole : (a : Insn) (p : List ℕ) → IsSome (row_for (op_of a) (fields_of a).src).next → 16 ≤ length (spelling a ++ p)
whole (insns.LoadNumber dst value) p some = omega (arith, length-append (spelling (insns.LoadNumber dst value)) p)
whole (insns.LoadRing dst ring) p some = omega (arith, length-append (spelling (insns.LoadRing dst ring)) p)
whole (insns.Binary w op dst (operands.Immediate v)) p some = absurd cc
whole (insns.Binary w op dst (operands.Register src)) p some = absurd cc
whole (insns.Division w op sign dst (operands.Immediate v)) p some = absurd cc
whole (insns.Division w op sign dst (operands.Register src)) p some = absurd cc
whole (insns.Move w dst (operands.Immediate v)) p some = absurd cc
whole (insns.Move W32 dst (operands.Register src)) p some = absurd cc
whole (insns.Move W64 dst (operands.Register src)) p some = absurd cc
whole (insns.Branch w c dst (operands.Immediate v) distance) p some = absurd cc
whole (insns.Branch w c dst (operands.Register src) distance) p some = absurd cc
whole a p some = absurd cc

-- ---- no fault

-- Bytes that start with the encoding of an instruction have no fault at the front.
pub no_fault-spelling : (a : Insn) (p : List ℕ) → FieldsFit a → (kind : DecodeKind) → HasDecodeFault kind (spelling a ++ p) → ⊥
no_fault-spelling a p fits =
    let bytes = spelling a ++ p in
    let at : fields_at bytes ≡ fields_of a = fields_at-spelling a p fits in
    let r = row_for (op_of a) (fields_of a).src in
    let checks = is_good a in
    let in_row : InRow r bytes = record {
      kept = ap is_left_out at ∙ not_left_out (op_of a) (fields_of a) checks.opcode checks.named;
      row = ap row_of at ∙ row_of-named (op_of a) (fields_of a) checks.opcode checks.named;
    } in
    no_kind r bytes in_row
    (has_no_bad_register r (fields_at bytes) (ap (registers_fit r) at ∙ checks.registers))
    (has_no_unused r bytes (ap (numbers_fit r) at ∙ checks.numbers) (second_fits a p))
    (whole a p)
