-- The instruction that the decoder builds from the fields has those fields as its encoding.
use Rattle.std.proofs.Common.{◌≡◌, ℕ, ◌+◌, ◌*◌, ◌/◌, ◌%◌, ◌^◌, ◌<◌, ◌≤◌, ◌⊎◌, inl, inr, Bool, true, false, cond, ◌||◌, ◌&&◌, eqb, List, [], ◌∷◌, ◌++◌, refl, sym, ap, subst, ◌∙◌, arith}
use Rattle.std.specs.Prelude.{FitsSigned}
use Rattle.std.specs.Int.{w16, w32, cast_signed}
use Rattle.std.proofs.Math.Nat.{min-eq_left}
use Rattle.std.proofs.lemmas.Bool.{leb-true, eqb-true}
use Rattle.std.proofs.lemmas.Int.{of_z-to_z}
use Rattle.std.proofs.Math.Facts.{sfits_to_z}
use Rattle.rb_insn.specs.declared.insn.Width.TheVariants.{W32, W64}
use Rattle.rb_insn.specs.declared.insn.Insn.{Insn}
use Rattle.rb_insn.specs.Units.{units_taken}
use Rattle.rb_insn.specs.Opcodes.{alu, alu64, source_x, operation_opcode, mov_code, division_offset, swap_bits}
use Rattle.rb_insn.specs.Spelling.{unit, second_unit, bits16, bits32, spelling, FieldsFit, OffsetFits, ImmFits}
use Rattle.rb_program.specs.declared.fields.Fields.{Fields}
use Rattle.rb_program.specs.declared.opcode_meaning.SourceOperand.TheVariants.{Immediate, Register}
use Rattle.rb_program.specs.declared.opcode_meaning.OpcodeMeaning.{OpcodeMeaning}
use Rattle.rb_program.specs.declared.opcode_meaning.OpcodeMeaning.TheVariants.{Binary, Division, Negate, Move, Reorder, Branch, Jump, JumpFar, Call, Exit, Wide, Load, LoadSigned, StoreImmediate, StoreRegister}
use Rattle.rb_program.specs.OpcodeTable.{register, one_of, wide_number_row, wide_map_row}
use Rattle.rb_program.specs.inner.FieldChecks.{is_named_by, row_for, registers_fit, fits_register, fits_unused, reg_at, sign_from, move32_from, move64_from, swap_width_from, insn_from}
use Rattle.rb_program.proofs.Opcodes.{opcode_of}
use Rattle.rb_program.proofs.Named.{fields}
use Rattle.rb_program.proofs.FirstKinds.{NumbersFit}

-- ---- the numbers in fields

-- the fields are numbers of 16 and 32 bits
pub record IsInRange (f : Fields) : Type 0 where
  pub offset : f.offset < 2 ^ 16
  pub imm : f.imm < 2 ^ 32

or_cases : (a b : Bool) → (a || b) ≡ true → (a ≡ true) ⊎ (b ≡ true)
or_cases true b h = inl refl
or_cases false b h = inr h

first_or_later : (n m : ℕ) (ms : List ℕ) → one_of (m ∷ ms) n ≡ true → (n ≡ m) ⊎ (one_of ms n ≡ true)
first_or_later n m ms h =
    elim (or_cases (eqb n m) (one_of ms n) h) [
      | inl e ↦ inl (eqb-true n m e)
      | inr e ↦ inr e
    ]

none_of : (n : ℕ) → one_of [] n ≡ true → ⊥
none_of n h = absurd cc

one : (n m : ℕ) → one_of (m ∷ []) n ≡ true → n ≡ m
one n m h =
    elim (first_or_later n m [] h) [
      | inl e ↦ e
      | inr e ↦ absurd (none_of n e)
    ]

reg_at-number : (n : ℕ) → n ≤ 10 → (reg_at n).number ≡ n
unfolding reg_at
reg_at-number n h = min-eq_left h

signed16-back : (n : ℕ) → n < 2 ^ 16 → bits16 (cast_signed w16 n) ≡ n
signed16-back n h = of_z-to_z w16 n h

signed32-back : (n : ℕ) → n < 2 ^ 32 → bits32 (cast_signed w32 n) ≡ n
signed32-back n h = of_z-to_z w32 n h

signed16-fits : (n : ℕ) → n < 2 ^ 16 → FitsSigned w16 (cast_signed w16 n)
signed16-fits n h = sfits_to_z (record { fits = h })

signed32-fits : (n : ℕ) → n < 2 ^ 32 → FitsSigned w32 (cast_signed w32 n)
signed32-fits n h = sfits_to_z (record { fits = h })

unit_eq : (o1 o2 d1 d2 s1 s2 f1 f2 i1 i2 : ℕ) → o1 ≡ o2 → d1 ≡ d2 → s1 ≡ s2 → f1 ≡ f2 → i1 ≡ i2 → unit o1 d1 s1 f1 i1 ≡ unit o2 d2 s2 f2 i2
unit_eq o1 o2 d1 d2 s1 s2 f1 f2 i1 i2 o d s f i =
    ap (λ (n : ℕ). unit n d1 s1 f1 i1) o ∙ ap (λ (n : ℕ). unit o2 n s1 f1 i1) d ∙ ap (λ (n : ℕ). unit o2 d2 n f1 i1) s
    ∙ ap (λ (n : ℕ). unit o2 d2 s2 n i1) f ∙ ap (λ (n : ℕ). unit o2 d2 s2 f2 n) i

-- the first unit of the instruction that the decoder builds from the fields
abbrev pub unit_of : Fields → List ℕ
unit_of f = unit f.opcode f.dst f.src f.offset f.imm

-- its second unit
abbrev pub second_of : OpcodeMeaning → ℕ → List ℕ
second_of Wide next = second_unit next
second_of op next = []

and_first : (a b : Bool) → (a && b) ≡ true → a ≡ true
and_first true b h = refl
and_first false b h = absurd cc

and_second : (a b : Bool) → (a && b) ≡ true → b ≡ true
and_second true b h = h
and_second false b h = absurd cc

ten : (n : ℕ) → fits_register register n ≡ true → n ≤ 10
ten n h = leb-true n 10 h

-- what the decoder has checked for a unit of an operation
pub record IsChecked (op : OpcodeMeaning) (f : Fields) : Type 0 where
  pub opcode : opcode_of op ≡ f.opcode
  pub named : is_named_by op f ≡ true
  pub registers : registers_fit (row_for op f.src) f ≡ true
  pub numbers : NumbersFit (row_for op f.src) f
  pub range : IsInRange f

checked_dst : (op : OpcodeMeaning) (f : Fields) → IsChecked op f → fits_register (row_for op f.src).dst f.dst ≡ true
checked_dst op f c = and_first (fits_register (row_for op f.src).dst f.dst) (fits_register (row_for op f.src).src f.src) c.registers

checked_src : (op : OpcodeMeaning) (f : Fields) → IsChecked op f → fits_register (row_for op f.src).src f.src ≡ true
checked_src op f c = and_second (fits_register (row_for op f.src).dst f.dst) (fits_register (row_for op f.src).src f.src) c.registers

-- the registers in a destination field and in a source field
dst_is : (f : Fields) → fits_register register f.dst ≡ true → (reg_at f.dst).number ≡ f.dst
dst_is f h = reg_at-number f.dst (ten f.dst h)

src_is : (f : Fields) → fits_register register f.src ≡ true → (reg_at f.src).number ≡ f.src
src_is f h = reg_at-number f.src (ten f.src h)

zero_is : (n : ℕ) → one_of (0 ∷ []) n ≡ true → 0 ≡ n
zero_is n h = sym (one n 0 h)

-- ---- offsets and immediates that select the operation

sign_is : (n : ℕ) → one_of (0 ∷ 1 ∷ []) n ≡ true → division_offset (sign_from n) ≡ n
sign_is n h =
    let P : ℕ → Type 0 = λ m. division_offset (sign_from m) ≡ m in
    elim (first_or_later n 0 (1 ∷ []) h) [
      | inl e ↦ subst P (sym e) refl
      | inr e ↦ subst P (sym (one n 1 e)) refl
    ]

moved32 : (f : Fields) (n : ℕ) → one_of (0 ∷ 8 ∷ 16 ∷ []) n ≡ true
    → spelling (move32_from (fields f.opcode f.dst f.src n f.imm)) ≡ unit (operation_opcode mov_code source_x alu) (reg_at f.dst).number (reg_at f.src).number n 0
moved32 f n h =
    let P : ℕ → Type 0 = λ m. spelling (move32_from (fields f.opcode f.dst f.src m f.imm)) ≡ unit (operation_opcode mov_code source_x alu) (reg_at f.dst).number (reg_at f.src).number m 0 in
    elim (first_or_later n 0 (8 ∷ 16 ∷ []) h) [
      | inl e ↦ subst P (sym e) refl
      | inr e ↦ elim (first_or_later n 8 (16 ∷ []) e) [
        | inl e ↦ subst P (sym e) refl
        | inr e ↦ subst P (sym (one n 16 e)) refl
      ]
    ]

moved64 : (f : Fields) (n : ℕ) → one_of (0 ∷ 8 ∷ 16 ∷ 32 ∷ []) n ≡ true
    → spelling (move64_from (fields f.opcode f.dst f.src n f.imm)) ≡ unit (operation_opcode mov_code source_x alu64) (reg_at f.dst).number (reg_at f.src).number n 0
moved64 f n h =
    let P : ℕ → Type 0 = λ m. spelling (move64_from (fields f.opcode f.dst f.src m f.imm)) ≡ unit (operation_opcode mov_code source_x alu64) (reg_at f.dst).number (reg_at f.src).number m 0 in
    elim (first_or_later n 0 (8 ∷ 16 ∷ 32 ∷ []) h) [
      | inl e ↦ subst P (sym e) refl
      | inr e ↦ elim (first_or_later n 8 (16 ∷ 32 ∷ []) e) [
        | inl e ↦ subst P (sym e) refl
        | inr e ↦ elim (first_or_later n 16 (32 ∷ []) e) [
          | inl e ↦ subst P (sym e) refl
          | inr e ↦ subst P (sym (one n 32 e)) refl
        ]
      ]
    ]

swap_is : (n : ℕ) → one_of (16 ∷ 32 ∷ 64 ∷ []) n ≡ true → swap_bits (swap_width_from n) ≡ n
swap_is n h =
    let P : ℕ → Type 0 = λ m. swap_bits (swap_width_from m) ≡ m in
    elim (first_or_later n 16 (32 ∷ 64 ∷ []) h) [
      | inl e ↦ subst P (sym e) refl
      | inr e ↦ elim (first_or_later n 32 (64 ∷ []) e) [
        | inl e ↦ subst P (sym e) refl
        | inr e ↦ subst P (sym (one n 64 e)) refl
      ]
    ]

-- ---- wide instructions

wide_numbers : (imm next : ℕ) → imm < 2 ^ 32 → ((2 ^ 32 * next + imm) % 2 ^ 32 ≡ imm) × ((2 ^ 32 * next + imm) / 2 ^ 32 ≡ next)
wide_numbers imm next h = (omega arith, omega arith)

-- ---- the encoding

-- the fields and the next immediate encode the instruction
abbrev pub IsSpelled : OpcodeMeaning → Fields → ℕ → Type 0
IsSpelled op f next = spelling (insn_from op f next) ≡ unit_of f ++ second_of op next

wide_spelled : (f : Fields) (next src : ℕ) → 0x18 ≡ f.opcode → (reg_at f.dst).number ≡ f.dst → 0 ≡ f.offset → f.imm < 2 ^ 32 → src ≡ f.src
    → (src ≡ 0) ⊎ ((src ≡ 5) × (next ≡ 0)) → IsSpelled Wide f next
wide_spelled f next src opcode dst offset imm at (inl zero) =
    let P : ℕ → Type 0 = λ s. spelling (insn_from Wide (fields f.opcode f.dst s f.offset f.imm) next) ≡ unit f.opcode f.dst s f.offset f.imm ++ second_unit next in
    let numbers = wide_numbers f.imm next imm in
    let number : P 0 =
    ap (λ (l : List ℕ). l ++ second_unit ((2 ^ 32 * next + f.imm) / 2 ^ 32)) (unit_eq _ _ _ _ 0 0 _ _ _ _ opcode dst refl offset numbers.0)
    ∙ ap (λ (n : ℕ). unit f.opcode f.dst 0 f.offset f.imm ++ second_unit n) numbers.1 in
    subst P (sym zero ∙ at) number
wide_spelled f next src opcode dst offset imm at (inr ring) =
    let P : ℕ → Type 0 = λ s. spelling (insn_from Wide (fields f.opcode f.dst s f.offset f.imm) next) ≡ unit f.opcode f.dst s f.offset f.imm ++ second_unit next in
    let map : P 5 =
    ap (λ (l : List ℕ). l ++ second_unit 0) (unit_eq _ _ _ _ 5 5 _ _ f.imm f.imm opcode dst refl offset refl)
    ∙ ap (λ (n : ℕ). unit f.opcode f.dst 5 f.offset f.imm ++ second_unit n) (sym ring.1) in
    subst P (sym ring.0 ∙ at) map

-- the next immediate is zero if the row requires it
abbrev pub NextFits : OpcodeMeaning → Fields → ℕ → Type 0
NextFits Wide f next = (f.src ≡ 5) → next ≡ 0
NextFits op f next = Unit {0}

wide_register : (f : Fields) → fits_register (row_for Wide f.src).dst f.dst ≡ true → fits_register register f.dst ≡ true
wide_register f h =
    let P : Bool → Type 0 = λ b. fits_register (cond b wide_number_row wide_map_row).dst f.dst ≡ true → fits_register register f.dst ≡ true in
    let both : (b : Bool) → P b = λ b. elim b as P [ true ↦ λ e. e | false ↦ λ e. e ] in
    both (eqb f.src 0) h

wide_offset : (f : Fields) → fits_unused (row_for Wide f.src).offset f.offset ≡ true → 0 ≡ f.offset
wide_offset f h =
    let P : Bool → Type 0 = λ b. fits_unused (cond b wide_number_row wide_map_row).offset f.offset ≡ true → 0 ≡ f.offset in
    let both : (b : Bool) → P b = λ b. elim b as P [ true ↦ zero_is f.offset | false ↦ zero_is f.offset ] in
    both (eqb f.src 0) h

wide_source : (f : Fields) (next : ℕ) → one_of (0 ∷ 5 ∷ []) f.src ≡ true → NextFits Wide f next → (f.src ≡ 0) ⊎ ((f.src ≡ 5) × (next ≡ 0))
wide_source f next h fits =
    elim (first_or_later f.src 0 (5 ∷ []) h) [
      | inl e ↦ inl e
      | inr e ↦ let five = one f.src 5 e in inr (five, fits five)
    ]

pub insn_from-spelled : (op : OpcodeMeaning) (f : Fields) (next : ℕ) → IsChecked op f → NextFits op f next → IsSpelled op f next
insn_from-spelled (Binary w op Immediate) f next c n =
    unit_eq _ _ _ _ _ _ _ _ _ _ c.opcode (dst_is f (checked_dst (Binary w op Immediate) f c)) (zero_is f.src c.numbers.src) (zero_is f.offset c.numbers.offset) (signed32-back f.imm c.range.imm)
insn_from-spelled (Binary w op Register) f next c n =
    unit_eq _ _ _ _ _ _ _ _ _ _ c.opcode (dst_is f (checked_dst (Binary w op Register) f c)) (src_is f (checked_src (Binary w op Register) f c)) (zero_is f.offset c.numbers.offset) (zero_is f.imm c.numbers.imm)
insn_from-spelled (Division w op Immediate) f next c n =
    unit_eq _ _ _ _ _ _ _ _ _ _ c.opcode (dst_is f (checked_dst (Division w op Immediate) f c)) (zero_is f.src c.numbers.src) (sign_is f.offset c.numbers.offset) (signed32-back f.imm c.range.imm)
insn_from-spelled (Division w op Register) f next c n =
    unit_eq _ _ _ _ _ _ _ _ _ _ c.opcode (dst_is f (checked_dst (Division w op Register) f c)) (src_is f (checked_src (Division w op Register) f c)) (sign_is f.offset c.numbers.offset) (zero_is f.imm c.numbers.imm)
insn_from-spelled (Negate w) f next c n =
    unit_eq _ _ _ _ _ _ _ _ _ _ c.opcode (dst_is f (checked_dst (Negate w) f c)) (zero_is f.src c.numbers.src) (zero_is f.offset c.numbers.offset) (zero_is f.imm c.numbers.imm)
insn_from-spelled (Move w Immediate) f next c n =
    unit_eq _ _ _ _ _ _ _ _ _ _ c.opcode (dst_is f (checked_dst (Move w Immediate) f c)) (zero_is f.src c.numbers.src) (zero_is f.offset c.numbers.offset) (signed32-back f.imm c.range.imm)
insn_from-spelled (Move W32 Register) f next c n =
    moved32 f f.offset c.numbers.offset
    ∙ unit_eq _ _ _ _ _ _ f.offset f.offset _ _ c.opcode (dst_is f (checked_dst (Move W32 Register) f c)) (src_is f (checked_src (Move W32 Register) f c)) refl (zero_is f.imm c.numbers.imm)
insn_from-spelled (Move W64 Register) f next c n =
    moved64 f f.offset c.numbers.offset
    ∙ unit_eq _ _ _ _ _ _ f.offset f.offset _ _ c.opcode (dst_is f (checked_dst (Move W64 Register) f c)) (src_is f (checked_src (Move W64 Register) f c)) refl (zero_is f.imm c.numbers.imm)
insn_from-spelled (Reorder order) f next c n =
    unit_eq _ _ _ _ _ _ _ _ _ _ c.opcode (dst_is f (checked_dst (Reorder order) f c)) (zero_is f.src c.numbers.src) (zero_is f.offset c.numbers.offset) (swap_is f.imm c.named)
insn_from-spelled (Branch w condition Immediate) f next c n =
    unit_eq _ _ _ _ _ _ _ _ _ _ c.opcode (dst_is f (checked_dst (Branch w condition Immediate) f c)) (zero_is f.src c.numbers.src) (signed16-back f.offset c.range.offset) (signed32-back f.imm c.range.imm)
insn_from-spelled (Branch w condition Register) f next c n =
    unit_eq _ _ _ _ _ _ _ _ _ _ c.opcode (dst_is f (checked_dst (Branch w condition Register) f c)) (src_is f (checked_src (Branch w condition Register) f c)) (signed16-back f.offset c.range.offset) (zero_is f.imm c.numbers.imm)
insn_from-spelled Jump f next c n =
    unit_eq _ _ _ _ _ _ _ _ _ _ c.opcode (zero_is f.dst c.numbers.dst) (zero_is f.src c.numbers.src) (signed16-back f.offset c.range.offset) (zero_is f.imm c.numbers.imm)
insn_from-spelled JumpFar f next c n =
    unit_eq _ _ _ _ _ _ _ _ _ _ c.opcode (zero_is f.dst c.numbers.dst) (zero_is f.src c.numbers.src) (zero_is f.offset c.numbers.offset) (signed32-back f.imm c.range.imm)
insn_from-spelled Call f next c n =
    unit_eq _ _ _ _ _ _ _ _ f.imm f.imm c.opcode (zero_is f.dst c.numbers.dst) (zero_is f.src c.named) (zero_is f.offset c.numbers.offset) refl
insn_from-spelled Exit f next c n =
    unit_eq _ _ _ _ _ _ _ _ _ _ c.opcode (zero_is f.dst c.numbers.dst) (zero_is f.src c.numbers.src) (zero_is f.offset c.numbers.offset) (zero_is f.imm c.numbers.imm)
insn_from-spelled Wide f next c n =
    wide_spelled f next f.src c.opcode (dst_is f (wide_register f (checked_dst Wide f c))) (wide_offset f c.numbers.offset) c.range.imm refl (wide_source f next c.named n)
insn_from-spelled (Load size) f next c n =
    unit_eq _ _ _ _ _ _ _ _ _ _ c.opcode (dst_is f (checked_dst (Load size) f c)) (src_is f (checked_src (Load size) f c)) (signed16-back f.offset c.range.offset) (zero_is f.imm c.numbers.imm)
insn_from-spelled (LoadSigned size) f next c n =
    unit_eq _ _ _ _ _ _ _ _ _ _ c.opcode (dst_is f (checked_dst (LoadSigned size) f c)) (src_is f (checked_src (LoadSigned size) f c)) (signed16-back f.offset c.range.offset) (zero_is f.imm c.numbers.imm)
insn_from-spelled (StoreImmediate size) f next c n =
    unit_eq _ _ _ _ _ _ _ _ _ _ c.opcode (dst_is f (checked_dst (StoreImmediate size) f c)) (zero_is f.src c.numbers.src) (signed16-back f.offset c.range.offset) (signed32-back f.imm c.range.imm)
insn_from-spelled (StoreRegister size) f next c n =
    unit_eq _ _ _ _ _ _ _ _ _ _ c.opcode (dst_is f (checked_dst (StoreRegister size) f c)) (src_is f (checked_src (StoreRegister size) f c)) (signed16-back f.offset c.range.offset) (zero_is f.imm c.numbers.imm)

-- ---- its units, and the ranges of its numbers

either_fits : (b : Bool) (x y : Insn) → FieldsFit x → FieldsFit y → FieldsFit (cond b x y)
either_fits true x y fx fy = fx
either_fits false x y fx fy = fy

either_units : (b : Bool) (x y : Insn) (n : ℕ) → units_taken x ≡ n → units_taken y ≡ n → units_taken (cond b x y) ≡ n
either_units true x y n ex ey = ex
either_units false x y n ex ey = ey

-- how many units an operation takes
abbrev pub units_for : OpcodeMeaning → ℕ
units_for Wide = 2
units_for op = 1

pub insn_from-units : (op : OpcodeMeaning) (f : Fields) (next : ℕ) → units_taken (insn_from op f next) ≡ units_for op
insn_from-units (Move W32 Register) f next = either_units (eqb f.offset 8) _ _ 1 refl (either_units (eqb f.offset 16) _ _ 1 refl refl)
insn_from-units (Move W64 Register) f next = either_units (eqb f.offset 8) _ _ 1 refl (either_units (eqb f.offset 16) _ _ 1 refl (either_units (eqb f.offset 32) _ _ 1 refl refl))
insn_from-units (Move w Immediate) f next = refl
insn_from-units Wide f next = either_units (eqb f.src 0) _ _ 2 refl refl
insn_from-units op f next = refl

fitting : (i : Insn) → OffsetFits i → ImmFits i → FieldsFit i
fitting i o m = record { offset = o; imm = m }

pub insn_from-fits : (op : OpcodeMeaning) (f : Fields) (next : ℕ) → IsInRange f → next < 2 ^ 32 → FieldsFit (insn_from op f next)
insn_from-fits (Binary w op Immediate) f next range n = fitting _ tt (signed32-fits f.imm range.imm)
insn_from-fits (Binary w op Register) f next range n = fitting _ tt tt
insn_from-fits (Division w op Immediate) f next range n = fitting _ tt (signed32-fits f.imm range.imm)
insn_from-fits (Division w op Register) f next range n = fitting _ tt tt
insn_from-fits (Negate w) f next range n = fitting _ tt tt
insn_from-fits (Move w Immediate) f next range n = fitting _ tt (signed32-fits f.imm range.imm)
insn_from-fits (Move W32 Register) f next range n =
    either_fits (eqb f.offset 8) _ _ (fitting _ tt tt) (either_fits (eqb f.offset 16) _ _ (fitting _ tt tt) (fitting _ tt tt))
insn_from-fits (Move W64 Register) f next range n =
    either_fits (eqb f.offset 8) _ _ (fitting _ tt tt) (either_fits (eqb f.offset 16) _ _ (fitting _ tt tt) (either_fits (eqb f.offset 32) _ _ (fitting _ tt tt) (fitting _ tt tt)))
insn_from-fits (Reorder order) f next range n = fitting _ tt tt
insn_from-fits (Branch w c Immediate) f next range n = fitting _ (signed16-fits f.offset range.offset) (signed32-fits f.imm range.imm)
insn_from-fits (Branch w c Register) f next range n = fitting _ (signed16-fits f.offset range.offset) tt
insn_from-fits Jump f next range n = fitting _ (signed16-fits f.offset range.offset) tt
insn_from-fits JumpFar f next range n = fitting _ tt (signed32-fits f.imm range.imm)
insn_from-fits Call f next range n = fitting _ tt range.imm
insn_from-fits Exit f next range n = fitting _ tt tt
insn_from-fits Wide f next range n =
    let imm = range.imm in
    let number : 2 ^ 32 * next + f.imm < 2 ^ 64 = omega arith in
    either_fits (eqb f.src 0) _ _ (fitting _ tt number) (fitting _ tt imm)
insn_from-fits (Load size) f next range n = fitting _ (signed16-fits f.offset range.offset) tt
insn_from-fits (LoadSigned size) f next range n = fitting _ (signed16-fits f.offset range.offset) tt
insn_from-fits (StoreImmediate size) f next range n = fitting _ (signed16-fits f.offset range.offset) (signed32-fits f.imm range.imm)
insn_from-fits (StoreRegister size) f next range n = fitting _ (signed16-fits f.offset range.offset) tt
