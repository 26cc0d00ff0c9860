-- The fields of units, read back from their bytes.
use Rattle.std.proofs.Common.{◌≡◌, ℕ, ◌+◌, ◌*◌, ◌/◌, ◌%◌, ◌^◌, ◌<◌, List, ◌++◌, drop, slice_index, ap, ◌∙◌, arith, ℤ}
use Rattle.std.specs.Prelude.{FitsSigned}
use Rattle.std.specs.Int.{w16, w32, cast_signed}
use Rattle.std.proofs.lemmas.Int.{ints, to_z-of_z}
use Rattle.byteorder.specs.Endian.{little_bytes, little_number}
use Rattle.byteorder.specs.Numbers.{little_number-reads_back}
use Rattle.rb_insn.specs.Spelling.{unit, second_unit, bits16, bits32}

-- the fields of a first unit, and the immediate of the unit after it
pub record Fields : Type 0 where
  pub opcode : ℕ
  pub dst : ℕ
  pub src : ℕ
  pub offset : ℕ
  pub imm : ℕ
  pub next : ℕ

abbrev pub fields_at : List ℕ → Fields
fields_at bytes = record {
  opcode = slice_index bytes 0;
  dst = slice_index bytes 1 % 16;
  src = slice_index bytes 1 / 16;
  offset = little_number 2 (drop 2 bytes);
  imm = little_number 4 (drop 4 bytes);
  next = little_number 4 (drop 12 bytes);
}

abbrev pub fields : ℕ → ℕ → ℕ → ℕ → ℕ → ℕ → Fields
fields opcode dst src offset imm next = record { opcode = opcode; dst = dst; src = src; offset = offset; imm = imm; next = next }

-- reading an encoded unit returns its fields
pub fields_at-unit : (opcode dst src offset imm : ℕ) (rest : List ℕ) → dst < 16 → offset < 2 ^ 16 → imm < 2 ^ 32
    → fields_at (unit opcode dst src offset imm ++ rest) ≡ fields opcode dst src offset imm (little_number 4 (drop 4 rest))
fields_at-unit opcode dst src offset imm rest d o i =
    let low : (dst + 16 * src) % 16 ≡ dst = omega arith in
    let high : (dst + 16 * src) / 16 ≡ src = omega arith in
    let off : little_number 2 (little_bytes 2 offset ++ (little_bytes 4 imm ++ rest)) ≡ offset = little_number-reads_back 2 offset (little_bytes 4 imm ++ rest) o in
    let immediate : little_number 4 (little_bytes 4 imm ++ rest) ≡ imm = little_number-reads_back 4 imm rest i in
    ap (λ (n : ℕ). fields opcode n ((dst + 16 * src) / 16) (little_number 2 (little_bytes 2 offset ++ (little_bytes 4 imm ++ rest))) (little_number 4 (little_bytes 4 imm ++ rest)) (little_number 4 (drop 4 rest))) low
    ∙ ap (λ (n : ℕ). fields opcode dst n (little_number 2 (little_bytes 2 offset ++ (little_bytes 4 imm ++ rest))) (little_number 4 (little_bytes 4 imm ++ rest)) (little_number 4 (drop 4 rest))) high
    ∙ ap (λ (n : ℕ). fields opcode dst src n (little_number 4 (little_bytes 4 imm ++ rest)) (little_number 4 (drop 4 rest))) off
    ∙ ap (λ (n : ℕ). fields opcode dst src offset n (little_number 4 (drop 4 rest))) immediate

-- the immediate of a second unit
pub next-second_unit : (next : ℕ) (rest : List ℕ) → next < 2 ^ 32 → little_number 4 (drop 4 (second_unit next ++ rest)) ≡ next
next-second_unit next rest h = little_number-reads_back 4 next rest h

-- ---- signed numbers

pub bits16-bound : (z : ℤ) → FitsSigned w16 z → bits16 z < 2 ^ 16
bits16-bound z fits = omega (arith, ints)

pub bits32-bound : (z : ℤ) → FitsSigned w32 z → bits32 z < 2 ^ 32
bits32-bound z fits = omega (arith, ints)

pub bits16-back : (z : ℤ) → FitsSigned w16 z → cast_signed w16 (bits16 z) ≡ z
bits16-back z fits = to_z-of_z w16 z fits

pub bits32-back : (z : ℤ) → FitsSigned w32 z → cast_signed w32 (bits32 z) ≡ z
bits32-back z fits = to_z-of_z w32 z fits
