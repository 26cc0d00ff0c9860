-- The fields of units, read from little-endian bytes (RFC 9669, sections 3.1 and 3.2).
use Rattle.std.specs.Prelude.{ℕ, ◌/◌, ◌%◌, List, slice_index, drop}
use Rattle.byteorder.specs.Endian.{little_number}
use Rattle.rb_program.specs.declared.fields.Fields.{Fields}

-- The fields of the unit at the front: the opcode; the destination register in the low half of a byte and the source
-- register in its high half; the offset and the immediate, as unsigned numbers.
abbrev pub fields_at : List ℕ → Fields
fields_at bytes = record {
  opcode = slice_index bytes 0;
  dst = slice_index bytes 1 % 16;
  src = slice_index bytes 1 / 16;
  offset = little_number 2 (drop 2 bytes);
  imm = little_number 4 (drop 4 bytes);
}

-- the immediate of the unit after it
abbrev pub next_imm_at : List ℕ → ℕ
next_imm_at bytes = little_number 4 (drop 12 bytes)
