-- The rows of the opcode table: their opcodes, and what each allows in its fields (the tables of RFC 9669, sections 4
-- and 5, without what this project does not support).
use Rattle.std.specs.Prelude.{ℕ, ◌+◌, ◌*◌, Bool, true, false, ◌==◌, ◌&&◌, ◌||◌, List, [], ◌∷◌, ◌++◌, map, Option, Some, None, if◌then◌else◌}
use Rattle.rb_program.specs.declared.fields.Fields.{Fields}

-- what a row allows in a field
pub data Allowed : Type 0 where
  -- a register, 0 to 10
  register : Allowed
  -- any number
  any : Allowed
  -- one of these numbers
  only : List ℕ → Allowed
  -- One of these numbers, as part of the row's name: with any other number, the bytes are in no row.
  named : List ℕ → Allowed

-- not used: zero
abbrev pub unused : Allowed
unused = only (0 ∷ [])

-- A row: its opcodes, what it allows in the fields of its first unit, and what a wide instruction allows in its second
-- immediate.
pub record Row : Type 0 where
  pub opcodes : List ℕ
  pub dst : Allowed
  pub src : Allowed
  pub offset : Allowed
  pub imm : Allowed
  pub next : Option Allowed

abbrev row : List ℕ → Allowed → Allowed → Allowed → Allowed → Row
row opcodes dst src offset imm = record { opcodes = opcodes; dst = dst; src = src; offset = offset; imm = imm; next = None }

abbrev wide_row : List ℕ → Allowed → Allowed → Allowed → Allowed → Allowed → Row
wide_row opcodes dst src offset imm next = record { opcodes = opcodes; dst = dst; src = src; offset = offset; imm = imm; next = Some next }

-- ---- opcodes: the code in the high four bits, the source bit (0 for the immediate, K; 8 for the source register, X),
-- the class

abbrev opcodes_of : List ℕ → ℕ → ℕ → List ℕ
opcodes_of codes source class = map (λ code. 16 * code + source + class) codes

-- in the classes ALU (4) and ALU64 (7)
abbrev arithmetic : List ℕ → ℕ → List ℕ
arithmetic codes source = opcodes_of codes source 4 ++ opcodes_of codes source 7

-- in the classes JMP (5) and JMP32 (6)
abbrev conditional : List ℕ → ℕ → List ℕ
conditional codes source = opcodes_of codes source 5 ++ opcodes_of codes source 6

-- ADD SUB MUL OR AND LSH RSH XOR ARSH
abbrev binary_codes : List ℕ
binary_codes = 0 ∷ 1 ∷ 2 ∷ 4 ∷ 5 ∷ 6 ∷ 7 ∷ 10 ∷ 12 ∷ []

-- DIV MOD
abbrev division_codes : List ℕ
division_codes = 3 ∷ 9 ∷ []

-- JEQ JGT JGE JSET JNE JSGT JSGE, JLT JLE JSLT JSLE
abbrev condition_codes : List ℕ
condition_codes = 1 ∷ 2 ∷ 3 ∷ 4 ∷ 5 ∷ 6 ∷ 7 ∷ 10 ∷ 11 ∷ 12 ∷ 13 ∷ []

-- ---- the rows                                                     destination, source, offset, immediate

abbrev pub binary_k_row : Row
binary_k_row = row (arithmetic binary_codes 0) register unused unused any

abbrev pub binary_x_row : Row
binary_x_row = row (arithmetic binary_codes 8) register register unused unused

-- offset 1 is signed
abbrev pub division_k_row : Row
division_k_row = row (arithmetic division_codes 0) register unused (only (0 ∷ 1 ∷ [])) any

abbrev pub division_x_row : Row
division_x_row = row (arithmetic division_codes 8) register register (only (0 ∷ 1 ∷ [])) unused

abbrev pub neg_row : Row
neg_row = row (0x84 ∷ 0x87 ∷ []) register unused unused unused

abbrev pub mov_k_row : Row
mov_k_row = row (0xb4 ∷ 0xb7 ∷ []) register unused unused any

-- an offset other than 0 is the number of low bits to sign-extend
abbrev pub mov_x_32_row : Row
mov_x_32_row = row (0xbc ∷ []) register register (only (0 ∷ 8 ∷ 16 ∷ [])) unused

abbrev pub mov_x_64_row : Row
mov_x_64_row = row (0xbf ∷ []) register register (only (0 ∷ 8 ∷ 16 ∷ 32 ∷ [])) unused

-- END
abbrev pub byte_swap_row : Row
byte_swap_row = row (0xd4 ∷ 0xdc ∷ 0xd7 ∷ []) register unused unused (named (16 ∷ 32 ∷ 64 ∷ []))

abbrev pub conditional_k_row : Row
conditional_k_row = row (conditional condition_codes 0) register unused any any

abbrev pub conditional_x_row : Row
conditional_x_row = row (conditional condition_codes 8) register register any unused

abbrev pub ja_row : Row
ja_row = row (0x05 ∷ []) unused unused any unused

abbrev pub ja_far_row : Row
ja_far_row = row (0x06 ∷ []) unused unused unused any

abbrev pub call_row : Row
call_row = row (0x85 ∷ []) unused (named (0 ∷ [])) unused any

abbrev pub exit_row : Row
exit_row = row (0x95 ∷ []) unused unused unused unused

abbrev pub wide_number_row : Row
wide_number_row = wide_row (0x18 ∷ []) register (named (0 ∷ [])) unused any any

-- a map by its index
abbrev pub wide_map_row : Row
wide_map_row = wide_row (0x18 ∷ []) register (named (5 ∷ [])) unused any unused

-- four, two, one and eight bytes
abbrev pub load_row : Row
load_row = row (0x61 ∷ 0x69 ∷ 0x71 ∷ 0x79 ∷ []) register register any unused

abbrev pub load_signed_row : Row
load_signed_row = row (0x81 ∷ 0x89 ∷ 0x91 ∷ []) register register any unused

abbrev pub store_immediate_row : Row
store_immediate_row = row (0x62 ∷ 0x6a ∷ 0x72 ∷ 0x7a ∷ []) register unused any any

abbrev pub store_register_row : Row
store_register_row = row (0x63 ∷ 0x6b ∷ 0x73 ∷ 0x7b ∷ []) register register any unused

abbrev pub opcode_table : List Row
opcode_table =
    binary_k_row ∷ binary_x_row ∷ division_k_row ∷ division_x_row ∷ neg_row ∷ mov_k_row ∷ mov_x_32_row ∷ mov_x_64_row ∷ byte_swap_row ∷ conditional_k_row ∷ conditional_x_row
    ∷ ja_row ∷ ja_far_row ∷ call_row ∷ exit_row ∷ wide_number_row ∷ wide_map_row ∷ load_row ∷ load_signed_row ∷ store_immediate_row ∷ store_register_row ∷ []

-- ---- the row of a unit

-- the number is one of these
abbrev pub one_of : List ℕ → ℕ → Bool
one_of [] n = false
one_of (m ∷ ms) n = (n == m) || one_of ms n

abbrev is_named : Allowed → ℕ → Bool
is_named (named numbers) n = one_of numbers n
is_named allowed n = true

-- the unit is in the row: it has one of the row's opcodes, and the other numbers of its name
abbrev pub is_in_row : Row → Fields → Bool
is_in_row r fields = one_of r.opcodes fields.opcode && is_named r.src fields.src && is_named r.imm fields.imm

-- the row that a unit is in; no unit is in two
abbrev pub find_row : List Row → Fields → Option Row
find_row [] fields = None
find_row (r ∷ rows) fields = if is_in_row r fields then Some r else find_row rows fields

abbrev pub row_of : Fields → Option Row
row_of fields = find_row opcode_table fields
