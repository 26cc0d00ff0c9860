-- The row of a unit whose opcode has an operation.
use Rattle.std.proofs.Common.{◌≡◌, ℕ, Bool, true, false, cond, ◌||◌, ◌&&◌, eqb, [], ◌∷◌, Some, None, ◌⊎◌, inl, inr, refl, sym, ap, subst, ◌∙◌}
use Rattle.std.proofs.lemmas.Bool.{eqb-true}
use Rattle.rb_insn.specs.declared.insn.Width.{Width}
use Rattle.rb_insn.specs.declared.insn.Width.TheVariants.{W32, W64}
use Rattle.rb_insn.specs.declared.insn.BinaryOp.{BinaryOp}
use Rattle.rb_insn.specs.declared.insn.BinaryOp.TheVariants.{Add}
use Rattle.rb_insn.specs.declared.insn.DivisionOp.{DivisionOp}
use Rattle.rb_insn.specs.declared.insn.DivisionOp.TheVariants.{Div}
use Rattle.rb_insn.specs.declared.insn.ByteOrder.{ByteOrder}
use Rattle.rb_insn.specs.declared.insn.ByteOrder.TheVariants.{Little, Big, Swap}
use Rattle.rb_insn.specs.declared.insn.Condition.{Condition}
use Rattle.rb_insn.specs.declared.insn.Condition.TheVariants.{Equal}
use Rattle.rb_insn.specs.declared.insn.Size.{Size}
use Rattle.rb_insn.specs.declared.insn.Size.TheVariants as sizes
use Rattle.rb_insn.specs.declared.insn.SignedSize.{SignedSize}
use Rattle.rb_insn.specs.declared.insn.SignedSize.TheVariants as signed_sizes
use Rattle.rb_program.specs.declared.fields.Fields.{Fields}
use Rattle.rb_program.specs.declared.opcode_meaning.SourceOperand.{SourceOperand}
use Rattle.rb_program.specs.declared.opcode_meaning.SourceOperand.TheVariants.{Immediate, Register}
use Rattle.rb_program.specs.declared.opcode_meaning.OpcodeMeaning.{OpcodeMeaning}
use Rattle.rb_program.specs.declared.opcode_meaning.OpcodeMeaning.TheVariants.{Binary, Division, Negate, Move, Reorder, Branch, Jump, JumpFar, Call, Exit, Wide, Load, LoadSigned, StoreImmediate, StoreRegister}
use Rattle.rb_program.specs.OpcodeTable.{Row, one_of, row_of, byte_swap_row, call_row, wide_number_row, wide_map_row}
use Rattle.rb_program.specs.DecodeFaults.{is_left_out}
use Rattle.rb_program.specs.inner.FieldChecks.{is_named_by, row_for}
use Rattle.rb_program.proofs.Opcodes.{opcode_of}

abbrev pub fields : ℕ → ℕ → ℕ → ℕ → ℕ → Fields
fields opcode dst src offset imm = record { opcode = opcode; dst = dst; src = src; offset = offset; imm = imm }

-- ---- the row, by the opcode alone

abbrev HasRow : OpcodeMeaning → Type 0
HasRow op = (d s o i : ℕ) → row_of (fields (opcode_of op) d s o i) ≡ Some (row_for op s)

binary : (w : Width) (op : BinaryOp) (source : SourceOperand) → HasRow (Binary w op source)
binary W32 Add Immediate d s o i = refl
binary W32 Add Register d s o i = refl
binary W64 Add Immediate d s o i = refl
binary W64 Add Register d s o i = refl
binary w op Immediate d s o i = refl
binary w op Register d s o i = refl

division : (w : Width) (op : DivisionOp) (source : SourceOperand) → HasRow (Division w op source)
division W32 Div Immediate d s o i = refl
division W32 Div Register d s o i = refl
division W64 Div Immediate d s o i = refl
division W64 Div Register d s o i = refl
division w op Immediate d s o i = refl
division w op Register d s o i = refl

negate : (w : Width) → HasRow (Negate w)
negate W32 d s o i = refl
negate W64 d s o i = refl

move : (w : Width) (source : SourceOperand) → HasRow (Move w source)
move W32 Immediate d s o i = refl
move W32 Register d s o i = refl
move W64 Immediate d s o i = refl
move W64 Register d s o i = refl

branch : (w : Width) (c : Condition) (source : SourceOperand) → HasRow (Branch w c source)
branch W32 Equal Immediate d s o i = refl
branch W32 Equal Register d s o i = refl
branch W64 Equal Immediate d s o i = refl
branch W64 Equal Register d s o i = refl
branch w c Immediate d s o i = refl
branch w c Register d s o i = refl

load : (size : Size) → HasRow (Load size)
load sizes.Byte d s o i = refl
load size d s o i = refl

load_signed : (size : SignedSize) → HasRow (LoadSigned size)
load_signed signed_sizes.Byte d s o i = refl
load_signed size d s o i = refl

store_immediate : (size : Size) → HasRow (StoreImmediate size)
store_immediate sizes.Byte d s o i = refl
store_immediate size d s o i = refl

store_register : (size : Size) → HasRow (StoreRegister size)
store_register sizes.Byte d s o i = refl
store_register size d s o i = refl

-- ---- rows that another field selects

reorder : (order : ByteOrder) (d s o i : ℕ) → row_of (fields (opcode_of (Reorder order)) d s o i) ≡ cond (one_of (16 ∷ 32 ∷ 64 ∷ []) i) (Some byte_swap_row) None
reorder Little d s o i = refl
reorder Big d s o i = refl
reorder Swap d s o i = refl

calls : (d s o i : ℕ) → row_of (fields (opcode_of Call) d s o i) ≡ cond (one_of (0 ∷ []) s && true) (Some call_row) None
calls d s o i = refl

wide : (d s o i : ℕ) → row_of (fields (opcode_of Wide) d s o i) ≡ cond (one_of (0 ∷ []) s && true) (Some wide_number_row) (cond (one_of (5 ∷ []) s && true) (Some wide_map_row) None)
wide d s o i = refl

chosen : (b : Bool) (r : Row) → b ≡ true → cond b (Some r) None ≡ Some r
chosen true r h = refl
chosen false r h = absurd cc

chosen_and : (b : Bool) (r : Row) → b ≡ true → cond (b && true) (Some r) None ≡ Some r
chosen_and true r h = refl
chosen_and false r h = absurd cc

left : (b : Bool) (r : Row) → b ≡ false → cond b (Some r) None ≡ None
left true r h = absurd cc
left false r h = refl

left_and : (b : Bool) (r : Row) → b ≡ false → cond (b && true) (Some r) None ≡ None
left_and true r h = absurd cc
left_and false r h = refl

chosen_of_two : (a b : Bool) (r s : Row) → (a || (b || false)) ≡ true → cond ((a || false) && true) (Some r) (cond ((b || false) && true) (Some s) None) ≡ Some (cond a r s)
chosen_of_two true b r s h = refl
chosen_of_two false true r s h = refl
chosen_of_two false false r s h = absurd cc

left_of_two : (a b : Bool) (r s : Row) → (a || (b || false)) ≡ false → cond ((a || false) && true) (Some r) (cond ((b || false) && true) (Some s) None) ≡ None
left_of_two true b r s h = absurd cc
left_of_two false true r s h = absurd cc
left_of_two false false r s h = refl

named : (op : OpcodeMeaning) (d s o i : ℕ) → is_named_by op (fields (opcode_of op) d s o i) ≡ true → row_of (fields (opcode_of op) d s o i) ≡ Some (row_for op s)
named (Binary w op source) d s o i h = binary w op source d s o i
named (Division w op source) d s o i h = division w op source d s o i
named (Negate w) d s o i h = negate w d s o i
named (Move w source) d s o i h = move w source d s o i
named (Reorder order) d s o i h = reorder order d s o i ∙ chosen (one_of (16 ∷ 32 ∷ 64 ∷ []) i) byte_swap_row h
named (Branch w c source) d s o i h = branch w c source d s o i
named Jump d s o i h = refl
named JumpFar d s o i h = refl
named Call d s o i h = calls d s o i ∙ chosen_and (one_of (0 ∷ []) s) call_row h
named Exit d s o i h = refl
named Wide d s o i h = wide d s o i ∙ chosen_of_two (eqb s 0) (eqb s 5) wide_number_row wide_map_row h
named (Load size) d s o i h = load size d s o i
named (LoadSigned size) d s o i h = load_signed size d s o i
named (StoreImmediate size) d s o i h = store_immediate size d s o i
named (StoreRegister size) d s o i h = store_register size d s o i

unnamed : (op : OpcodeMeaning) (d s o i : ℕ) → is_named_by op (fields (opcode_of op) d s o i) ≡ false → row_of (fields (opcode_of op) d s o i) ≡ None
unnamed (Reorder order) d s o i h = reorder order d s o i ∙ left (one_of (16 ∷ 32 ∷ 64 ∷ []) i) byte_swap_row h
unnamed Call d s o i h = calls d s o i ∙ left_and (one_of (0 ∷ []) s) call_row h
unnamed Wide d s o i h = wide d s o i ∙ left_of_two (eqb s 0) (eqb s 5) wide_number_row wide_map_row h
unnamed op d s o i h = absurd cc

-- ---- any unit

abbrev at : Fields → ℕ → Fields
at f opcode = fields opcode f.dst f.src f.offset f.imm

-- a unit with the opcode and the other numbers of an operation is in the operation's row
pub row_of-named : (op : OpcodeMeaning) (f : Fields) → opcode_of op ≡ f.opcode → is_named_by op f ≡ true → row_of f ≡ Some (row_for op f.src)
row_of-named op f e h =
    ap (λ (n : ℕ). row_of (at f n)) (sym e) ∙ named op f.dst f.src f.offset f.imm (ap (λ (n : ℕ). is_named_by op (at f n)) e ∙ h)

-- with other numbers, it is in no row
pub row_of-unnamed : (op : OpcodeMeaning) (f : Fields) → opcode_of op ≡ f.opcode → is_named_by op f ≡ false → row_of f ≡ None
row_of-unnamed op f e h =
    ap (λ (n : ℕ). row_of (at f n)) (sym e) ∙ unnamed op f.dst f.src f.offset f.imm (ap (λ (n : ℕ). is_named_by op (at f n)) e ∙ h)

-- ---- instructions that are not supported

abbrev IsKept : OpcodeMeaning → Type 0
IsKept op = (d s o i : ℕ) → is_left_out (fields (opcode_of op) d s o i) ≡ false

kept_binary : (w : Width) (op : BinaryOp) (source : SourceOperand) → IsKept (Binary w op source)
kept_binary W32 Add Immediate d s o i = refl
kept_binary W32 Add Register d s o i = refl
kept_binary W64 Add Immediate d s o i = refl
kept_binary W64 Add Register d s o i = refl
kept_binary w op Immediate d s o i = refl
kept_binary w op Register d s o i = refl

kept_division : (w : Width) (op : DivisionOp) (source : SourceOperand) → IsKept (Division w op source)
kept_division W32 Div Immediate d s o i = refl
kept_division W32 Div Register d s o i = refl
kept_division W64 Div Immediate d s o i = refl
kept_division W64 Div Register d s o i = refl
kept_division w op Immediate d s o i = refl
kept_division w op Register d s o i = refl

kept_negate : (w : Width) → IsKept (Negate w)
kept_negate W32 d s o i = refl
kept_negate W64 d s o i = refl

kept_move : (w : Width) (source : SourceOperand) → IsKept (Move w source)
kept_move W32 Immediate d s o i = refl
kept_move W32 Register d s o i = refl
kept_move W64 Immediate d s o i = refl
kept_move W64 Register d s o i = refl

kept_reorder : (order : ByteOrder) → IsKept (Reorder order)
kept_reorder Little d s o i = refl
kept_reorder order d s o i = refl

kept_branch : (w : Width) (c : Condition) (source : SourceOperand) → IsKept (Branch w c source)
kept_branch W32 Equal Immediate d s o i = refl
kept_branch W32 Equal Register d s o i = refl
kept_branch W64 Equal Immediate d s o i = refl
kept_branch W64 Equal Register d s o i = refl
kept_branch w c Immediate d s o i = refl
kept_branch w c Register d s o i = refl

kept_load : (size : Size) → IsKept (Load size)
kept_load sizes.Byte d s o i = refl
kept_load size d s o i = refl

kept_load_signed : (size : SignedSize) → IsKept (LoadSigned size)
kept_load_signed signed_sizes.Byte d s o i = refl
kept_load_signed size d s o i = refl

kept_store_immediate : (size : Size) → IsKept (StoreImmediate size)
kept_store_immediate sizes.Byte d s o i = refl
kept_store_immediate size d s o i = refl

kept_store_register : (size : Size) → IsKept (StoreRegister size)
kept_store_register sizes.Byte d s o i = refl
kept_store_register size d s o i = refl

or_parts : (a b : Bool) → (a || (b || false)) ≡ true → (a ≡ true) ⊎ (b ≡ true)
or_parts true b h = inl refl
or_parts false true h = inr refl
or_parts false false h = absurd cc

or_part : (a : Bool) → (a || false) ≡ true → a ≡ true
or_part true h = refl
or_part false h = absurd cc

kept_call : (d s o i : ℕ) → one_of (0 ∷ []) s ≡ true → is_left_out (fields (opcode_of Call) d s o i) ≡ false
kept_call d s o i h =
    let P : ℕ → Type 0 = λ n. is_left_out (fields (opcode_of Call) d n o i) ≡ false in
    subst P (sym (eqb-true s 0 (or_part (eqb s 0) h))) refl

kept_wide : (d s o i : ℕ) → one_of (0 ∷ 5 ∷ []) s ≡ true → is_left_out (fields (opcode_of Wide) d s o i) ≡ false
kept_wide d s o i h =
    let P : ℕ → Type 0 = λ n. is_left_out (fields (opcode_of Wide) d n o i) ≡ false in
    elim (or_parts (eqb s 0) (eqb s 5) h) [
      | inl e ↦ subst P (sym (eqb-true s 0 e)) refl
      | inr e ↦ subst P (sym (eqb-true s 5 e)) refl
    ]

kept : (op : OpcodeMeaning) (d s o i : ℕ) → is_named_by op (fields (opcode_of op) d s o i) ≡ true → is_left_out (fields (opcode_of op) d s o i) ≡ false
kept (Binary w op source) d s o i h = kept_binary w op source d s o i
kept (Division w op source) d s o i h = kept_division w op source d s o i
kept (Negate w) d s o i h = kept_negate w d s o i
kept (Move w source) d s o i h = kept_move w source d s o i
kept (Reorder order) d s o i h = kept_reorder order d s o i
kept (Branch w c source) d s o i h = kept_branch w c source d s o i
kept Jump d s o i h = refl
kept JumpFar d s o i h = refl
kept Call d s o i h = kept_call d s o i h
kept Exit d s o i h = refl
kept Wide d s o i h = kept_wide d s o i h
kept (Load size) d s o i h = kept_load size d s o i
kept (LoadSigned size) d s o i h = kept_load_signed size d s o i
kept (StoreImmediate size) d s o i h = kept_store_immediate size d s o i
kept (StoreRegister size) d s o i h = kept_store_register size d s o i

-- a unit with the opcode and the other numbers of an operation is supported
pub not_left_out : (op : OpcodeMeaning) (f : Fields) → opcode_of op ≡ f.opcode → is_named_by op f ≡ true → is_left_out f ≡ false
not_left_out op f e h =
    ap (λ (n : ℕ). is_left_out (at f n)) (sym e) ∙ kept op f.dst f.src f.offset f.imm (ap (λ (n : ℕ). is_named_by op (at f n)) e ∙ h)
