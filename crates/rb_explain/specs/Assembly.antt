-- The assembly of each instruction: the syntax of LLVM's disassembler, and for rings map_by_idx of RFC 9669, section
-- 5.4.
use Rattle.std.specs.Prelude.{ℕ, List, ◌++◌, codes}
use Rattle.std.specs.Fmt.{signed_decimal}
use Rattle.std.specs.Int.{w32, w64, cast_signed}
use Rattle.rb_insn.specs.declared.insn.Width.TheVariants.{W32, W64}
use Rattle.rb_insn.specs.declared.insn.Insn.{Insn}
use Rattle.rb_insn.specs.declared.insn.Insn.TheVariants.{Binary, Division, Negate, Move, MoveExtended32, MoveExtended64, Reorder, Jump, JumpFar, Branch, Call, Exit, LoadNumber, LoadRing, Load, LoadSigned, StoreImmediate, StoreRegister}
use Rattle.rb_explain.specs.AssemblyParts.{register_text, operand_text, access_text, ring_text, distance_text, binary_symbol, division_symbol, condition_symbol, extend32_type, extend64_type, byte_order_name, swap_width_name, size_type, signed_size_type}

abbrev pub assembly_of : Insn → List ℕ
assembly_of (Binary width op dst operand) = register_text width dst ++ codes " " ++ binary_symbol op ++ codes " " ++ operand_text width operand
assembly_of (Division width op sign dst operand) = register_text width dst ++ codes " " ++ division_symbol sign op ++ codes " " ++ operand_text width operand
assembly_of (Negate width dst) = register_text width dst ++ codes " = -" ++ register_text width dst
assembly_of (Move width dst operand) = register_text width dst ++ codes " = " ++ operand_text width operand
assembly_of (MoveExtended32 from dst src) = register_text W32 dst ++ codes " = (" ++ extend32_type from ++ codes ")" ++ register_text W32 src
assembly_of (MoveExtended64 from dst src) = register_text W64 dst ++ codes " = (" ++ extend64_type from ++ codes ")" ++ register_text W64 src
assembly_of (Reorder order width dst) = register_text W64 dst ++ codes " = " ++ byte_order_name order ++ swap_width_name width ++ codes " " ++ register_text W64 dst
assembly_of (Jump distance) = codes "goto " ++ distance_text distance
assembly_of (JumpFar distance) = codes "gotol " ++ distance_text distance
assembly_of (Branch width condition dst operand distance) =
    codes "if " ++ register_text width dst ++ codes " " ++ condition_symbol condition ++ codes " " ++ operand_text width operand ++ codes " goto " ++ distance_text distance
assembly_of (Call helper) = codes "call " ++ signed_decimal (cast_signed w32 helper)
assembly_of Exit = codes "exit"
assembly_of (LoadNumber dst value) = register_text W64 dst ++ codes " = " ++ signed_decimal (cast_signed w64 value) ++ codes " ll"
assembly_of (LoadRing dst number) = register_text W64 dst ++ codes " = " ++ ring_text number
assembly_of (Load size dst base offset) = register_text W64 dst ++ codes " = " ++ access_text (size_type size) base offset
assembly_of (LoadSigned size dst base offset) = register_text W64 dst ++ codes " = " ++ access_text (signed_size_type size) base offset
assembly_of (StoreImmediate size base offset value) = access_text (size_type size) base offset ++ codes " = " ++ signed_decimal value
assembly_of (StoreRegister size base offset src) = access_text (size_type size) base offset ++ codes " = " ++ register_text W64 src
