use Rattle.std.proofs.Common.{◌≡◌, ℕ, List, [], ◌∷◌, ◌++◌, length, take, drop, set, refl, arith}
use Rattle.byteorder.specs.Endian.{little_bytes}
use borrow.Rule.Slice.PartMut.{put_mid}
use Rattle.rb_insn.proofs.spelling.write_unit.Goals as goal

written : (out middle back : List ℕ) (opcode registers offset imm : ℕ) → length out ≡ 8
    → middle ≡ little_bytes 2 offset ++ drop 2 (take 2 (drop 2 (set (set out 0 opcode) 1 registers)))
    → back ≡ little_bytes 4 imm ++ drop 4 (take 4 (drop 4 (put_mid 2 2 (set (set out 0 opcode) 1 registers) middle)))
    → put_mid 4 4 (put_mid 2 2 (set (set out 0 opcode) 1 registers) middle) back
    ≡ opcode ∷ registers ∷ (little_bytes 2 offset ++ little_bytes 4 imm)
written (a ∷ b ∷ c ∷ d ∷ e ∷ f ∷ g ∷ h ∷ []) middle back opcode registers offset imm len m k = rw k (rw m refl)
written out middle back opcode registers offset imm len m k = absurd (omega arith)

pub returns : goal.returns
returns c = written c.args.out.now c.write_u16.new.buf c.write_u32.new.buf c.args.opcode c.args.registers c.args.offset c.args.imm c.requires c.write_u16.ensures c.write_u32.ensures
