-- The decoder's state after a prefix of the bytes.
use Rattle.std.specs.Prelude.{◌≡◌, ℕ, ◌*◌, ◌≤◌, List, length, take}
use Rattle.rb_insn.specs.declared.insn.Insn.{Insn}
use Rattle.rb_insn.specs.Spelling.{SpellsAll}
use Rattle.rb_program.specs.DecodedUnits.{kept_units, insns_kept}

-- the stored units represent a list of instructions, which the bytes before the current position encode
pub record IsDecoded (bytes : List ℕ) (units : List Insn) : Type 0 where
  pub laid_out : kept_units (insns_kept units) ≡ units
  pub within : 8 * length units ≤ length bytes
  pub spelled : SpellsAll (insns_kept units) (take (8 * length units) bytes)
