use Rattle.std.proofs.Common.{inl, inr}
use Rattle.rb_semantics.specs.declared.value.MemoryRegion.TheVariants.{Record}
use Rattle.rb_semantics.specs.Instructions.{null_test}
use Rattle.rb_interp.specs.ShownState.{state_of}
use Rattle.rb_interp.proofs.Comparing.{compared_kinds}
use Rattle.rb_interp.proofs.cpu.Cpu.execute_compare.Goals as goal
use Rattle.rb_interp.proofs.cpu.Cpu.execute_compare.Goals.{in_default-via-in-Number+in_default, in_default-via-in_default}

pub known-requires-in_default : goal.known-requires-in_default
known-requires-in_default g c =
    let s = state_of g.R.Lent.bytes_of g.C.Context.shown c.args.self.now in
    elim (compared_kinds c.args.insn.now (null_test c.args.width c.args.condition c.args.operand) c.args.a c.args.b s c.requires.meant) [
      | inl k ↦ elim c.in_default.branch [ in_default-via-in-Number+in_default w ↦ absurd (let e = k.2 in let f = w.in_default.is-0 in cc) | in_default-via-in_default w ↦ absurd (w.in_default.not-Pointer-0 (Record k.0) k.1 k.2) ]
      | inr k ↦ elim c.in_default.branch [ in_default-via-in-Number+in_default w ↦ absurd (w.in_default.not-Number-1 k.1 k.3) | in_default-via-in_default w ↦ absurd (w.in_default.not-Number-0 k.0 k.2) ]
    ]
