use Rattle.std.proofs.Common.{◌≡◌, ℕ, List, Some, None, length, sym, ap, ◌∙◌}
use Rattle.std.proofs.lemmas.Int.{to_z-of_z}
use mir.Syntax.{w64}
use Rattle.byteorder.specs.Endian.{little_bytes}
use Rattle.byteorder.specs.Numbers.{length-bytes_low_first}
use Rattle.rb_insn.specs.Sizes.{byte_count}
use Rattle.rb_interp.specs.PartsMemory.{may_write, part_with}
use Rattle.rb_interp.specs.declared.parts.Parts.{Parts}
use Rattle.rb_semantics.specs.StackPointers.{StackPointers}
use Rattle.rb_interp.specs.inner.SlotTable.{part_named}
use Rattle.rb_interp.specs.inner.KeptPointers.{pointers_written}
use Rattle.rb_interp.specs.StoredMemory.{program_memory_of}
use Rattle.rb_semantics.specs.ProgramMemory.{write}
use Rattle.rb_interp.proofs.Memories.{no_part_written, written_in, shows}
use Rattle.rb_interp.proofs.machine_memory.MachineMemory.store.Goals as goal

pub located-part-requires-clause-held : goal.located-part-requires-clause-held
located-part-requires-clause-held g c none =
    let part : part_named c.self.inside.entries.items c.args.place ≡ None = ap (λ es. part_named es c.args.place) (sym c.as_slice.ensures.value) ∙ none in
    c.requires.inside (ap (λ v. write (program_memory_of g.R.Lent.bytes_of g.C.Context.shown v) c.args.place c.args.offset (little_bytes (byte_count c.args.size) c.args.number)) (sym c.self.view_is)
    ∙ no_part_written g.R.Lent.bytes_of g.C.Context.shown g.R.Lent.with_bytes g.met.R.Lent.rewritten c.self.inside.pointers c.self.inside.parts c.self.inside.entries.items c.args.place c.args.offset (little_bytes (byte_count c.args.size) c.args.number) c.self.invariant part)

pub range_mut-bytes-requires : goal.range_mut-bytes-requires
range_mut-bytes-requires g c =
    let w = written_in g.R.Lent.bytes_of g.C.Context.shown g.R.Lent.with_bytes g.met.R.Lent.rewritten c.self.inside.pointers c.args.self.now c.self.inside.parts c.self.inside.entries.items _ c.args.place c.args.offset _ _ _ (little_bytes (byte_count c.args.size) c.args.number)
    c.self.view_is c.as_slice.ensures.value (to_z-of_z w64 c.args.offset c.ranges.offset) c.self.invariant c.requires.stack c.located-part.ensures.part c.located-part.ensures.byte c.requires.inside in
    ap (may_write g.R.Lent.bytes_of c.self.inside.parts c.located-part.result.0 c.located-part.result.1) (c.bytes-len.ensures.value ∙ sym (length-bytes_low_first 0 (byte_count c.args.size) c.args.number)) ∙ w.may

pub invariant_of-self : goal.invariant_of-self
invariant_of-self g c =
    let w = written_in g.R.Lent.bytes_of g.C.Context.shown g.R.Lent.with_bytes g.met.R.Lent.rewritten c.self.inside.pointers c.args.self.now c.self.inside.parts c.self.inside.entries.items _ c.args.place c.args.offset _ _ _ (little_bytes (byte_count c.args.size) c.args.number)
    c.self.view_is c.as_slice.ensures.value (to_z-of_z w64 c.args.offset c.ranges.offset) c.self.invariant c.requires.stack c.located-part.ensures.part c.located-part.ensures.byte c.requires.inside in
    rw c.put_number.ensures w.table

pub returns-clause-written : goal.returns-clause-written
returns-clause-written g c =
    let w = written_in g.R.Lent.bytes_of g.C.Context.shown g.R.Lent.with_bytes g.met.R.Lent.rewritten c.self.inside.pointers c.args.self.now c.self.inside.parts c.self.inside.entries.items _ c.args.place c.args.offset _ _ _ (little_bytes (byte_count c.args.size) c.args.number)
    c.self.view_is c.as_slice.ensures.value (to_z-of_z w64 c.args.offset c.ranges.offset) c.self.invariant c.requires.stack c.located-part.ensures.part c.located-part.ensures.byte c.requires.inside in
    let new : List ℕ = little_bytes (byte_count c.args.size) c.args.number in
    let put : c.put_number.new.bytes ≡ new = c.put_number.ensures in
    let after : Parts _ _ = part_with g.R.Lent.with_bytes g.R.Lent.bytes_of c.self.inside.parts c.located-part.result.0 c.located-part.result.1 c.put_number.new.bytes in
    let long : length new ≡ c.bytes-len.result = length-bytes_low_first 0 (byte_count c.args.size) c.args.number ∙ sym c.bytes-len.ensures.value in
    let left : pointers_written c.args.place c.located-part.result.1 (length new) c.self.inside.pointers ≡ c.write.new.self =
    ap (λ n. pointers_written c.args.place c.located-part.result.1 n c.self.inside.pointers) long ∙ sym c.write.ensures in
    w.shown_after
    ∙ (ap (λ (b : List ℕ). Some (shows g.R.Lent.bytes_of g.C.Context.shown (part_with g.R.Lent.with_bytes g.R.Lent.bytes_of c.self.inside.parts c.located-part.result.0 c.located-part.result.1 b) (pointers_written c.args.place c.located-part.result.1 (length new) c.self.inside.pointers) c.self.inside.entries.items)) (sym put)
    ∙ ap (λ (ks : StackPointers). Some (shows g.R.Lent.bytes_of g.C.Context.shown after ks c.self.inside.entries.items)) left)

pub returns-clause-same : goal.returns-clause-same
returns-clause-same g c =
    let w = written_in g.R.Lent.bytes_of g.C.Context.shown g.R.Lent.with_bytes g.met.R.Lent.rewritten c.self.inside.pointers c.args.self.now c.self.inside.parts c.self.inside.entries.items _ c.args.place c.args.offset _ _ _ (little_bytes (byte_count c.args.size) c.args.number)
    c.self.view_is c.as_slice.ensures.value (to_z-of_z w64 c.args.offset c.ranges.offset) c.self.invariant c.requires.stack c.located-part.ensures.part c.located-part.ensures.byte c.requires.inside in
    let put : c.put_number.new.bytes ≡ little_bytes (byte_count c.args.size) c.args.number = c.put_number.ensures in
    rw (← c.self.view_is, put) w.same
