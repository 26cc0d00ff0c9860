use Rattle.std.proofs.Common.{◌≡◌, ◌≢◌, Some, None, sym, ap, ◌∙◌}
use Rattle.std.proofs.lemmas.Int.{to_z-of_z}
use mir.Syntax.{w64}
use Rattle.rb_interp.specs.inner.SlotTable.{named, part_named}
use Rattle.rb_interp.specs.StoredMemory.{program_memory_of}
use Rattle.rb_semantics.specs.ProgramMemory.{read, byte_of}
use Rattle.rb_interp.proofs.Memories.{no_part, no_byte, read_is}
use Rattle.rb_interp.proofs.machine_memory.MachineMemory.read.Goals as goal

pub located-part-requires-clause-held : goal.located-part-requires-clause-held
located-part-requires-clause-held g c none =
    let part : part_named c.self.inside.entries.items c.args.place ≡ None = ap (λ es. part_named es c.args.place) (sym c.as_slice.ensures.value) ∙ none in
    c.requires.inside (ap (λ v. read (program_memory_of g.R.Lent.bytes_of g.C.Context.shown v) c.args.place c.args.offset c.args.len) (sym c.self.view_is)
    ∙ no_part g.R.Lent.bytes_of g.C.Context.shown c.self.inside.pointers c.self.inside.parts c.self.inside.entries.items c.args.place c.args.offset c.args.len c.self.invariant part)

pub located-part-requires-clause-counted : goal.located-part-requires-clause-counted
located-part-requires-clause-counted g c none =
    c.requires.inside (no_byte (program_memory_of g.R.Lent.bytes_of g.C.Context.shown c.args.self.now) c.args.place c.args.offset c.args.len
    (ap (byte_of c.args.place) (sym (to_z-of_z w64 c.args.offset c.ranges.offset)) ∙ none))

pub range-requires : goal.range-requires
range-requires g c none =
    let some : read (program_memory_of g.R.Lent.bytes_of g.C.Context.shown (record { stack = c.self.inside.parts.stack; pointers = c.self.inside.pointers; context = c.self.inside.parts.context; records = named c.self.inside.entries.items c.self.inside.parts.records })) c.args.place c.args.offset c.args.len ≢ None =
    λ none. c.requires.inside (ap (λ v. read (program_memory_of g.R.Lent.bytes_of g.C.Context.shown v) c.args.place c.args.offset c.args.len) (sym c.self.view_is) ∙ none) in
    let part : part_named c.self.inside.entries.items c.args.place ≡ Some c.located-part.result.0 = ap (λ es. part_named es c.args.place) (sym c.as_slice.ensures.value) ∙ c.located-part.ensures.part in
    let byte : byte_of c.args.place c.args.offset ≡ Some c.located-part.result.1 = ap (byte_of c.args.place) (sym (to_z-of_z w64 c.args.offset c.ranges.offset)) ∙ c.located-part.ensures.byte in
    c.requires.inside (ap (λ v. read (program_memory_of g.R.Lent.bytes_of g.C.Context.shown v) c.args.place c.args.offset c.args.len) (sym c.self.view_is)
    ∙ (read_is g.R.Lent.bytes_of g.C.Context.shown c.self.inside.pointers c.self.inside.parts c.self.inside.entries.items c.args.place c.args.offset c.args.len c.located-part.result.0 c.located-part.result.1 c.self.invariant part byte some ∙ none))

pub returns : goal.returns
returns g c =
    let some : read (program_memory_of g.R.Lent.bytes_of g.C.Context.shown (record { stack = c.self.inside.parts.stack; pointers = c.self.inside.pointers; context = c.self.inside.parts.context; records = named c.self.inside.entries.items c.self.inside.parts.records })) c.args.place c.args.offset c.args.len ≢ None =
    λ none. c.requires.inside (ap (λ v. read (program_memory_of g.R.Lent.bytes_of g.C.Context.shown v) c.args.place c.args.offset c.args.len) (sym c.self.view_is) ∙ none) in
    let part : part_named c.self.inside.entries.items c.args.place ≡ Some c.located-part.result.0 = ap (λ es. part_named es c.args.place) (sym c.as_slice.ensures.value) ∙ c.located-part.ensures.part in
    let byte : byte_of c.args.place c.args.offset ≡ Some c.located-part.result.1 = ap (byte_of c.args.place) (sym (to_z-of_z w64 c.args.offset c.ranges.offset)) ∙ c.located-part.ensures.byte in
    record {
      bytes = ap (λ v. read (program_memory_of g.R.Lent.bytes_of g.C.Context.shown v) c.args.place c.args.offset c.args.len) (sym c.self.view_is)
          ∙ (read_is g.R.Lent.bytes_of g.C.Context.shown c.self.inside.pointers c.self.inside.parts c.self.inside.entries.items c.args.place c.args.offset c.args.len c.located-part.result.0 c.located-part.result.1 c.self.invariant part byte some ∙ c.range.ensures.value);
      length = c.range.ensures.length;
    }
