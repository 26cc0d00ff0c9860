use Rattle.std.proofs.Common.{◌≡◌, Some, replicate, sym, ap, ◌∙◌, subst, refl}
use Rattle.std.proofs.lemmas.Int.{to_z-of_z}
use mir.Syntax.{w64}
use Rattle.rb_semantics.specs.declared.value.MemoryRegion.TheVariants.{Stack}
use Rattle.rb_semantics.specs.StackPointers.{pointer_at}
use Rattle.rb_semantics.specs.ProgramMemory.{Memory, place_at, write}
use Rattle.rb_interp.specs.StoredMemory.{program_memory_of}
use Rattle.rb_interp.specs.inner.KeptPointers.{IsSlotPlace}
use Rattle.rb_interp.proofs.Spilling.{IsAtPlace, spills_at, spill_written, spill_is, Begins, begins_at}
use Rattle.rb_interp.proofs.machine_memory.MachineMemory.keep.Goals as goal

pub store-requires-clause-inside : goal.store-requires-clause-inside
store-requires-clause-inside g c none =
    let m : Memory = program_memory_of g.R.Lent.bytes_of g.C.Context.shown c.args.self.now in
    spill_written m c.args.place c.args.offset c.args.value c.requires.inside (ap (λ offset. write m c.args.place offset (replicate 8 0)) (sym (to_z-of_z w64 c.args.offset c.ranges.offset)) ∙ none)

pub place_beginning-requires-clause-place : goal.place_beginning-requires-clause-place
place_beginning-requires-clause-place g c =
    let m : Memory = program_memory_of g.R.Lent.bytes_of g.C.Context.shown c.args.self.now in
    let at : IsAtPlace c.args.place c.args.offset = spills_at m c.args.place c.args.offset c.args.value c.requires.stack c.requires.inside in
    subst (λ offset. IsSlotPlace (place_at Stack offset)) (sym (to_z-of_z w64 c.args.offset c.ranges.offset)) at.place

pub keep-requires-clause-inside : goal.keep-requires-clause-inside
keep-requires-clause-inside g c =
    let m : Memory = program_memory_of g.R.Lent.bytes_of g.C.Context.shown c.args.self.now in
    let at : IsAtPlace c.args.place c.args.offset = spills_at m c.args.place c.args.offset c.args.value c.requires.stack c.requires.inside in
    let there : place_at Stack c.args.offset ≡ Some c.place_beginning.result = ap (place_at Stack) (sym (to_z-of_z w64 c.args.offset c.ranges.offset)) ∙ c.place_beginning.ensures in
    subst IsSlotPlace there at.place

pub keep-requires-clause-empty : goal.keep-requires-clause-empty
keep-requires-clause-empty g c =
    let m : Memory = program_memory_of g.R.Lent.bytes_of g.C.Context.shown c.args.self.now in
    let new : Memory = program_memory_of g.R.Lent.bytes_of g.C.Context.shown c.store.new.self in
    let at : IsAtPlace c.args.place c.args.offset = spills_at m c.args.place c.args.offset c.args.value c.requires.stack c.requires.inside in
    let same = to_z-of_z w64 c.args.offset c.ranges.offset in
    let there : place_at Stack c.args.offset ≡ Some c.place_beginning.result = ap (place_at Stack) (sym same) ∙ c.place_beginning.ensures in
    let b : Begins c.args.offset c.place_beginning.result = begins_at c.args.offset c.place_beginning.result there in
    let zeros : write m Stack c.args.offset (replicate 8 0) ≡ Some new =
    ap (λ part. write m part c.args.offset (replicate 8 0)) (sym at.stack) ∙ (ap (λ offset. write m c.args.place offset (replicate 8 0)) (sym same) ∙ c.store.ensures.written) in
    ap (λ v. pointer_at c.place_beginning.result v.pointers) c.self.view_is
    ∙ (c.writes_take_pointers_out.ensures m new c.args.offset b.byte (replicate 8 0) c.place_beginning.result b.there zeros ∙ rw b.touched)

pub returns-clause-kept : goal.returns-clause-kept
returns-clause-kept g c =
    let m : Memory = program_memory_of g.R.Lent.bytes_of g.C.Context.shown c.args.self.now in
    let new : Memory = program_memory_of g.R.Lent.bytes_of g.C.Context.shown c.store.new.self in
    let at : IsAtPlace c.args.place c.args.offset = spills_at m c.args.place c.args.offset c.args.value c.requires.stack c.requires.inside in
    let same = to_z-of_z w64 c.args.offset c.ranges.offset in
    let there : place_at c.args.place c.args.offset ≡ Some c.place_beginning.result = ap (λ part. place_at part c.args.offset) at.stack ∙ (ap (place_at Stack) (sym same) ∙ c.place_beginning.ensures) in
    let zeros : write m c.args.place c.args.offset (replicate 8 0) ≡ Some new = ap (λ offset. write m c.args.place offset (replicate 8 0)) (sym same) ∙ c.store.ensures.written in
    spill_is m new c.args.place c.args.offset c.args.value c.place_beginning.result there zeros ∙ rw (← c.self.view_is, c.keep.ensures) refl
