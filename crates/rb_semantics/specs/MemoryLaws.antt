-- The laws of a program's memory.
use Rattle.std.specs.Prelude.{◌≡◌, ℕ, ℤ, true, List, length, replicate, Some, None, if◌then◌else◌}
use Rattle.rb_semantics.specs.declared.value.MemoryRegion.{MemoryRegion}
use Rattle.rb_semantics.specs.declared.value.MemoryRegion.TheVariants.{Stack}
use Rattle.rb_semantics.specs.declared.value.Value.{Value}
use Rattle.rb_verifier.specs.StackPlaces.{touches}
use Rattle.rb_semantics.specs.StackPointers.{pointer_at}
use Rattle.rb_semantics.specs.ProgramMemory.{Memory, byte_of, byte_range, read, write, spill, fill}

-- a read returns the bytes that were written, even if they overwrote pointers
abbrev pub BytesWrittenAreRead : Type 0
BytesWrittenAreRead = (m new : Memory) (part : MemoryRegion) (offset : ℤ) (bytes : List ℕ) → write m part offset bytes ≡ Some new → read new part offset (length bytes) ≡ Some bytes

-- a write to the stack removes the pointer from each place that it overlaps, and keeps those of all other places
abbrev pub WritesTakePointersOut : Type 0
WritesTakePointersOut =
    (m new : Memory) (offset : ℤ) (at : ℕ) (bytes : List ℕ) (place : ℕ) → byte_of Stack offset ≡ Some at → write m Stack offset bytes ≡ Some new
    → pointer_at place new.pointers ≡ (if touches at (length bytes) place then None else pointer_at place m.pointers)

-- a load finds the pointer that was stored at a place
abbrev pub PointersStoredAreFound : Type 0
PointersStoredAreFound = (m new : Memory) (part : MemoryRegion) (offset : ℤ) (v : Value) → spill m part offset v ≡ Some new → fill new part offset ≡ Some v

-- after a pointer was stored at a place, its bytes are zero
abbrev pub PointersStoredLeaveZeros : Type 0
PointersStoredLeaveZeros =
    (m new : Memory) (offset : ℤ) (at : ℕ) (v : Value) → byte_of Stack offset ≡ Some at → spill m Stack offset v ≡ Some new → byte_range 8 new.stack at ≡ Some (replicate 8 0)

-- no read returns bytes of a place that holds a pointer
abbrev pub PointersAreNotRead : Type 0
PointersAreNotRead =
    (m : Memory) (offset : ℤ) (at len place : ℕ) (v : Value) → byte_of Stack offset ≡ Some at → pointer_at place m.pointers ≡ Some v → touches at len place ≡ true → read m Stack offset len ≡ None
