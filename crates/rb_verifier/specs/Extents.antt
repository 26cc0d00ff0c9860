-- The parts of memory (the context, the stack and the records), and the bytes of each that a pointer may access (own
-- profile).
use Rattle.std.specs.Prelude.{ℕ, ℤ, pos, negsuc, ◌+ℤ◌, Bool, false, ◌&&◌, int_le, find, List, Option, Some, None}
use Rattle.rb_verifier.specs.declared.limits.Limits.{Limits}
use Rattle.rb_verifier.specs.declared.references.Reference.{Reference}
use Rattle.rb_verifier.specs.declared.value.Abs.{Abs}
use Rattle.rb_verifier.specs.declared.value.Abs.TheVariants.{Ctx, Stack, Record}
use Rattle.rb_verifier.specs.References.{has_id}

-- the offsets of a part's bytes: from `first` to below `end`
pub record Extent : Type 0 where
  pub first : ℤ
  pub end : ℤ

-- the 512 bytes of the stack have the offsets -512 to -1
abbrev pub stack_extent : Extent
stack_extent = record { first = negsuc 511; end = pos 0 }

-- the bytes of the context and of a record have the offsets from 0 on
abbrev pub extent_from_zero : ℕ → Extent
extent_from_zero len = record { first = pos 0; end = pos len }

-- the `len` bytes at an offset lie in the extent; zero bytes do at any offset from the first byte to the end
abbrev pub contains_range : Extent → ℤ → ℕ → Bool
contains_range extent from len = int_le extent.first from && int_le (from +ℤ pos len) extent.end

-- the `len` bytes at an offset lie in the record that the reference stands for
abbrev pub record_contains : Option Reference → ℤ → ℕ → Bool
record_contains None from len = false
record_contains (Some r) from len = contains_range (extent_from_zero r.size) from len

-- the `len` bytes at `pointer + by` lie in the pointer's part
abbrev pub reaches : Limits → List Reference → Abs → ℤ → ℕ → Bool
reaches limits held (Ctx offset) by len = contains_range (extent_from_zero limits.ctx_len) (offset +ℤ by) len
reaches limits held (Stack offset) by len = contains_range stack_extent (offset +ℤ by) len
reaches limits held (Record id offset) by len = record_contains (find (has_id id) held) (offset +ℤ by) len
reaches limits held _ by len = false
