-- The places of the stack, to which a program may spill pointers (spills as in Linux Documentation/bpf/verifier.rst;
-- own profile). The stack has 64 places, its aligned 8-byte slots: place 0 has the first eight bytes and place 63 the
-- last.
use Rattle.std.specs.Prelude.{ℕ, zero, suc, ℤ, pos, negsuc, ◌+◌, ◌*◌, ◌/◌, ◌%◌, ◌+ℤ◌, ◌==◌, ◌||◌, Bool, false, nat_lt, max, min, Option, Some, None, if◌then◌else◌}

-- an integer that is not negative, as a natural number
abbrev pub natural : ℤ → Option ℕ
natural (pos n) = Some n
natural (negsuc n) = None

-- the index of the stack byte at an offset, counted from the first byte: the 512 bytes have the offsets -512 to -1
abbrev pub stack_byte : ℤ → Option ℕ
stack_byte offset = natural (offset +ℤ pos 512)

-- the place that begins at a byte
abbrev pub place_from : ℕ → Option ℕ
place_from byte = if byte % 8 == 0 then Some (byte / 8) else None

-- the place that has exactly the `len` bytes from byte `at` on
abbrev pub whole_place : ℕ → ℕ → Option ℕ
whole_place at len = if len == 8 then place_from at else None

-- whether a place overlaps the `len` bytes from byte `at` on
abbrev pub touches : ℕ → ℕ → ℕ → Bool
touches at len place = nat_lt (max at (8 * place)) (min (at + len) (8 * place + 8))

-- whether one of the places below a bound passes a test
abbrev pub any_place : (ℕ → Bool) → ℕ → Bool
any_place test zero = false
any_place test (suc place) = test place || any_place test place
