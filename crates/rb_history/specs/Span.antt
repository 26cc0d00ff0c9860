-- How far a record advances the positions (Linux Documentation/bpf/ringbuf.rst, record header; the rounding to a
-- multiple of eight is own).
use Rattle.std.specs.Prelude.{ℕ, ◌+◌, ◌*◌, ◌/◌}

-- the number of eight-byte units that hold n bytes: the least k with 8 * k at least n
abbrev pub eights : ℕ → ℕ
eights n = (n + 7) / 8

-- the number of bytes that a record of n bytes occupies: its header, plus its payload rounded up to a multiple of eight
abbrev pub span : ℕ → ℕ
span n = 8 + 8 * eights n
