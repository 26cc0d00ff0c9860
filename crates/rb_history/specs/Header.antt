-- A record's header (Linux Documentation/bpf/ringbuf.rst: eight bytes in front of each record, with its length, a busy
-- bit, a discard bit and its offset in pages; that a page is counted from the start of the ring's bytes is own).
use Rattle.std.specs.Prelude.{ℕ, ◌≡◌, ◌+◌, ◌^◌, ◌<◌, ◌&&◌, true, false, List, ◌++◌, if◌then◌else◌}
use Rattle.std.specs.Int.{w32, to_le_bytes}
use Rattle.rb_history.specs.declared.headers.Header.{Header}
use Rattle.rb_history.specs.declared.headers.TheConstants.{BUSY_BIT, DISCARD_BIT}

-- The length is in bits 0 to 29, plus DISCARD_BIT (2^30) if the record was discarded, plus BUSY_BIT (2^31) if it is
-- busy. For example, a discarded record of eight bytes has 0x40000008.
abbrev pub length_word : Header → ℕ
length_word h = h.len + (if h.discard then DISCARD_BIT else 0) + (if h.busy then BUSY_BIT else 0)

-- the eight bytes: the length word, then the page, each with its lowest byte first
abbrev pub header_bytes : Header → List ℕ
header_bytes h = to_le_bytes w32 (length_word h) ++ to_le_bytes w32 h.page

-- the ranges of a header's fields: a length of 30 bits, and a page of 32
pub record HasFields (h : Header) : Type 0 where
  pub len : h.len < 2 ^ 30
  pub page : h.page < 2 ^ 32

-- the header of a record: no record is both busy and discarded
pub record IsHeader (h : Header) : Type 0 where
  pub fields : HasFields h
  pub one_bit : (h.busy && h.discard) ≡ false

-- eight bytes that are not the header of any record: both bits are set
abbrev pub HasBothBits : List ℕ → Type 0
HasBothBits bytes = (h : Header) × HasFields h × (h.busy ≡ true) × (h.discard ≡ true) × (header_bytes h ≡ bytes)
