-- The tape: the records that were taken from a ring, written as bytes one after the other (own; each record as Linux
-- Documentation/bpf/ringbuf.rst lays it out in the ring's memory).
use Rattle.std.specs.Prelude.{ℕ, ◌≡◌, ◌+◌, ◌-◌, ◌*◌, ◌/◌, ◌%◌, ◌^◌, ◌<◌, ◌≤◌, Bool, true, false, List, [], ◌∷◌, ◌++◌, length, replicate, sum_by}
use Rattle.std.specs.List.{flat_map}
use Rattle.rb_history.specs.declared.headers.Header.{Header}
use Rattle.rb_history.specs.Header.{header_bytes}
use Rattle.rb_history.specs.Span.{span, eights}

-- A record that was taken: an event with its bytes, or a discarded record that was skipped, with its length. The tape
-- of an event of the one byte 0x2a is 01 00 00 00 00 00 00 00 2a 00 00 00 00 00 00 00: the length word, the page, the
-- byte, seven zeros.
pub data Item : Type 0 where
  Event : (position : ℕ) (bytes : List ℕ) → Item
  Skip : (position len : ℕ) → Item

abbrev pub item_position : Item → ℕ
item_position (Event position bytes) = position
item_position (Skip position len) = position

abbrev pub item_len : Item → ℕ
item_len (Event position bytes) = length bytes
item_len (Skip position len) = len

abbrev pub is_skip : Item → Bool
is_skip (Event position bytes) = false
is_skip (Skip position len) = true

abbrev pub zeros : ℕ → List ℕ
zeros n = replicate n 0

-- the bytes after the header: those of an event, zeros for a skip
abbrev pub payload_of : Item → List ℕ
payload_of (Event position bytes) = bytes
payload_of (Skip position len) = zeros len

-- the page of a position in a ring of this size, counted from the start of the ring's bytes
abbrev pub page_of : ℕ → ℕ → ℕ
page_of size position = position % size / 4096

-- the header of a taken record, which is no longer busy
abbrev pub header_of : ℕ → Item → Header
header_of size item = record { len = item_len item; busy = false; discard = is_skip item; page = page_of size (item_position item) }

-- the number of zeros that pad n bytes to a multiple of eight
abbrev pub padding : ℕ → ℕ
padding n = 8 * eights n - n

-- the bytes of one record: its header, its payload, and zeros up to a multiple of eight
abbrev pub item_bytes : ℕ → Item → List ℕ
item_bytes size item = header_bytes (header_of size item) ++ payload_of item ++ zeros (padding (item_len item))

-- the records of a ring of this size, with nothing between them
abbrev pub tape : ℕ → List Item → List ℕ
tape size items = flat_map (item_bytes size) items

-- the number of bytes by which an item advances the positions
abbrev pub item_span : Item → ℕ
item_span item = span (item_len item)

-- The item may have been taken at this position of a ring of this size: its length fits in a header; its record fitted
-- into the ring, which never becomes completely full; and it ends at most at 2^62.
pub record IsItemAt (size position : ℕ) (item : Item) : Type 0 where
  pub here : item_position item ≡ position
  pub has_header : item_len item < 2 ^ 30
  pub has_fitted : item_span item < size
  pub bounded : position + item_span item ≤ 2 ^ 62

-- the items may have been taken from a ring of this size, beginning at this position: each begins where the previous
-- one ends
abbrev pub AreItemsFrom : ℕ → ℕ → List Item → Type 0
AreItemsFrom size position [] = Unit {0}
AreItemsFrom size position (item ∷ items) = IsItemAt size position item × AreItemsFrom size (position + item_span item) items

-- the position at which the last of the items ends
abbrev pub end_of : ℕ → List Item → ℕ
end_of start items = start + sum_by item_span items
