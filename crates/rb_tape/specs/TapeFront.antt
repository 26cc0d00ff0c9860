-- What the bytes of a tape show at the position of the next record: a whole item, a fault, or neither yet (own; the
-- header's fields are those of Linux Documentation/bpf/ringbuf.rst, and rb_history defines the tape).
use Rattle.std.specs.Prelude.{ℕ, ◌≡◌, ◌≢◌, ◌+◌, ◌^◌, ◌<◌, ◌≤◌, true, false, List, ◌++◌, length, take, drop}
use Rattle.rb_history.specs.declared.headers.Header.{Header}
use Rattle.rb_history.specs.Header.{header_bytes, HasFields}
use Rattle.rb_history.specs.Span.{span}
use Rattle.rb_history.specs.TapeBytes.{Item, page_of, padding, zeros, item_bytes, IsItemAt}
use Rattle.rb_tape.specs.declared.fault.TapeKind.{TapeKind}
use Rattle.rb_tape.specs.declared.fault.TapeKind.TheVariants.{Busy, Page, Padding, TooLong, DiscardedBytes, Truncated, Memory}

-- the bytes are a whole item that is possible at this position, followed by the rest
pub record StartsWithItem (size position : ℕ) (bytes : List ℕ) (item : Item) (rest : List ℕ) : Type 0 where
  pub stands : IsItemAt size position item
  pub text : bytes ≡ item_bytes size item ++ rest

-- the bytes are this header, followed by others
pub record StartsWithHeader (bytes : List ℕ) (h : Header) (behind : List ℕ) : Type 0 where
  pub fields : HasFields h
  pub text : bytes ≡ header_bytes h ++ behind

-- a record of this length fits in the ring, which never becomes completely full, and ends at most at 2^62
abbrev pub FitsAt : ℕ → ℕ → ℕ → Type 0
FitsAt size position len = (span len < size) × (position + span len ≤ 2 ^ 62)

-- the header of a taken record that is possible at this position
pub record IsHeaderAt (size position : ℕ) (h : Header) : Type 0 where
  pub taken : h.busy ≡ false
  pub page : h.page ≡ page_of size position
  pub fits : FitsAt size position h.len

-- in the bytes after a header: the record's payload, and the padding up to a multiple of eight
abbrev pub payload_after : Header → List ℕ → List ℕ
payload_after h behind = take h.len behind

abbrev pub padding_after : Header → List ℕ → List ℕ
padding_after h behind = take (padding h.len) (drop h.len behind)

-- all bytes of the header's record are available
abbrev pub HasWholeSpan : Header → List ℕ → Type 0
HasWholeSpan h behind = span h.len ≤ 8 + length behind

-- the bytes of a discarded record are not all zeros
abbrev pub HasDiscardedBytes : Header → List ℕ → Type 0
HasDiscardedBytes h behind = (h.discard ≡ true) × (payload_after h behind ≢ zeros h.len)

-- The fault of a header and the bytes after it, if no earlier one applies: Busy, Page and TooLong once the header is
-- available, then DiscardedBytes and Padding once the whole record is. The end of the input and a lack of memory are
-- not faults of a record.
abbrev pub IsFirstTapeFault : ℕ → ℕ → Header → List ℕ → TapeKind → Type 0
IsFirstTapeFault size position h behind Busy = h.busy ≡ true
IsFirstTapeFault size position h behind Page = (h.busy ≡ false) × (h.page ≢ page_of size position)
IsFirstTapeFault size position h behind TooLong = (h.busy ≡ false) × (h.page ≡ page_of size position) × ¬ FitsAt size position h.len
IsFirstTapeFault size position h behind DiscardedBytes = IsHeaderAt size position h × HasWholeSpan h behind × HasDiscardedBytes h behind
IsFirstTapeFault size position h behind Padding =
    IsHeaderAt size position h × HasWholeSpan h behind × (¬ HasDiscardedBytes h behind) × (padding_after h behind ≢ zeros (padding h.len))
IsFirstTapeFault size position h behind Truncated = ⊥
IsFirstTapeFault size position h behind Memory = ⊥

-- The first fault that the bytes show at this position. For example, 08000080 00000000 shows Busy at position 0.
abbrev pub ShowsFault : ℕ → ℕ → List ℕ → TapeKind → Type 0
ShowsFault size position bytes kind =
    (h : Header) × (behind : List ℕ) × StartsWithHeader bytes h behind × IsFirstTapeFault size position h behind kind

-- the bytes are undecided: they show neither a whole item nor a fault yet
pub record IsUndecided (size position : ℕ) (bytes : List ℕ) : Type 0 where
  pub no_item : (item : Item) (rest : List ℕ) → ¬ StartsWithItem size position bytes item rest
  pub no_fault : (kind : TapeKind) → ¬ ShowsFault size position bytes kind
