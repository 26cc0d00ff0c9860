-- What is reported of the bytes of a tape, and what is written for a record (own; rb_history defines the tape).
use Rattle.std.specs.Prelude.{ℕ, ◌≡◌, ◌^◌, ◌<◌, List, if◌then◌else◌}
use Rattle.rb_history.specs.Span.{span}
use Rattle.rb_history.specs.TapeBytes.{Item, item_bytes, item_len, item_span, is_skip, IsItemAt}
use Rattle.rb_history.specs.RingModel.{IsRingSize, IsStartPosition}
use Rattle.rb_tape.specs.declared.fault.TapeKind.{TapeKind}
use Rattle.rb_tape.specs.declared.fault.TapeKind.TheVariants.{Busy, Page, Padding, TooLong, DiscardedBytes, Truncated, Memory}
use Rattle.rb_tape.specs.TapeFront.{StartsWithItem, ShowsFault}
use Rattle.heskavo_c.specs.declared.tapes.TapeRecord.{TapeRecord}
use Rattle.heskavo_c.specs.Writing.{WritesFront}

-- ---- a record that is read

-- the bytes begin with a record, whose payload follows its header, and this is reported of it
pub record FindsRecord (size position : ℕ) (bytes : List ℕ) (told : TapeRecord) : Type 0 where
  pub item : Item
  pub rest : List ℕ
  pub starts : StartsWithItem size position bytes item rest
  pub offset_is : told.offset ≡ 8
  pub len_is : told.len ≡ item_len item
  pub span_is : told.span ≡ item_span item
  pub discarded_is : told.discarded ≡ (if is_skip item then 1 else 0)
  pub no_fault : told.fault ≡ 0

-- the number of a record's fault, in the order of the kinds; the end of the bytes and a lack of memory are not faults
-- of a record
abbrev pub fault_number : TapeKind → ℕ
fault_number Busy = 1
fault_number Page = 2
fault_number Padding = 3
fault_number TooLong = 4
fault_number DiscardedBytes = 5
fault_number Truncated = 0
fault_number Memory = 0

-- the bytes show this fault first, and nothing else is reported
pub record FindsFault (size position : ℕ) (bytes : List ℕ) (told : TapeRecord) : Type 0 where
  pub kind : TapeKind
  pub shown : ShowsFault size position bytes kind
  pub told_is : told ≡ record { offset = 0; span = 0; len = 0; discarded = 0; fault = fault_number kind }

-- a ring may have this size, and a record this position
abbrev pub IsTapePosition : ℕ → ℕ → Type 0
IsTapePosition size position = IsRingSize size × IsStartPosition position

-- ---- a record that is written

-- a record of `len` bytes has a header, and fits in the ring
pub record HasRoomAt (size position len : ℕ) : Type 0 where
  pub place : IsTapePosition size position
  pub has_header : len < 2 ^ 30
  pub has_room : span len < size

-- the record is at the front of the buffer and is possible at its position, and its number of bytes was written
pub record PutsItem (size position : ℕ) (item : Item) (old new : List ℕ) (written : ℕ) : Type 0 where
  pub stands : IsItemAt size position item
  pub bytes : WritesFront (item_bytes size item) old new
  pub written_is : written ≡ item_span item
