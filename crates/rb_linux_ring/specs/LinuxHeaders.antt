-- The next record of a Linux ring buffer, by its header alone (Linux Documentation/bpf/ringbuf.rst;
-- kernel/bpf/ringbuf.c).
use Rattle.std.specs.Prelude.{ℕ, ◌≡◌, ◌+◌, ◌^◌, ◌≤◌, true, false}
use Rattle.std.specs.Int.{IsPowerOfTwo, w64, to_le_bytes}
use Rattle.rb_history.specs.declared.headers.Header.{Header}
use Rattle.rb_history.specs.Header.{header_bytes, HasBothBits, IsHeader}
use Rattle.rb_history.specs.RingModel.{IsStartPosition}
use Rattle.rb_history.specs.Span.{span}
use Rattle.rb_history.specs.TapeBytes.{page_of}
use Rattle.rb_tape.specs.TapeFront.{FitsAt}
use Rattle.rb_linux_ring.specs.declared.linux_header.LinuxFault.{LinuxFault}
use Rattle.rb_linux_ring.specs.declared.linux_header.LinuxFault.TheVariants.{BothBits, OtherPage, NoRoom}
use Rattle.rb_linux_ring.specs.declared.linux_header.LinuxFront.{LinuxFront}
use Rattle.rb_linux_ring.specs.declared.linux_header.LinuxFront.TheVariants.{Record, Busy}

-- the size of a ring's data in bytes: a power of two from one page to 64 GiB (RINGBUF_MAX_DATA_SZ of
-- kernel/bpf/ringbuf.c)
abbrev pub IsLinuxRingSize : ℕ → Type 0
IsLinuxRingSize size = IsPowerOfTwo size × (4096 ≤ size) × (size ≤ 2 ^ 36)

-- a header may be read at this position: the size is that of a ring, and the position is a multiple of eight up to 2^61
abbrev pub IsLinuxPlace : (size position : ℕ) → Type 0
IsLinuxPlace size position = IsLinuxRingSize size × IsStartPosition position

-- the number's eight bytes, the lowest first, are the header h
pub record ShowsHeader (number : ℕ) (h : Header) : Type 0 where
  pub is_header : IsHeader h
  pub bytes : header_bytes h ≡ to_le_bytes w64 number

-- the header names the page of its position, which the kernel counts from the start of the ring's memory, with `pages`
-- before the data
abbrev pub HasLinuxPage : (size position pages : ℕ) → Header → Type 0
HasLinuxPage size position pages h = h.page ≡ pages + page_of size position

-- the number is the header of a record, busy or not, that is possible at this position
pub record IsLinuxHeaderAt (size position pages number : ℕ) (h : Header) : Type 0 where
  pub shown : ShowsHeader number h
  pub page : HasLinuxPage size position pages h
  pub fits : FitsAt size position h.len

-- The number is the header of a committed record, with its length, whether it was discarded, and the position at which
-- the next record begins; or that of a reserved record, which is neither submitted nor discarded yet.
abbrev pub ShowsLinuxFront : (size position pages number : ℕ) → LinuxFront → Type 0
ShowsLinuxFront size position pages number (Record len discarded next) =
    (h : Header) × IsLinuxHeaderAt size position pages number h × (h.busy ≡ false) × (len ≡ h.len) × (discarded ≡ h.discard) × (next ≡ position + span h.len)
ShowsLinuxFront size position pages number Busy = (h : Header) × IsLinuxHeaderAt size position pages number h × (h.busy ≡ true)

-- The first fault of the number as a header: both bits are set; otherwise it names another page; otherwise its record
-- does not fit in the ring.
abbrev pub IsLinuxFault : (size position pages number : ℕ) → LinuxFault → Type 0
IsLinuxFault size position pages number BothBits = HasBothBits (to_le_bytes w64 number)
IsLinuxFault size position pages number OtherPage = (h : Header) × ShowsHeader number h × ¬ HasLinuxPage size position pages h
IsLinuxFault size position pages number NoRoom = (h : Header) × ShowsHeader number h × HasLinuxPage size position pages h × ¬ FitsAt size position h.len
