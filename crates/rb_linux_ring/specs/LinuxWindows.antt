-- The headers of submitted records on one page of a Linux ring buffer (Linux Documentation/bpf/ringbuf.rst;
-- kernel/bpf/ringbuf.c).
use Rattle.std.specs.Prelude.{ℕ, ◌≡◌, ◌+◌, ◌^◌, ◌<◌, ◌≤◌, false}
use Rattle.rb_history.specs.Span.{span}
use Rattle.rb_linux_ring.specs.LinuxHeaders.{ShowsLinuxFront}
use Rattle.rb_linux_ring.specs.declared.linux_header.LinuxFront.TheVariants.{Record}
use Rattle.rb_linux_ring.specs.declared.header_window.LinuxWindow.{LinuxWindow}

-- p is one of the window's positions, which are those from `position` to before its end
abbrev pub IsInWindow : (position p : ℕ) → LinuxWindow → Type 0
IsInWindow position p w = (position ≤ p) × (p < w.end)

-- at each position of the window, the numbers from `first` to `first + max_len` are the headers of submitted records
-- of 0 to `max_len` bytes, and no other number is the header of a submitted record
pub record IsLinuxWindow (size position pages : ℕ) (w : LinuxWindow) : Type 0 where
  pub begins : position < w.end
  pub shows : (p len : ℕ) → IsInWindow position p w → len ≤ w.max_len
      → ShowsLinuxFront size p pages (w.first + len) (Record len false (p + span len))
  pub only : (p number len next : ℕ) → IsInWindow position p w → number < 2 ^ 64
      → ShowsLinuxFront size p pages number (Record len false next) → (number ≡ w.first + len) × (len ≤ w.max_len)
