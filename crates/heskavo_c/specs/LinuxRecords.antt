-- What is reported of a record's header in a ring of Linux (own; rb_linux_ring defines the header).
use Rattle.std.specs.Prelude.{ℕ, ◌≡◌, Bool, if◌then◌else◌}
use Rattle.rb_linux_ring.specs.LinuxHeaders.{IsLinuxFault, ShowsLinuxFront}
use Rattle.rb_linux_ring.specs.declared.linux_header.LinuxFault.{LinuxFault}
use Rattle.rb_linux_ring.specs.declared.linux_header.LinuxFault.TheVariants.{BothBits, OtherPage, NoRoom}
use Rattle.rb_linux_ring.specs.declared.linux_header.LinuxFront.TheVariants.{Record}
use Rattle.rb_linux_ring.specs.declared.header_window.LinuxWindow.{LinuxWindow}
use Rattle.heskavo_c.specs.declared.linux_page.LinuxPage.{LinuxPage}
use Rattle.heskavo_c.specs.declared.linux_record.LinuxRecord.{LinuxRecord}

-- the number is the header of a committed record, of which this is reported
pub record FindsLinuxRecord (size position pages number : ℕ) (found : LinuxRecord) : Type 0 where
  pub discarded : Bool
  pub shown : ShowsLinuxFront size position pages number (Record found.len discarded found.next)
  pub discarded_is : found.discarded ≡ (if discarded then 1 else 0)
  pub no_fault : found.fault ≡ 0

-- the number of a header's fault, in the order in which the faults are looked for
abbrev pub linux_fault_number : LinuxFault → ℕ
linux_fault_number BothBits = 1
linux_fault_number OtherPage = 2
linux_fault_number NoRoom = 3

-- this fault of the header is reported, and nothing else
pub record FindsLinuxFault (size position pages number : ℕ) (found : LinuxRecord) : Type 0 where
  pub fault : LinuxFault
  pub shown : IsLinuxFault size position pages number fault
  pub found_is : found ≡ record { next = 0; len = 0; discarded = 0; fault = linux_fault_number fault }

-- what is reported of a page, as a window
abbrev pub window_of_page : LinuxPage → LinuxWindow
window_of_page page = record { first = page.first; max_len = page.max_len; end = page.end }
