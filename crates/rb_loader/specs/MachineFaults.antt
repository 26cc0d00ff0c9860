-- Faults that say nothing about a program: a failed allocation, and a failed read or write (own).
use Rattle.std.specs.Prelude.{◌≡◌, ◌⊎◌}
use Rattle.rb_loader.specs.declared.program.ProgramFault.{ProgramFault}
use Rattle.rb_loader.specs.declared.program.ProgramFault.TheVariants.{Memory, Device}

abbrev pub IsMachineFault : ProgramFault → Type 0
IsMachineFault fault = (fault ≡ Memory) ⊎ (fault ≡ Device)
