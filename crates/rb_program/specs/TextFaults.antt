-- Converts faults of the hex decoder and of the program decoder to faults of a text.
use Rattle.hex.specs.declared.error.FromHexError.{FromHexError}
use Rattle.hex.specs.declared.error.FromHexError.TheVariants.{OutOfMemory}
use Rattle.rb_program.specs.declared.fault.DecodeKind.{DecodeKind}
use Rattle.rb_program.specs.declared.fault.DecodeKind.TheVariants as kinds
use Rattle.rb_program.specs.declared.fault.DecodeFault.{DecodeFault}
use Rattle.rb_program.specs.declared.fault.TextFault.{TextFault}
use Rattle.rb_program.specs.declared.fault.TextFault.TheVariants.{NotHex, Memory, Decode}

abbrev pub hex_fault_of : FromHexError → TextFault
hex_fault_of OutOfMemory = Memory
hex_fault_of error = NotHex

abbrev fault_for : DecodeKind → DecodeFault → TextFault
fault_for kinds.Memory fault = Memory
fault_for kind fault = Decode fault

abbrev pub text_fault_of : DecodeFault → TextFault
text_fault_of fault = fault_for fault.kind fault
