-- Faults of lower layers, as refusals of a program; a failed allocation is not one.
use Rattle.std.specs.Prelude.{ℕ, Option, Some, None}
use Rattle.rb_program.specs.declared.shape_fault.ShapeFault.{ShapeFault}
use Rattle.rb_program.specs.declared.shape_fault.ShapeFaultKind.{ShapeFaultKind}
use Rattle.rb_program.specs.declared.shape_fault.ShapeFaultKind.TheVariants as shape_faults
use Rattle.rb_program.specs.declared.fault.DecodeFault.{DecodeFault}
use Rattle.rb_program.specs.declared.fault.DecodeKind.{DecodeKind}
use Rattle.rb_program.specs.declared.fault.DecodeKind.TheVariants as decode_faults
use Rattle.heskavo_c.specs.declared.load.Refused.{Refused}
use Rattle.heskavo_c.specs.declared.load.Refused.TheVariants.{Bytes, Shape}

abbrev pub refused_bytes_at : DecodeKind → ℕ → Option Refused
refused_bytes_at decode_faults.Memory unit = None
refused_bytes_at kind unit = Some (Bytes (record { unit = unit; kind = kind }))

abbrev pub refused_bytes : DecodeFault → Option Refused
refused_bytes fault = refused_bytes_at fault.kind fault.unit

abbrev pub refused_shape_at : ShapeFaultKind → ℕ → Option Refused
refused_shape_at shape_faults.Memory unit = None
refused_shape_at kind unit = Some (Shape (record { unit = unit; kind = kind }))

abbrev pub refused_shape : ShapeFault → Option Refused
refused_shape fault = refused_shape_at fault.kind fault.unit
