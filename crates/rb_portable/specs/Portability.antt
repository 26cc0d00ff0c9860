-- Where Linux refuses an instruction of a program that is accepted here, given the abstract state before it (own;
-- docs/LINUX.md has Linux's message for each class).
use Rattle.std.specs.Prelude.{ℕ, zero, ℤ, ◌+◌, pos, neg_ℤ, ◌+ℤ◌, ◌-ℤ◌, ◌%◌, ◌^◌, ◌==◌, Bool, ◌&&◌, int_le, int_lt, List, codes, Option, Some, None, if◌then◌else◌}
use Rattle.std.specs.Int.{w64, cast_signed, cast_unsigned}
use Rattle.rb_insn.specs.declared.insn.Insn.{Insn}
use Rattle.rb_insn.specs.declared.insn.Insn.TheVariants.{Binary, Division, Call, Load, LoadSigned, StoreImmediate, StoreRegister}
use Rattle.rb_insn.specs.declared.insn.BinaryOp.{BinaryOp}
use Rattle.rb_insn.specs.declared.insn.BinaryOp.TheVariants.{Add, Sub, Lsh, Rsh, Arsh}
use Rattle.rb_insn.specs.declared.insn.Operand.{Operand}
use Rattle.rb_insn.specs.declared.insn.Operand.TheVariants.{Immediate, Register}
use Rattle.rb_insn.specs.declared.insn.Width.{Width}
use Rattle.rb_insn.specs.declared.insn.Width.TheVariants.{W32, W64}
use Rattle.rb_insn.specs.Sizes.{byte_count, signed_byte_count}
use Rattle.rb_verifier.specs.declared.helper.Helper.{Helper}
use Rattle.rb_verifier.specs.declared.helper.Helper.TheVariants.{Output}
use Rattle.rb_verifier.specs.declared.state.AbsState.{AbsState}
use Rattle.rb_verifier.specs.declared.value.Abs.{Abs}
use Rattle.rb_verifier.specs.declared.value.Abs.TheVariants.{Known, Ctx, Stack, Record}
use Rattle.rb_verifier.specs.AbstractStates.{value_in}
use Rattle.rb_verifier.specs.HelperChecks.{helper_of}
use Rattle.rb_portable.specs.declared.linux_class.LinuxClass.{LinuxClass}
use Rattle.rb_portable.specs.declared.linux_class.LinuxClass.TheVariants as class

abbrev pub class_name : LinuxClass → List ℕ
class_name class.StackAlignment = codes "stack-alignment"
class_name class.ContextAlignment = codes "context-alignment"
class_name class.ContextMoved = codes "context-moved"
class_name class.ContextOutput = codes "context-output"
class_name class.FrameTop = codes "frame-top"
class_name class.Shift = codes "shift"
class_name class.Division = codes "division"
class_name class.StackSubtraction = codes "stack-subtraction"
class_name class.PointerFar = codes "pointer-far"

-- a class, unless the condition holds
abbrev pub unless : Bool → LinuxClass → Option LinuxClass
unless holds found = if holds then None else Some found

-- ---- loads and stores

-- an integer modulo a size that is a power of two and divides 2^64
abbrev pub residue : ℤ → ℕ → ℕ
residue offset size = cast_unsigned w64 offset % size

-- `at + by` is a multiple of `size`
abbrev pub is_aligned : ℤ → ℤ → ℕ → Bool
is_aligned at by size = (residue at size + residue by size) % size == 0

-- a load or a store of `size` bytes at `pointer + by`
abbrev pub access_class : Abs → ℤ → ℕ → Option LinuxClass
access_class (Stack at) by size = unless (is_aligned at by size) class.StackAlignment
access_class (Ctx (pos zero)) by size = unless (is_aligned (pos 0) by size) class.ContextAlignment
access_class (Ctx at) by size = Some class.ContextMoved
access_class _ by size = None

-- ---- arithmetic

-- a distance or an offset that Linux allows
abbrev pub is_close : ℤ → Bool
is_close offset = int_lt (neg_ℤ (pos (2 ^ 29))) offset && int_lt offset (pos (2 ^ 29))

-- a pointer is moved by a distance, to an offset
abbrev pub move_class : ℤ → ℤ → Option LinuxClass
move_class by to = unless (is_close by && is_close to) class.PointerFar

-- a known number, read as signed
abbrev pub known_distance : Abs → Option ℤ
known_distance (Known n) = Some (cast_signed w64 n)
known_distance _ = None

-- the value of the second operand, if it is known
abbrev pub distance_of : Operand → AbsState → Option ℤ
distance_of (Immediate k) s = Some k
distance_of (Register r) s = known_distance (value_in s r.number)

-- a 64-bit addition to a register: a pointer is moved by a known number
abbrev pub add_class : Abs → Option ℤ → Option LinuxClass
add_class (Ctx at) (Some by) = move_class by (at +ℤ by)
add_class (Stack at) (Some by) = move_class by (at +ℤ by)
add_class (Record id at) (Some by) = move_class by (at +ℤ by)
add_class _ _ = None

-- a 64-bit subtraction from a register
abbrev pub sub_class : Abs → Option ℤ → Option LinuxClass
sub_class (Stack at) by = Some class.StackSubtraction
sub_class (Ctx at) (Some by) = move_class by (at -ℤ by)
sub_class (Record id at) (Some by) = move_class by (at -ℤ by)
sub_class _ _ = None

abbrev pub bit_count : Width → ℤ
bit_count W32 = pos 32
bit_count W64 = pos 64

abbrev pub shift_class : Width → Operand → Option LinuxClass
shift_class width (Immediate by) = unless (int_le (pos 0) by && int_lt by (bit_count width)) class.Shift
shift_class width (Register r) = None

abbrev pub binary_class : Width → BinaryOp → Operand → Abs → Option ℤ → Option LinuxClass
binary_class W64 Add operand dst by = add_class dst by
binary_class W64 Sub operand dst by = sub_class dst by
binary_class width Lsh operand dst by = shift_class width operand
binary_class width Rsh operand dst by = shift_class width operand
binary_class width Arsh operand dst by = shift_class width operand
binary_class width op operand dst by = None

abbrev pub division_class : Operand → Option LinuxClass
division_class (Immediate (pos zero)) = Some class.Division
division_class operand = None

-- ---- calls

-- an output of bytes, by the register that points to them
abbrev pub output_class : Abs → Option LinuxClass
output_class (Ctx at) = Some class.ContextOutput
output_class (Stack (pos zero)) = Some class.FrameTop
output_class _ = None

abbrev pub call_class : Option Helper → Abs → Option LinuxClass
call_class (Some Output) bytes = output_class bytes
call_class helper bytes = None

-- ---- an instruction

-- why Linux refuses an instruction in this abstract state
abbrev pub class_of : AbsState → Insn → Option LinuxClass
class_of s (Load size dst base offset) = access_class (value_in s base.number) offset (byte_count size)
class_of s (LoadSigned size dst base offset) = access_class (value_in s base.number) offset (signed_byte_count size)
class_of s (StoreImmediate size base offset value) = access_class (value_in s base.number) offset (byte_count size)
class_of s (StoreRegister size base offset src) = access_class (value_in s base.number) offset (byte_count size)
class_of s (Binary width op dst operand) = binary_class width op operand (value_in s dst.number) (distance_of operand s)
class_of s (Division width op sign dst operand) = division_class operand
class_of s (Call helper) = call_class (helper_of helper) (value_in s 2)
class_of s insn = None
