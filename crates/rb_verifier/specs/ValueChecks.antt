-- Checks on one abstract value (own profile). Each returns the first rule that is broken.
use Rattle.std.specs.Prelude.{ℕ, ℤ, pos, Bool, true, false, ◌==◌, not, nat_le, ◌^◌, List, Result, Ok, Err, if◌then◌else◌}
use Rattle.std.specs.Ordering.{int_eq}
use Rattle.rb_insn.specs.declared.reg.Reg.{Reg}
use Rattle.rb_verifier.specs.declared.limits.Limits.{Limits}
use Rattle.rb_verifier.specs.declared.references.Reference.{Reference}
use Rattle.rb_verifier.specs.declared.rule.Rule.{Rule}
use Rattle.rb_verifier.specs.declared.rule.Rule.TheVariants as rule
use Rattle.rb_verifier.specs.declared.value.Abs.{Abs}
use Rattle.rb_verifier.specs.declared.value.Abs.TheVariants.{Unreadable, Number, Known, Ctx, Stack, Ring, Perhaps, Record}
use Rattle.rb_verifier.specs.Extents.{reaches}

-- runs one check after another
infixl 10 ◌>>=◌
abbrev pub ◌>>=◌ : {A B : Type 0} → Result A Rule → (A → Result B Rule) → Result B Rule
Ok x >>= f = f x
Err broken >>= f = Err broken

-- a check passes, or returns its rule
abbrev pub Check : Type 0
Check = Result (Unit {0}) Rule

abbrev pub refused_if : Bool → Rule → Check
refused_if true broken = Err broken
refused_if false broken = Ok tt

-- the register is not the frame pointer r10, which must not be written
abbrev pub check_writable : Reg → Check
check_writable r = refused_if (r.number == 10) rule.FramePointerWritten

-- the register may be read
abbrev pub check_readable : Abs → Check
check_readable Unreadable = Err rule.Unreadable
check_readable v = Ok tt

-- the register may be read and holds a number; for a pointer, the given rule is broken
abbrev pub check_number : Rule → Abs → Check
check_number at_pointer Unreadable = Err rule.Unreadable
check_number at_pointer Number = Ok tt
check_number at_pointer (Known n) = Ok tt
check_number at_pointer _ = Err at_pointer

-- the register may be read and is not a reservation that was not tested against null
abbrev pub check_tested : Abs → Check
check_tested Unreadable = Err rule.Unreadable
check_tested (Perhaps id) = Err rule.NullNotTested
check_tested v = Ok tt

-- the register may be read and does not point to the context, which must not be written
abbrev pub check_not_context : Abs → Check
check_not_context Unreadable = Err rule.Unreadable
check_not_context (Ctx offset) = Err rule.ContextWritten
check_not_context v = Ok tt

-- the `len` bytes at `value + by` lie in the pointer's part; a value other than a pointer points to no part
abbrev pub check_inside : Limits → List Reference → Abs → ℤ → ℕ → Check
check_inside limits held v by len = refused_if (not (reaches limits held v by len)) rule.OutsidePart

-- ---- checks on the arguments of helpers

-- a ring
abbrev pub check_ring : Abs → Result ℕ Rule
check_ring Unreadable = Err rule.Unreadable
check_ring (Ring ring) = Ok ring
check_ring v = Err rule.HelperArgument

-- a pointer into a part
abbrev pub check_part_pointer : Abs → Check
check_part_pointer (Ctx offset) = Ok tt
check_part_pointer (Stack offset) = Ok tt
check_part_pointer (Record id offset) = Ok tt
check_part_pointer v = Err rule.HelperArgument

-- a known number
abbrev pub check_known_size : Abs → Result ℕ Rule
check_known_size Unreadable = Err rule.Unreadable
check_known_size (Known n) = Ok n
check_known_size v = Err rule.SizeNotKnown

-- a known number that is a valid length of a record: at most 67,108,864 bytes (own bound)
abbrev pub check_record_size : Abs → Result ℕ Rule
check_record_size Unreadable = Err rule.Unreadable
check_record_size (Known n) = if nat_le n (2 ^ 26) then Ok n else Err rule.SizeNotKnown
check_record_size v = Err rule.SizeNotKnown

-- a pointer to the first byte of a record; returns the record's id
abbrev pub check_record_start : Abs → Result ℕ Rule
check_record_start Unreadable = Err rule.Unreadable
check_record_start (Perhaps id) = Err rule.NullNotTested
check_record_start (Record id offset) = if int_eq offset (pos 0) then Ok id else Err rule.HelperArgument
check_record_start v = Err rule.HelperArgument
