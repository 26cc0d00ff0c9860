-- Runs whose calls and results were worked out by hand. Each is checked by computing the meaning.
use Rattle.std.proofs.Common.{◌≡◌, ℕ, ◌≤◌, ◌-◌, ◌^◌, pos, negsuc, List, [], ◌∷◌, refl, lit≤}
use Rattle.rb_insn.specs.declared.insn.BinaryOp.TheVariants.{Add, Sub}
use Rattle.rb_insn.specs.declared.insn.Condition.TheVariants.{Equal}
use Rattle.rb_insn.specs.declared.insn.DivisionOp.TheVariants.{Mod}
use Rattle.rb_insn.specs.declared.insn.Insn.{Insn}
use Rattle.rb_insn.specs.declared.insn.Insn.TheVariants.{Binary, Division, Move, Branch, Call, Exit, LoadNumber, LoadRing, Load, LoadSigned, StoreImmediate, StoreRegister}
use Rattle.rb_insn.specs.declared.insn.Operand.TheVariants.{Immediate, Register}
use Rattle.rb_insn.specs.declared.insn.Signedness.TheVariants.{Unsigned}
use Rattle.rb_insn.specs.declared.insn.SignedSize.TheVariants as signed
use Rattle.rb_insn.specs.declared.insn.Size.TheVariants.{Byte, Word, Double}
use Rattle.rb_insn.specs.declared.insn.Width.TheVariants.{W32, W64}
use Rattle.rb_insn.specs.declared.reg.Reg.{Reg}
use Rattle.rb_insn.specs.ArithmeticAndJumps.{value_of, jumps_of, sign_extended, division_of}
use Rattle.rb_insn.specs.WholeNumbers.{wrapped, signed_of, binary_of, unsigned_division, condition_holds}
use Rattle.rb_program.specs.Edges.{edge_target}
use Rattle.rb_semantics.specs.ProgramStates.{entry_program_state}
use Rattle.rb_semantics.specs.HelperCalls.{HelperCall, Reserve, Submit, Discard, Output, Query, HelperAnswer, Granted, Null, Taken, HandedBack, Code, Told}
use Rattle.rb_semantics.specs.Instructions.{execute}
use Rattle.rb_semantics.specs.ProgramRuns.{run_of, Outcome, Returns, IsStuck, Strayed, Waits}

abbrev reg : (n : ℕ) → n ≤ 10 → Reg
reg n h = record { number = n; bounded = h }

abbrev r0 : Reg
r0 = reg 0 (lit≤ tt)

abbrev r1 : Reg
r1 = reg 1 (lit≤ tt)

abbrev r2 : Reg
r2 = reg 2 (lit≤ tt)

abbrev r3 : Reg
r3 = reg 3 (lit≤ tt)

abbrev r4 : Reg
r4 = reg 4 (lit≤ tt)

abbrev r6 : Reg
r6 = reg 6 (lit≤ tt)

abbrev r10 : Reg
r10 = reg 10 (lit≤ tt)

abbrev set : Reg → ℕ → Insn
set r n = Move W64 r (Immediate (pos n))

abbrev runs : List Insn → List HelperAnswer → List HelperCall → Outcome → Type 0
runs program answers calls outcome = run_of program 16 (entry_program_state (1 ∷ 2 ∷ 3 ∷ 255 ∷ [])) answers ≡ record { calls = calls; outcome = outcome }

-- reserves 8 bytes; unless that returns null, writes 42 and submits the record; returns 0
abbrev submit_42 : List Insn
submit_42 = LoadRing r1 0 ∷ set r2 8 ∷ set r3 0 ∷ Call 131 ∷ Branch W64 Equal r0 (Immediate (pos 0)) (pos 4) ∷ StoreImmediate Double r0 (pos 0) (pos 42) ∷ Move W64 r1 (Register r0) ∷ set r2 0 ∷ Call 132 ∷ set r0 0 ∷ Exit ∷ []

abbrev bytes_of_42 : List ℕ
bytes_of_42 = 42 ∷ 0 ∷ 0 ∷ 0 ∷ 0 ∷ 0 ∷ 0 ∷ 0 ∷ []

-- a result
exit_zero : runs (set r0 0 ∷ Exit ∷ []) ([]) ([]) (Returns 0)
unfolding execute edge_target value_of jumps_of condition_holds wrapped signed_of sign_extended binary_of division_of unsigned_division
exit_zero = refl

-- the record is named by the unit of its CALL, which is unit 4
submitted : runs (submit_42) (Granted ∷ Taken ∷ []) (Reserve 4 0 8 0 ∷ Submit 4 bytes_of_42 0 ∷ []) (Returns 0)
unfolding execute edge_target value_of jumps_of condition_holds wrapped signed_of sign_extended binary_of division_of unsigned_division
submitted = refl

-- the jump is taken if the reservation returns null
refused : runs (submit_42) (Null ∷ []) (Reserve 4 0 8 0 ∷ []) (Returns 0)
unfolding execute edge_target value_of jumps_of condition_holds wrapped signed_of sign_extended binary_of division_of unsigned_division
refused = refl

-- the record is handed back
strayed : runs (submit_42) (Granted ∷ HandedBack ∷ []) (Reserve 4 0 8 0 ∷ Submit 4 bytes_of_42 0 ∷ []) Strayed
unfolding execute edge_target value_of jumps_of condition_holds wrapped signed_of sign_extended binary_of division_of unsigned_division
strayed = refl

-- no answer is left
waits : runs (submit_42) (Granted ∷ []) (Reserve 4 0 8 0 ∷ Submit 4 bytes_of_42 0 ∷ []) Waits
unfolding execute edge_target value_of jumps_of condition_holds wrapped signed_of sign_extended binary_of division_of unsigned_division
waits = refl

-- an answer of another kind
other_kind : runs (submit_42) (Taken ∷ []) (Reserve 4 0 8 0 ∷ []) IsStuck
unfolding execute edge_target value_of jumps_of condition_holds wrapped signed_of sign_extended binary_of division_of unsigned_division
other_kind = refl

-- the last byte of the context
last_byte : runs (Load Byte r0 r1 (pos 3) ∷ Exit ∷ []) ([]) ([]) (Returns 255)
unfolding execute edge_target value_of jumps_of condition_holds wrapped signed_of sign_extended binary_of division_of unsigned_division
last_byte = refl

-- the last byte, sign-extended
last_byte_signed : runs (LoadSigned signed.Byte r0 r1 (pos 3) ∷ Exit ∷ []) ([]) ([]) (Returns (2 ^ 64 - 1))
unfolding execute edge_target value_of jumps_of condition_holds wrapped signed_of sign_extended binary_of division_of unsigned_division
last_byte_signed = refl

-- one byte past the context
past_context : runs (Load Byte r0 r1 (pos 4) ∷ Exit ∷ []) ([]) ([]) IsStuck
unfolding execute edge_target value_of jumps_of condition_holds wrapped signed_of sign_extended binary_of division_of unsigned_division
past_context = refl

-- the context can't be written
context_written : runs (StoreImmediate Byte r1 (pos 0) (pos 1) ∷ set r0 0 ∷ Exit ∷ []) ([]) ([]) IsStuck
unfolding execute edge_target value_of jumps_of condition_holds wrapped signed_of sign_extended binary_of division_of unsigned_division
context_written = refl

-- the last 8 bytes of the stack, lowest byte first
stack_end : runs (StoreImmediate Double r10 (negsuc 7) (pos 258) ∷ Load Byte r0 r10 (negsuc 6) ∷ Exit ∷ []) ([]) ([]) (Returns 1)
unfolding execute edge_target value_of jumps_of condition_holds wrapped signed_of sign_extended binary_of division_of unsigned_division
stack_end = refl

-- the stack begins as zeros, at offset -512
stack_zero : runs (Load Byte r0 r10 (negsuc 511) ∷ Exit ∷ []) ([]) ([]) (Returns 0)
unfolding execute edge_target value_of jumps_of condition_holds wrapped signed_of sign_extended binary_of division_of unsigned_division
stack_zero = refl

-- one byte below the stack
below_stack : runs (Load Byte r0 r10 (negsuc 512) ∷ Exit ∷ []) ([]) ([]) IsStuck
unfolding execute edge_target value_of jumps_of condition_holds wrapped signed_of sign_extended binary_of division_of unsigned_division
below_stack = refl

-- one byte past the stack
past_stack : runs (Load Byte r0 r10 (pos 0) ∷ Exit ∷ []) ([]) ([]) IsStuck
unfolding execute edge_target value_of jumps_of condition_holds wrapped signed_of sign_extended binary_of division_of unsigned_division
past_stack = refl

-- a pointer that is moved down by 512
pointer_moved : runs (Move W64 r2 (Register r10) ∷ Binary W64 Sub r2 (Immediate (pos 512)) ∷ StoreImmediate Byte r2 (pos 0) (pos 7) ∷ Load Byte r0 r10 (negsuc 511) ∷ Exit ∷ []) ([]) ([]) (Returns 7)
unfolding execute edge_target value_of jumps_of condition_holds wrapped signed_of sign_extended binary_of division_of unsigned_division
pointer_moved = refl

-- 32-bit arithmetic on a pointer has no meaning
pointer_in_32_bits : runs (Binary W32 Add r1 (Immediate (pos 1)) ∷ set r0 0 ∷ Exit ∷ []) ([]) ([]) IsStuck
unfolding execute edge_target value_of jumps_of condition_holds wrapped signed_of sign_extended binary_of division_of unsigned_division
pointer_in_32_bits = refl

-- a 32-bit remainder by zero clears the upper half
modulo_by_zero : runs (LoadNumber r0 4294967303 ∷ Division W32 Mod Unsigned r0 (Immediate (pos 0)) ∷ Exit ∷ []) ([]) ([]) (Returns 7)
unfolding execute edge_target value_of jumps_of condition_holds wrapped signed_of sign_extended binary_of division_of unsigned_division
modulo_by_zero = refl

-- the result must be a number
pointer_returned : runs (Move W64 r0 (Register r1) ∷ Exit ∷ []) ([]) ([]) IsStuck
unfolding execute edge_target value_of jumps_of condition_holds wrapped signed_of sign_extended binary_of division_of unsigned_division
pointer_returned = refl

-- a register without a value can't be returned
nothing_returned : runs (Exit ∷ []) ([]) ([]) IsStuck
unfolding execute edge_target value_of jumps_of condition_holds wrapped signed_of sign_extended binary_of division_of unsigned_division
nothing_returned = refl

-- a register without a value can't be copied
nothing_copied : runs (Move W64 r0 (Register r2) ∷ Exit ∷ []) ([]) ([]) IsStuck
unfolding execute edge_target value_of jumps_of condition_holds wrapped signed_of sign_extended binary_of division_of unsigned_division
nothing_copied = refl

-- output passes the bytes, and its return code is read in two's complement
output_code : runs (Move W64 r2 (Register r1) ∷ LoadRing r1 3 ∷ set r3 4 ∷ set r4 1 ∷ Call 130 ∷ Exit ∷ []) (Code (negsuc 10) ∷ []) (Output 3 (1 ∷ 2 ∷ 3 ∷ 255 ∷ []) 1 ∷ []) (Returns (2 ^ 64 - 11))
unfolding execute edge_target value_of jumps_of condition_holds wrapped signed_of sign_extended binary_of division_of unsigned_division
output_code = refl

-- query
query_told : runs (LoadRing r1 0 ∷ set r2 3 ∷ Call 134 ∷ Exit ∷ []) (Told 24 ∷ []) (Query 0 3 ∷ []) (Returns 24)
unfolding execute edge_target value_of jumps_of condition_holds wrapped signed_of sign_extended binary_of division_of unsigned_division
query_told = refl

-- a record that was discarded is no longer in memory
record_gone : runs (LoadRing r1 0 ∷ set r2 1 ∷ set r3 0 ∷ Call 131 ∷ Move W64 r6 (Register r0) ∷ Move W64 r1 (Register r0) ∷ set r2 0 ∷ Call 133 ∷ Load Byte r0 r6 (pos 0) ∷ Exit ∷ []) (Granted ∷ Taken ∷ []) (Reserve 4 0 1 0 ∷ Discard 4 (0 ∷ []) 0 ∷ []) IsStuck
unfolding execute edge_target value_of jumps_of condition_holds wrapped signed_of sign_extended binary_of division_of unsigned_division
record_gone = refl

-- r1 to r5 are unreadable after a call
arguments_lost : runs (LoadRing r1 0 ∷ set r2 3 ∷ Call 134 ∷ Move W64 r0 (Register r2) ∷ Exit ∷ []) (Told 24 ∷ []) (Query 0 3 ∷ []) IsStuck
unfolding execute edge_target value_of jumps_of condition_holds wrapped signed_of sign_extended binary_of division_of unsigned_division
arguments_lost = refl

-- there is no helper with this number
unknown_helper : runs (Call 1 ∷ set r0 0 ∷ Exit ∷ []) ([]) ([]) IsStuck
unfolding execute edge_target value_of jumps_of condition_holds wrapped signed_of sign_extended binary_of division_of unsigned_division
unknown_helper = refl

-- no instruction begins there
fell_off : runs (set r0 0 ∷ []) ([]) ([]) IsStuck
unfolding execute edge_target value_of jumps_of condition_holds wrapped signed_of sign_extended binary_of division_of unsigned_division
fell_off = refl

-- ---- pointers on the stack, in its last eight bytes unless stated otherwise

abbrev spill : Reg → Insn
spill r = StoreRegister Double r10 (negsuc 7) r

abbrev fill : Reg → Insn
fill r = Load Double r r10 (negsuc 7)

-- a pointer that is stored on the stack can be loaded any number of times
pointer_kept : runs (spill r1 ∷ fill r3 ∷ fill r2 ∷ Load Byte r0 r2 (pos 3) ∷ Exit ∷ []) ([]) ([]) (Returns 255)
unfolding execute edge_target value_of jumps_of condition_holds wrapped signed_of sign_extended binary_of division_of unsigned_division
pointer_kept = refl

-- a ring can be stored and loaded, too
ring_kept : runs (LoadRing r6 3 ∷ spill r6 ∷ fill r1 ∷ set r2 3 ∷ Call 134 ∷ Exit ∷ []) (Told 24 ∷ []) (Query 3 3 ∷ []) (Returns 24)
unfolding execute edge_target value_of jumps_of condition_holds wrapped signed_of sign_extended binary_of division_of unsigned_division
ring_kept = refl

-- the first place is at the other end of the stack
first_place : runs (StoreRegister Double r10 (negsuc 511) r1 ∷ Load Double r2 r10 (negsuc 511) ∷ Load Byte r0 r2 (pos 3) ∷ Exit ∷ []) ([]) ([]) (Returns 255)
unfolding execute edge_target value_of jumps_of condition_holds wrapped signed_of sign_extended binary_of division_of unsigned_division
first_place = refl

-- a pointer replaces another
pointer_over_pointer : runs (spill r10 ∷ spill r1 ∷ fill r2 ∷ Load Byte r0 r2 (pos 3) ∷ Exit ∷ []) ([]) ([]) (Returns 255)
unfolding execute edge_target value_of jumps_of condition_holds wrapped signed_of sign_extended binary_of division_of unsigned_division
pointer_over_pointer = refl

-- two places hold two pointers
two_places : runs (spill r1 ∷ StoreRegister Double r10 (negsuc 15) r10 ∷ Load Double r3 r10 (negsuc 15) ∷ StoreImmediate Byte r3 (negsuc 23) (pos 7) ∷ fill r2 ∷ Load Byte r4 r2 (pos 0) ∷ Load Byte r0 r10 (negsuc 23) ∷ Exit ∷ []) ([]) ([]) (Returns 7)
unfolding execute edge_target value_of jumps_of condition_holds wrapped signed_of sign_extended binary_of division_of unsigned_division
two_places = refl

-- a place has zero bytes after a pointer was stored there, whatever they were before
pointer_over_number : runs (StoreImmediate Double r10 (negsuc 7) (negsuc 0) ∷ spill r1 ∷ StoreImmediate Byte r10 (negsuc 6) (pos 7) ∷ fill r0 ∷ Exit ∷ []) ([]) ([]) (Returns 1792)
unfolding execute edge_target value_of jumps_of condition_holds wrapped signed_of sign_extended binary_of division_of unsigned_division
pointer_over_number = refl

-- a number replaces a pointer
number_over_pointer : runs (spill r1 ∷ StoreImmediate Double r10 (negsuc 7) (pos 5) ∷ fill r0 ∷ Exit ∷ []) ([]) ([]) (Returns 5)
unfolding execute edge_target value_of jumps_of condition_holds wrapped signed_of sign_extended binary_of division_of unsigned_division
number_over_pointer = refl

-- eight bytes across two places replace both pointers
number_over_two_pointers : runs (spill r1 ∷ StoreRegister Double r10 (negsuc 15) r1 ∷ StoreImmediate Double r10 (negsuc 11) (pos 0) ∷ Load Byte r3 r10 (negsuc 15) ∷ fill r0 ∷ Exit ∷ []) ([]) ([]) (Returns 0)
unfolding execute edge_target value_of jumps_of condition_holds wrapped signed_of sign_extended binary_of division_of unsigned_division
number_over_two_pointers = refl

-- a number in the byte below a place keeps its pointer
number_below_pointer : runs (spill r1 ∷ StoreImmediate Byte r10 (negsuc 8) (pos 1) ∷ fill r2 ∷ Load Byte r0 r2 (pos 3) ∷ Exit ∷ []) ([]) ([]) (Returns 255)
unfolding execute edge_target value_of jumps_of condition_holds wrapped signed_of sign_extended binary_of division_of unsigned_division
number_below_pointer = refl

-- a number in the byte above a place keeps its pointer
number_above_pointer : runs (StoreRegister Double r10 (negsuc 15) r1 ∷ StoreImmediate Byte r10 (negsuc 7) (pos 1) ∷ Load Double r2 r10 (negsuc 15) ∷ Load Byte r0 r2 (pos 3) ∷ Exit ∷ []) ([]) ([]) (Returns 255)
unfolding execute edge_target value_of jumps_of condition_holds wrapped signed_of sign_extended binary_of division_of unsigned_division
number_above_pointer = refl

-- the eight bytes below a pointer can be read
read_below_pointer : runs (spill r1 ∷ StoreImmediate Double r10 (negsuc 15) (pos 9) ∷ Load Double r0 r10 (negsuc 15) ∷ Exit ∷ []) ([]) ([]) (Returns 9)
unfolding execute edge_target value_of jumps_of condition_holds wrapped signed_of sign_extended binary_of division_of unsigned_division
read_below_pointer = refl

-- a load of 32 bits of a pointer has no meaning
pointer_read_in_32_bits : runs (spill r1 ∷ Load Word r0 r10 (negsuc 7) ∷ Exit ∷ []) ([]) ([]) IsStuck
unfolding execute edge_target value_of jumps_of condition_holds wrapped signed_of sign_extended binary_of division_of unsigned_division
pointer_read_in_32_bits = refl

-- a sign-extending load of 32 bits of a pointer has no meaning
pointer_read_signed : runs (spill r1 ∷ LoadSigned signed.Word r0 r10 (negsuc 7) ∷ Exit ∷ []) ([]) ([]) IsStuck
unfolding execute edge_target value_of jumps_of condition_holds wrapped signed_of sign_extended binary_of division_of unsigned_division
pointer_read_signed = refl

-- a load of the last byte of a pointer has no meaning
last_byte_of_pointer : runs (spill r1 ∷ Load Byte r0 r10 (negsuc 0) ∷ Exit ∷ []) ([]) ([]) IsStuck
unfolding execute edge_target value_of jumps_of condition_holds wrapped signed_of sign_extended binary_of division_of unsigned_division
last_byte_of_pointer = refl

-- a load of eight bytes that overlap a pointer has no meaning
part_of_pointer : runs (spill r1 ∷ Load Double r0 r10 (negsuc 11) ∷ Exit ∷ []) ([]) ([]) IsStuck
unfolding execute edge_target value_of jumps_of condition_holds wrapped signed_of sign_extended binary_of division_of unsigned_division
part_of_pointer = refl

-- a pointer can't be stored across two places
pointer_beside_places : runs (StoreRegister Double r10 (negsuc 11) r1 ∷ set r0 0 ∷ Exit ∷ []) ([]) ([]) IsStuck
unfolding execute edge_target value_of jumps_of condition_holds wrapped signed_of sign_extended binary_of division_of unsigned_division
pointer_beside_places = refl

-- a pointer can't be stored past the end of the stack
pointer_past_stack : runs (StoreRegister Double r10 (pos 0) r1 ∷ set r0 0 ∷ Exit ∷ []) ([]) ([]) IsStuck
unfolding execute edge_target value_of jumps_of condition_holds wrapped signed_of sign_extended binary_of division_of unsigned_division
pointer_past_stack = refl

-- a pointer can't be stored below the stack
pointer_below_stack : runs (StoreRegister Double r10 (negsuc 519) r1 ∷ set r0 0 ∷ Exit ∷ []) ([]) ([]) IsStuck
unfolding execute edge_target value_of jumps_of condition_holds wrapped signed_of sign_extended binary_of division_of unsigned_division
pointer_below_stack = refl

-- a pointer can't be stored as 32 bits
pointer_stored_in_32_bits : runs (StoreRegister Word r10 (negsuc 7) r1 ∷ set r0 0 ∷ Exit ∷ []) ([]) ([]) IsStuck
unfolding execute edge_target value_of jumps_of condition_holds wrapped signed_of sign_extended binary_of division_of unsigned_division
pointer_stored_in_32_bits = refl

-- a pointer can't be stored in a record
pointer_in_record : runs (LoadRing r1 0 ∷ set r2 8 ∷ set r3 0 ∷ Call 131 ∷ StoreRegister Double r0 (pos 0) r10 ∷ Exit ∷ []) (Granted ∷ []) (Reserve 4 0 8 0 ∷ []) IsStuck
unfolding execute edge_target value_of jumps_of condition_holds wrapped signed_of sign_extended binary_of division_of unsigned_division
pointer_in_record = refl

-- an output can't pass a byte of a pointer
pointer_put_out : runs (spill r1 ∷ LoadRing r1 3 ∷ Move W64 r2 (Register r10) ∷ Binary W64 Sub r2 (Immediate (pos 16)) ∷ set r3 9 ∷ set r4 0 ∷ Call 130 ∷ Exit ∷ []) (Code (pos 0) ∷ []) ([]) IsStuck
unfolding execute edge_target value_of jumps_of condition_holds wrapped signed_of sign_extended binary_of division_of unsigned_division
pointer_put_out = refl

-- an output can pass the bytes below a pointer
output_below_pointer : runs (spill r1 ∷ LoadRing r1 3 ∷ Move W64 r2 (Register r10) ∷ Binary W64 Sub r2 (Immediate (pos 16)) ∷ set r3 8 ∷ set r4 0 ∷ Call 130 ∷ Exit ∷ []) (Code (pos 0) ∷ []) (Output 3 (0 ∷ 0 ∷ 0 ∷ 0 ∷ 0 ∷ 0 ∷ 0 ∷ 0 ∷ []) 0 ∷ []) (Returns 0)
unfolding execute edge_target value_of jumps_of condition_holds wrapped signed_of sign_extended binary_of division_of unsigned_division
output_below_pointer = refl

-- an output of zero bytes touches no place
output_of_none : runs (spill r1 ∷ LoadRing r1 3 ∷ Move W64 r2 (Register r10) ∷ Binary W64 Sub r2 (Immediate (pos 4)) ∷ set r3 0 ∷ set r4 0 ∷ Call 130 ∷ Exit ∷ []) (Code (pos 0) ∷ []) (Output 3 ([]) 0 ∷ []) (Returns 0)
unfolding execute edge_target value_of jumps_of condition_holds wrapped signed_of sign_extended binary_of division_of unsigned_division
output_of_none = refl

-- the stack holds a pointer while a record is reserved, written, read and submitted
kept_through_calls : runs (StoreRegister Double r10 (negsuc 511) r1 ∷ LoadRing r1 0 ∷ set r2 8 ∷ set r3 0 ∷ Call 131 ∷ StoreImmediate Double r0 (pos 0) (pos 42) ∷ Load Double r3 r0 (pos 0) ∷ Move W64 r1 (Register r0) ∷ set r2 0 ∷ Call 132 ∷ Load Double r2 r10 (negsuc 511) ∷ Load Byte r0 r2 (pos 3) ∷ Exit ∷ []) (Granted ∷ Taken ∷ []) (Reserve 5 0 8 0 ∷ Submit 5 bytes_of_42 0 ∷ []) (Returns 255)
unfolding execute edge_target value_of jumps_of condition_holds wrapped signed_of sign_extended binary_of division_of unsigned_division
kept_through_calls = refl

-- reserves 8 bytes and stores the result on the stack; loads it, and unless it is null, writes 42 and submits the
-- record
abbrev submit_kept : List Insn
submit_kept = LoadRing r1 0 ∷ set r2 8 ∷ set r3 0 ∷ Call 131 ∷ spill r0 ∷ fill r6 ∷ Branch W64 Equal r6 (Immediate (pos 0)) (pos 4) ∷ StoreImmediate Double r6 (pos 0) (pos 42) ∷ Move W64 r1 (Register r6) ∷ set r2 0 ∷ Call 132 ∷ set r0 0 ∷ Exit ∷ []

-- a record pointer is the same after it was stored and loaded
record_kept : runs (submit_kept) (Granted ∷ Taken ∷ []) (Reserve 4 0 8 0 ∷ Submit 4 bytes_of_42 0 ∷ []) (Returns 0)
unfolding execute edge_target value_of jumps_of condition_holds wrapped signed_of sign_extended binary_of division_of unsigned_division
record_kept = refl

-- a null that was stored loads as the number 0
null_kept : runs (submit_kept) (Null ∷ []) (Reserve 4 0 8 0 ∷ []) (Returns 0)
unfolding execute edge_target value_of jumps_of condition_holds wrapped signed_of sign_extended binary_of division_of unsigned_division
null_kept = refl

-- a pointer to a discarded record is invalid, even one that was stored on the stack
record_kept_gone : runs (LoadRing r1 0 ∷ set r2 1 ∷ set r3 0 ∷ Call 131 ∷ spill r0 ∷ Move W64 r1 (Register r0) ∷ set r2 0 ∷ Call 133 ∷ fill r6 ∷ Load Byte r0 r6 (pos 0) ∷ Exit ∷ []) (Granted ∷ Taken ∷ []) (Reserve 4 0 1 0 ∷ Discard 4 (0 ∷ []) 0 ∷ []) IsStuck
unfolding execute edge_target value_of jumps_of condition_holds wrapped signed_of sign_extended binary_of division_of unsigned_division
record_kept_gone = refl
