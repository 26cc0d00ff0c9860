-- Each step follows an edge of its instruction, and each call requests the record that its registers name.
use Rattle.std.proofs.Common.{◌≡◌, ℕ, ◌+◌, ◌≤◌, ℤ, pos, refl, sym, ap, subst, Bool, true, false, List, length, take, drop, Option, Some, None, option_and_then, arith}
use Rattle.std.specs.Prelude.{nat_le, if◌then◌else◌}
use Rattle.std.specs.Ordering.{int_eq}
use Rattle.std.proofs.lemmas.Bool.{leb-true}
use Rattle.std.proofs.lemmas.List.{length-take-le, length-drop}
use Rattle.rb_insn.specs.declared.insn.Insn.{Insn}
use Rattle.rb_insn.specs.declared.insn.Insn.TheVariants.{Binary, Division, Negate, Move, MoveExtended32, MoveExtended64, Reorder, Jump, JumpFar, Branch, Call, Exit, LoadNumber, LoadRing, Load, LoadSigned, StoreImmediate, StoreRegister}
use Rattle.rb_insn.specs.declared.insn.BinaryOp.{BinaryOp}
use Rattle.rb_insn.specs.declared.insn.BinaryOp.TheVariants.{Add, Sub}
use Rattle.rb_insn.specs.declared.insn.Operand.TheVariants.{Immediate, Register}
use Rattle.rb_insn.specs.declared.insn.Width.{Width}
use Rattle.rb_insn.specs.declared.insn.Width.TheVariants.{W32, W64}
use Rattle.rb_insn.specs.declared.reg.Reg.{Reg}
use Rattle.rb_insn.specs.Sizes.{byte_count, signed_byte_count}
use Rattle.rb_insn.specs.WholeNumbers.{wrapped}
use Rattle.rb_program.specs.Edges.{Edge, Next, Target, edge_target}
use Rattle.rb_verifier.specs.declared.helper.Helper.{Helper}
use Rattle.rb_verifier.specs.declared.helper.Helper.TheVariants as helper
use Rattle.rb_verifier.specs.HelperChecks.{helper_of}
use Rattle.rb_semantics.specs.declared.value.MemoryRegion.{MemoryRegion}
use Rattle.rb_semantics.specs.declared.value.MemoryRegion.TheVariants as part
use Rattle.rb_semantics.specs.declared.value.Value.{Value}
use Rattle.rb_semantics.specs.declared.value.Value.TheVariants.{Nothing, Number, Pointer, Ring}
use Rattle.rb_semantics.specs.StackPointers.{StackPointers, spill_of, is_pointer_among}
use Rattle.rb_semantics.specs.ProgramMemory.{Memory, read, byte_of, byte_range, plain_range, part_bytes, part_pointers, record_named}
use Rattle.rb_semantics.specs.ProgramStates.{State, register, operand_in, with_register, pointed, fill_of}
use Rattle.rb_semantics.specs.HelperCalls.{HelperCall, Reserve, Submit, Discard, call_of_helper, call_reserve, call_give_back, call_given_back, call_output, call_handed_out, call_query}
use Rattle.rb_semantics.specs.Instructions.{StepEffect, Goes, Ends, Asks, Stuck, goes_to, goes_by_edge, gives, execute_copy, execute_compute, execute_arithmetic, execute_load, execute_fill, after_store, execute_store, execute_spill, execute_compare, null_test, waits_for, execute_exit, execute, signed_number}
use Rattle.rb_cost.specs.declared.requested_record.RequestedRecord.{RequestedRecord}
use Rattle.rb_cost.specs.Runs.{asked_by_call}

-- the record that two values name
abbrev pub named_by : Value → Value → Option RequestedRecord
named_by (Ring ring) (Number len) = Some (record { ring = ring; len = len })
named_by v w = None

abbrev pub named_for : Option Helper → State → Option RequestedRecord
named_for (Some helper.Reserve) s = named_by (register s 1) (register s 2)
named_for (Some helper.Output) s = named_by (register s 1) (register s 3)
named_for called s = None

-- the record that the registers name before a CALL
abbrev pub named_before : Insn → State → Option RequestedRecord
named_before (Call code) s = named_for (helper_of code) s
named_before insn s = None

-- a reservation names its record by the unit at which it is made
abbrev pub IsNamedAt : ℕ → HelperCall → Type 0
IsNamedAt unit (Reserve id ring len flags) = id ≡ unit
IsNamedAt unit call = Unit {0}

-- where an instruction leads, and what it requests
abbrev pub Moves : Insn → State → StepEffect → Type 0
Moves insn s (Goes t) = (along : Edge) × (edge_target s.unit insn along ≡ Some t.unit)
Moves insn s (Ends n) = Unit {0}
Moves insn s (Asks call t) = (asked_by_call call ≡ named_before insn s) × IsNamedAt s.unit call
Moves insn s Stuck = Unit {0}

module _ (insn : Insn) (s : State) where
  moved : (along : Edge) (t : State) (to : Option ℕ) → edge_target s.unit insn along ≡ to → Moves insn s (goes_to to t)
  moved along t None there = tt
  moved along t (Some unit) there = (along, there)

  moves_given : (dst : Reg) (v : Value) → Moves insn s (gives insn dst v s)
  moves_given dst v = moved Next (with_register dst v s) _ refl

  moves_along : (edge : Edge) → Moves insn s (goes_by_edge edge insn s)
  moves_along edge = moved edge s _ refl

  moves_copied : (dst : Reg) (v : Value) → Moves insn s (execute_copy insn dst v s)
  moves_copied dst Nothing = tt
  moves_copied dst v = moves_given dst v

  moves_computed : (dst : Reg) (v w : Value) → Moves insn s (execute_compute insn dst v w s)
  moves_computed dst (Number a) (Number b) = moves_given dst _
  moves_computed dst v w = tt

  moves_arithmetic : (width : Width) (op : BinaryOp) (dst : Reg) (v w : Value) → Moves insn s (execute_arithmetic width op insn dst v w s)
  moves_arithmetic W64 Add dst (Pointer place offset) (Number by) = moves_given dst _
  moves_arithmetic W64 Sub dst (Pointer place offset) (Number by) = moves_given dst _
  moves_arithmetic width op dst v w = moves_computed dst v w

  moves_loaded : (dst : Reg) (number : List ℕ → ℕ) (bytes : Option (List ℕ)) → Moves insn s (execute_load insn dst number bytes s)
  moves_loaded dst number None = tt
  moves_loaded dst number (Some bytes) = moves_given dst _

  moves_filled : (dst : Reg) (number : List ℕ → ℕ) (found : Option Value) (bytes : Option (List ℕ)) → Moves insn s (execute_fill insn dst number found bytes s)
  moves_filled dst number (Some v) bytes = moves_given dst v
  moves_filled dst number None bytes = moves_loaded dst number bytes

  moves_after : (o : Option Memory) → Moves insn s (after_store insn o s)
  moves_after None = tt
  moves_after (Some m) = moved Next (record s { memory = m }) _ refl

  moves_stored : (base v : Value) (offset : ℤ) (len : ℕ) → Moves insn s (execute_store insn base offset len v s)
  moves_stored base (Number n) offset len = moves_after _
  moves_stored base v offset len = tt

  moves_spilt : (base : Value) (offset : ℤ) (len : ℕ) (pointer : Option Value) (v : Value) → Moves insn s (execute_spill insn base offset len pointer v s)
  moves_spilt base offset len (Some pointer) v = moves_after _
  moves_spilt base offset len None v = moves_stored base v offset len

  moves_compared : (test : Option Edge) (v w : Value) → Moves insn s (execute_compare insn test v w s)
  moves_compared (Some edge) (Pointer (part.Record id) offset) w = moves_along edge
  moves_compared test (Number a) (Number b) = moves_along _
  moves_compared test v w = tt

moves_ended : (s : State) (v : Value) → Moves Exit s (execute_exit v)
moves_ended s (Number n) = tt
moves_ended s v = tt

-- ---- calls

-- as many bytes are read as are requested
length-byte_range : (len at : ℕ) (bytes found : List ℕ) → byte_range len bytes at ≡ Some found → length found ≡ len
length-byte_range len at bytes found e = by_test (nat_le (at + len) (length bytes)) refl e
  where
    by_test : (b : Bool) → nat_le (at + len) (length bytes) ≡ b → (if b then Some (take len (drop at bytes)) else None) ≡ Some found → length found ≡ len
    by_test true inside same =
        let fits : at + len ≤ length bytes = leb-true (at + len) (length bytes) inside in
        let rest : length (drop at bytes) ≡ _ = length-drop at bytes in
        let is : take len (drop at bytes) ≡ found = cc in
        subst (λ xs. length xs ≡ len) is (length-take-le len (drop at bytes) (omega arith))
    by_test false inside same = absurd (cc)

length-plain_range : (pointers : StackPointers) (len at : ℕ) (bytes found : List ℕ) → plain_range pointers len bytes at ≡ Some found → length found ≡ len
length-plain_range pointers len at bytes found e = by_test (is_pointer_among at len pointers) e
  where
    by_test : (b : Bool) → (if b then None else byte_range len bytes at) ≡ Some found → length found ≡ len
    by_test true same = absurd (cc)
    by_test false same = length-byte_range len at bytes found same

length-read : (m : Memory) (place : MemoryRegion) (offset : ℤ) (len : ℕ) (found : List ℕ) → read m place offset len ≡ Some found → length found ≡ len
length-read m place offset len found e = of_part (part_bytes m place) e
  where
    of_byte : (bytes : List ℕ) (at : Option ℕ) → option_and_then (plain_range (part_pointers m place) len bytes) at ≡ Some found → length found ≡ len
    of_byte bytes None same = absurd (cc)
    of_byte bytes (Some at) same = length-plain_range (part_pointers m place) len at bytes found same

    of_part : (bytes : Option (List ℕ)) → option_and_then (λ bytes. option_and_then (plain_range (part_pointers m place) len bytes) (byte_of place offset)) bytes ≡ Some found → length found ≡ len
    of_part None same = absurd (cc)
    of_part (Some bytes) same = of_byte bytes (byte_of place offset) same

length-pointed : (m : Memory) (v : Value) (by : ℤ) (len : ℕ) (found : List ℕ) → pointed m v by len ≡ Some found → length found ≡ len
length-pointed m (Pointer place offset) by len found e = length-read m place _ len found e
length-pointed m Nothing by len found e = absurd (cc)
length-pointed m (Number n) by len found e = absurd (cc)
length-pointed m (Ring n) by len found e = absurd (cc)

-- the requested record is the one that the registers name
abbrev AsksFor : Option RequestedRecord → State → StepEffect → Type 0
AsksFor named s (Asks call t) = (asked_by_call call ≡ named) × IsNamedAt s.unit call
AsksFor named s effect = Unit {0}

module _ (s : State) where
  asks_reserve : (v w x : Value) → AsksFor (named_by v w) s (waits_for (call_reserve v w x s))
  asks_reserve (Ring ring) (Number len) (Number flags) = (refl, refl)
  asks_reserve v w x = tt

  asks_output : (v from w x : Value) → AsksFor (named_by v w) s (waits_for (call_output v from w x s))
  asks_output (Ring ring) from (Number len) (Number flags) = handed (pointed s.memory from (pos 0) len) refl
    where
      handed : (bytes : Option (List ℕ)) → pointed s.memory from (pos 0) len ≡ bytes → AsksFor (Some (record { ring = ring; len = len })) s (waits_for (call_handed_out ring flags bytes s))
      handed None there = tt
      handed (Some bytes) there = (ap (λ n. Some (record { ring = ring; len = n })) (length-pointed s.memory from (pos 0) len bytes there), tt)
  asks_output v from w x = tt

  asks_give_back : (call : ℕ → List ℕ → ℕ → HelperCall) → ((id : ℕ) (bytes : List ℕ) (flags : ℕ) → (asked_by_call (call id bytes flags) ≡ None) × IsNamedAt s.unit (call id bytes flags)) → (v w : Value) → AsksFor None s (waits_for (call_give_back call v w s))
  asks_give_back call none (Pointer (part.Record id) offset) (Number flags) = chosen (int_eq offset (pos 0)) (record_named id s.memory.records)
    where
      chosen : (first : Bool) (bytes : Option (List ℕ)) → AsksFor None s (waits_for (if first then call_given_back call id flags bytes s else None))
      chosen true None = tt
      chosen true (Some bytes) = none id bytes flags
      chosen false bytes = tt
  asks_give_back call none v w = tt

  asks_query : (v w : Value) → AsksFor None s (waits_for (call_query v w s))
  asks_query (Ring ring) (Number what) = (refl, tt)
  asks_query v w = tt

  asks_called : (called : Option Helper) → AsksFor (named_for called s) s (waits_for (call_of_helper called s))
  asks_called None = tt
  asks_called (Some helper.Reserve) = asks_reserve (register s 1) (register s 2) (register s 3)
  asks_called (Some helper.Submit) = asks_give_back Submit (λ id bytes flags. (refl, tt)) (register s 1) (register s 2)
  asks_called (Some helper.Discard) = asks_give_back Discard (λ id bytes flags. (refl, tt)) (register s 1) (register s 2)
  asks_called (Some helper.Output) = asks_output (register s 1) (register s 2) (register s 3) (register s 4)
  asks_called (Some helper.Query) = asks_query (register s 1) (register s 2)

  -- a call never continues immediately
  moves_called : (code : ℕ) (called : Option Helper) → helper_of code ≡ called → Moves (Call code) s (waits_for (call_of_helper called s))
  moves_called code called there = by_effect (call_of_helper called s) (subst (λ named. AsksFor named s (waits_for (call_of_helper called s))) (ap (λ found. named_for found s) (sym there)) (asks_called called))
    where
      by_effect : (asked : _) → AsksFor (named_for (helper_of code) s) s (waits_for asked) → Moves (Call code) s (waits_for asked)
      by_effect None h = tt
      by_effect (Some call) h = h

pub moves : (insn : Insn) (s : State) → Moves insn s (execute insn s)
unfolding execute
moves (Move width dst (Immediate k)) s = moves_computed (Move width dst (Immediate k)) s dst (Number 0) (Number 0)
moves (Move W64 dst (Register src)) s = moves_copied (Move W64 dst (Register src)) s dst (register s src.number)
moves (Move W32 dst (Register src)) s = moves_computed (Move W32 dst (Register src)) s dst (Number 0) (register s src.number)
moves (MoveExtended32 low dst src) s = moves_computed (MoveExtended32 low dst src) s dst (Number 0) (register s src.number)
moves (MoveExtended64 low dst src) s = moves_computed (MoveExtended64 low dst src) s dst (Number 0) (register s src.number)
moves (Negate width dst) s = moves_computed (Negate width dst) s dst (register s dst.number) (Number 0)
moves (Reorder order width dst) s = moves_computed (Reorder order width dst) s dst (register s dst.number) (Number 0)
moves (Division width op sign dst operand) s = moves_computed (Division width op sign dst operand) s dst (register s dst.number) (operand_in s operand)
moves (Binary width op dst operand) s = moves_arithmetic (Binary width op dst operand) s width op dst (register s dst.number) (operand_in s operand)
moves (LoadNumber dst n) s = moves_given (LoadNumber dst n) s dst (Number n)
moves (LoadRing dst ring) s = moves_given (LoadRing dst ring) s dst (Ring ring)
moves (Load size dst base offset) s = moves_filled (Load size dst base offset) s dst _ (fill_of size s.memory (register s base.number) offset) (pointed s.memory (register s base.number) offset (byte_count size))
moves (LoadSigned size dst base offset) s = moves_loaded (LoadSigned size dst base offset) s dst (signed_number (signed_byte_count size)) (pointed s.memory (register s base.number) offset (signed_byte_count size))
moves (StoreImmediate size base offset k) s = moves_stored (StoreImmediate size base offset k) s (register s base.number) (Number (wrapped 64 k)) offset (byte_count size)
moves (StoreRegister size base offset src) s = moves_spilt (StoreRegister size base offset src) s (register s base.number) offset (byte_count size) (spill_of size (register s src.number)) (register s src.number)
moves (Branch width condition dst operand distance) s = moves_compared (Branch width condition dst operand distance) s (null_test width condition operand) (register s dst.number) (operand_in s operand)
moves (Jump distance) s = moves_along (Jump distance) s Target
moves (JumpFar distance) s = moves_along (JumpFar distance) s Target
moves (Call code) s = moves_called s code (helper_of code) refl
moves Exit s = moves_ended s (register s 0)
