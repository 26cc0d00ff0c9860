-- The effect of a program's step on the records that it holds.
use Rattle.std.proofs.Common.{◌≡◌, ℕ, ◌+◌, ◌≤◌, ℤ, true, false, List, ◌++◌, Option, Some, None, length, take, drop, sym, ap, ◌∙◌, refl, arith, inl, inr}
use Rattle.std.specs.Prelude.{option_and_then, option_map, nat_le, cond, pos, ◌+ℤ◌, replicate}
use Rattle.std.specs.Ordering.{int_eq}
use Rattle.std.proofs.lemmas.Bool.{cases_Bool}
use Rattle.std.proofs.lemmas.List.{length-append, length-take, length-drop}
use Rattle.byteorder.specs.Endian.{little_number, little_bytes}
use Rattle.rb_insn.specs.declared.insn.Insn.{Insn}
use Rattle.rb_insn.specs.declared.insn.Insn.TheVariants.{Binary, Division, Negate, Move, MoveExtended32, MoveExtended64, Reorder, Jump, JumpFar, Branch, Call, Exit, LoadNumber, LoadRing, Load, LoadSigned, StoreImmediate, StoreRegister}
use Rattle.rb_insn.specs.declared.insn.BinaryOp.{BinaryOp}
use Rattle.rb_insn.specs.declared.insn.BinaryOp.TheVariants.{Add, Sub}
use Rattle.rb_insn.specs.declared.insn.Operand.TheVariants.{Immediate, Register}
use Rattle.rb_insn.specs.declared.insn.Width.{Width}
use Rattle.rb_insn.specs.declared.insn.Width.TheVariants.{W32, W64}
use Rattle.rb_insn.specs.declared.reg.Reg.{Reg}
use Rattle.rb_insn.specs.WholeNumbers.{wrapped}
use Rattle.rb_program.specs.Edges.{Edge, Next, Target, edge_target}
use Rattle.rb_program.specs.Program.{slot_at}
use Rattle.rb_verifier.specs.declared.helper.Helper.{Helper}
use Rattle.rb_verifier.specs.declared.helper.Helper.TheVariants as helper
use Rattle.rb_verifier.specs.HelperChecks.{helper_of}
use Rattle.rb_insn.specs.Sizes.{byte_count, signed_byte_count}
use Rattle.rb_semantics.specs.declared.value.MemoryRegion.{MemoryRegion}
use Rattle.rb_semantics.specs.declared.value.MemoryRegion.TheVariants.{Stack, Context, Record}
use Rattle.rb_semantics.specs.declared.value.Value.{Value}
use Rattle.rb_semantics.specs.declared.value.Value.TheVariants.{Nothing, Number, Pointer, Ring}
use Rattle.rb_semantics.specs.StackPointers.{pointers_beside, spill_of}
use Rattle.rb_semantics.specs.ProgramMemory.{Memory, record_named, without_record, part_bytes, byte_of, overwritten, with_part, with_bytes, with_pointer, write, place_at, spill}
use Rattle.rb_semantics.specs.ProgramStates.{State, register, operand_in, with_register, pointed, memory_written, memory_with_spill, fill_of}
use Rattle.rb_semantics.specs.HelperCalls.{HelperCall, Submit, Discard, CallInState, call_reserve, call_given_back, call_give_back, call_handed_out, call_output, call_query, call_of_helper}
use Rattle.rb_semantics.specs.Instructions.{StepEffect, Goes, Ends, Asks, Stuck, goes_to, gives, execute_copy, execute_compute, execute_arithmetic, execute_load, execute_fill, signed_number, after_store, execute_store, execute_spill, null_test, execute_compare, waits_for, execute_exit, execute, execute_at, next_step}
use Rattle.rb_world.proofs.Tables.{size_of, size-with_bytes}

-- each record keeps its length
abbrev pub SameSizes : State → State → Type 0
SameSizes s t = (id : ℕ) → size_of id t.memory.records ≡ size_of id s.memory.records

-- a submit or discard ends the record that it names, and every call leaves all other records
abbrev pub Leaves : State → HelperCall → State → Type 0
Leaves s (Submit id bytes flags) t = (record_named id s.memory.records ≡ Some bytes) × (t.memory.records ≡ without_record id s.memory.records)
Leaves s (Discard id bytes flags) t = (record_named id s.memory.records ≡ Some bytes) × (t.memory.records ≡ without_record id s.memory.records)
Leaves s call t = t.memory.records ≡ s.memory.records

abbrev pub Keeps : State → StepEffect → Type 0
Keeps s (Goes t) = SameSizes s t
Keeps s (Ends n) = Unit {0}
Keeps s (Asks call t) = Leaves s call t
Keeps s Stuck = Unit {0}

goes_keeps : (s t : State) (o : Option ℕ) → SameSizes s t → Keeps s (goes_to o t)
goes_keeps s t None h = tt
goes_keeps s t (Some unit) h = h

gives_keeps : (insn : Insn) (dst : Reg) (v : Value) (s : State) → Keeps s (gives insn dst v s)
gives_keeps insn dst v s = goes_keeps s (with_register dst v s) (edge_target s.unit insn Next) (λ id. refl)

copied_keeps : (insn : Insn) (dst : Reg) (v : Value) (s : State) → Keeps s (execute_copy insn dst v s)
copied_keeps insn dst Nothing s = tt
copied_keeps insn dst (Number n) s = gives_keeps insn dst (Number n) s
copied_keeps insn dst (Pointer place o) s = gives_keeps insn dst (Pointer place o) s
copied_keeps insn dst (Ring r) s = gives_keeps insn dst (Ring r) s

computed_keeps : (insn : Insn) (dst : Reg) (v w : Value) (s : State) → Keeps s (execute_compute insn dst v w s)
computed_keeps insn dst (Number a) (Number b) s = gives_keeps insn dst _ s
computed_keeps insn dst v w s = tt

combined_keeps : (width : Width) (op : BinaryOp) (insn : Insn) (dst : Reg) (v w : Value) (s : State) → Keeps s (execute_arithmetic width op insn dst v w s)
combined_keeps W64 Add insn dst (Pointer place o) (Number by) s = gives_keeps insn dst _ s
combined_keeps W64 Sub insn dst (Pointer place o) (Number by) s = gives_keeps insn dst _ s
combined_keeps width op insn dst v w s = computed_keeps insn dst v w s

loaded_keeps : (insn : Insn) (dst : Reg) (number : List ℕ → ℕ) (o : Option (List ℕ)) (s : State) → Keeps s (execute_load insn dst number o s)
loaded_keeps insn dst number None s = tt
loaded_keeps insn dst number (Some bytes) s = gives_keeps insn dst _ s

-- ---- writes

overwritten_long : (new bytes over : List ℕ) (at : ℕ) → overwritten new bytes at ≡ Some over → length over ≡ length bytes
overwritten_long new bytes over at e = elim (cases_Bool (nat_le (at + length new) (length bytes))) [
  | inl inside ↦
      let fits : at + length new ≤ length bytes = inside_le inside in
      let there : Some (take at bytes ++ (new ++ drop (length new) (drop at bytes))) ≡ Some over = rw inside at e in
      let same : take at bytes ++ (new ++ drop (length new) (drop at bytes)) ≡ over = cc in
      let whole : length (take at bytes ++ (new ++ drop (length new) (drop at bytes))) ≡ length bytes = simp (length-append, length-take, length-drop) (omega arith) in
      ap length (sym same) ∙ whole
  | inr outside ↦ absurd (let none = rw outside at e in cc)
]
  where
    inside_le : nat_le (at + length new) (length bytes) ≡ true → at + length new ≤ length bytes
    inside_le h = grind (arith, h)

some_is : (x y : Memory) → Some x ≡ Some y → x ≡ y
some_is x y h = cc

part_keeps : (s : State) (part : MemoryRegion) (at len : ℕ) (o : Option (List ℕ)) (m : Memory) → ((over old : List ℕ) → o ≡ Some over → part_bytes s.memory part ≡ Some old → length over ≡ length old)
    → ((over : List ℕ) → o ≡ Some over → (old : List ℕ) × (part_bytes s.memory part ≡ Some old))
    → option_and_then (with_part s.memory part at len) o ≡ Some m → SameSizes s (record s { memory = m })
part_keeps s part at len None m long there e id = absurd (cc)
part_keeps s Stack at len (Some over) m long there e id = let same : record s.memory { stack = over; pointers = pointers_beside at len s.memory.pointers } ≡ m = some_is _ m e in ap (λ (x : Memory). size_of id x.records) (sym same)
part_keeps s Context at len (Some over) m long there e id = absurd (cc)
part_keeps s (Record n) at len (Some over) m long there e id =
    let old = there over refl in
    let same : record s.memory { records = with_bytes n over s.memory.records } ≡ m = some_is _ m e in
    ap (λ (x : Memory). size_of id x.records) (sym same) ∙ size-with_bytes n id over old.0 s.memory.records old.1 (long over old.0 refl old.1)

write_keeps : (s : State) (part : MemoryRegion) (offset : ℤ) (new : List ℕ) (m : Memory) → write s.memory part offset new ≡ Some m → SameSizes s (record s { memory = m })
write_keeps s part offset new m e = by_part (part_bytes s.memory part) refl (byte_of part offset) e
  where
    by_part : (bytes : Option (List ℕ)) → part_bytes s.memory part ≡ bytes → (at : Option ℕ)
        → option_and_then (λ bytes. option_and_then (λ at. option_and_then (with_part s.memory part at (length new)) (overwritten new bytes at)) at) bytes ≡ Some m → SameSizes s (record s { memory = m })
    by_part None is at e = absurd (cc)
    by_part (Some bytes) is None e = absurd (cc)
    by_part (Some bytes) is (Some at) e =
        part_keeps s part at (length new) (overwritten new bytes at) m
        (λ over old h k. let f : Some bytes ≡ Some old = sym is ∙ k in let same : bytes ≡ old = cc in overwritten_long new bytes over at h ∙ ap length same)
        (λ over h. (bytes, is)) e

stored_keeps : (insn : Insn) (o : Option Memory) (s : State) → ((m : Memory) → o ≡ Some m → SameSizes s (record s { memory = m })) → Keeps s (after_store insn o s)
stored_keeps insn None s h = tt
stored_keeps insn (Some m) s h = goes_keeps s (record s { memory = m }) (edge_target s.unit insn Next) (h m refl)

written_keeps : (s : State) (base : Value) (by : ℤ) (new : List ℕ) (m : Memory) → memory_written s.memory base by new ≡ Some m → SameSizes s (record s { memory = m })
written_keeps s (Pointer place o) by new m e = write_keeps s place (o +ℤ by) new m e
written_keeps s Nothing by new m e = λ id. absurd (cc)
written_keeps s (Number n) by new m e = λ id. absurd (cc)
written_keeps s (Ring r) by new m e = λ id. absurd (cc)

store_keeps : (insn : Insn) (base : Value) (offset : ℤ) (len : ℕ) (v : Value) (s : State) → Keeps s (execute_store insn base offset len v s)
store_keeps insn base offset len (Number n) s = stored_keeps insn (memory_written s.memory base offset (little_bytes len n)) s (written_keeps s base offset (little_bytes len n))
store_keeps insn base offset len v s = tt

-- ---- pointers stored on the stack

spill_keeps : (s : State) (part : MemoryRegion) (offset : ℤ) (v : Value) (m : Memory) → spill s.memory part offset v ≡ Some m → SameSizes s (record s { memory = m })
spill_keeps s part offset v m e = by_place (place_at part offset) e
  where
    by_place : (place : Option ℕ) → option_and_then (λ place. option_map (with_pointer place v) (write s.memory part offset (replicate 8 0))) place ≡ Some m → SameSizes s (record s { memory = m })
    by_place None e = λ id. absurd (cc)
    by_place (Some place) e = by_memory (write s.memory part offset (replicate 8 0)) refl e
      where
        by_memory : (o : Option Memory) → write s.memory part offset (replicate 8 0) ≡ o → option_map (with_pointer place v) o ≡ Some m → SameSizes s (record s { memory = m })
        by_memory None is e = λ id. absurd (cc)
        by_memory (Some n) is e = λ id. let same : with_pointer place v n ≡ m = some_is _ m e in ap (λ (x : Memory). size_of id x.records) (sym same) ∙ write_keeps s part offset (replicate 8 0) n is id

spilled_keeps : (s : State) (base : Value) (by : ℤ) (v : Value) (m : Memory) → memory_with_spill s.memory base by v ≡ Some m → SameSizes s (record s { memory = m })
spilled_keeps s (Pointer part o) by v m e = spill_keeps s part (o +ℤ by) v m e
spilled_keeps s Nothing by v m e = λ id. absurd (cc)
spilled_keeps s (Number n) by v m e = λ id. absurd (cc)
spilled_keeps s (Ring r) by v m e = λ id. absurd (cc)

store_or_spill_keeps : (insn : Insn) (base : Value) (offset : ℤ) (len : ℕ) (pointer : Option Value) (v : Value) (s : State) → Keeps s (execute_spill insn base offset len pointer v s)
store_or_spill_keeps insn base offset len (Some pointer) v s = stored_keeps insn (memory_with_spill s.memory base offset pointer) s (spilled_keeps s base offset pointer)
store_or_spill_keeps insn base offset len None v s = store_keeps insn base offset len v s

load_or_fill_keeps : (insn : Insn) (dst : Reg) (number : List ℕ → ℕ) (found : Option Value) (o : Option (List ℕ)) (s : State) → Keeps s (execute_fill insn dst number found o s)
load_or_fill_keeps insn dst number (Some v) o s = gives_keeps insn dst v s
load_or_fill_keeps insn dst number None o s = loaded_keeps insn dst number o s

compared_keeps : (insn : Insn) (test : Option Edge) (v w : Value) (s : State) → Keeps s (execute_compare insn test v w s)
compared_keeps insn (Some edge) (Pointer (Record id) o) w s = goes_keeps s s (edge_target s.unit insn edge) (λ id. refl)
compared_keeps insn test (Number a) (Number b) s = goes_keeps s s (edge_target s.unit insn _) (λ id. refl)
compared_keeps insn test v w s = tt

-- ---- calls

AskKeeps : State → CallInState → Type 0
AskKeeps s None = Unit {0}
AskKeeps s (Some call) = Leaves s call.0 call.1

waits_keeps : (s : State) (o : CallInState) → AskKeeps s o → Keeps s (waits_for o)
unfolding AskKeeps
waits_keeps s None h = tt
waits_keeps s (Some call) h = h

reserve_keeps : (v w x : Value) (s : State) → AskKeeps s (call_reserve v w x s)
unfolding AskKeeps
reserve_keeps (Ring r) (Number len) (Number flags) s = refl
reserve_keeps v w x s = tt

query_keeps : (v w : Value) (s : State) → AskKeeps s (call_query v w s)
unfolding AskKeeps
query_keeps (Ring r) (Number what) s = refl
query_keeps v w s = tt

output_keeps : (v from w x : Value) (s : State) → AskKeeps s (call_output v from w x s)
unfolding AskKeeps
output_keeps (Ring r) from (Number len) (Number flags) s = elim (pointed s.memory from (pos 0) len) as (λ o. AskKeeps s (call_handed_out r flags o s)) [ None ↦ tt | Some bytes ↦ refl ]
output_keeps v from w x s = tt

submit_keeps : (v w : Value) (s : State) → AskKeeps s (call_give_back Submit v w s)
unfolding AskKeeps
submit_keeps (Pointer (Record id) o) (Number flags) s = elim (int_eq o (pos 0)) as (λ b. AskKeeps s (cond b (call_given_back Submit id flags (record_named id s.memory.records) s) None)) [
  | true ↦ found (record_named id s.memory.records) refl
  | false ↦ tt
]
  where
    found : (held : Option (List ℕ)) → record_named id s.memory.records ≡ held → AskKeeps s (call_given_back Submit id flags held s)
    found None e = tt
    found (Some bytes) e = (e, refl)
submit_keeps v w s = tt

discard_keeps : (v w : Value) (s : State) → AskKeeps s (call_give_back Discard v w s)
unfolding AskKeeps
discard_keeps (Pointer (Record id) o) (Number flags) s = elim (int_eq o (pos 0)) as (λ b. AskKeeps s (cond b (call_given_back Discard id flags (record_named id s.memory.records) s) None)) [
  | true ↦ found (record_named id s.memory.records) refl
  | false ↦ tt
]
  where
    found : (held : Option (List ℕ)) → record_named id s.memory.records ≡ held → AskKeeps s (call_given_back Discard id flags held s)
    found None e = tt
    found (Some bytes) e = (e, refl)
discard_keeps v w s = tt

asking_keeps : (called : Option Helper) (s : State) → AskKeeps s (call_of_helper called s)
unfolding AskKeeps
asking_keeps None s = tt
asking_keeps (Some helper.Reserve) s = reserve_keeps (register s 1) (register s 2) (register s 3) s
asking_keeps (Some helper.Submit) s = submit_keeps (register s 1) (register s 2) s
asking_keeps (Some helper.Discard) s = discard_keeps (register s 1) (register s 2) s
asking_keeps (Some helper.Output) s = output_keeps (register s 1) (register s 2) (register s 3) (register s 4) s
asking_keeps (Some helper.Query) s = query_keeps (register s 1) (register s 2) s

exit_keeps : (v : Value) (s : State) → Keeps s (execute_exit v)
exit_keeps (Number n) s = tt
exit_keeps v s = tt

exec_keeps : (insn : Insn) (s : State) → Keeps s (execute insn s)
unfolding execute
exec_keeps (Move width dst (Immediate k)) s = computed_keeps (Move width dst (Immediate k)) dst (Number 0) (Number 0) s
exec_keeps (Move W64 dst (Register src)) s = copied_keeps (Move W64 dst (Register src)) dst (register s src.number) s
exec_keeps (Move W32 dst (Register src)) s = computed_keeps (Move W32 dst (Register src)) dst (Number 0) (register s src.number) s
exec_keeps (MoveExtended32 low dst src) s = computed_keeps (MoveExtended32 low dst src) dst (Number 0) (register s src.number) s
exec_keeps (MoveExtended64 low dst src) s = computed_keeps (MoveExtended64 low dst src) dst (Number 0) (register s src.number) s
exec_keeps (Negate width dst) s = computed_keeps (Negate width dst) dst (register s dst.number) (Number 0) s
exec_keeps (Reorder order width dst) s = computed_keeps (Reorder order width dst) dst (register s dst.number) (Number 0) s
exec_keeps (Division width op sign dst operand) s = computed_keeps (Division width op sign dst operand) dst (register s dst.number) (operand_in s operand) s
exec_keeps (Binary width op dst operand) s = combined_keeps width op (Binary width op dst operand) dst (register s dst.number) (operand_in s operand) s
exec_keeps (LoadNumber dst n) s = gives_keeps (LoadNumber dst n) dst (Number n) s
exec_keeps (LoadRing dst r) s = gives_keeps (LoadRing dst r) dst (Ring r) s
exec_keeps (Load size dst base offset) s =
    load_or_fill_keeps (Load size dst base offset) dst (little_number (byte_count size)) (fill_of size s.memory (register s base.number) offset) (pointed s.memory (register s base.number) offset (byte_count size)) s
exec_keeps (LoadSigned size dst base offset) s =
    loaded_keeps (LoadSigned size dst base offset) dst (signed_number (signed_byte_count size)) (pointed s.memory (register s base.number) offset (signed_byte_count size)) s
exec_keeps (StoreImmediate size base offset k) s = store_keeps (StoreImmediate size base offset k) (register s base.number) offset (byte_count size) (Number (wrapped 64 k)) s
exec_keeps (StoreRegister size base offset src) s =
    store_or_spill_keeps (StoreRegister size base offset src) (register s base.number) offset (byte_count size) (spill_of size (register s src.number)) (register s src.number) s
exec_keeps (Branch width condition dst operand distance) s =
    compared_keeps (Branch width condition dst operand distance) (null_test width condition operand) (register s dst.number) (operand_in s operand) s
exec_keeps (Jump distance) s = goes_keeps s s (edge_target s.unit (Jump distance) Target) (λ id. refl)
exec_keeps (JumpFar distance) s = goes_keeps s s (edge_target s.unit (JumpFar distance) Target) (λ id. refl)
exec_keeps (Call number) s = waits_keeps s (call_of_helper (helper_of number) s) (asking_keeps (helper_of number) s)
exec_keeps Exit s = exit_keeps (register s 0) s

-- the effect of a step on the records
pub step_keeps : (program : List Insn) (s : State) → Keeps s (next_step program s)
step_keeps program s = by_slot (slot_at program s.unit)
  where
    by_slot : (slot : Option Insn) → Keeps s (execute_at slot s)
    by_slot None = tt
    by_slot (Some insn) = exec_keeps insn s
