-- When the state of a program agrees with an annotation (own profile).
use Rattle.std.specs.Prelude.{◌≡◌, ℕ, ◌*◌, ◌<◌, pos, Bool, true, false, List, [], ◌∷◌, Option, Some, None, find, length, take, drop, ◌⊎◌}
use Rattle.byteorder.specs.Endian.{little_number}
use Rattle.rb_verifier.specs.declared.references.Reference.{Reference}
use Rattle.rb_verifier.specs.declared.state.AbsState.{AbsState}
use Rattle.rb_verifier.specs.declared.value.Abs.{Abs}
use Rattle.rb_verifier.specs.declared.value.Abs.TheVariants as abs
use Rattle.rb_verifier.specs.AbstractArithmetic.{is_near}
use Rattle.rb_verifier.specs.KeptPointers.{known_in}
use Rattle.rb_verifier.specs.References.{has_id}
use Rattle.rb_verifier.specs.AbstractStates.{value_in}
use Rattle.rb_verifier.specs.Subject.{Subject}
use Rattle.rb_semantics.specs.declared.value.MemoryRegion.TheVariants.{Stack, Context, Record}
use Rattle.rb_semantics.specs.declared.value.Value.{Value}
use Rattle.rb_semantics.specs.declared.value.Value.TheVariants.{Number, Pointer, Ring}
use Rattle.rb_semantics.specs.StackPointers.{pointer_at}
use Rattle.rb_semantics.specs.ProgramMemory.{Memory, record_named}
use Rattle.rb_semantics.specs.ProgramStates.{State, register}

-- the value of a reservation: a pointer to its record if that is held, otherwise null
abbrev pub reserved_value : ℕ → Option (List ℕ) → Value
reserved_value id None = Number 0
reserved_value id (Some bytes) = Pointer (Record id) (pos 0)

-- a register's value agrees with an abstract value, given the records that are held
abbrev pub AgreesValue : List (ℕ × List ℕ) → Abs → Value → Type 0
AgreesValue records abs.Unreadable v = Unit {0}
AgreesValue records abs.Number v = (n : ℕ) × (v ≡ Number n)
AgreesValue records (abs.Known n) v = v ≡ Number n
AgreesValue records (abs.Ctx offset) v = v ≡ Pointer Context offset
AgreesValue records (abs.Stack offset) v = v ≡ Pointer Stack offset
AgreesValue records (abs.Ring ring) v = v ≡ Ring ring
AgreesValue records (abs.Perhaps id) v = v ≡ reserved_value id (record_named id records)
AgreesValue records (abs.Record id offset) v = v ≡ Pointer (Record id) offset

-- the held records are those of the references, in the same order and with their sizes; the record of a reference that
-- was not tested against null may be missing
abbrev pub AreHeld : List Reference → List (ℕ × List ℕ) → Type 0
AreHeld [] [] = Unit {0}
AreHeld [] (r ∷ records) = ⊥
AreHeld (reference ∷ held) [] = (reference.sure ≡ false) × AreHeld held []
AreHeld (reference ∷ held) (r ∷ records) =
    ((reference.id ≡ r.0) × (length r.1 ≡ reference.size) × AreHeld held records) ⊎ ((reference.sure ≡ false) × AreHeld held (r ∷ records))

-- a reservation that may be null has a reference that was not tested, and a pointer to a record has one that was
abbrev pub IsTested : Bool → Option Reference → Type 0
IsTested sure None = ⊥
IsTested sure (Some reference) = reference.sure ≡ sure

abbrev pub HasReference : List Reference → Abs → Type 0
HasReference held (abs.Perhaps id) = IsTested false (find (has_id id) held)
HasReference held (abs.Record id offset) = IsTested true (find (has_id id) held)
HasReference held v = Unit {0}

-- offsets are within -2^30 to 2^30, and rings are ones that the program may use
abbrev pub IsBoundedValue : ℕ → Value → Type 0
IsBoundedValue rings (Pointer place offset) = is_near offset ≡ true
IsBoundedValue rings (Ring ring) = ring < rings
IsBoundedValue rings v = Unit {0}

-- the result of a load of a whole place: the pointer that it holds, or else the number in its eight bytes
abbrev pub loaded_value : Option Value → List ℕ → Value
loaded_value (Some v) bytes = v
loaded_value None bytes = Number (little_number 8 bytes)

abbrev pub value_at : ℕ → Memory → Value
value_at place m = loaded_value (pointer_at place m.pointers) (take 8 (drop (8 * place) m.stack))

-- the pointer that a place holds besides its bytes is not a number, and is within the bounds of a register's value
abbrev pub IsKeptPointer : ℕ → Value → Type 0
IsKeptPointer rings (Pointer part offset) = IsBoundedValue rings (Pointer part offset)
IsKeptPointer rings (Ring ring) = IsBoundedValue rings (Ring ring)
IsKeptPointer rings v = ⊥

-- Each place of the stack agrees with its abstract value, as a register that loads it would: a place with data holds no
-- pointer, a place with a known pointer holds it (or eight zero bytes, for a reservation that is null), and a place
-- that is Unreadable may hold anything.
pub record AgreesPlaces (rings : ℕ) (held : List Reference) (places : List Abs) (m : Memory) : Type 0 where
  pub values : (place : ℕ) → place < 64 → AgreesValue m.records (known_in places place) (value_at place m)
  pub tied : (place : ℕ) → place < 64 → HasReference held (known_in places place)
  pub pointers : (place : ℕ) (v : Value) → pointer_at place m.pointers ≡ Some v → IsKeptPointer rings v

-- a state agrees with an abstract state
pub record Agrees (subject : Subject) (known : AbsState) (s : State) : Type 0 where
  pub count : length known.values ≡ length s.registers
  pub values : (r : ℕ) → AgreesValue s.memory.records (value_in known r) (register s r)
  pub records : AreHeld known.held s.memory.records
  pub tied : (r : ℕ) → HasReference known.held (value_in known r)
  pub bounded : (r : ℕ) → IsBoundedValue subject.rings (register s r)
  pub stack : length s.memory.stack ≡ 512
  pub places : AgreesPlaces subject.rings known.held known.places s.memory
  pub context : length s.memory.context ≡ subject.ctx_len
