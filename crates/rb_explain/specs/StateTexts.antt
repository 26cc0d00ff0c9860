-- The line with the abstract state before an instruction: each register that may be read, in order, with its value;
-- then each place of the stack that may hold a pointer; and each record that must be submitted or discarded. Records
-- are named by the unit of the CALL that reserved them.
use Rattle.std.specs.Prelude.{ℕ, ℤ, ◌^◌, ◌+◌, ◌-◌, ◌*◌, Bool, true, false, List, ◌++◌, codes, find, Option, Some, None, if◌then◌else◌}
use Rattle.std.specs.Fmt.{format_spec, decimal, signed_decimal, styled_signed_decimal}
use Rattle.std.specs.Int.{w64, cast_signed}
use Rattle.std.specs.List.{flat_map}
use Rattle.rb_verifier.specs.declared.references.Reference.{Reference}
use Rattle.rb_verifier.specs.declared.state.AbsState.{AbsState}
use Rattle.rb_verifier.specs.declared.value.Abs.{Abs}
use Rattle.rb_verifier.specs.declared.value.Abs.TheVariants.{Unreadable, Number, Known, Ctx, Stack, Ring, Perhaps, Record}
use Rattle.rb_verifier.specs.AbstractStates.{value_in}
use Rattle.rb_verifier.specs.KeptPointers.{known_in, is_data}
use Rattle.rb_verifier.specs.References.{has_id}
use Rattle.rb_explain.specs.Joined.{joined_below}

-- an offset with its sign: `+0`, `-8`
abbrev pub offset_text : ℤ → List ℕ
offset_text offset = styled_signed_decimal (format_spec 32 0 1 0 (2 ^ 64 - 1)) offset

-- the length of a record that is held
abbrev pub size_text : Option Reference → List ℕ
size_text None = codes ""
size_text (Some reference) = codes " of " ++ decimal reference.size ++ codes " bytes"

-- the value of a register
abbrev pub value_text : List Reference → Abs → List ℕ
value_text held Unreadable = codes "nothing"
value_text held Number = codes "number"
value_text held (Known n) = signed_decimal (cast_signed w64 n)
value_text held (Ctx offset) = codes "context" ++ offset_text offset
value_text held (Stack offset) = codes "stack" ++ offset_text offset
value_text held (Ring ring) = codes "ring " ++ decimal ring
value_text held (Perhaps id) = codes "null or record " ++ decimal id ++ size_text (find (has_id id) held)
value_text held (Record id offset) = codes "record " ++ decimal id ++ offset_text offset ++ size_text (find (has_id id) held)

abbrev pub is_readable : Abs → Bool
is_readable Unreadable = false
is_readable value = true

-- a register with its value; nothing for one that must not be read
abbrev pub held_register_text : List Reference → ℕ → Abs → List ℕ
held_register_text held register value = if is_readable value then codes "  r" ++ decimal register ++ codes " = " ++ value_text held value else codes ""

abbrev pub register_in : AbsState → ℕ → List ℕ
register_in state register = held_register_text state.held register (value_in state register)

-- all registers
unfoldable pub registers_text : AbsState → List ℕ
registers_text state = joined_below (register_in state) 11

-- the content of a place of the stack: data, a pointer, or `mixed` if it may have either
abbrev pub kept_text : List Reference → Abs → List ℕ
kept_text held Unreadable = codes "mixed"
kept_text held value = value_text held value

-- a place with its content, by the number of places after it, so that the last one begins at fp-8; nothing for one with
-- data
abbrev pub kept_place_text : List Reference → ℕ → Abs → List ℕ
kept_place_text held behind value = if is_data value then codes "" else codes "  fp-" ++ decimal (8 * behind + 8) ++ codes " = " ++ kept_text held value

abbrev pub place_in : AbsState → ℕ → List ℕ
place_in state behind = kept_place_text state.held behind (known_in state.places (63 - behind))

-- all places, from the last one down
unfoldable pub places_text : AbsState → List ℕ
places_text state = joined_below (place_in state) 64

abbrev pub tested_text : Bool → List ℕ
tested_text true = codes ""
tested_text false = codes ", or null"

-- a record that must be submitted or discarded
abbrev pub reference_text : Reference → List ℕ
reference_text reference =
    codes "  holds record " ++ decimal reference.id ++ codes " of " ++ decimal reference.size ++ codes " bytes in ring " ++ decimal reference.ring ++ tested_text reference.sure

abbrev pub state_text : AbsState → List ℕ
state_text state = codes "      #" ++ registers_text state ++ places_text state ++ flat_map reference_text state.held ++ codes "\n"
