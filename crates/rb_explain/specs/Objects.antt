-- The explanation as JSON objects, one a line. Its numbers are units, registers and lengths below 2^32, and its strings
-- have no byte that JSON escapes.
use Rattle.std.specs.Prelude.{ℕ, ◌==◌, ◌+◌, ◌-◌, ◌*◌, Bool, true, false, List, [], ◌++◌, codes, Option, Some, None, if◌then◌else◌}
use Rattle.std.specs.Fmt.{decimal}
use Rattle.std.specs.List.{flat_map}
use Rattle.hex.specs.Hex.{encode_lower}
use Rattle.rb_insn.specs.declared.insn.Insn.{Insn}
use Rattle.rb_insn.specs.declared.insn.Insn.TheVariants.{Call}
use Rattle.rb_insn.specs.Spelling.{spelling}
use Rattle.rb_explain.specs.Assembly.{assembly_of}
use Rattle.rb_program.specs.declared.fault.DecodeKind.{DecodeKind}
use Rattle.rb_program.specs.declared.fault.DecodeKind.TheVariants as bytes_faults
use Rattle.rb_program.specs.declared.shape_fault.ShapeFaultKind.{ShapeFaultKind}
use Rattle.rb_program.specs.declared.shape_fault.ShapeFaultKind.TheVariants as shape_faults
use Rattle.rb_verifier.specs.declared.helper.Helper.{Helper}
use Rattle.rb_verifier.specs.declared.references.Reference.{Reference}
use Rattle.rb_verifier.specs.declared.rule.Rule.{Rule}
use Rattle.rb_verifier.specs.declared.state.AbsState.{AbsState}
use Rattle.rb_verifier.specs.declared.value.Abs.{Abs}
use Rattle.rb_verifier.specs.AbstractStates.{value_in}
use Rattle.rb_verifier.specs.HelperChecks.{helper_of}
use Rattle.rb_verifier.specs.KeptPointers.{known_in, is_data}
use Rattle.rb_verifier.specs.Rules.{rule_number}
use Rattle.rb_json.specs.Json.{quoted}
use Rattle.rb_explain.specs.Joined.{joined_below}
use Rattle.rb_explain.specs.Lines.{helper_name}
use Rattle.rb_explain.specs.StateTexts.{value_text, kept_text, is_readable}

-- ---- a unit

-- a call has the name of its helper, or null if this host has no helper with its number; other instructions have no
-- such field
abbrev pub named_helper : Option Helper → List ℕ
named_helper None = codes "null"
named_helper (Some helper) = quoted (helper_name helper)

abbrev pub helper_field : Insn → List ℕ
helper_field (Call helper) = codes ",\"helper\":" ++ named_helper (helper_of helper)
helper_field insn = codes ""

-- the unit of an instruction, its bytes in hex, and its assembly
abbrev pub insn_fields : ℕ → Insn → List ℕ
insn_fields unit insn =
    codes "{\"unit\":" ++ decimal unit ++ codes ",\"bytes\":\"" ++ encode_lower (spelling insn) ++ codes "\",\"assembly\":\"" ++ assembly_of insn ++ codes "\"" ++ helper_field insn

abbrev pub unit_object : ℕ → Insn → List ℕ
unit_object unit insn = insn_fields unit insn ++ codes "}\n"

-- a unit that is not an instruction
abbrev pub bytes_object : ℕ → List ℕ → List ℕ
bytes_object unit bytes = codes "{\"unit\":" ++ decimal unit ++ codes ",\"bytes\":" ++ quoted (encode_lower bytes) ++ codes "}\n"

-- ---- the abstract state before an instruction

abbrev pub comma_before : ℕ → List ℕ
comma_before n = if n == 0 then codes "" else codes ","

-- the value of a register, or null if it must not be read
abbrev pub held_value : List Reference → Abs → List ℕ
held_value held value = if is_readable value then quoted (value_text held value) else codes "null"

abbrev pub register_field : AbsState → ℕ → List ℕ
register_field state register = comma_before register ++ codes "\"r" ++ decimal register ++ codes "\":" ++ held_value state.held (value_in state register)

-- all registers
unfoldable pub register_fields : AbsState → List ℕ
register_fields state = joined_below (register_field state) 11

-- the content of a place of the stack, by the number of places after it; no field for a place with data
abbrev pub kept_field : List Reference → ℕ → Abs → List ℕ
kept_field held behind value = if is_data value then codes "" else codes ",\"fp-" ++ decimal (8 * behind + 8) ++ codes "\":" ++ quoted (kept_text held value)

abbrev pub place_field : AbsState → ℕ → List ℕ
place_field state behind = kept_field state.held behind (known_in state.places (63 - behind))

-- all places, from the last one down
unfoldable pub place_fields : AbsState → List ℕ
place_fields state = joined_below (place_field state) 64

abbrev pub truth : Bool → List ℕ
truth true = codes "true"
truth false = codes "false"

-- a record that must be submitted or discarded, and whether it was tested against null
abbrev pub record_field : Reference → List ℕ
record_field reference =
    codes ",\"record " ++ decimal reference.id ++ codes "\":{\"bytes\":" ++ decimal reference.size ++ codes ",\"ring\":" ++ decimal reference.ring ++ codes ",\"tested\":" ++ truth reference.sure ++ codes "}"

-- each register, each place of the stack that may hold a pointer, and each record that must be submitted or discarded
abbrev pub known_fields : AbsState → List ℕ
known_fields state = codes ",\"known\":{" ++ register_fields state ++ place_fields state ++ flat_map record_field state.held ++ codes "}}\n"

abbrev pub known_object : AbsState → ℕ → Insn → List ℕ
known_object state unit insn = insn_fields unit insn ++ known_fields state

-- ---- a fault

abbrev pub decode_name : DecodeKind → List ℕ
decode_name bytes_faults.Length = codes "Length"
decode_name bytes_faults.TooLong = codes "TooLong"
decode_name bytes_faults.LeftOut = codes "LeftOut"
decode_name bytes_faults.BadOpcode = codes "BadOpcode"
decode_name bytes_faults.BadRegister = codes "BadRegister"
decode_name bytes_faults.UnusedField = codes "UnusedField"
decode_name bytes_faults.HalfWide = codes "HalfWide"
decode_name bytes_faults.Memory = codes "Memory"

abbrev pub shape_name : ShapeFaultKind → List ℕ
shape_name shape_faults.Backward = codes "Backward"
shape_name shape_faults.OutOfProgram = codes "OutOfProgram"
shape_name shape_faults.IntoWide = codes "IntoWide"
shape_name shape_faults.FallsOff = codes "FallsOff"
shape_name shape_faults.Unreachable = codes "Unreachable"
shape_name shape_faults.Memory = codes "Memory"

-- V1 to V15
abbrev pub rule_name : Rule → List ℕ
rule_name rule = codes "V" ++ decimal (rule_number rule)

-- the layer that refuses the program, the name of the fault, its unit, and how to fix the program
abbrev pub fault_object : (layer name : List ℕ) → ℕ → List ℕ → List ℕ
fault_object layer name unit advice =
    codes "{\"layer\":\"" ++ layer ++ codes "\",\"fault\":\"" ++ name ++ codes "\",\"unit\":" ++ decimal unit ++ codes ",\"advice\":\"" ++ advice ++ codes "\"}\n"
