-- What `tape` prints for a tape, and what it returns (own; rb_history defines the tape's bytes, and rb_tape its
-- faults).
use Rattle.std.specs.Prelude.{ℕ, ◌≡◌, ◌-◌, List, [], ◌++◌, codes, length, Option, None, Some, IfNone, IfSome, Result, Ok, Err}
use Rattle.std.specs.Fmt.{decimal}
use Rattle.std.specs.List.{flat_map}
use Rattle.std.specs.Io.KnownBytes.{Appends, Keeps}
use Rattle.rb_history.specs.TapeBytes.{Item, end_of}
use Rattle.rb_history.specs.TapeBytes.Item.{Event, Skip}
use Rattle.rb_tape.specs.declared.fault.TapeKind.{TapeKind}
use Rattle.rb_tape.specs.TapeReading.{Reading, reading_from, IsToldAtEnd}
use Rattle.rb_tape.specs.LongestTape.{IsTapeAndRest, IsLongestList}
use Rattle.rb_io.specs.Lines.{hex_text, line}
use Rattle.rb_json.specs.Json.{json_number, payload_fields}
use Rattle.rb_json.specs.declared.form.LineForm.{LineForm}
use Rattle.rb_json.specs.declared.form.LineForm.TheVariants.{Words, Json}
use Rattle.rb_tape_commands.specs.declared.tape_refusal.TapeRefusal.{TapeRefusal}
use Rattle.rb_tape_commands.specs.declared.tape_refusal.TapeRefusal.TheVariants.{Size, Start, Record, Memory, Device}

-- ---- the lines

-- the line of a record: an event with its bytes in hex, or a discarded record with its length; for example, `pos 0 len
-- 1 2a` is the event 2a at position 0
abbrev pub tape_line : Item → List ℕ
tape_line (Event pos bytes) = line (codes "pos " ++ decimal pos ++ codes " len " ++ decimal (length bytes) ++ codes " " ++ hex_text bytes)
tape_line (Skip pos len) = line (codes "pos " ++ decimal pos ++ codes " len " ++ decimal len ++ codes " discarded")

-- the same as a JSON object: {"pos":0,"len":1,"discarded":false,"hex":"2a","text":"*"}
abbrev pub tape_object : Item → List ℕ
tape_object (Event pos bytes) =
    line (codes "{\"pos\":" ++ json_number pos ++ codes ",\"len\":" ++ json_number (length bytes) ++ codes ",\"discarded\":false," ++ payload_fields bytes ++ codes "}")
tape_object (Skip pos len) = line (codes "{\"pos\":" ++ json_number pos ++ codes ",\"len\":" ++ json_number len ++ codes ",\"discarded\":true}")

-- the record in the requested form
abbrev pub tape_line_as : LineForm → Item → List ℕ
tape_line_as Words item = tape_line item
tape_line_as Json item = tape_object item

-- the lines of records, in order
abbrev pub tape_lines : LineForm → List Item → List ℕ
tape_lines form items = flat_map (tape_line_as form) items

-- ---- the output for a whole input

-- the reader of the rest after these items
abbrev pub reading_behind : ℕ → ℕ → List Item → List ℕ → Reading
reading_behind size start items rest = record (reading_from size start rest) { position = end_of start items }

-- Exactly the lines of the longest list of items whose tape is a prefix of the input were printed. After them nothing
-- is left, or this fault is reported there. Its offset is the number of the input's bytes before it.
pub record PrintsTape (form : LineForm) (size start : ℕ) (input : List ℕ) (fault : Option (TapeKind × ℕ)) (before after : Option (List ℕ)) : Type 0 where
  pub items : List Item
  pub rest : List ℕ
  pub splits : IsTapeAndRest size start input items rest
  pub longest : IsLongestList size start input items
  pub printed : Appends before after (tape_lines form items)
  pub whole : IfNone fault (rest ≡ [])
  pub told : IfSome fault (λ f. IsToldAtEnd (reading_behind size start items rest) f.0 × (f.1 ≡ end_of start items - start))

-- a prefix of the lines of some first records of the input was printed
pub record PrintsSome (form : LineForm) (size start : ℕ) (input : List ℕ) (before after : Option (List ℕ)) : Type 0 where
  pub items : List Item
  pub rest : List ℕ
  pub splits : IsTapeAndRest size start input items rest
  pub out : List ℕ
  pub missing : List ℕ
  pub printed : Appends before after out
  pub beginning : out ++ missing ≡ tape_lines form items

-- exactly the lines of some first records of the input were printed
pub record PrintsFirst (form : LineForm) (size start : ℕ) (input : List ℕ) (before after : Option (List ℕ)) : Type 0 where
  pub items : List Item
  pub rest : List ℕ
  pub splits : IsTapeAndRest size start input items rest
  pub printed : Appends before after (tape_lines form items)

-- what a result implies for the input and for the output
abbrev pub TapeAnswer : LineForm → ℕ → ℕ → List ℕ → Option (List ℕ) → Option (List ℕ) → Result (Unit {0}) TapeRefusal → Type 0
TapeAnswer form size start input before after (Ok _) = PrintsTape form size start input None before after
TapeAnswer form size start input before after (Err (Record kind offset)) = PrintsTape form size start input (Some (kind, offset)) before after
TapeAnswer form size start input before after (Err Size) = Keeps before after
TapeAnswer form size start input before after (Err Start) = Keeps before after
TapeAnswer form size start input before after (Err Memory) = PrintsFirst form size start input before after
TapeAnswer form size start input before after (Err Device) = PrintsSome form size start input before after
