-- The output of `check` for a program's run, as bytes (own).
use Rattle.std.specs.Prelude.{ℕ, ◌+◌, List, [], ◌∷◌, ◌++◌, codes, length}
use Rattle.std.specs.Fmt.{decimal}
use Rattle.std.specs.List.{flat_map}
use Rattle.rb_io.specs.Lines.{hex_text, line}
use Rattle.rb_json.specs.Json.{json_number, payload_fields}
use Rattle.rb_json.specs.declared.form.LineForm.{LineForm}
use Rattle.rb_json.specs.declared.form.LineForm.TheVariants.{Words, Json}
use Rattle.rb_history.specs.declared.answers.Taken.{Taken}
use Rattle.rb_history.specs.declared.answers.Taken.TheVariants.{Event, Skipped, BusyFront, Empty}

-- the line of a record taken from the ring with this number: a submitted record with its bytes, or a discarded one with
-- its length
abbrev pub record_line : ℕ → Taken → List ℕ
record_line ring (Event pos worker serial bytes) =
    line (codes "ring " ++ decimal ring ++ codes " pos " ++ decimal pos ++ codes " worker " ++ decimal worker ++ codes " serial " ++ decimal serial
    ++ codes " len " ++ decimal (length bytes) ++ codes " " ++ hex_text bytes)
record_line ring (Skipped pos len) = line (codes "ring " ++ decimal ring ++ codes " pos " ++ decimal pos ++ codes " len " ++ decimal len ++ codes " discarded")
record_line ring BusyFront = []
record_line ring Empty = []

-- the lines of one ring's records
abbrev pub ring_lines : ℕ → List Taken → List ℕ
ring_lines ring records = flat_map (record_line ring) records

-- the lines of each ring's records; the first ring has this number
abbrev pub lines_from : ℕ → List (List Taken) → List ℕ
lines_from ring [] = []
lines_from ring (records ∷ more) = ring_lines ring records ++ lines_from (ring + 1) more

-- the text for a program with this result that left these records in each ring
abbrev pub run_text : ℕ → List (List Taken) → List ℕ
run_text value records = line (codes "accepted") ++ line (codes "result " ++ decimal value) ++ lines_from 0 records

-- ---- the same as JSON objects, one per line

-- the fields of a record that was granted to a worker
unfoldable pub grant_fields : (ring pos worker serial : ℕ) → List ℕ
grant_fields ring pos worker serial =
    codes "{\"ring\":" ++ json_number ring ++ codes ",\"pos\":" ++ json_number pos ++ codes ",\"worker\":" ++ json_number worker ++ codes ",\"serial\":" ++ json_number serial

abbrev pub record_object : ℕ → Taken → List ℕ
record_object ring (Event pos worker serial bytes) =
    line (grant_fields ring pos worker serial ++ codes ",\"len\":" ++ json_number (length bytes) ++ codes ",\"discarded\":false," ++ payload_fields bytes ++ codes "}")
record_object ring (Skipped pos len) =
    line (codes "{\"ring\":" ++ json_number ring ++ codes ",\"pos\":" ++ json_number pos ++ codes ",\"len\":" ++ json_number len ++ codes ",\"discarded\":true}")
record_object ring BusyFront = []
record_object ring Empty = []

abbrev pub ring_objects : ℕ → List Taken → List ℕ
ring_objects ring records = flat_map (record_object ring) records

abbrev pub objects_from : ℕ → List (List Taken) → List ℕ
objects_from ring [] = []
objects_from ring (records ∷ more) = ring_objects ring records ++ objects_from (ring + 1) more

abbrev pub run_objects : ℕ → List (List Taken) → List ℕ
run_objects value records = line (codes "{\"accepted\":true,\"result\":" ++ json_number value ++ codes "}") ++ objects_from 0 records

-- the output in the requested form
abbrev pub check_lines : LineForm → ℕ → List (List Taken) → List ℕ
check_lines Words value records = run_text value records
check_lines Json value records = run_objects value records
