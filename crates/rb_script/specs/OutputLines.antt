-- The output lines of a script's turns and of the world at the end, as bytes: in words, or as JSON objects (own).
use Rattle.std.specs.Prelude.{ℕ, List, ◌++◌, codes, length}
use Rattle.std.specs.Fmt.{decimal}
use Rattle.rb_io.specs.Lines.{hex_text}
use Rattle.rb_json.specs.Json.{payload_fields}
use Rattle.rb_json.specs.declared.form.LineForm.{LineForm}
use Rattle.rb_json.specs.declared.form.LineForm.TheVariants.{Words, Json}
use Rattle.rb_history.specs.declared.answers.Taken.{Taken}
use Rattle.rb_history.specs.declared.answers.Taken.TheVariants.{Event, Skipped, BusyFront, Empty}
use Rattle.rb_history.specs.declared.answers.Counts.{Counts}
use Rattle.rb_script.specs.LineFields.{field, first_field, line_end}

-- ---- a take

-- a record's position, its worker, and how many records that worker was granted before
abbrev pub grant_fields : LineForm → (pos worker serial : ℕ) → List ℕ
grant_fields form pos worker serial = field form (codes "pos") pos ++ field form (codes "worker") worker ++ field form (codes "serial") serial

-- the bytes of a submitted record
unfoldable pub bytes_field : LineForm → List ℕ → List ℕ
bytes_field Words bytes = codes " " ++ hex_text bytes
bytes_field Json bytes = codes ",\"discarded\":false," ++ payload_fields bytes

-- that a record was discarded
unfoldable pub discarded_field : LineForm → List ℕ
discarded_field Words = codes " discarded"
discarded_field Json = codes ",\"discarded\":true"

-- why a take found no record
unfoldable pub found_field : LineForm → List ℕ → List ℕ
found_field Words why = codes " " ++ why
found_field Json why = codes ",\"found\":\"" ++ why ++ codes "\""

-- what a take found: a submitted record with its bytes, a discarded record, a busy one, or none
abbrev pub found_fields : LineForm → Taken → List ℕ
found_fields form (Event pos worker serial bytes) = grant_fields form pos worker serial ++ field form (codes "len") (length bytes) ++ bytes_field form bytes
found_fields form (Skipped pos len) = field form (codes "pos") pos ++ field form (codes "len") len ++ discarded_field form
found_fields form BusyFront = found_field form (codes "busy")
found_fields form Empty = found_field form (codes "empty")

-- a take from the ring with this number: `take 0 empty` or {"take":0,"found":"empty"}
abbrev pub take_line : LineForm → ℕ → Taken → List ℕ
take_line form ring found = first_field form (codes "take") ring ++ found_fields form found ++ line_end form

-- ---- a chapter

-- the number of a chapter, which has no name in words
unfoldable pub chapter_number : LineForm → ℕ → List ℕ
chapter_number Words number = codes " " ++ decimal number
chapter_number Json number = field Json (codes "number") number

-- the chapter with this number was handed out: `chapter 0 1` or {"chapter":0,"number":1}
abbrev pub chapter_line : LineForm → (ring number : ℕ) → List ℕ
chapter_line form ring number = first_field form (codes "chapter") ring ++ chapter_number form number ++ line_end form

-- ---- the world at the end

-- a worker whose program ended with a value: `worker 0 done 1` or {"worker":0,"done":1}
abbrev pub done_line : LineForm → (worker value : ℕ) → List ℕ
done_line form worker value = first_field form (codes "worker") worker ++ field form (codes "done") value ++ line_end form

-- a worker with its next unit: `worker 0 at 2` or {"worker":0,"at":2}
abbrev pub at_line : LineForm → (worker unit : ℕ) → List ℕ
at_line form worker unit = first_field form (codes "worker") worker ++ field form (codes "at") unit ++ line_end form

-- a ring's counts
abbrev pub counts_fields : LineForm → Counts → List ℕ
counts_fields form counts =
    field form (codes "consumed") counts.consumed ++ field form (codes "discarded") counts.discarded ++ field form (codes "waiting") counts.waiting ++ field form (codes "busy") counts.busy

-- a ring: its positions and its counts
abbrev pub ring_line : LineForm → (ring producer consumer : ℕ) → Counts → List ℕ
ring_line form ring producer consumer counts =
    first_field form (codes "ring") ring ++ field form (codes "producer") producer ++ field form (codes "consumer") consumer ++ counts_fields form counts ++ line_end form
