-- A ring drawn as one line: from its consumer position to its producer position, with a box for each record, and the
-- number of free bytes; or the same as a JSON object (own).
--
--     draw 0 | consumer 0 | busy 16 worker 0 serial 0 | waiting 24 worker 1 serial 0 | producer 40 | free 4056
--     {"draw":0,"consumer":0,"records":[{"status":"busy","bytes":16,"worker":0,"serial":0}],"producer":16,"free":4080}
use Rattle.std.specs.Prelude.{ℕ, ◌-◌, List, [], ◌∷◌, ◌++◌, codes}
use Rattle.std.specs.Fmt.{decimal}
use Rattle.std.specs.List.{flat_map}
use Rattle.rb_history.specs.Span.{span}
use Rattle.rb_history.specs.Calls.{producer_now, consumer_now}
use Rattle.rb_history.specs.History.{Shown, Status, records}
use Rattle.rb_history.specs.History.Status.{Busy, Waiting, Consumed, Discarded}
use Rattle.rb_history.specs.RingModel.{Ring}
use Rattle.rb_json.specs.declared.form.LineForm.{LineForm}
use Rattle.rb_json.specs.declared.form.LineForm.TheVariants.{Words, Json}
use Rattle.rb_script.specs.LineFields.{field, first_field, line_end}

abbrev pub status_word : Status → List ℕ
status_word Busy = codes "busy"
status_word Waiting = codes "waiting"
status_word Consumed = codes "consumed"
status_word Discarded = codes "discarded"

-- a part of a drawing: ` | consumer 0` or ,"consumer":0
unfoldable pub part : LineForm → (name : List ℕ) → ℕ → List ℕ
part Words name n = codes " |" ++ field Words name n
part Json name n = field Json name n

-- a record's box: its status, the bytes that it takes with its header, its worker and its serial
unfoldable pub record_box : LineForm → Shown → List ℕ
record_box Words s = codes " | " ++ status_word s.status ++ codes " " ++ decimal (span s.len) ++ field Words (codes "worker") s.worker ++ field Words (codes "serial") s.serial
record_box Json s = codes "{\"status\":\"" ++ status_word s.status ++ codes "\"" ++ field Json (codes "bytes") (span s.len) ++ field Json (codes "worker") s.worker ++ field Json (codes "serial") s.serial ++ codes "}"

-- a further box of a list; objects have a comma between them
abbrev pub next_box : LineForm → Shown → List ℕ
next_box Words s = record_box Words s
next_box Json s = codes "," ++ record_box Json s

abbrev pub objects : List Shown → List ℕ
objects [] = []
objects (first ∷ more) = record_box Json first ++ flat_map (next_box Json) more

-- the boxes of the records, or a list of objects
abbrev pub boxes : LineForm → List Shown → List ℕ
boxes Words shown = flat_map (next_box Words) shown
boxes Json shown = codes ",\"records\":[" ++ objects shown ++ codes "]"

-- a ring's drawing: its number, its consumer position, the records, its producer position, and how many of its bytes
-- are not between the two positions
abbrev pub drawing_line : LineForm → (ring size consumer producer : ℕ) → List Shown → List ℕ
drawing_line form ring size consumer producer shown =
    first_field form (codes "draw") ring ++ part form (codes "consumer") consumer ++ boxes form shown ++ part form (codes "producer") producer ++ part form (codes "free") (size - (producer - consumer)) ++ line_end form

-- a ring, by its whole history: the records that were not taken, in the order of their grants
abbrev pub ring_drawing : LineForm → ℕ → Ring → List ℕ
ring_drawing form r ring = drawing_line form r ring.setup.size (consumer_now ring) (producer_now ring) (records ring.history)
