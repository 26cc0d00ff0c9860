-- The fields of an output line, as bytes: words after the line's kind, or the fields of a JSON object (own).
--
--     ring 0 producer 16
--     {"ring":0,"producer":16}
use Rattle.std.specs.Prelude.{ℕ, List, ◌++◌, codes}
use Rattle.std.specs.Fmt.{decimal}
use Rattle.rb_json.specs.Json.{json_number}
use Rattle.rb_json.specs.declared.form.LineForm.{LineForm}
use Rattle.rb_json.specs.declared.form.LineForm.TheVariants.{Words, Json}

-- the first field: `ring 0` or {"ring":0
unfoldable pub first_field : LineForm → (name : List ℕ) → ℕ → List ℕ
first_field Words name n = name ++ codes " " ++ decimal n
first_field Json name n = codes "{\"" ++ name ++ codes "\":" ++ json_number n

-- a further field: ` producer 16` or ,"producer":16
unfoldable pub field : LineForm → (name : List ℕ) → ℕ → List ℕ
field Words name n = codes " " ++ name ++ codes " " ++ decimal n
field Json name n = codes ",\"" ++ name ++ codes "\":" ++ json_number n

-- the end of the object, if it is one, and of the line
unfoldable pub line_end : LineForm → List ℕ
line_end Words = codes "\n"
line_end Json = codes "}\n"
