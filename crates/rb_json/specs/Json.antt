-- JSON values, as bytes (RFC 8259 defines numbers and strings; the choice of fields is own).
use Rattle.std.specs.Prelude.{ℕ, ◌^◌, ◌==◌, nat_le, nat_lt, List, [], ◌∷◌, ◌++◌, codes, if◌then◌else◌}
use Rattle.std.specs.Fmt.{decimal}
use Rattle.std.specs.List.{flat_map}
use Rattle.std.specs.Str.{is_utf8}
use Rattle.hex.specs.Hex.{encode_lower}

-- text between quotation marks
abbrev pub quoted : List ℕ → List ℕ
quoted text = 34 ∷ text ++ 34 ∷ []

-- a number; one greater than 2^53, which not every parser keeps exactly, is a string
unfoldable pub json_number : ℕ → List ℕ
json_number n = if nat_le n (2 ^ 53) then decimal n else quoted (decimal n)

-- a byte of a string: a quotation mark or backslash with a backslash before it, a control character as its code
abbrev pub escaped : ℕ → List ℕ
escaped byte =
    if byte == 34 then 92 ∷ 34 ∷ []
    else if byte == 92 then 92 ∷ 92 ∷ []
    else if nat_lt byte 32 then codes "\\u00" ++ encode_lower (byte ∷ [])
    else byte ∷ []

-- a text as a string
abbrev pub json_text : List ℕ → List ℕ
json_text text = quoted (flat_map escaped text)

-- the text field: none if the bytes are not UTF-8, otherwise the bytes as a string
abbrev pub text_field : List ℕ → List ℕ
text_field bytes = if is_utf8 bytes then codes ",\"text\":" ++ json_text bytes else []

-- the fields of a payload: its bytes in hex and, if they are UTF-8, as a text
unfoldable pub payload_fields : List ℕ → List ℕ
payload_fields bytes = codes "\"hex\":" ++ quoted (encode_lower bytes) ++ text_field bytes
