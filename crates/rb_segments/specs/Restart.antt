-- A tape in segments that continues after a restart (own).
use Rattle.std.specs.Prelude.{ℕ, ◌≡◌, ◌+◌, List, [], ◌∷◌, ◌++◌, Option, Some}
use Rattle.rb_history.specs.TapeBytes.{Item, end_of}
use Rattle.rb_tape.specs.LongestTape.{IsTapeAndRest, IsLongestList}
use Rattle.rb_segments.specs.Segments.{AreSegmentsOf, Segment}
use Rattle.rb_segments.specs.SegmentTape.{SegmentTape, HasWritten}

-- the complete records of a segment: the longest list of records whose tape is a prefix of its bytes
abbrev pub AreWholeRecords : ℕ → Segment → List Item → Type 0
AreWholeRecords size segment items = (rest : List ℕ) × IsTapeAndRest size segment.position segment.bytes items rest × IsLongestList size segment.position segment.bytes items

-- the complete records at the front of these bytes, which start at this position, take up `len` bytes
abbrev pub EndsAt : ℕ → ℕ → List ℕ → ℕ → Type 0
EndsAt size position bytes len = (items : List Item) × AreWholeRecords size (record { position = position; bytes = bytes }) items × (position + len ≡ end_of position items)

-- If the older segments held these records from `start` on and the newest segment followed them, the directory holds
-- exactly those records and the complete records of the newest segment, and the next record comes after them.
abbrev pub Resumes : {S F : Type 0} → (S → Option (List Segment)) → (F → Option (List ℕ)) → ℕ → S → SegmentTape S F → Type 0
Resumes segments contents size store t = (start : ℕ) (older : List Segment) (newest : Segment) (items : List Item) →
    segments store ≡ Some (older ++ newest ∷ []) → AreSegmentsOf size start older items → newest.position ≡ end_of start items →
    (whole : List Item) × AreWholeRecords size newest whole × HasWritten segments contents start [] (items ++ whole) t
