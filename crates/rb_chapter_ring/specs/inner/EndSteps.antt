-- What the commit of a record changes in its ring.
use Rattle.std.specs.Prelude.{ℕ, List}
use Rattle.std.specs.FinMap.{insert}
use Rattle.std.specs.List.{slice_set as set}
use Rattle.rb_history.specs.RingModel.{Contents}
use Rattle.rb_chapter_ring.specs.declared.record_end.RecordEnd.{RecordEnd}
use Rattle.rb_chapter_ring.specs.declared.record_end.RecordEnd.TheVariants.{Submit, Discard}

-- the number of discarded records that it adds
abbrev pub discards_by_end : RecordEnd → ℕ
discards_by_end Submit = 0
discards_by_end Discard = 1

-- the bytes of the waiting records, given the bytes of the record at a position
abbrev pub contents_with_end : RecordEnd → ℕ → List ℕ → Contents → Contents
contents_with_end Submit p bytes c = insert c p bytes
contents_with_end Discard p bytes c = c

-- the slots, given the slot of the record
abbrev pub slots_with_end : RecordEnd → ℕ → List ℕ → List (List ℕ) → List (List ℕ)
slots_with_end Submit k bytes slots = set slots k bytes
slots_with_end Discard k bytes slots = slots
