-- How many entries a chapter has, and how many it owes: those that its untaken records will still log. Room is reserved
-- for them, so that a submit, a discard and a take always find room (own). For example, with two busy records in a
-- chapter of room 8: used 2, owed 4, and no third grant, since 2 + 4 + 3 is more than 8.
use Rattle.std.specs.Prelude.{ℕ, ◌≡◌, ◌≢◌, ◌+◌, ◌<◌, ◌≤◌, ◌^◌, List, ◌∷◌, ◌++◌, [], length}
use Rattle.std.specs.List.{sum_by, slice_index_or as get_or}
use Rattle.rb_history.specs.declared.entries.Entry.{Entry}
use Rattle.rb_history.specs.declared.entries.Entry.TheVariants.{Res, Full}
use Rattle.rb_history.specs.History.{Shown}
use Rattle.rb_history.specs.History.Status.{Busy}
use Rattle.rb_history.specs.StoredRecords.{entries_owed}
use Rattle.rb_chapter_ring.specs.Snapshot.{no_record}
use Rattle.rb_chapter_ring.specs.CountedFrom.{records_from, tally_from}
use Rattle.rb_chapter_ring.specs.Chapters.{Chapter}

-- the number of entries
abbrev pub used : Chapter → ℕ
used c = length c.entries

-- two for each busy record, its commit and its take; one for any other, its take
abbrev pub owed_for : List Shown → ℕ
owed_for ss = sum_by (λ s. entries_owed s.status) ss

-- the number of entries that the chapter's records will still log
abbrev pub owed : Chapter → ℕ
owed c = owed_for (records_from c.opening c.entries)

-- there is room for all entries that are owed
abbrev pub HasRoomForOwed : Chapter → Type 0
HasRoomForOwed c = used c + owed c ≤ c.room

-- there is room for a grant, and for the commit and the take of its record
abbrev pub MayGrant : Chapter → Type 0
MayGrant c = used c + owed c + 3 ≤ c.room

-- there is room for a refusal
abbrev pub HasRefusalRoom : Chapter → Type 0
HasRefusalRoom c = used c + owed c + 1 ≤ c.room

-- a refusal of the worker may be logged: there is room, and the worker has fewer than 2^62 refusals, so that their
-- number fits in 64 bits
abbrev pub MayRefuse : Chapter → ℕ → Type 0
MayRefuse c w = HasRefusalRoom c × ((tally_from c.opening w c.entries).refused < 2 ^ 62)

-- the room that an entry needs; that of a submit, a discard or a take was owed
abbrev pub HasRoomForEntry : Chapter → Entry → Type 0
HasRoomForEntry c (Res w k n p) = MayGrant c
HasRoomForEntry c (Full w n) = HasRefusalRoom c
HasRoomForEntry c _ = HasRoomForOwed c

-- the record at an index among the untaken ones, counted from the front
abbrev pub record_now : Chapter → ℕ → Shown
record_now c i = get_or (records_from c.opening c.entries) i no_record

-- there is a record at the index, and it is busy
abbrev pub IsBusyNow : Chapter → ℕ → Type 0
IsBusyNow c i = (i < length (records_from c.opening c.entries)) × ((record_now c i).status ≡ Busy)

-- there is a record at the front, and it is no longer busy
abbrev pub HasSettledFront : Chapter → Type 0
HasSettledFront c = (0 < length (records_from c.opening c.entries)) × ((record_now c 0).status ≢ Busy)

-- the chapter with one entry appended
abbrev pub with_entry : Chapter → Entry → Chapter
with_entry c e = record c { entries = c.entries ++ e ∷ [] }
