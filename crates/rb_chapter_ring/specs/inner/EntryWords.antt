-- The eight bytes that a chapter stores for an entry. What follows from the entries before it is left out: the position of
-- a grant is the producer position there, and its serial is counted from its worker's total in the opening.
--
--      bit     63 .. 43               42 .. 35   34 .. 3     2   1 0
--     +-----------------------------+----------+-----------+---+-----+
--     | serial, from the opening on | worker   | length    | 1 | 0 0 |  Res
--     +-----------------------------+----------+-----------+---+-----+
--     |                             | worker   | length    | 0 | 0 0 |  Full
--     +-----------------------------+----------+-----------+---+-----+
--     | position                                               | 0 1 |  Sub; 1 0: Dis; 1 1: Take
--     +--------------------------------------------------------+-----+
use Rattle.std.specs.Prelude.{ℕ, ◌+◌, ◌/◌, ◌%◌, ◌^◌, ◌==◌, ◌<◌, ◌≤◌, List, [], ◌∷◌, if◌then◌else◌, length}
use Rattle.std.specs.List.{slice_index_or as get_or}
use Rattle.rb_history.specs.declared.entries.Entry.{Entry}
use Rattle.rb_history.specs.declared.entries.Entry.TheVariants.{Res, Full, Sub, Dis, Take}
use Rattle.rb_history.specs.declared.tally.Tally.{Tally}
use Rattle.rb_history.specs.History.{granted_span}
use Rattle.rb_chapter_ring.specs.Snapshot.{no_tally}

-- the number of records that the opening counts for a worker
abbrev pub made_before : List Tally → ℕ → ℕ
made_before tallies w = (get_or tallies w no_tally).made

abbrev pub word_len : ℕ → ℕ
word_len x = x / 8 % 2 ^ 32

abbrev pub word_worker : ℕ → ℕ
word_worker x = x / 2 ^ 35 % 256

-- the entry of a word that grants a record or refuses one, at this producer position
abbrev pub grant_or_refusal : List Tally → ℕ → ℕ → Entry
grant_or_refusal tallies p x =
    if x % 8 == 4 then Res (word_worker x) (made_before tallies (word_worker x) + x / 2 ^ 43) (word_len x) p
    else Full (word_worker x) (word_len x)

-- the entry of a word, at this producer position, given the totals of the opening
abbrev pub entry_of : List Tally → ℕ → ℕ → Entry
entry_of tallies p x =
    if x % 4 == 1 then Sub (x / 4)
    else if x % 4 == 2 then Dis (x / 4)
    else if x % 4 == 3 then Take (x / 4)
    else grant_or_refusal tallies p x

-- the entries of words, from this producer position on
abbrev pub entries_of : List Tally → ℕ → List ℕ → List Entry
entries_of tallies p [] = []
entries_of tallies p (x ∷ xs) = entry_of tallies p x ∷ entries_of tallies (p + granted_span (entry_of tallies p x)) xs

-- the numbers of an entry fit in 64 bits, and so does the producer position after it
abbrev pub IsWithin : List Tally → ℕ → Entry → Type 0
IsWithin tallies p (Res w k n q) = (w < length tallies) × (k < 2 ^ 63) × (p + granted_span (Res w k n q) ≤ 2 ^ 62)
IsWithin tallies p _ = Unit {0}

abbrev pub AreWithin : List Tally → ℕ → List ℕ → Type 0
AreWithin tallies p [] = Unit {0}
AreWithin tallies p (x ∷ xs) =
    IsWithin tallies p (entry_of tallies p x) × AreWithin tallies (p + granted_span (entry_of tallies p x)) xs
