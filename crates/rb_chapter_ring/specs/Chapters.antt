-- A ring's history, divided into numbered chapters. The opening of each is a summary of the chapters before it, so that
-- these are not needed to read it (own).
--
--      number 0                        number 1                                 number 2
--     +---------+-------------------+ +---------+----------------------------+ +---------+---- -
--     | opening | entries, up to    | | opening | entries, up to             | | opening | entries
--     |         | the room          | |         | the room                   | |         |
--     +---------+-------------------+ +---------+----------------------------+ +---------+---- -
--      the empty  Res Res Full Sub     producer, consumer: the positions of the next grant and of the next take
--      ring                            records: those that were granted and not taken, in order, each with its status
--                                      tallies, consumed, skipped: the totals of all entries before
use Rattle.std.specs.Prelude.{ℕ, ◌≡◌, ◌+◌, ◌≤◌, List, [], ◌∷◌, replicate}
use Rattle.std.specs.List.{flat_map}
use Rattle.rb_history.specs.declared.entries.Entry.{Entry}
use Rattle.rb_history.specs.RoomRule.{Setup}
use Rattle.rb_chapter_ring.specs.Snapshot.{Snapshot, no_tally}
use Rattle.rb_chapter_ring.specs.CountedFrom.{snapshot_after, IsLegalFrom}

-- a chapter: its number, its room in entries, the summary of what was before it, and its entries
pub record Chapter : Type 0 where
  pub number : ℕ
  pub room : ℕ
  pub opening : Snapshot
  pub entries : List Entry

-- the possible rooms of a chapter
abbrev pub IsChapterRoom : ℕ → Type 0
IsChapterRoom room = (8 ≤ room) × (room ≤ 1048576)

-- the opening of a new ring: no records or totals, and both positions at the start
abbrev pub empty_ring : Setup → Snapshot
empty_ring r = record {
  setup = r;
  producer = r.start;
  consumer = r.start;
  records = [];
  tallies = replicate r.workers no_tally;
  consumed = 0;
  skipped = 0;
}

-- the first chapter of a ring, without entries
abbrev pub first_chapter : ℕ → Setup → Chapter
first_chapter room r = record { number = 0; room = room; opening = empty_ring r; entries = [] }

-- a chapter that belongs to no ring: number 0, no entries, and an opening of zeros except for its number of workers
abbrev pub empty_chapter : ℕ → ℕ → Chapter
empty_chapter room workers = record { number = 0; room = room; opening = empty_ring (record { size = 0; start = 0; workers = workers }); entries = [] }

-- the summary at a chapter's end
abbrev pub closing_of : Chapter → Snapshot
closing_of c = snapshot_after c.opening c.entries

-- the later chapter begins where the earlier one ends
pub record Meets (earlier later : Chapter) : Type 0 where
  pub next_number : later.number ≡ earlier.number + 1
  pub goes_on : later.opening ≡ closing_of earlier

abbrev pub IsLegalChapter : Chapter → Type 0
IsLegalChapter c = IsLegalFrom c.opening c.entries

-- the chapters after c: each meets the next, and all are legal
abbrev pub AreMeeting : Chapter → List Chapter → Type 0
AreMeeting c [] = Unit {0}
AreMeeting c (d ∷ ds) = Meets c d × IsLegalChapter d × AreMeeting d ds

-- the chapters of a ring, which begin with number 0 and the empty ring
pub record AreChaptersOf (r : Setup) (first : Chapter) (rest : List Chapter) : Type 0 where
  pub from_zero : first.number ≡ 0
  pub from_empty : first.opening ≡ empty_ring r
  pub legal : IsLegalChapter first
  pub meeting : AreMeeting first rest

-- all entries, in order
abbrev pub joined : List Chapter → List Entry
joined cs = flat_map (λ c. c.entries) cs

-- the last of the chapters that begin with c
abbrev pub last_of : Chapter → List Chapter → Chapter
last_of c [] = c
last_of c (d ∷ ds) = last_of d ds
