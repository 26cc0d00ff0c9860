-- What a seat's pass knows between calls.
use Rattle.std.specs.Prelude.{◌≡◌, ℕ, List, [], ◌∷◌, None}
use Rattle.rb_history.specs.RingModel.{Contents}
use Rattle.rb_chapter_ring.specs.Chapters.{Chapter}
use Rattle.rb_ledger.specs.Roles.{Role, Book}
use Rattle.rb_ledger.specs.RoleKnowledge.{role_knowledge}
use Rattle.rb_ledger.specs.inner.SeatPasses.{seen_in, pass_bytes}
use Rattle.rb_ledger.specs.ChapterKnowledge.{ChapterKnowledge, ChapterPassView, chapter_view, whole_view}

-- the whole history that it has seen, and its bytes
abbrev pub seen_by : ChapterPassView → Book
seen_by v = seen_in (whole_view v)

abbrev pub bytes_by : ChapterPassView → Contents
bytes_by v = pass_bytes (whole_view v)

-- the chapters' room, and the chapters that were handed out, as its first role knows them
abbrev pub first_room : List ChapterKnowledge → ℕ
first_room [] = 0
first_room (k ∷ ks) = k.room

abbrev pub first_handed_out : List ChapterKnowledge → List Chapter
first_handed_out [] = []
first_handed_out (k ∷ ks) = k.handed_out

abbrev pub room_by : ChapterPassView → ℕ
room_by v = first_room v.knows

abbrev pub handed_out_by : ChapterPassView → List Chapter
handed_out_by v = first_handed_out v.knows

-- what a pass with this one role knows
abbrev pub known_as : Role → ChapterPassView → ChapterKnowledge
known_as role v = record { whole = role_knowledge role (seen_by v) (bytes_by v); room = room_by v; handed_out = handed_out_by v }

-- the pass has this one role, and does not hold the state
abbrev pub IsIdleIn : Role → ChapterPassView → Type 0
IsIdleIn role v = v ≡ chapter_view (known_as role v ∷ []) None
