-- What a seat knows about the chapters that its ring handed out, and the room for entries that handing one out makes
-- (own). For example, with chapters of 8 entries, of which 6 are in use, a grant finds no room. Once that chapter was
-- handed out and the consumer took a record, a grant by a worker that sees the take finds room again.
use Rattle.std.specs.Prelude.{◌≡◌, ℕ, ◌+◌, ◌-◌, ◌<◌, ◌≤◌, List, ◌++◌, All, length, take}
use Rattle.rb_history.specs.RingModel.{Ring}
use Rattle.rb_history.specs.Calls.{RingHasRoom}
use Rattle.rb_chapter_ring.specs.Chapters.{Chapter, joined}
use Rattle.rb_ledger.specs.Seats.{WorkerSeat}
use Rattle.rb_ledger.specs.EntryRoom.{owed_by, FindsNoEntryRoom}

-- Of these chapters, all of which have been handed out by now, the first ones, with `cut` entries in total, had been
-- handed out when `seen` entries of the history were seen. The next of them, if there is one, was handed out later, so
-- it extends at least as far as what was seen.
pub record IsCutOf (handed_out : List Chapter) (cut seen : ℕ) : Type 0 where
  pub chapters : ℕ
  pub within : chapters ≤ length handed_out
  pub cut_is : cut ≡ length (joined (take chapters handed_out))
  pub next_is_later : chapters < length handed_out → seen ≤ length (joined (take (chapters + 1) handed_out))

-- the entries that each seat knew at its last call to be handed out had been, in these chapters
abbrev pub KnewHandedOut : List Chapter → List WorkerSeat → Type 0
KnewHandedOut handed_out seats = All (λ s. IsCutOf handed_out s.cut (length s.seen.history)) seats

-- chapters that end before what was seen were known to be handed out
abbrev pub HandedOutIsKnown : Type 0
HandedOutIsKnown =
    (handed_out front later : List Chapter) (cut seen : ℕ) → handed_out ≡ front ++ later → IsCutOf handed_out cut seen
    → length (joined front) < seen → length (joined front) ≤ cut

-- So if the entries after those chapters, with what they owe, leave room for those of a grant, and the ring has room
-- for the record, no call finds the chapter full.
abbrev pub HandingOutMakesRoom : Type 0
HandingOutMakesRoom =
    (handed_out front later : List Chapter) (room cut w n : ℕ) (old new : Ring) → handed_out ≡ front ++ later → IsCutOf handed_out cut (length old.history)
    → length (joined front) < length old.history → (length old.history - length (joined front)) + owed_by old + 3 ≤ room → RingHasRoom old n
    → ¬ FindsNoEntryRoom room cut old new w n
