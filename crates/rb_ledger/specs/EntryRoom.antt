-- The room that a shared ring has for entries, over its whole history. The first `cut` entries were handed out in
-- chapters; the ring keeps the others, and reserves room for everything that its records will log (own). For example,
-- with two busy records, two entries kept and a room of 8: used 2, owed 4, and no third grant, since 2 + 4 + 3 is more
-- than 8.
use Rattle.std.specs.Prelude.{ℕ, ◌≡◌, ◌+◌, ◌-◌, ◌<◌, ◌≤◌, ◌^◌, List, ◌++◌, length}
use Rattle.rb_history.specs.declared.entries.Entry.{Entry}
use Rattle.rb_history.specs.History.{records}
use Rattle.rb_history.specs.WorkerCounts.{tally_of}
use Rattle.rb_history.specs.RingModel.{Ring}
use Rattle.rb_history.specs.Calls.{RingHasRoom}
use Rattle.rb_chapter_ring.specs.Chapters.{IsChapterRoom}
use Rattle.rb_chapter_ring.specs.ChapterRoom.{owed_for}

-- the number of entries that its records will still log: two for a busy one, its commit and its take, and one for any
-- other
abbrev pub owed_by : Ring → ℕ
owed_by v = owed_for (records v.history)

-- there is room for `more` entries besides those that the ring keeps, which are used, and those that are owed
abbrev pub HasEntryRoom : (room cut more : ℕ) → Ring → Type 0
HasEntryRoom room cut more v = (length v.history - cut) + owed_by v + more ≤ room

-- there is room for a grant, and for the commit and the take of its record
abbrev pub MayLogGrant : (room cut : ℕ) → Ring → Type 0
MayLogGrant room cut v = HasEntryRoom room cut 3 v

-- a refusal of the worker may be logged: there is room, and the worker has fewer than 2^62 refusals, so that their
-- number fits in 64 bits
abbrev pub MayLogRefusal : (room cut w : ℕ) → Ring → Type 0
MayLogRefusal room cut w v = HasEntryRoom room cut 1 v × ((tally_of w v.history).refused < 2 ^ 62)

-- there is no room for the entry that the worker's call for n bytes would log: for a grant if the ring has room for the
-- record, otherwise for the refusal; nothing changes
pub record FindsNoEntryRoom (room cut : ℕ) (old new : Ring) (w n : ℕ) : Type 0 where
  pub no_grant : RingHasRoom old n → ¬ MayLogGrant room cut old
  pub no_refusal : ¬ RingHasRoom old n → ¬ MayLogRefusal room cut w old
  pub same : new ≡ old

-- a call of a ring with this room, whose first `cut` entries were handed out; before and after it there is room for
-- everything that is owed
pub record InRoom (room cut : ℕ) (Call : Ring → Ring → Type 0) (old new : Ring) : Type 0 where
  pub within : IsChapterRoom room
  pub handed_out : cut ≤ length old.history
  pub owed_before : HasEntryRoom room cut 0 old
  pub owed_after : HasEntryRoom room cut 0 new
  pub called : Call old new

-- the same for the consumer, which knows the entries that were handed out: the history begins with them
pub record InRoomBehind (room : ℕ) (handed_out : List Entry) (Call : Ring → Ring → Type 0) (old new : Ring) : Type 0 where
  pub behind : List Entry
  pub begins : old.history ≡ handed_out ++ behind
  pub in_room : InRoom room (length handed_out) Call old new
