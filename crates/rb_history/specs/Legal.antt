-- Which histories a ring may have.
use Rattle.std.specs.Prelude.{ℕ, ◌≡◌, ◌<◌, ◌||◌, true, false, List, ◌∷◌, ◌++◌}
use Rattle.rb_history.specs.declared.entries.Entry.{Entry}
use Rattle.rb_history.specs.declared.entries.Entry.TheVariants.{Res, Full, Sub, Dis, Take}
use Rattle.rb_history.specs.History.{is_granted_at, is_submitted_at, is_discarded_at, producer_of, consumer_of, grants}
use Rattle.rb_history.specs.RoomRule.{Setup, HasRoomFor}

-- The entry e may come next after the history b. Records lie one after the other in the order of their grants; each is
-- submitted or discarded at most once; they are taken in order, and never while busy (ringbuf.rst: strict ordering).
-- For example, after Res(0, 0, 8, 0) in a ring that starts at 0, the next grant to worker 0 is Res(0, 1, n, 16), Sub(0)
-- and Dis(0) may follow, and Take(0) only after one of the two.
abbrev pub MayFollow : Setup → List Entry → Entry → Type 0
MayFollow r b (Res w k n p) = (w < r.workers) × (p ≡ producer_of r.start b) × (k ≡ grants w b) × HasRoomFor r b n
MayFollow r b (Full w n) = (w < r.workers) × ¬ HasRoomFor r b n
MayFollow r b (Sub p) = (is_granted_at b p ≡ true) × (is_submitted_at b p ≡ false) × (is_discarded_at b p ≡ false)
MayFollow r b (Dis p) = (is_granted_at b p ≡ true) × (is_submitted_at b p ≡ false) × (is_discarded_at b p ≡ false)
MayFollow r b (Take p) = (p ≡ consumer_of r.start b) × ((is_submitted_at b p || is_discarded_at b p) ≡ true)

-- each entry may follow the entries before it
pub record IsLegal (r : Setup) (h : List Entry) : Type 0 where
  pub each : (before : List Entry) (e : Entry) (after : List Entry) → h ≡ before ++ e ∷ after → MayFollow r before e
