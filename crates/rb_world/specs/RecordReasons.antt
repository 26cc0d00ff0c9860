-- Reasons for which a worker's call gets no record (own).
use Rattle.std.specs.Prelude.{ℕ, ◌≡◌, ◌⊎◌, ◌<◌, ◌≤◌, List, length}
use Rattle.std.specs.List.{slice_index_or}
use Rattle.rb_chapter_ring.specs.ChapterCalls.{FindsFullByChapter, FindsChapterFull, OutputsByChapter}
use Rattle.rb_chapter_ring.specs.HandRing.{HandRing, GrantsToHand}
use Rattle.rb_chapter_ring.specs.Hands.{AreAllOut, hands_of}
use Rattle.rb_semantics.specs.ProgramStates.{State}
use Rattle.rb_semantics.specs.HelperCalls.{Reserve, Output}
use Rattle.rb_semantics.specs.Instructions.{Asks, next_step}
use Rattle.rb_world.specs.Worlds.{Running, WorkerState}
use Rattle.rb_world.specs.WorldValue.{KeptRing, WorldValue, no_kept_ring, world_of}
use Rattle.rb_world.specs.declared.actor.Actor.{Actor}
use Rattle.rb_world.specs.declared.actor.Actor.TheVariants.{Worker}

-- the ring has no room for n bytes, and logs the refusal; or its chapter has no room for the entries, and nothing
-- changes
abbrev pub FindsNoRoom : (w n : ℕ) → HandRing → HandRing → Type 0
FindsNoRoom w n old new = (FindsFullByChapter old.ring new.ring w n ⊎ FindsChapterFull old.ring new.ring w n) × (new.hands ≡ old.hands)

-- A reserve of n bytes gets a record in a hand of the worker, or has one of these reasons: no room; all of the worker's
-- hands are in use; or more than 16 bytes are requested, for which memory may be refused. Nothing changes for the last
-- two.
abbrev pub ReservesOrHasReason : (w n : ℕ) → HandRing → HandRing → Type 0
ReservesOrHasReason w n old new =
    ((hand : ℕ) × (p : ℕ) × (k : ℕ) × GrantsToHand old new w hand n p k) ⊎ (FindsNoRoom w n old new ⊎ ((AreAllOut (hands_of old.hands w) ⊎ (16 < n)) × (new ≡ old)))

-- the same for an output, which needs no hand
abbrev pub OutputsOrHasReason : (w : ℕ) → List ℕ → HandRing → HandRing → Type 0
OutputsOrHasReason w bytes old new =
    (OutputsByChapter old.ring new.ring w bytes × (new.hands ≡ old.hands)) ⊎ (FindsNoRoom w (length bytes) old new ⊎ ((16 < length bytes) × (new ≡ old)))

-- the ring with this number, with its hands
abbrev pub hands_at : List KeptRing → ℕ → HandRing
hands_at rings r = (slice_index_or rings r no_kept_ring).ring.state

-- if a running worker's next step is a reserve with flags 0 or an output with flags up to 3, then the ring that the
-- call names makes a record or has a reason not to
pub record HasReasons (w : ℕ) (x : WorkerState) (old new : List KeptRing) : Type 0 where
  pub reserve : (id r n : ℕ) (t : State) → x.status ≡ Running → next_step x.subject.program x.state ≡ Asks (Reserve id r n 0) t
      → ReservesOrHasReason w n (hands_at old r) (hands_at new r)
  pub output : (r flags : ℕ) (bytes : List ℕ) (t : State) → flags ≤ 3 → x.status ≡ Running → next_step x.subject.program x.state ≡ Asks (Output r bytes flags) t
      → OutputsOrHasReason w bytes (hands_at old r) (hands_at new r)

-- this holds for a worker's turn
abbrev pub TurnHasReasons : Actor → WorldValue → WorldValue → Type 0
TurnHasReasons (Worker w) old new = HasReasons w ((world_of old).workers w) old.rings new.rings
TurnHasReasons actor old new = Unit {0}
