-- The calls on a shared ring, by their results, are those of a ring that keeps its whole history (own).
use Rattle.std.specs.Prelude.{ℕ, List, Result, Ok, Err}
use Rattle.rb_history.specs.declared.answers.Notice.{Notice}
use Rattle.rb_history.specs.declared.answers.NoGrant.{NoGrant}
use Rattle.rb_history.specs.declared.answers.NoGrant.TheVariants.{Full as WholeFull, Memory, Flags as WholeFlags}
use Rattle.rb_history.specs.ReservationModel.{Granted}
use Rattle.rb_chapter_ring.specs.declared.faults.ReserveFault.{ReserveFault}
use Rattle.rb_chapter_ring.specs.declared.faults.ReserveFault.TheVariants.{Full, Flags, ChapterFull, Foreign, HandsFull}
use Rattle.rb_ledger.specs.Roles.{Book}
use Rattle.rb_ledger.specs.Roles.Role.{Worker}
use Rattle.rb_ledger.specs.LockedCalls.{LockedCall, Reserves, OutputsAt}
use Rattle.rb_ledger.specs.EntryRoom.{InRoom}
use Rattle.rb_shared_ring.specs.SharedCalls.{ReservesInRoom, OutputsInRoom}

-- For a ring that keeps its whole history, a refusal that is not logged and changes nothing is the same as a lack of
-- memory: a lack of room for entries, a foreign seat (whose call is not a call of the ring), and the lack of a free
-- hand.
abbrev pub whole_fault : ReserveFault → NoGrant
whole_fault Full = WholeFull
whole_fault Flags = WholeFlags
whole_fault ChapterFull = Memory
whole_fault Foreign = Memory
whole_fault HandsFull = Memory

abbrev pub whole_answer : {A : Type 0} → Result A (ReserveFault × List ℕ) → Result A (NoGrant × List ℕ)
whole_answer (Ok a) = Ok a
whole_answer (Err e) = Err (whole_fault e.0, e.1)

pub record AreWholeAnswers (before after : Book) : Type 0 where
  pub reserves : (room cut w n : ℕ) (answer : Result Granted (ReserveFault × List ℕ))
      → LockedCall (Worker w) before after (InRoom room cut (ReservesInRoom room cut w n answer)) → LockedCall (Worker w) before after (Reserves w n (whole_answer answer))
  pub outputs : (room cut w : ℕ) (bytes : List ℕ) (flags : ℕ) (answer : Result Notice (ReserveFault × List ℕ))
      → LockedCall (Worker w) before after (InRoom room cut (OutputsInRoom room cut w bytes flags answer)) → LockedCall (Worker w) before after (OutputsAt w bytes flags (whole_answer answer))

abbrev pub EachAnswerIsWhole : Type 0
EachAnswerIsWhole = (before after : Book) → AreWholeAnswers before after
