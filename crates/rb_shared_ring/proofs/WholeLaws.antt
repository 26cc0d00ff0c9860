-- Each call with room for entries, by its result, is a call over the whole history.
use Rattle.std.proofs.Common.{ℕ, List, length, Result, Ok, Err}
use Rattle.rb_history.specs.declared.answers.Notice.{Notice}
use Rattle.rb_history.specs.ReservationModel.{Granted}
use Rattle.rb_history.specs.RingModel.{Ring}
use Rattle.rb_history.specs.Calls.{Refuses}
use Rattle.rb_chapter_ring.specs.declared.faults.ReserveFault.{ReserveFault}
use Rattle.rb_chapter_ring.specs.declared.faults.ReserveFault.TheVariants.{Full, Flags, ChapterFull, Foreign, HandsFull}
use Rattle.rb_ledger.specs.Roles.Role.{Worker}
use Rattle.rb_ledger.specs.LockedCalls.{Reserves, OutputsAt}
use Rattle.rb_ledger.proofs.EntryRoom.{without-room}
use Rattle.rb_shared_ring.specs.SharedCalls.{RefusesInRoom, ReservesInRoom, OutputsInRoom}
use Rattle.rb_shared_ring.specs.AnswersOverAll.{whole_fault, whole_answer, EachAnswerIsWhole}
use Rattle.rb_shared_ring.proofs.WholeAnswers.{flags-not, flags-exact}

refuses-over-all : (room cut w n : ℕ) (f : ReserveFault) (old new : Ring) → RefusesInRoom room cut old new w n f → Refuses old new w n (whole_fault f)
refuses-over-all room cut w n Full old new a = a.0
refuses-over-all room cut w n Flags old new a = a
refuses-over-all room cut w n ChapterFull old new a = a.same
refuses-over-all room cut w n Foreign old new a = absurd a
refuses-over-all room cut w n HandsFull old new a = absurd a

reserves-over-all : (room cut w n : ℕ) (a : Result Granted (ReserveFault × List ℕ)) (old new : Ring) → ReservesInRoom room cut w n a old new → Reserves w n (whole_answer a) old new
reserves-over-all room cut w n (Ok r) old new a = (a.0, a.2, a.3)
reserves-over-all room cut w n (Err e) old new a = (refuses-over-all room cut w n e.0 old new a.0, flags-not e.0 a.1)

outputs-over-all : (room cut w : ℕ) (b : List ℕ) (flags : ℕ) (a : Result Notice (ReserveFault × List ℕ)) (old new : Ring) → OutputsInRoom room cut w b flags a old new → OutputsAt w b flags (whole_answer a) old new
outputs-over-all room cut w b flags (Ok n) old new a = (a.0, a.2, a.3)
outputs-over-all room cut w b flags (Err e) old new a = (refuses-over-all room cut w (length b) e.0 old new a.0, flags-exact e.0 _ a.1)

pub each-answer-is-whole : EachAnswerIsWhole
each-answer-is-whole before after = record {
  reserves = λ room cut w n answer. without-room (Worker w) before after room cut (ReservesInRoom room cut w n answer) (Reserves w n (whole_answer answer)) (reserves-over-all room cut w n answer);
  outputs = λ room cut w bytes flags answer.
      without-room (Worker w) before after room cut (OutputsInRoom room cut w bytes flags answer) (OutputsAt w bytes flags (whole_answer answer)) (outputs-over-all room cut w bytes flags answer);
}
