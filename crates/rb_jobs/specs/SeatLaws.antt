-- The consequences of calls that lead from one state of a worker's seats to another: how the seats' counts grow, which
-- answers there are, and that the seats have seen what they had seen before (own).
use Rattle.std.specs.Prelude.{◌≡◌, ℕ, ◌+◌, List, ◌++◌, length}
use Rattle.std.specs.List.{AllZip}
use Rattle.rb_ledger.specs.Roles.{BeginsWith}
use Rattle.rb_ledger.specs.Seats.{WorkerSeat, IsSameSeat}
use Rattle.rb_interp.specs.declared.completed_call.Done.{Done}
use Rattle.rb_interp.specs.AnsweredCalls.{AnsweredCall, notes_of, AllMayAnswer}
use Rattle.rb_chapter_ring.specs.declared.ring_record.RingRecord.{RingRecord}
use Rattle.rb_jobs.specs.SeatHelpers.{AtSeats, Leads, SeatsLead, makes, submits, discards, fails, call_total, made_in, refused_in, submitted_in, discarded_in}

-- the same seats, whose counts grew by what these calls say; each call that failed because a ring or its chapter had no
-- room or an allocation failed is a refusal in a ring's history, or unlogged
pub record TotalsRise (calls : List Done) (unlogged : ℕ) (old new : List WorkerSeat) : Type 0 where
  pub same : AllZip IsSameSeat old new
  pub made_is : made_in new ≡ made_in old + call_total makes calls
  pub submitted_is : submitted_in new ≡ submitted_in old + call_total submits calls
  pub discarded_is : discarded_in new ≡ discarded_in old + call_total discards calls
  pub failed_is : refused_in new + unlogged ≡ refused_in old + call_total fails calls

-- if calls lead from seats to seats, the seats' counts grow by what the calls say
abbrev pub SeatsRise : Type 0
SeatsRise =
    (old new : List WorkerSeat) (calls : List (AnsweredCall RingRecord)) (unlogged : ℕ) → SeatsLead old calls unlogged new → TotalsRise (notes_of calls) unlogged old new

-- their answers are answers that helpers may give
abbrev pub SeatsMayAnswer : Type 0
SeatsMayAnswer =
    (old new : List WorkerSeat) (calls : List (AnsweredCall RingRecord)) (unlogged : ℕ) → SeatsLead old calls unlogged new → AllMayAnswer (notes_of calls)

-- what the seat has seen begins with what it had seen before
abbrev pub SeatBegins : WorkerSeat → WorkerSeat → Type 0
SeatBegins before after = BeginsWith after.seen before.seen

-- the same for each of the seats
abbrev pub SeatsGoOn : Type 0
SeatsGoOn =
    (old new : List WorkerSeat) (calls : List (AnsweredCall RingRecord)) (unlogged : ℕ) → SeatsLead old calls unlogged new → AllZip SeatBegins old new

-- the effect of calls that lead from one value of the helpers to another
pub record LeadsSeats (start : AtSeats) (calls : List (AnsweredCall RingRecord)) (now : AtSeats) : Type 0 where
  pub rings_same : now.rings ≡ start.rings
  pub trace_is : now.trace ≡ start.trace ++ notes_of calls
  pub room_is : now.room + length calls ≡ start.room
  pub unlogged : ℕ
  pub unlogged_is : now.unlogged ≡ start.unlogged + unlogged
  pub seats_led : SeatsLead start.seats calls unlogged now.seats

-- if calls lead from helpers to helpers, they lead from the seats of the former to those of the latter
abbrev pub HelpersLead : Type 0
HelpersLead = (start now : AtSeats) (calls : List (AnsweredCall RingRecord)) → Leads start calls now → LeadsSeats start calls now
