-- The check of a text, combined from its parts.
use Rattle.std.proofs.Common.{◌≡◌, ℕ, List, map, sym, ◌∙◌, subst}
use Rattle.rb_ledger.specs.Seats.{Shared, WorkerSeat}
use Rattle.rb_ledger.specs.ChapterSeats.{ChapterConsumerSeat}
use Rattle.rb_jobs.specs.SeatHelpers.{AtRings}
use Rattle.rb_history.specs.declared.answers.Taken.{Taken}
use Rattle.rb_loader.specs.StandIn.{StandsFor}
use Rattle.rb_loader.proofs.StandIns.{accepted}
use Rattle.rb_run_commands.specs.Check.{Checks}
use Rattle.rb_run_commands.specs.DrainedRings.{AreConsumersOf}
use Rattle.rb_run_commands.specs.FreshRings.{fresh_worker, fresh_taker}
use Rattle.rb_run_commands.proofs.Fresh.{fresh_at, fresh_consumers}

-- the seats of fresh rings belong to these rings
pub seats_at : (rings lent : List Shared) (seats : List WorkerSeat) → lent ≡ rings → seats ≡ map fresh_worker rings → AtRings lent seats
seats_at rings lent seats same fresh = subst (λ r. AtRings r seats) (sym same) (subst (AtRings rings) (sym fresh) (fresh_at rings))

-- so do their consumers
pub consumers_at : (rings lent : List Shared) (consumers given : List ChapterConsumerSeat) → lent ≡ rings → given ≡ consumers → consumers ≡ map fresh_taker rings → AreConsumersOf lent given
consumers_at rings lent consumers given same is fresh =
    subst (λ r. AreConsumersOf r given) (sym same) (subst (AreConsumersOf rings) (sym (is ∙ fresh)) (fresh_consumers rings))

-- what was checked for a text that represents an input was checked for the input
pub checks_moves : (input text : List ℕ) → StandsFor input text → (ctx_len rings value : ℕ) (records : List (List Taken)) → Checks text ctx_len rings value records
    → Checks input ctx_len rings value records
checks_moves input text stands ctx_len rings value records c =
    let ran = c.ran in
    record {
      rings = c.rings;
      seats = c.seats;
      ran = record { subject = ran.subject; accepted = accepted input text stands ctx_len rings ran.subject ran.accepted; numbered = ran.numbered; ran = ran.ran };
      drained = c.drained;
    }
