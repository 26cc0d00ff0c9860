-- The invariants of a shared ring's seats between calls.
use Rattle.std.specs.Prelude.{◌≡◌, ℕ, ◌+◌, ◌*◌, ◌≤◌, length}
use Rattle.rb_history.specs.declared.tally.Tally.{Tally}
use Rattle.rb_ledger.specs.Roles.Role.{Consumer, Worker}
use Rattle.rb_ledger.specs.Seats.{IsBook, Ties, ConsumerTies}
use Rattle.rb_ledger.specs.HandKnowledge.{HandPassView}
use Rattle.rb_shared_ring.specs.inner.HandPasses.{seen_with, room_with, handed_out_with, IsIdleWith}

-- a worker's seat: its pass has this role alone, and its counts are those of its worker's entries in the whole history
-- that it has seen
pub record KeepsWorker (v : HandPassView) (worker : ℕ) (tally : Tally) : Type 0 where
  pub idle : IsIdleWith (Worker worker) v
  pub book : IsBook (seen_with v)
  pub ties : Ties worker tally (seen_with v)

-- the consumer's counts: those of the takes that it saw, each of which advanced its position by at least a header
pub record CountsTakes (v : HandPassView) (consumed skipped position : ℕ) : Type 0 where
  pub ties : ConsumerTies consumed skipped position (seen_with v)
  pub spaced : 8 * (consumed + skipped) ≤ position

-- the consumer's seat: its pass has the consumer's role alone, and its parameters and chapters are those that its pass
-- knows
pub record KeepsConsumer (v : HandPassView) (size workers room chapters : ℕ) : Type 0 where
  pub idle : IsIdleWith Consumer v
  pub book : IsBook (seen_with v)
  pub size_is : size ≡ (seen_with v).setup.size
  pub workers_are : workers ≡ (seen_with v).setup.workers
  pub room_is : room ≡ room_with v
  pub chapters_are : chapters ≡ length (handed_out_with v)
