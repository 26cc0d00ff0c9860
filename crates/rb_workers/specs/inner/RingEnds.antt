-- How a ring is closed.
use Rattle.std.specs.Prelude.{◌≡◌, map}
use Rattle.rb_ledger.specs.ChapterClosing.{IsClosedByChapters}
use Rattle.rb_workers.specs.declared.opened.Opened.{Opened}
use Rattle.rb_workers.specs.declared.opened.Ended.{Ended}

-- this ring was closed, with exactly these seats and this consumer, and its tallies are their counts
pub record Closes {S : Type 0} (o : Opened S) (ended : Ended S) : Type 0 where
  pub which : ended.closing.shared ≡ o.ring
  pub closed : IsClosedByChapters ended.closing.at_end o.seats.items o.consumer
  pub tallies_are : ended.tallies.items ≡ map (λ s. s.tally) o.seats.items
  pub same_keeper : ended.keeper ≡ o.keeper
  pub same_sink : ended.sink ≡ o.sink
