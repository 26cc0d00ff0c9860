use Rattle.rb_ledger.proofs.Sums.{once-closed}
use Rattle.rb_ledger.proofs.seat_counts.numbers_agree.Goals as goal

pub returns : goal.returns
returns c = record { once_closed = once-closed }
