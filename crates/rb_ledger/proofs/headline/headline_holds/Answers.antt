use Rattle.rb_ledger.proofs.Runs.{whenever-free, once-gathered}
use Rattle.rb_ledger.proofs.headline.headline_holds.Goals as goal

pub returns : goal.returns
returns c = record { whenever_free = whenever-free; once_gathered = once-gathered }
