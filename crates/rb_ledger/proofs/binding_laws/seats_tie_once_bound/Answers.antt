use Rattle.rb_ledger.proofs.BoundChapters.{tied-once-bound}
use Rattle.rb_ledger.proofs.binding_laws.seats_tie_once_bound.Goals as goal

pub returns : goal.returns
returns c = record { law = tied-once-bound }
