use Rattle.rb_ledger.proofs.BoundChapters.{binds-where-it-may, gathered-bind}
use Rattle.rb_ledger.proofs.binding_laws.chapters_may_be_bound.Goals as goal

pub returns : goal.returns
returns c = record { exact = binds-where-it-may; handed_out = gathered-bind }
