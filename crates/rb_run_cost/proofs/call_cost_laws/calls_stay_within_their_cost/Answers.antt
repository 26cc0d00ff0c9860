use Rattle.rb_run_cost.proofs.TracedCalls.{calls_stay}
use Rattle.rb_run_cost.proofs.call_cost_laws.calls_stay_within_their_cost.Goals as goal

pub returns : goal.returns
returns g c = calls_stay g.H.Record.Lent.bytes_of g.H.Record.Lent.with_bytes
