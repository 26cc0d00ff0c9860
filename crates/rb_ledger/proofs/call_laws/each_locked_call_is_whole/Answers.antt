use Rattle.rb_ledger.proofs.WholeCalls.{each-call-is-whole}
use Rattle.rb_ledger.proofs.call_laws.each_locked_call_is_whole.Goals as goal

pub returns : goal.returns
returns c = record { law = each-call-is-whole }
