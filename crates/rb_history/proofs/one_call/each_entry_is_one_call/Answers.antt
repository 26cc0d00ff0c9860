use Rattle.rb_history.proofs.OneCall.{each-entry}
use Rattle.rb_history.proofs.one_call.each_entry_is_one_call.Goals as goal

pub returns : goal.returns
returns c = record { law = each-entry }
