use Rattle.rb_ledger.proofs.ChapterSteps.{calls-may-put, hands-out-may-put, facts-make-ring}
use Rattle.rb_ledger.proofs.lock_laws.state_may_be_put_back.Goals as goal

pub returns : goal.returns
returns c = record { after_a_call = calls-may-put; handed_out = hands-out-may-put; facts = facts-make-ring }
