use Rattle.rb_semantics.specs.declared.pending_call.PendingCall.TheVariants.{GiveBack}
use Rattle.rb_run_tests.proofs.programs.answer_submit.Goals as goal

pub returns : goal.returns
returns c = record { ready = (c.answer.ensures.goes_on GiveBack c.requires.waits).1 }
