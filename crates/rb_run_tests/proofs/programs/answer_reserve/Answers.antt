use Rattle.rb_semantics.specs.declared.pending_call.PendingCall.TheVariants.{Reserve}
use Rattle.rb_run_tests.proofs.programs.answer_reserve.Goals as goal

pub returns-in-Some : goal.returns-in-Some
returns-in-Some c = record { ready = (c.answer.ensures.goes_on (Reserve c.args.len) c.requires.waits).1 }

pub returns-in-None : goal.returns-in-None
returns-in-None c = record { ready = (c.answer-in-None.ensures.goes_on (Reserve c.args.len) c.requires.waits).1 }
