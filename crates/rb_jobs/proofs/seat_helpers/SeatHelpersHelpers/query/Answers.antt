use Rattle.rb_jobs.proofs.Noting.{one_call, queried}
use Rattle.rb_jobs.proofs.seat_helpers.SeatHelpersHelpers.query.Goals as goal

pub returns-clause-call : goal.returns-clause-call
returns-clause-call g c =
    queried c.args.self.now c.try_query-answer.new.self _ _ _ _ c.try_query-answer.ensures.rest c.try_query-answer.ensures.seat c.requires.room c.log.ensures.noted

pub returns-clause-called : goal.returns-clause-called
returns-clause-called g c = one_call _ _ _ (returns-clause-call g c)
