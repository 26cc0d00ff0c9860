use Rattle.rb_jobs.proofs.Noting.{number_fits, one_call, output}
use Rattle.rb_jobs.proofs.seat_helpers.SeatHelpersHelpers.output.Goals as goal

pub returns-clause-call : goal.returns-clause-call
returns-clause-call g c =
    output c.args.self.now c.try_output-answer.new.self _ _ _ _ _ _ _ (number_fits _ _ c.answer_of-number.ensures) c.is_unlogged-unlogged.ensures
    c.try_output-answer.ensures.rest c.try_output-answer.ensures.flags c.try_output-answer.ensures.no_step c.try_output-answer.ensures.seat c.requires.room c.log.ensures.noted

pub returns-clause-called : goal.returns-clause-called
returns-clause-called g c = one_call _ _ _ (returns-clause-call g c)
