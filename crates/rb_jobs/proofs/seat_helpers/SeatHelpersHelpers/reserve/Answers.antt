use Rattle.std.proofs.Common.{ap, is_ok, sym}
use Rattle.rb_jobs.proofs.Noting.{one_call, record_in, reserved}
use Rattle.rb_jobs.proofs.seat_helpers.SeatHelpersHelpers.reserve.Goals as goal

pub returns-in-Ok-clause-call : goal.returns-in-Ok-clause-call
returns-in-Ok-clause-call g c =
    reserved c.args.self.now c.try_reserve-answer.new.self _ c.args.ring _ _ _ _ _ _ (sym (ap (λ x. record_in c.args.ring x) c.in-Ok.is)) (sym (ap (λ x. is_ok x) c.in-Ok.is)) c.is_unlogged-unlogged.ensures
    c.try_reserve-answer.ensures.rest c.try_reserve-answer.ensures.flags c.try_reserve-answer.ensures.no_step c.try_reserve-answer.ensures.seat c.requires.room c.log.ensures.noted

pub returns-in-Ok-clause-called : goal.returns-in-Ok-clause-called
returns-in-Ok-clause-called g c = one_call _ _ _ (returns-in-Ok-clause-call g c)

pub returns-in-Err-clause-call : goal.returns-in-Err-clause-call
returns-in-Err-clause-call g c =
    reserved c.args.self.now c.try_reserve-answer.new.self _ c.args.ring _ _ _ _ _ _ (sym (ap (λ x. record_in c.args.ring x) c.in-Err.is)) (sym (ap (λ x. is_ok x) c.in-Err.is)) c.is_unlogged-unlogged.ensures
    c.try_reserve-answer.ensures.rest c.try_reserve-answer.ensures.flags c.try_reserve-answer.ensures.no_step c.try_reserve-answer.ensures.seat c.requires.room c.log-in-Err.ensures.noted

pub returns-in-Err-clause-called : goal.returns-in-Err-clause-called
returns-in-Err-clause-called g c = one_call _ _ _ (returns-in-Err-clause-call g c)
