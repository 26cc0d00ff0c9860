use Rattle.std.proofs.Common.{ap, sym, is_ok}
use Rattle.rb_jobs.proofs.Noting.{one_call, ended}
use Rattle.rb_jobs.proofs.seat_helpers.SeatHelpers.give_back.Goals as goal

pub returns-in-Ok-clause-call : goal.returns-in-Ok-clause-call
returns-in-Ok-clause-call g c =
    ended c.args.end c.args.self.now c.try_give_back-answer.new.self _ c.args.owned _ _ _ _ _ (sym (ap (λ x. is_ok x) c.in-Ok.is)) (sym (ap (λ x. is_ok x) c.in-Ok.is)) c.note_of_end.ensures c.try_give_back-answer.ensures.rest
    c.try_give_back-answer.ensures.seat c.requires.room c.log.ensures.noted

pub returns-in-Ok-clause-called : goal.returns-in-Ok-clause-called
returns-in-Ok-clause-called g c = one_call _ _ _ (returns-in-Ok-clause-call g c)

pub returns-in-Err-clause-call : goal.returns-in-Err-clause-call
returns-in-Err-clause-call g c =
    ended c.args.end c.args.self.now c.try_give_back-answer.new.self _ c.args.owned _ _ _ _ _ (sym (ap (λ x. is_ok x) c.in-Err.is)) (sym (ap (λ x. is_ok x) c.in-Err.is)) c.note_of_end-in-Err.ensures c.try_give_back-answer.ensures.rest
    c.try_give_back-answer.ensures.seat c.requires.room c.log-in-Err.ensures.noted

pub returns-in-Err-clause-called : goal.returns-in-Err-clause-called
returns-in-Err-clause-called g c = one_call _ _ _ (returns-in-Err-clause-call g c)
