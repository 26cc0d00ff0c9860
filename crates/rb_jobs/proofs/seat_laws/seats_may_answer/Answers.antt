use Rattle.rb_jobs.proofs.Leading.{all_may_answer}
use Rattle.rb_jobs.proofs.seat_laws.seats_may_answer.Goals as goal

pub returns : goal.returns
returns c = all_may_answer
