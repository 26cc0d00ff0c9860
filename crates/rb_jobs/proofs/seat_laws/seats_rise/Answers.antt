use Rattle.rb_jobs.proofs.Totals.{totals_rise}
use Rattle.rb_jobs.proofs.seat_laws.seats_rise.Goals as goal

pub returns : goal.returns
returns c = totals_rise
