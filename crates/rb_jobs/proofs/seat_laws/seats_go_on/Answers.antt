use Rattle.rb_jobs.proofs.Beginnings.{seats_go_on}
use Rattle.rb_jobs.proofs.seat_laws.seats_go_on.Goals as goal

pub returns : goal.returns
returns c = seats_go_on
