use Rattle.rb_jobs.proofs.Leading.{leads_seats}
use Rattle.rb_jobs.proofs.seat_laws.helpers_lead.Goals as goal

pub returns : goal.returns
returns c = leads_seats
