use Rattle.rb_service.proofs.Printing.{requests_written}
use Rattle.rb_service.proofs.counters.push_requests.Goals as goal

pub returns : goal.returns
returns c = record { requests = requests_written _ _ _ c.args.counts c.write.ensures.bytes }
