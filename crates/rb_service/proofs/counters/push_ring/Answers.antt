use Rattle.rb_service.proofs.Printing.{ring_written}
use Rattle.rb_service.proofs.counters.push_ring.Goals as goal

pub returns : goal.returns
returns c = record { line = ring_written _ _ _ _ _ _ _ c.args.counts c.in_ok-push_str.ensures.bytes c.in_ok-push_str-2.ensures.bytes c.in_ok-push_requests.ensures.requests c.push_records.ensures.records }
