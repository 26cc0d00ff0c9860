use Rattle.std.proofs.Common.{◌-◌, ap}
use Rattle.heskavo_c.proofs.Records.{discarded_written}
use Rattle.heskavo_c.proofs.tapes.put_discarded.Goals as goal

pub returns : goal.returns
returns c = discarded_written c.args.size c.args.position c.header_at-header.result c.args.tape.now c.put_parts.new.out c.args.len (c.span.result - 8) c.header_at-header.ensures (ap (λ n. n - 8) c.span.ensures.value) c.put_parts.ensures
