use Rattle.std.proofs.Common.{Err, ap}
use Rattle.heskavo_c.proofs.engine_records.put_in.Goals as goal

pub returns-in-Err-Full-clause-full : goal.returns-in-Err-Full-clause-full
returns-in-Err-Full-clause-full c = λ _. record {
  full = c.in-Err-Full.ensures.full (ap Err c.in-Err-Full.field-0-is);
  new_is = λ i. record { rings = c.put.new.self.rings; programs = c.put.ensures.programs i; ctx_len = c.put.ensures.ctx_len i };
}
