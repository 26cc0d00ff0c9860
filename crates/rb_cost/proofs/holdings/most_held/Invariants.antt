use Rattle.rb_cost.specs.inner.Pass.{IsMostBefore, records_held, bytes_held}
use Rattle.rb_cost.proofs.holdings.most_held.Given as goal

abbrev pub invariant-loop-unit : goal.invariant-loop-unit
invariant-loop-unit l = record {
  records : IsMostBefore l.program (records_held l.states l.ring) l.most.records l.unit;
  bytes : IsMostBefore l.program (bytes_held l.states l.ring) l.most.bytes l.unit;
}
