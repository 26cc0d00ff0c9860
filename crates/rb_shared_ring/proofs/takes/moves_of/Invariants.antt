use Rattle.std.proofs.Common.{◌≡◌, take}
use Rattle.rb_ledger.specs.ManyTakes.{events_among, skips_among, span_among}
use Rattle.rb_shared_ring.proofs.takes.moves_of.Given as goal

abbrev pub invariant-loop-answer : goal.invariant-loop-answer
invariant-loop-answer l = record {
  events : l.moves.events ≡ events_among (take l.answer-index l.answers);
  skips : l.moves.skips ≡ skips_among (take l.answer-index l.answers);
  span : l.moves.span ≡ span_among (take l.answer-index l.answers);
}
