use Rattle.std.proofs.Common.{subst}
use Rattle.rb_chapter_ring.specs.HandRing.{HandRing}
use Rattle.rb_engine.specs.RingCalls.{Outputs}
use Rattle.rb_engine.proofs.engine_ring.EngineRing.output_in.Goals as goal

pub returns-clause-sent : goal.returns-clause-sent
returns-clause-sent c = subst (λ (v : HandRing). Outputs c.args.sheet c.args.flags c.in-Ok.notice v c.output.new.self.state) c.self.view_is (record { sent = c.in-Ok.ensures.granted; same_hands = c.output.ensures.same_hands; due = c.in-Ok.ensures.notice })
