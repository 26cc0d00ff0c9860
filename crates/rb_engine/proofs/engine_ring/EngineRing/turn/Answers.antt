use Rattle.std.proofs.Common.{subst}
use Rattle.rb_chapter_ring.specs.HandRing.{HandRing}
use Rattle.rb_chapter_ring.specs.TaggedRing.{TaggedRing}
use Rattle.rb_engine.specs.RingTurns.{MayTurn}
use Rattle.rb_engine.proofs.RingTurns.{turned-by, same-state}
use Rattle.rb_engine.proofs.engine_ring.EngineRing.turn.Goals as goal

pub returns : goal.returns
returns c =
    let old : TaggedRing = c.self.inside.ring in
    let new : TaggedRing = c.hand_out-answer.new.self in
    let a = c.hand_out-answer.ensures in
    record { turned = subst (λ (v : HandRing). MayTurn v new.state) c.self.view_is (turned-by c.hand_out-answer.result old.state new.state a.handed_out (same-state c.hand_out-answer.result old new a.unchanged) a.same_hands) }
