use Rattle.std.proofs.Common.{◌≡◌, ◌<◌, length, refl, ap, rules}
use Rattle.rb_engine.specs.EngineCalls.{RunRings}
use Rattle.rb_chapter_ring.specs.RecordEnds.{EndsFromHand}
use Rattle.rb_chapter_ring.specs.HandRing.{HasInHand}
use Rattle.rb_engine.specs.EngineCalls.{IsStillOut}
use Rattle.rb_engine.proofs.OneRing.{at-ring, ring-read}
use Rattle.rb_engine.proofs.Noting.{true-apart}
use Rattle.rb_engine.proofs.engine_rings.EngineRings.try_end.Goals as goal

pub returns-clause-answered : goal.returns-clause-answered
returns-clause-answered c =
    let below : c.args.owned.ring < length c.self.inside.rings.items = search rules in
    let out : HasInHand c.index_mut.result.now c.args.owned.reservation.hand c.args.owned.reservation.granted = search rules in
    let own : c.args.owned.reservation.granted.worker ≡ 0 = search rules in
    let are = ap (λ (h : RunRings). h.rings) c.self.view_is in
    let still : IsStillOut c.args.self.now.rings c.args.owned = record { ring = c.index_mut.result.now; ring_is = ring-read c.args.self.now.rings c.self.inside.rings.items c.args.owned.ring c.index_mut.result.now are below c.index_mut.ensures.value; worker_is = own; out = out } in record {
      exact = ((λ e. still), (λ kept. refl));
      ends = λ e. at-ring (EndsFromHand c.args.end c.args.owned.reservation.hand c.args.owned.reservation.granted) c.args.self.now.rings c.self.inside.rings.items c.args.owned.ring c.index_mut.result.now c.settle.new.self are below c.index_mut.ensures.value c.settle.ensures.ended;
      hands_back = λ e. absurd (true-apart e);
    }
