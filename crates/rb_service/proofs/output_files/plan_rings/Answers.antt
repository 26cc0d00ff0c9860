use Rattle.std.proofs.Common.{ap, sym, subst, arith}
use Rattle.rb_history.specs.RingModel.{IsRingSize, IsStartPosition}
use Rattle.rb_outputs.specs.Outputs.{output_position}
use Rattle.rb_service.specs.declared.options.NamedRing.{NamedRing}
use Rattle.rb_service.specs.declared.rings.RingPlan.{RingPlan}
use Rattle.rb_service.proofs.Mapped.{map_more, map_whole}
use Rattle.rb_service.proofs.Refusing.{all_more}
use Rattle.rb_service.proofs.output_files.plan_rings.Goals as goal

pub loop-at-preserved : goal.loop-at-preserved
loop-at-preserved g c = record {
  begins = all_more (λ p. IsStartPosition (output_position p.sink.output)) c.loop-at.plans.items c.reserve.new.self.items c.push_reserved.new.self.items _ c.reserve.ensures.items c.push_reserved.ensures.items c.loop-at.invariant.begins
      (subst (λ o. IsStartPosition (output_position o)) (sym c.new-sink.ensures.output) c.in_ok-output.ensures.begins);
  sizes = map_more (λ (p : RingPlan _). p.size) (λ (r : NamedRing). r.size) c.args.options.now.rings.items c.loop-at.plans.items c.reserve.new.self.items c.push_reserved.new.self.items c.loop-at.at _ c.index-ring.result.now
      (omega (arith, c.loop-at-test.true, c.len-at-end.ensures, c.args.options.now.rings.ok.0)) c.reserve.ensures.items c.push_reserved.ensures.items (ap (λ (r : NamedRing). r.size) c.index-ring.ensures) c.loop-at.invariant.sizes;
}

pub open_output-requires : goal.open_output-requires
open_output-requires g c = record { size = subst (λ (r : NamedRing). IsRingSize r.size) (sym c.index-ring.ensures) (c.requires.sizes c.loop-at.at c.index-ring.result.now (omega (arith, c.loop-at-test.true, c.len-at-end.ensures, c.args.options.now.rings.ok.0))) }

pub returns-clause-sizes : goal.returns-clause-sizes
returns-clause-sizes g c =
    map_whole (λ (p : RingPlan _). p.size) (λ (r : NamedRing). r.size) c.args.options.now.rings.items c.loop-at.plans.items c.loop-at.at (omega (arith, c.loop-at-test.false, c.len-at-end.ensures, c.args.options.now.rings.ok.0)) c.loop-at.invariant.sizes
