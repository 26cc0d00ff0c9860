use Rattle.std.proofs.Common.{List, ℕ, Bor, ap, arith}
use Rattle.rb_service.specs.declared.options.NamedRing.{NamedRing}
use Rattle.rb_service.proofs.Mapped.{map_more, map_whole}
use Rattle.rb_service.proofs.report.ring_names.Goals as goal

pub loop-at-preserved : goal.loop-at-preserved
loop-at-preserved c =
    map_more (λ (n : Bor (List ℕ)). n.now) (λ (r : NamedRing). r.name.now) c.args.options.now.rings.items c.loop-at.names.items c.reserve.new.self.items c.push_reserved.new.self.items c.loop-at.at _ c.index-ring.result.now
    (omega (arith, c.loop-at-test.true, c.len-at-end.ensures, c.args.options.now.rings.ok.0)) c.reserve.ensures.items c.push_reserved.ensures.items (ap (λ (r : NamedRing). r.name.now) c.index-ring.ensures) c.loop-at.invariant

pub returns : goal.returns
returns c = record {
  names = map_whole (λ (n : Bor (List ℕ)). n.now) (λ (r : NamedRing). r.name.now) c.args.options.now.rings.items c.loop-at.names.items c.loop-at.at
      (omega (arith, c.loop-at-test.false, c.len-at-end.ensures, c.args.options.now.rings.ok.0)) c.loop-at.invariant;
}
