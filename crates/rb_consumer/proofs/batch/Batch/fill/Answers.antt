use Rattle.std.proofs.Common.{arith}
use Rattle.rb_consumer.proofs.Batches.{filled, fill-called, whole-fill}
use Rattle.rb_consumer.proofs.TapeItems.{stand-after, ends-after, setup-after}
use Rattle.rb_consumer.proofs.batch.Batch.fill.Goals as goal

pub invariant_of-self : goal.invariant_of-self
invariant_of-self g c =
    let t = c.take_many.ensures in
    let call = whole-fill c.take_many.result _ _ _ _ _ _ _ t.call c.clear.ensures.items in
    filled c.take_many.result _ c.capacity-n.result c.take_many.new.out.items _ _ (λ e. t.foreign.0 e (omega (arith, c.tag.ensures, c.tag-2.ensures, c.if-tag.false))) call (omega (arith, t.capacity, c.capacity-n.ensures))

pub returns-clause-call : goal.returns-clause-call
returns-clause-call g c =
    let call = fill-called c.take_many.result _ _ _ _ _ _ _ c.take_many.ensures.call c.clear.ensures.items in
    rw (← c.self.view_is, ← c.clear.ensures.capacity, ← c.capacity-n.ensures) call

pub returns-clause-setup : goal.returns-clause-setup
returns-clause-setup g c =
    let call = whole-fill c.take_many.result _ _ _ _ _ _ _ c.take_many.ensures.call c.clear.ensures.items in
    setup-after c.take_many.result _ _ _ _ _ _ _ call c.facts.ensures.ties

pub returns-clause-stand : goal.returns-clause-stand
returns-clause-stand g c =
    let call = whole-fill c.take_many.result _ _ _ _ _ _ _ c.take_many.ensures.call c.clear.ensures.items in
    stand-after c.take_many.result _ _ _ _ _ _ _ call c.facts.ensures.ties

pub returns-clause-end : goal.returns-clause-end
returns-clause-end g c = ends-after c.take_many.result _ _ c.clear.new.self.items c.take_many.new.out.items c.take_many.ensures.position c.clear.ensures.items
