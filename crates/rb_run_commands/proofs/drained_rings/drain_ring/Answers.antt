use Rattle.std.proofs.Common.{◌∙◌, refl, sym, subst}
use Rattle.std.specs.Prelude.{IsNone}
use Rattle.rb_run_commands.specs.DrainedRings.{TakesRecords}
use Rattle.rb_run_commands.proofs.Draining.{each_then_none, each_then_one, told_end}
use Rattle.rb_run_commands.proofs.drained_rings.drain_ring.Goals as goal

pub returns-then-position-end : goal.returns-then-position-end
returns-then-position-end g c = record {
  drained = record {
    seen = c.audit.new.seat.seen;
    cut = c.audit.new.seat.cut;
    after = c.loop.consumer;
    each = c.loop.invariant.each;
    none_left = told_end _ _ _ _ _ c.in-Ok.audit _ (sym c.position.ensures.position ∙ c.if-position-end.true) c.in-Ok.ensures.call;
  };
}

pub loop-preserved-in-Ok-push : goal.loop-preserved-in-Ok-push
loop-preserved-in-Ok-push g c = record {
  same = record {
    tag_same = c.take_record.ensures.same.tag_same ∙ c.loop.invariant.same.tag_same;
    ring_same = c.take_record.ensures.same.ring_same ∙ c.loop.invariant.same.ring_same;
    room_same = c.take_record.ensures.same.room_same ∙ c.loop.invariant.same.room_same;
  };
  each = subst (λ records. TakesRecords c.args.consumer.now records c.take_record.new.consumer) (sym c.in-Ok-push.ensures.items)
      (each_then_one _ _ _ _ _ c.loop.invariant.each c.in-Some-take_record.ensures.taken);
}

pub loop-preserved : goal.loop-preserved
loop-preserved g c = record {
  same = record {
    tag_same = c.take_record.ensures.same.tag_same ∙ c.loop.invariant.same.tag_same;
    ring_same = c.take_record.ensures.same.ring_same ∙ c.loop.invariant.same.ring_same;
    room_same = c.take_record.ensures.same.room_same ∙ c.loop.invariant.same.room_same;
  };
  each = each_then_none _ _ _ _ c.loop.invariant.each (c.take_record.ensures.none (subst (λ taken. IsNone taken) (sym c.in_default.is) refl));
}
