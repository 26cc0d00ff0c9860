use Rattle.std.proofs.Common.{◌∙◌, ap, arith}
use Rattle.std.specs.List.{count_by}
use Rattle.rb_history.specs.Counting.{is_grant_entry, is_refusal_entry, is_discard_entry}
use Rattle.rb_for_tests.specs.inner.ListRingBody.{list_ring_setup}
use Rattle.rb_history.proofs.Counting.{Counted, counted-split, counted-same}
use Rattle.rb_for_tests.proofs.plain_ring.PlainRing.counts.Goals as goal

counted : (c : goal.After-reserved_in-busy) →
    Counted (list_ring_setup c.self.inside) c.self.inside.history.items c.self.inside.records.items c.self.inside.producer c.self.inside.consumer c.self.invariant.kept
    c.grants_in-made.result c.refusals_in-refused.result c.discards_in-discarded.result c.submitted_in-waiting.result c.reserved_in-busy.result
counted c = record {
  made_is = c.grants_in-made.ensures.count ∙ ap (count_by is_grant_entry) c.deref.ensures.value;
  refused_is = c.refusals_in-refused.ensures.count ∙ ap (count_by is_refusal_entry) c.deref-2.ensures.value;
  discarded_is = c.discards_in-discarded.ensures.count ∙ ap (count_by is_discard_entry) c.deref-3.ensures.value;
  waiting_is = c.submitted_in-waiting.ensures.count;
  busy_is = c.reserved_in-busy.ensures.count;
}

pub overflow_sub-result : goal.overflow_sub-result
overflow_sub-result c = omega (arith, counted-split _ _ _ _ _ c.self.invariant.kept _ _ _ _ _ (counted c))

pub overflow_sub-result-2 : goal.overflow_sub-result-2
overflow_sub-result-2 c = omega (arith, counted-split _ _ _ _ _ c.self.invariant.kept _ _ _ _ _ (counted c))

pub overflow_sub-result-3 : goal.overflow_sub-result-3
overflow_sub-result-3 c = omega (arith, counted-split _ _ _ _ _ c.self.invariant.kept _ _ _ _ _ (counted c))

pub returns : goal.returns
returns c = record { counts = rw (← c.self.view_is) (counted-same _ _ _ _ _ c.self.invariant.kept _ _ _ _ _ (counted c)) }
