use Rattle.std.proofs.Common.{◌≡◌}
use Rattle.rb_segments.specs.Known.{HavePositions}
use Rattle.rb_segments.specs.SegmentTape.{kept}
use Rattle.rb_segments.specs.inner.Rolling.{DeletesOldest}
use Rattle.rb_segments.proofs.rotation.delete_old.Given as goal

abbrev pub invariant-oldest : goal.invariant-oldest
invariant-oldest g l = record {
  created : g.S.SegmentStore.created l.store ≡ g.S.SegmentStore.created l.fn.store;
  positions : HavePositions l.closed.items (g.S.SegmentStore.segments l.store);
  deletes : DeletesOldest (g.S.SegmentStore.segments l.fn.store) (g.S.SegmentStore.segments l.store);
  same : kept l.keep l.position l.fn.closed.items ≡ kept l.keep l.position l.closed.items;
}

abbrev pub decreases-oldest : goal.decreases-oldest
decreases-oldest g l = l.closed.len
