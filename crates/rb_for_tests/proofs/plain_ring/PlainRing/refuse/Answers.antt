use Rattle.std.proofs.Common.{map, refl, arith}
use Rattle.rb_history.specs.StoredRecords.{shown_record}
use Rattle.rb_history.proofs.Kept.{kept-full}
use Rattle.rb_history.proofs.Settling.{on-ok}
use Rattle.rb_history.proofs.Tallies.{tally-quiet}
use Rattle.rb_for_tests.specs.inner.ListRingBody.{list_ring_setup}
use Rattle.rb_for_tests.proofs.plain_ring.PlainRing.refuse.Goals as goal

pub invariant_of-self-2 : goal.invariant_of-self-2
invariant_of-self-2 c =
    let a = c.self.inside in
    let i = c.self.invariant in
    record {
      size = i.size;
      start = i.start;
      workers = i.workers;
      limit = i.limit;
      space = i.space;
      kept = rw (c.push_reserved.ensures.items, c.reserve.ensures.items)
          (kept-full (list_ring_setup a) a.history.items (map shown_record a.records.items) a.producer a.consumer c.args.worker c.args.n i.kept (rw (← c.self.view_is) at c.requires.worker) (rw (← c.self.view_is) at c.requires.full));
      sized = i.sized;
      tallied = rw (c.push_reserved.ensures.items, c.reserve.ensures.items) (tally-quiet a.serials.items a.history.items a.workers _ (λ w. refl) i.tallied);
      owed_is = i.owed_is;
      room = omega (
        arith,
        i.room,
        c.reserve.ensures.len,
        c.push_reserved.ensures.len,
        c.push_reserved.ensures.capacity,
        on-ok c.reserve.result _ c.is_err.result c.if-is_err.false c.is_err.ensures.value c.reserve.ensures.ok,
      );
    }
