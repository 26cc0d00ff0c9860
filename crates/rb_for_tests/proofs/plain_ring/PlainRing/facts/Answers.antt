use Rattle.rb_for_tests.specs.inner.ListRingBody.{list_ring_setup}
use Rattle.rb_history.proofs.Row.{InRow-le}
use Rattle.rb_history.proofs.Standing.{contents-stand, contents-sized}
use Rattle.rb_for_tests.proofs.plain_ring.PlainRing.facts.Goals as goal

pub returns-clause-stands : goal.returns-clause-stands
returns-clause-stands c =
    let a = c.self.inside in
    let k = c.self.invariant.kept in
    rw (← c.self.view_is) (record {
      shown = k.shown;
      producer_is = k.producer_is;
      consumer_is = k.consumer_is;
      contents = contents-stand (list_ring_setup a) a.history.items a.records.items a.producer a.consumer k;
      sized = contents-sized (list_ring_setup a) a.history.items a.records.items a.producer a.consumer k c.self.invariant.sized;
    })

pub returns-clause-bounded : goal.returns-clause-bounded
returns-clause-bounded c =
    let i = c.self.invariant in
    rw (← c.self.view_is) (record {
      size = i.size;
      start = i.start;
      workers = i.workers;
      consumer = InRow-le _ _ _ i.kept.in_row;
      producer = i.limit;
      room = i.space;
    })
