use Rattle.std.proofs.Common.{sym, subst, arith}
use Rattle.rb_tape.specs.Items.{AreRecords}
use Rattle.rb_consumer.specs.inner.LastEvents.{IsLastEvent}
use Rattle.rb_consumer.proofs.Batches.{records-remove, gives-last}
use Rattle.rb_consumer.proofs.batch.Batch.recycle.Goals as goal

pub invariant_of-self : goal.invariant_of-self
invariant_of-self c =
    let i = c.self.invariant in
    record {
      records = subst AreRecords (sym c.remove.ensures.items) (records-remove c.self.inside.taken.items c.in_ok-index.index i.records);
      within = omega (arith, i.within, c.remove.ensures.len, c.remove.ensures.capacity, c.remove.new.self.ok.0, c.self.inside.taken.ok.0);
    }

pub returns-clause-recycles : goal.returns-clause-recycles
returns-clause-recycles c =
    let last = subst (λ ts. IsLastEvent ts c.in_ok-index.index) c.deref.ensures.value c.in_ok-index.ensures.last in
    rw (← c.self.view_is, c.remove.ensures.items)
    (gives-last c.self.inside.taken.items c.in_ok-index.index c.in-Event._pos c.in-Event._worker c.in-Event._serial c.in-Event.sheet last (sym c.in-Event.ensures.value))
