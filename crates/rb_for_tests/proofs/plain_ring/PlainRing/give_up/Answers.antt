use Rattle.std.proofs.Common.{arith, refl}
use Rattle.std.proofs.lemmas.List.Elements.{All-set}
use Rattle.rb_history.specs.declared.stored_records.RecordState.TheVariants.{Discarded as DiscardedState}
use Rattle.rb_for_tests.specs.inner.ListRingBody.{list_ring_setup}
use Rattle.rb_history.specs.StoredRecords.{IsSized}
use Rattle.rb_history.proofs.Tallies.{tally-quiet}
use Rattle.rb_history.proofs.Settling.{busy-record, kept-drop, contents-drop, owed-set}
use Rattle.rb_for_tests.proofs.plain_ring.PlainRing.give_up.Goals as goal

pub invariant_of-self : goal.invariant_of-self
invariant_of-self c =
    let a = c.self.inside in
    let i = c.self.invariant in
    let t = c.index_mut.result.now in
    let b = busy-record a.records.items c.args.index t c.args.pos c.args.len (rw (← c.self.view_is) at c.requires) c.index_mut.ensures.value in
    let owed = owed-set a.records.items c.args.index t (record t { state = DiscardedState }) b.within b.there b.held refl in
    record {
      size = i.size;
      start = i.start;
      limit = i.limit;
      space = i.space;
      kept = rw c.push_reserved.ensures.items (kept-drop (list_ring_setup a) a.history.items a.records.items c.args.index t c.args.pos c.args.len a.producer a.consumer b i.kept);
      sized = All-set IsSized a.records.items c.args.index (record t { state = DiscardedState }) tt i.sized;
      workers = i.workers;
      tallied = rw c.push_reserved.ensures.items (tally-quiet a.serials.items a.history.items a.workers _ (λ w. refl) i.tallied);
      owed_is = omega (arith, i.owed_is, owed);
      room = omega (arith, i.room, owed, i.owed_is, c.push_reserved.ensures.len, c.push_reserved.ensures.capacity);
    }

pub returns-clause-contents : goal.returns-clause-contents
returns-clause-contents c =
    let a = c.self.inside in
    let b = busy-record a.records.items c.args.index c.index_mut.result.now c.args.pos c.args.len (rw (← c.self.view_is) at c.requires) c.index_mut.ensures.value in
    rw (← c.self.view_is)
    (contents-drop (list_ring_setup a) a.history.items a.records.items c.args.index c.index_mut.result.now c.args.pos c.args.len a.producer a.consumer b c.self.invariant.kept)
