use Rattle.std.proofs.Common.{◌≡◌, ◌∙◌, List, get_or, length, refl, sym, subst, arith}
use Rattle.std.proofs.lemmas.List.{get_or-set_other}
use Rattle.rb_ledger.specs.Seats.{Shared}
use Rattle.rb_workers.specs.declared.consumer_task.ConsumerTask.{ConsumerTask}
use Rattle.rb_workers.specs.inner.ConsumerTasks.{IsConsumerTaskOf, TakesRest, joined_ring}
use Rattle.rb_jobs.proofs.Lists.{zip_at, zip_length}
use Rattle.rb_workers.proofs.Joined.{joined_each}
use Rattle.rb_workers.proofs.Lists.{each_more}
use Rattle.rb_workers.proofs.rest.take_rests.Goals as goal

pub bounds-rings-at : goal.bounds-rings-at
bounds-rings-at g c = let z = zip_length (IsConsumerTaskOf g.S.Sink.position_of) c.args.rings.now c.args.consumers.now c.requires.ready in omega (arith, z, c.loop-at-test.true)

pub take_rest-requires : goal.take_rest-requires
take_rest-requires g c =
    let pos = g.S.Sink.position_of in
    let at = c.loop-at.at in
    let rings : List Shared = c.args.rings.now in
    let r : Shared = c.index-rings-at.result in
    let e = c.index-consumers-at.result in
    let found : r ≡ get_or rings at r = c.index-rings-at.is in
    let z = zip_length (IsConsumerTaskOf pos) rings c.args.consumers.now c.requires.ready in
    let there = zip_at (IsConsumerTaskOf pos) rings c.args.consumers.now at r e c.requires.ready (omega (arith, z, c.loop-at-test.true)) in
    record {
      ready = subst (λ (x : Shared). IsConsumerTaskOf pos x (get_or c.loop-at.consumers at e)) (sym found)
          (subst (λ (t : ConsumerTask g.row.S.Denot). IsConsumerTaskOf pos (get_or rings at r) t) (sym (c.loop-at.invariant.0 at e (omega arith))) there);
    }

pub loop-at-preserved : goal.loop-at-preserved
loop-at-preserved g c =
    let i = c.loop-at.invariant in
    let at = c.loop-at.at in
    let e = c.index-consumers-at.result in
    let new = c.take_rest.new.task in
    let rings = c.args.rings.now in
    let lens : length c.loop-at.consumers ≡ length c.args.consumers.now = c.loop-at.auto.consumers in
    let T = TakesRest g.S.Sink.position_of g.S.Sink.takes in (
      (λ k d from. get_or-set_other c.loop-at.consumers at k new d (omega (arith, from)) ∙ i.0 k d (omega (arith, from))),
      (λ k d r.
          each_more (λ k old next. T (joined_ring (get_or rings k r) old) (joined_ring (get_or rings k r) next)) c.args.consumers.now c.loop-at.consumers at e new (omega (arith, lens, c.loop-at-test.true)) (omega (arith, lens, c.loop-at-test.true))
          (let t = c.take_rest.ensures.rest in subst (λ x. T (joined_ring (get_or rings at r) x) (joined_ring (get_or rings at r) new)) (i.0 at e (omega arith)) (t.0, refl, t.2, t.3))
          (λ k d. i.1 k d r) k d),
    )

pub returns : goal.returns
returns g c =
    let lens = c.loop-at.auto.consumers in
    let z = zip_length (IsConsumerTaskOf g.S.Sink.position_of) c.args.rings.now c.args.consumers.now c.requires.ready in
    record {
      rests = joined_each (TakesRest g.S.Sink.position_of g.S.Sink.takes) c.args.rings.now c.args.consumers.now c.loop-at.consumers z lens
          (λ k r d below. c.loop-at.invariant.1 k d r (omega (arith, below, lens, c.loop-at-test.false)));
    }
