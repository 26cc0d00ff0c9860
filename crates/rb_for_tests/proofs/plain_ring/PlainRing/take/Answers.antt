use Rattle.std.proofs.Common.{◌≡◌, ◌+◌, arith, length, sym, ◌∙◌, ap, refl}
use Rattle.std.proofs.lemmas.Bool.{eqb-true}
use Rattle.rb_history.specs.declared.answers.Taken.TheVariants.{BusyFront, Empty}
use Rattle.rb_history.specs.StoredRecords.{is_reserved_state, taken_of}
use Rattle.rb_for_tests.specs.inner.ListRingBody.{list_ring_setup, list_ring_shown}
use Rattle.rb_history.specs.Calls.{Takes}
use Rattle.rb_history.proofs.Taking.{Taking, held-state, takes-free, not-empty, front-busy, takes-front, keeps-front, low-front, sized-front, owed-front}
use Rattle.rb_history.proofs.Tallies.{tally-quiet}
use Rattle.rb_history.proofs.Exact.{exact-busy, exact-empty, none-there}
use Rattle.rb_for_tests.proofs.plain_ring.PlainRing.take.Goals as goal

pub returns-then-is_empty-clause-busy_front : goal.returns-then-is_empty-clause-busy_front
returns-then-is_empty-clause-busy_front c =
    let a = c.self.inside in
    let k = c.self.invariant.kept in
    let none : length a.records.items ≡ 0 = sym a.records.ok.0 ∙ eqb-true _ _ (sym c.is_empty.ensures ∙ c.if-is_empty.true) in
    rw (← c.self.view_is)
    (exact-busy (list_ring_setup a) a.history.items a.records.items a.producer a.consumer k (list_ring_shown a) Empty (none-there (list_ring_setup a) a.history.items a.records.items a.producer a.consumer k (list_ring_shown a) none))

busy : (c : goal.Then-is_reserved) → Takes (list_ring_shown c.self.inside) (list_ring_shown c.self.inside) BusyFront
busy c =
    let a = c.self.inside in
    front-busy (list_ring_setup a) a.history.items a.records.items c.index.result.now a.producer a.consumer
    (not-empty _ _ _ c.if-is_empty.false c.is_empty.ensures (sym a.records.ok.0)) c.index.ensures (held-state _ _ c.if-is_reserved.true c.is_reserved.ensures.test) c.self.invariant.kept

pub returns-then-is_reserved-clause-takes : goal.returns-then-is_reserved-clause-takes
returns-then-is_reserved-clause-takes c = rw (← c.self.view_is) (busy c)

pub returns-then-is_reserved-clause-busy_front : goal.returns-then-is_reserved-clause-busy_front
returns-then-is_reserved-clause-busy_front c = rw (← c.self.view_is) (exact-busy _ _ _ _ _ c.self.invariant.kept _ BusyFront (busy c))

pub returns-then-is_reserved-clause-empty : goal.returns-then-is_reserved-clause-empty
returns-then-is_reserved-clause-empty c = rw (← c.self.view_is) (exact-empty _ _ _ _ _ c.self.invariant.kept _ BusyFront (busy c))

taking : (c : goal.After-span) →
    Taking c.self.inside.history.items c.self.inside.records.items c.pop_front.new.self.items c.in-Some.record c.self.inside.consumer c.push_reserved.new.self.items (c.self.inside.consumer + c.span.result)
taking c =
    let a = c.self.inside in
    takes-free _ _ c.index.result.now _ _ _ _ _ c.is_reserved.result c.in-Some.ensures.items c.index.ensures c.if-is_reserved.false
    (λ e. c.is_reserved.ensures.test ∙ ap is_reserved_state e) c.push_reserved.ensures.items (ap (λ n. a.consumer + n) c.span.ensures.value)

pub overflow_add-self : goal.overflow_add-self
overflow_add-self c =
    let a = c.self.inside in
    let low = low-front (list_ring_setup a) _ _ _ _ a.producer _ _ _ (taking c) c.self.invariant.kept in
    omega (arith, low, c.self.invariant.limit, c.span.ensures.value)

pub invariant_of-self : goal.invariant_of-self
invariant_of-self c =
    let a = c.self.inside in
    let i = c.self.invariant in
    let t = taking c.before.before in
    let owed = owed-front (list_ring_setup a) _ _ _ _ a.producer _ _ _ t in
    let low = low-front (list_ring_setup a) _ _ _ _ a.producer _ _ _ t i.kept in
    record {
      size = i.size;
      start = i.start;
      workers = i.workers;
      limit = i.limit;
      space = omega (arith, i.space, low, c.span.ensures.value);
      kept = keeps-front (list_ring_setup a) _ _ _ _ a.producer _ _ _ t i.kept;
      sized = sized-front (list_ring_setup a) _ _ _ _ a.producer _ _ _ t i.sized;
      tallied = rw c.push_reserved.ensures.items (tally-quiet a.serials.items a.history.items a.workers _ (λ w. refl) i.tallied);
      owed_is = omega (arith, i.owed_is, owed);
      room = omega (arith, i.room, owed, i.owed_is, c.push_reserved.ensures.len, c.push_reserved.ensures.capacity);
    }

pub returns-clause-takes : goal.returns-clause-takes
returns-clause-takes c =
    let a = c.self.inside in
    rw (← c.self.view_is, c.taken.ensures.taken)
    (takes-front (list_ring_setup a) _ _ _ _ a.producer _ _ _ (taking c.before.before) c.self.invariant.sized c.self.invariant.kept)

pub returns-clause-busy_front : goal.returns-clause-busy_front
returns-clause-busy_front c =
    let a = c.self.inside in
    let i = c.self.invariant in
    rw (← c.self.view_is, c.taken.ensures.taken)
    (exact-busy _ _ _ _ _ i.kept _ (taken_of c.in-Some.record c.in-Some.record.state) (takes-front (list_ring_setup a) _ _ _ _ a.producer _ _ _ (taking c.before.before) i.sized i.kept))

pub returns-clause-empty : goal.returns-clause-empty
returns-clause-empty c =
    let a = c.self.inside in
    let i = c.self.invariant in
    rw (← c.self.view_is, c.taken.ensures.taken)
    (exact-empty _ _ _ _ _ i.kept _ (taken_of c.in-Some.record c.in-Some.record.state) (takes-front (list_ring_setup a) _ _ _ _ a.producer _ _ _ (taking c.before.before) i.sized i.kept))
