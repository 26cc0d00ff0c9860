use Rattle.rb_for_tests.specs.inner.ListRingBody.{list_ring_setup}
use Rattle.rb_for_tests.proofs.Finding.{finds-at, finds-busy, finds-none}
use Rattle.rb_for_tests.proofs.plain_ring.PlainRing.find_busy.Goals as goal

pub returns-clause-found : goal.returns-clause-found
returns-clause-found c =
    let a = c.self.inside in
    let is = c.busy_index.ensures.index in
    rw (← c.self.view_is) (finds-at (list_ring_setup a) a.history.items a.records.items a.producer a.consumer c.self.invariant.kept c.args.reservation.now c.busy_index.result is)

pub returns-clause-busy : goal.returns-clause-busy
returns-clause-busy c =
    let a = c.self.inside in
    let is = c.busy_index.ensures.index in
    rw (← c.self.view_is) (finds-busy (list_ring_setup a) a.history.items a.records.items a.producer a.consumer c.self.invariant.kept c.args.reservation.now c.busy_index.result is)

pub returns-clause-none : goal.returns-clause-none
returns-clause-none c =
    let a = c.self.inside in
    let is = c.busy_index.ensures.index in
    rw (← c.self.view_is) (finds-none (list_ring_setup a) a.history.items a.records.items a.producer a.consumer c.self.invariant.kept c.args.reservation.now c.busy_index.result is)
