use Rattle.std.proofs.Common.{◌+◌, ◌≤◌, ◌^◌, arith}
use Rattle.std.proofs.lemmas.Bool.{le-leb, leb-true}
use Rattle.rb_history.proofs.Row.{InRow-le}
use Rattle.rb_history.specs.RoomRule.{HasRoomFor}
use Rattle.rb_for_tests.specs.inner.ListRingBody.{list_ring_setup}
use Rattle.rb_for_tests.proofs.plain_ring.PlainRing.has_room.Goals as goal

pub overflow_add-self-inside : goal.overflow_add-self-inside
overflow_add-self-inside c =
    let i = c.self.invariant in
    omega (arith, InRow-le _ _ _ i.kept.in_row, i.limit, i.size.2)

pub returns-then-end-self : goal.returns-then-end-self
returns-then-end-self c =
    let a = c.self.inside in
    let k = c.self.invariant.kept in
    let fits : a.producer + c.span.result ≤ 2 ^ 62 → HasRoomFor (list_ring_setup a) a.history.items c.args.n = λ l. record {
      space = omega (arith, c.if-end-self.true, k.producer_is, k.consumer_is, c.span.ensures.value);
      limit = omega (arith, l, k.producer_is, c.span.ensures.value);
    } in
    let low : HasRoomFor (list_ring_setup a) a.history.items c.args.n → a.producer + c.span.result ≤ 2 ^ 62 = λ f. omega (arith, f.limit, k.producer_is, c.span.ensures.value) in
    rw (← c.self.view_is) (record { test = (λ t. fits (leb-true _ _ t), λ f. le-leb _ _ (low f)) })

pub returns-else-end-self : goal.returns-else-end-self
returns-else-end-self c =
    let a = c.self.inside in
    let k = c.self.invariant.kept in
    let full : HasRoomFor (list_ring_setup a) a.history.items c.args.n → ⊥ = λ f. omega (arith, f.space, c.if-end-self.false, k.producer_is, k.consumer_is, c.span.ensures.value) in
    rw (← c.self.view_is) (record { test = (λ t. (let le = leb-true _ _ t in absurd (omega (arith, le, c.if-end-self.false))), λ f. absurd (full f)) })
