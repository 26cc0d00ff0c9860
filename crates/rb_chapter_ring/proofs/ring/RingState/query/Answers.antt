use Rattle.std.proofs.Common.{◌-◌, ap, ◌∙◌, arith}
use Rattle.rb_history.proofs.Row.{InRow-le}
use Rattle.rb_chapter_ring.specs.Snapshot.{Snapshot}
use Rattle.rb_chapter_ring.specs.inner.RingBody.{stored_of}
use Rattle.rb_chapter_ring.proofs.Rows.{rows}
use Rattle.rb_chapter_ring.proofs.ring.RingState.query.Goals as goal

pub overflow_sub-result : goal.overflow_sub-result
overflow_sub-result c =
    let a = c.self.inside in
    let i = c.self.invariant.parts in
    let p = c.numbers-numbers.ensures.producer ∙ ap (λ (o : Snapshot). o.producer) c.closing.ensures.closing in
    let q = c.numbers-numbers.ensures.consumer ∙ ap (λ (o : Snapshot). o.consumer) c.closing.ensures.closing in
    omega (arith, p, q, InRow-le _ _ _ (rows i.earlier a.chapter (stored_of a.chapter a.sheets.items) i.counts i.ring).in_row)

pub returns-in-0 : goal.returns-in-0
returns-in-0 c =
    let p = c.numbers-numbers.ensures.producer ∙ ap (λ (o : Snapshot). o.producer) c.closing.ensures.closing in
    let q = c.numbers-numbers.ensures.consumer ∙ ap (λ (o : Snapshot). o.consumer) c.closing.ensures.closing in
    record { answer = rw (← c.self.view_is, c.in-0.is) (λ j. p j - q j) }

pub returns-in-2 : goal.returns-in-2
returns-in-2 c =
    let q = c.numbers-numbers.ensures.consumer ∙ ap (λ (o : Snapshot). o.consumer) c.closing.ensures.closing in
    record { answer = rw (← c.self.view_is, c.in-2.is) q }
