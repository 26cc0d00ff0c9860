use Rattle.std.proofs.Common.{◌∙◌, List, sym, subst, get_or, set, rules, arith}
use Rattle.std.proofs.lemmas.List.{get_or-set_other}
use Rattle.rb_ledger.specs.Seats.{WorkerSeat}
use Rattle.rb_workers.specs.inner.WorkerRuns.{IsOneMore}
use Rattle.rb_workers.proofs.Deals.{returned_more}
use Rattle.rb_workers.proofs.distribution.return_ring.Goals as goal

pub loop-at-preserved : goal.loop-at-preserved
loop-at-preserved c =
    let i = c.loop-at.invariant in
    let at = c.loop-at.at in
    let x = c.remove_seat-seat.new.self in (
      search rules,
      search rules,
      (λ k d from. get_or-set_other c.loop-at.workers at k x d (omega arith) ∙ i.2 k d (omega arith)),
      (λ k d s below. subst (λ (row : List WorkerSeat). IsOneMore (get_or (set c.loop-at.workers at x) k d) (get_or c.args.workers.now k d) (get_or row k s)) (sym c.push_reserved.ensures.items)
          (returned_more c.args.workers.now c.loop-at.workers c.loop-at.returned_seats.items at c.index-workers-at.result x c.remove_seat-seat.result (omega (arith, i.0, c.loop-at.returned_seats.ok.0)) (omega (arith, c.loop-at.auto.workers, c.loop-at-test.true)) i.2 i.3 c.remove_seat-seat.ensures.one_less k d s below)),
    )

pub returns-clause-one_less : goal.returns-clause-one_less
returns-clause-one_less c = λ k d s below. c.loop-at.invariant.3 k d s (omega (arith, c.loop-at-test.false))
