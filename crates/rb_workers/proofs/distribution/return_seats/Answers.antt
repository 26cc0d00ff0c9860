use Rattle.std.proofs.Common.{◌≡◌, ◌∙◌, ℕ, ◌+◌, ◌-◌, ◌<◌, ◌≤◌, ◌∷◌, ◌++◌, [], List, refl, sym, ap, subst, get_or, set, drop, length, length-append, append-nil, vec_capacity, arith}
use Rattle.std.proofs.Math.Seq.{drop-length}
use Rattle.std.proofs.lemmas.List.{get_or_default}
use Rattle.std.proofs.lemmas.Option.{slice_get-get_or}
use Rattle.std.specs.Prelude.{All}
use Rattle.std.specs.List.{AllZip}
use Rattle.rb_ledger.specs.Seats.{WorkerSeat}
use Rattle.rb_workers.specs.SeatRows.{worker_column}
use Rattle.rb_workers.specs.declared.consumer_task.ConsumerTask.{ConsumerTask}
use Rattle.rb_workers.specs.inner.ConsumerTasks.{HasSameParts, returned_rows}
use Rattle.rb_workers.proofs.Deals.{returned_from_more, rows_more}
use Rattle.rb_workers.proofs.Parts.{some_of, unshift, column_cons, empty_front}
use Rattle.rb_workers.proofs.distribution.return_seats.Goals as goal

pub loop-at-init : goal.loop-at-init
loop-at-init g c =
    let tasks = c.args.consumers.now in
    let none : drop (length tasks) tasks ≡ [] = drop-length tasks in (
      omega arith,
      record {
        others = λ k d below. refl;
        same = subst (λ (l : List (ConsumerTask g.row.S.Denot)). AllZip HasSameParts l l) (sym none) tt;
        long = subst (All (λ (t : ConsumerTask g.row.S.Denot). length t.returned_seats.items ≡ length c.args.workers.now)) (sym none) (λ k d below. absurd (omega arith));
      },
      (λ k d below. (refl, refl, refl, ap (λ (l : List (ConsumerTask g.row.S.Denot)). (get_or c.args.workers.now k d).seats.items ++ worker_column k (returned_rows l)) none ∙ append-nil _, c.requires.workers k d below)),
    )

pub return_ring-requires-clause-returned_seats : goal.return_ring-requires-clause-returned_seats
return_ring-requires-clause-returned_seats g c =
    let at = c.loop-at.at - 1 in
    let e = get_or c.loop-at.consumers at c.index-consumers-at.result in
    let inside : at < length c.loop-at.consumers = omega (arith, c.loop-at.auto.consumers, c.loop-at.invariant.0, c.loop-at-test.true) in
    let d = c.index-consumers-at.result in
    let was : e ≡ get_or c.args.consumers.now at d = c.loop-at.invariant.1.others at d (omega (arith, c.loop-at-test.true)) in
    subst (λ (t : ConsumerTask g.row.S.Denot). t.returned_seats.items ≡ []) (sym was) (c.requires.returned_seats at d (omega (arith, inside, c.loop-at.auto.consumers))).0

pub return_ring-requires-clause-room : goal.return_ring-requires-clause-room
return_ring-requires-clause-room g c =
    let at = c.loop-at.at - 1 in
    let e = get_or c.loop-at.consumers at c.index-consumers-at.result in
    let inside : at < length c.loop-at.consumers = omega (arith, c.loop-at.auto.consumers, c.loop-at.invariant.0, c.loop-at-test.true) in
    let d = c.index-consumers-at.result in
    let was : e ≡ get_or c.args.consumers.now at d = c.loop-at.invariant.1.others at d (omega (arith, c.loop-at-test.true)) in
    let room : length c.args.workers.now ≤ vec_capacity e.returned_seats = subst (λ (t : ConsumerTask g.row.S.Denot). length c.args.workers.now ≤ vec_capacity t.returned_seats) (sym was) (c.requires.returned_seats at d (omega (arith, inside, c.loop-at.auto.consumers))).1 in
    omega (arith, room, c.loop-at.auto.workers)

pub return_ring-requires-clause-some : goal.return_ring-requires-clause-some
return_ring-requires-clause-some g c = λ k d below.
    let h = c.loop-at.invariant.2 k d (omega (arith, below, c.loop-at.auto.workers)) in
    let ok = (get_or c.loop-at.workers k d).seats.ok.0 in
    omega (arith, h.4, ok, c.loop-at-test.true)

pub loop-at-preserved : goal.loop-at-preserved
loop-at-preserved g c =
    let at = c.loop-at.at - 1 in
    let e = get_or c.loop-at.consumers at c.index-consumers-at.result in
    let seats = c.return_ring.new.returned_seats in
    let row = seats.items in
    let tasks = c.loop-at.consumers in
    let x : ConsumerTask g.row.S.Denot = record e { returned_seats = seats } in
    let next : c.loop-at.at ≡ at + 1 = omega (arith, c.loop-at-test.true) in
    let inside : at < length tasks = omega (arith, c.loop-at.auto.consumers, c.loop-at.invariant.0, c.loop-at-test.true) in
    let full : length row ≡ length c.args.workers.now = c.return_ring.ensures.len ∙ c.loop-at.auto.workers in
    let rows = rows_more tasks at c.loop-at.at x next inside in (
      omega (arith, c.loop-at.invariant.0),
      returned_from_more at c.loop-at.at (length c.args.workers.now) c.args.consumers.now tasks e x next inside c.loop-at.auto.consumers (get_or_default tasks at c.index-consumers-at.result e inside) (refl, refl, refl) full c.loop-at.invariant.1,
      (λ k d below.
          let h = c.loop-at.invariant.2 k d below in
          let within : k < length row = omega (arith, below, full) in
          let s = some_of row k within in
          let o = c.return_ring.ensures.one_less k d s (omega (arith, below, c.loop-at.auto.workers)) in
          let few = (get_or c.return_ring.new.workers k d).seats.items in
          let n : length (get_or c.loop-at.workers k d).seats.items ≡ length few + 1 = ap length o.3 ∙ length-append few (get_or row k s ∷ []) in (
            h.0 ∙ o.0,
            h.1 ∙ o.1,
            h.2 ∙ o.2,
            ap (λ (l : List (List WorkerSeat)). few ++ worker_column k l) rows
                ∙ (ap (λ (l : List WorkerSeat). few ++ l) (column_cons k row (returned_rows (drop c.loop-at.at tasks)) (get_or row k s) (slice_get-get_or row k s within))
                ∙ unshift _ _ _ _ (get_or row k s) o.3 h.3),
            omega (arith, n, h.4),
          )),
    )

pub returns : goal.returns
returns g c =
    let none : c.loop-at.at ≡ 0 = omega (arith, c.loop-at-test.false) in
    let from = c.loop-at.invariant.1 in
    record {
      consumers = subst (λ n. AllZip HasSameParts (drop n c.args.consumers.now) (drop n c.loop-at.consumers)) none from.same;
      seats = subst (λ n. All (λ (t : ConsumerTask g.row.S.Denot). length t.returned_seats.items ≡ length c.args.workers.now) (drop n c.loop-at.consumers)) none from.long;
      workers = λ k d below.
          let h = c.loop-at.invariant.2 k d below in
          let z : length (get_or c.loop-at.workers k d).seats.items ≡ 0 = h.4 ∙ none in
          (h.0, h.1, h.2, sym (empty_front _ _ _ (subst (λ n. (get_or c.loop-at.workers k d).seats.items ++ worker_column k (returned_rows (drop n c.loop-at.consumers)) ≡ (get_or c.args.workers.now k d).seats.items) none h.3) z));
    }
