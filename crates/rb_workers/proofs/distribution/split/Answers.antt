use Rattle.std.proofs.Common.{◌≡◌, ◌∙◌, ◌<◌, ◌∷◌, ◌++◌, [], List, refl, sym, ap, subst, get_or, length, rules, arith}
use Rattle.std.proofs.lemmas.List.{map-append}
use Rattle.std.specs.List.{AllZip}
use Rattle.std.specs.Vec.Iter.{into_iter_items}
use Rattle.std.proofs.lemmas.Option.{slice_get-get_or}
use Rattle.rb_ledger.specs.Seats.{WorkerSeat}
use Rattle.rb_workers.specs.declared.opened.Opened.{Opened}
use Rattle.rb_workers.specs.inner.ConsumerTasks.{IsSplitOff}
use Rattle.rb_workers.specs.SeatRows.{worker_column, seat_rows}
use Rattle.rb_jobs.proofs.Lists.{zip_length}
use Rattle.rb_workers.proofs.Parts.{column_length, column_more, some_of, less, shift, zip_more, all_first, all_rest, rows_length, nothing}
use Rattle.rb_workers.proofs.distribution.split.Goals as goal

pub loop-one-init : goal.loop-one-init
loop-one-init g c =
    let gives = c.into_iter-one-iterator.ensures.into_iter_gives in
    ([], search rules, refl, refl, search rules, c.requires.empty.0, subst (AllZip IsSplitOff []) (sym c.requires.empty.1) tt, (let e = ap length gives.0 in omega (arith, c.requires.batches, c.args.opened.ok.0, e)), (λ k d below. ((refl, refl, refl, (c.requires.workers k d below).3), omega arith)))

pub distribute_ring-requires-clause-len : goal.distribute_ring-requires-clause-len
distribute_ring-requires-clause-len g c = all_first (λ (o : Opened g.row.S.Denot). length o.seats.items ≡ length c.args.workers.now) _ _ c.in-Some.one c.in-Some.ensures.steps.0 c.loop-one.invariant.4 ∙ sym c.loop-one.auto.workers

pub distribute_ring-requires-clause-room : goal.distribute_ring-requires-clause-room
distribute_ring-requires-clause-room g c = λ k d below.
    let i = c.loop-one.invariant in
    let h = i.8 k d (omega (arith, c.loop-one.auto.workers)) in
    let cap = (c.requires.workers k d (omega (arith, c.loop-one.auto.workers))).4 in
    let len = less i.0 _ _ _ _ i.1 c.in-Some.ensures.steps.0 in
    let col = column_length k (seat_rows i.0) in
    let same : length (get_or c.loop-one.workers k d).seats.items ≡ length (worker_column k (seat_rows i.0)) = ap length h.0.3 in
    let rowed : length (seat_rows i.0) ≡ length i.0 = rows_length i.0 in
    omega (arith, h.1, c.args.opened.ok.0, (get_or c.loop-one.workers k d).seats.ok.0)

pub push_reserved-requires-in-loop-one : goal.push_reserved-requires-in-loop-one
push_reserved-requires-in-loop-one g c =
    let i = c.loop-one.invariant in
    let len = less i.0 _ _ _ _ i.1 c.in-Some.ensures.steps.0 in
    let z = zip_length IsSplitOff i.0 c.loop-one.consumers.items i.6 in
    omega (arith, i.3, c.requires.room.1, c.args.opened.ok.0, c.loop-one.consumers.ok.0)

pub loop-one-preserved : goal.loop-one-preserved
loop-one-preserved g c =
    let i = c.loop-one.invariant in
    let one = c.in-Some.one in
    let steps = c.in-Some.ensures.steps.0 in
    let done = i.0 in
    let row = one.seats.items in (
      done ++ one ∷ [],
      shift done _ _ _ one i.1 steps,
      c.push_reserved.ensures.capacity ∙ i.2,
      c.push_reserved-in-loop-one.ensures.capacity ∙ i.3,
      all_rest (λ (o : Opened g.row.S.Denot). length o.seats.items ≡ length c.args.workers.now) _ _ one steps i.4,
      c.push_reserved.ensures.items ∙ (ap (λ l. l ++ one.ring ∷ []) i.5 ∙ sym (map-append (λ (o : Opened _). o.ring) done (one ∷ []))),
      subst (AllZip IsSplitOff (done ++ one ∷ [])) (sym c.push_reserved-in-loop-one.ensures.items)
          (zip_more IsSplitOff done c.loop-one.consumers.items one _ i.6 (refl, refl, c.distribute_ring.ensures.returned_seats.0, omega (arith, c.distribute_ring.ensures.returned_seats.1, one.seats.ok.0, one.seats.ok.1), refl)),
      (let e = ap length steps in omega (arith, e, i.7, c.in-Some-pop.ensures.len)),
      (λ k d below.
          let h = i.8 k d below in
          let len : length row ≡ length c.args.workers.now = all_first (λ (o : Opened g.row.S.Denot). length o.seats.items ≡ length c.args.workers.now) _ _ c.in-Some.one steps i.4 in
          let inside : k < length row = omega arith in
          let s = some_of row k inside in
          let o = c.distribute_ring.ensures.one_more k d s (omega (arith, c.loop-one.auto.workers)) in (
            (
              o.0 ∙ h.0.0,
              o.1 ∙ h.0.1,
              o.2 ∙ h.0.2,
              o.3 ∙ (ap (λ (l : List WorkerSeat). l ++ get_or row k s ∷ []) h.0.3 ∙ (sym (column_more k (seat_rows done) row (get_or row k s) (slice_get-get_or row k s inside)) ∙ ap (worker_column k) (sym (map-append (λ (x : Opened _). x.seats.items) done (one ∷ []))))),
            ),
            omega (arith, o.4, h.1),
          )),
    )

pub returns-clause-workers : goal.returns-clause-workers
returns-clause-workers g c =
    let i = c.loop-one.invariant in
    let z = c.in-None.ensures.steps in
    let none : length (into_iter_items c.loop-one.one-iterator) ≡ 0 = search rules in
    let whole : i.0 ≡ c.args.opened.items = nothing i.0 _ _ i.1 none in
    λ k d below. let h = i.8 k d below in (h.0.0, h.0.1, h.0.2, h.0.3 ∙ ap (λ (l : List (Opened _)). worker_column k (seat_rows l)) whole)
