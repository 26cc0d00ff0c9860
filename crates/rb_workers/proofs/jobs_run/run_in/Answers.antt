use Rattle.std.proofs.Common.{◌≡◌, ◌∙◌, ℕ, ◌<◌, ◌≤◌, [], List, sym, ap, subst, map, get_or, length, vec_capacity, arith}
use Rattle.std.specs.List.{AllZip}
use Rattle.std.specs.Prelude.{All}
use Rattle.std.proofs.lemmas.List.Elements.{AllZip-get_or}
use Rattle.rb_ledger.specs.Seats.{Shared, WorkerSeat}
use Rattle.rb_workers.specs.declared.opened.Opened.{Opened}
use Rattle.rb_workers.specs.declared.consumer_task.ConsumerTask.{ConsumerTask}
use Rattle.rb_jobs.specs.SeatHelpers.{IsAt, AtRings}
use Rattle.rb_workers.specs.declared.workers.Worker.{Worker}
use Rattle.rb_workers.specs.inner.WorkerRuns.{GivesBack, HasRun}
use Rattle.rb_workers.specs.Reports.{IsHandedBack}
use Rattle.rb_workers.specs.inner.ConsumerTasks.{IsSplitOff, IsConsumerTaskOf, Consumed, HasSameParts, IsConsumed, joined_rings, returned_rows}
use Rattle.rb_workers.specs.SeatRows.{seat_rows, worker_column}
use Rattle.rb_jobs.proofs.Lists.{zip_length}
use Rattle.rb_workers.proofs.Joined.{long_joined, merged_into, rings_joined, rows_joined}
use Rattle.rb_workers.proofs.Whole.{column_at, takers_at, homes_at, lent_whole, rings_length, ends_at, worked_at}
use Rattle.rb_workers.proofs.Numbered.{seats_length}
use Rattle.rb_workers.proofs.Reported.{each_ran}
use Rattle.rb_workers.proofs.Same.{handed_back}
use Rattle.rb_workers.specs.Opened.{IsOpened, workers_of}
use Rattle.rb_workers.proofs.jobs_run.run_in.Goals as goal

pub split-requires-clause-seats : goal.split-requires-clause-seats
split-requires-clause-seats g c = λ k d below. seats_length g.S.Sink.position_of (length c.args.workers.now) (get_or c.args.opened.items k d) (c.requires.opened k d below)

pub run_threads-requires-clause-workers : goal.run_threads-requires-clause-workers
run_threads-requires-clause-workers g c κs within =
    let ra : c.as_slice.result.now ≡ map (λ (o : Opened g.row.S.Denot). o.ring) c.args.opened.items = c.as_slice.ensures.value ∙ c.split.ensures.rings in
    λ k d below.
    let kw : k < length c.args.workers.now = omega (arith, c.split.auto.workers) in
    let new = c.requires.workers k d kw in
    let h = c.split.ensures.workers k d kw in (
      subst (λ (r : List Shared). AtRings r (get_or c.split.new.workers k d).seats.items) (sym ra) (subst (AtRings (map (λ (o : Opened g.row.S.Denot). o.ring) c.args.opened.items)) (sym h.3) (column_at g.S.Sink.position_of (length c.args.workers.now) k c.args.opened.items c.requires.opened kw)),
      ap (λ (v : _). v.items) h.2 ∙ new.2,
      h.1 ∙ new.1,
    )

pub run_threads-requires-clause-consumers : goal.run_threads-requires-clause-consumers
run_threads-requires-clause-consumers g c κs within =
    subst (λ (r : List Shared). AllZip (IsConsumerTaskOf g.S.Sink.position_of) r c.as_mut_slice.result.now) (sym (c.as_slice.ensures.value ∙ c.split.ensures.rings))
    (subst (λ (t : List (ConsumerTask g.row.S.Denot)). AllZip (IsConsumerTaskOf g.S.Sink.position_of) (map (λ (o : Opened g.row.S.Denot). o.ring) c.args.opened.items) t) (sym c.as_mut_slice.ensures.value)
    (takers_at g.S.Sink.position_of (length c.args.workers.now) c.args.opened.items c.split.new.consumers.items c.split.ensures.consumers c.requires.opened))

pub return_seats-requires-clause-returned_seats : goal.return_seats-requires-clause-returned_seats
return_seats-requires-clause-returned_seats g c =
    let pos = g.S.Sink.position_of in
    let takes = g.S.Sink.takes in
    let ts = c.run_threads.new.consumers in
    let ends : AllZip (Consumed pos takes) c.split.new.consumers.items ts = subst (λ (l : List (ConsumerTask g.row.S.Denot)). AllZip (Consumed pos takes) l ts) c.as_mut_slice.ensures.value c.run_threads.ensures.consumers in
    let len : length ts ≡ c.split.new.consumers.len = let z = zip_length (Consumed pos takes) c.split.new.consumers.items ts ends in omega (arith, c.split.new.consumers.ok.0) in
    subst (All (λ (t : ConsumerTask g.row.S.Denot). (t.returned_seats.items ≡ []) × (length c.run_threads.new.workers ≤ vec_capacity t.returned_seats))) (sym (c.as_mut_slice-2.ensures.value ∙ lent_whole c.split.new.consumers.len ts c.split.new.consumers.items len))
    (λ k d below. let h = homes_at pos takes (length c.args.workers.now) c.args.opened.items c.split.new.consumers.items ts c.split.ensures.consumers ends c.requires.opened k d below in (h.0, omega (arith, h.1, c.run_threads.auto.workers, c.split.auto.workers)))

pub return_seats-requires-clause-workers : goal.return_seats-requires-clause-workers
return_seats-requires-clause-workers g c = λ k d below.
    let pos = g.S.Sink.position_of in
    let takes = g.S.Sink.takes in
    let ts = c.run_threads.new.consumers in
    let ends : AllZip (Consumed pos takes) c.split.new.consumers.items ts = subst (λ (l : List (ConsumerTask g.row.S.Denot)). AllZip (Consumed pos takes) l ts) c.as_mut_slice.ensures.value c.run_threads.ensures.consumers in
    let consumed = zip_length (Consumed pos takes) c.split.new.consumers.items ts ends in
    let len : length ts ≡ c.split.new.consumers.len = omega (arith, c.split.new.consumers.ok.0) in
    let now : length c.as_mut_slice-2.result.now ≡ length ts = ap length (c.as_mut_slice-2.ensures.value ∙ lent_whole c.split.new.consumers.len ts c.split.new.consumers.items len) in
    let gb = AllZip-get_or (GivesBack c.as_slice.result.now c.args.jobs.now) c.split.new.workers c.run_threads.new.workers k d d c.run_threads.ensures.workers (omega (arith, c.run_threads.auto.workers)) in
    let seats = zip_length IsAt c.as_slice.result.now (get_or c.run_threads.new.workers k d).seats.items gb.1 in
    let rings : length c.as_slice.result.now ≡ length c.args.opened.items = ap length (c.as_slice.ensures.value ∙ c.split.ensures.rings) ∙ rings_length c.args.opened.items in
    let parts = zip_length IsSplitOff c.args.opened.items c.split.new.consumers.items c.split.ensures.consumers in
    omega (arith, now, seats, rings, parts, consumed)

pub returns-clause-len : goal.returns-clause-len
returns-clause-len g c =
    let z = zip_length IsSplitOff c.args.opened.items c.split.new.consumers.items c.split.ensures.consumers in
    let r : length c.split.new.rings.items ≡ length c.args.opened.items = ap length c.split.ensures.rings ∙ rings_length c.args.opened.items in
    omega (arith, c.split.new.consumers.ok.0, c.split.new.rings.ok.0)

pub returns-clause-consumed : goal.returns-clause-consumed
returns-clause-consumed g c =
    let pos = g.S.Sink.position_of in
    let takes = g.S.Sink.takes in
    let rings = c.split.new.rings.items in
    let first = c.split.new.consumers.items in
    let ts = c.run_threads.new.consumers in
    let us = c.return_seats.new.consumers in
    let ends : AllZip (Consumed pos takes) first ts = subst (λ (l : List (ConsumerTask g.row.S.Denot)). AllZip (Consumed pos takes) l ts) c.as_mut_slice.ensures.value c.run_threads.ensures.consumers in
    let len : length ts ≡ c.split.new.consumers.len = let z = zip_length (Consumed pos takes) first ts ends in omega (arith, c.split.new.consumers.ok.0) in
    let now : c.as_mut_slice-2.result.now ≡ ts = c.as_mut_slice-2.ensures.value ∙ lent_whole c.split.new.consumers.len ts first len in
    let same : AllZip HasSameParts ts us = subst (λ (l : List (ConsumerTask g.row.S.Denot)). AllZip HasSameParts l us) now c.return_seats.ensures.consumers in
    let many : length us ≡ c.split.new.consumers.len = c.return_seats.auto.consumers ∙ (ap length now ∙ len) in
    let as_many : length rings ≡ length us = omega (arith, returns-clause-len g c, many, c.split.new.rings.ok.0) in
    subst (λ (l : List (ConsumerTask g.row.S.Denot)). AllZip (IsConsumed pos takes) c.args.opened.items (joined_rings rings l)) (sym (lent_whole c.split.new.consumers.len us _ many))
    (ends_at pos takes c.args.opened.items (joined_rings rings us) first ts c.split.ensures.consumers ends (merged_into rings ts us as_many same))

pub returns-clause-workers : goal.returns-clause-workers
returns-clause-workers g c = λ k d inside.
    let pos = g.S.Sink.position_of in
    let takes = g.S.Sink.takes in
    let rings = c.split.new.rings.items in
    let first = c.split.new.consumers.items in
    let ts = c.run_threads.new.consumers in
    let us = c.return_seats.new.consumers in
    let ends : AllZip (Consumed pos takes) first ts = subst (λ (l : List (ConsumerTask g.row.S.Denot)). AllZip (Consumed pos takes) l ts) c.as_mut_slice.ensures.value c.run_threads.ensures.consumers in
    let len : length ts ≡ c.split.new.consumers.len = let z = zip_length (Consumed pos takes) first ts ends in omega (arith, c.split.new.consumers.ok.0) in
    let now : c.as_mut_slice-2.result.now ≡ ts = c.as_mut_slice-2.ensures.value ∙ lent_whole c.split.new.consumers.len ts first len in
    let many : length us ≡ c.split.new.consumers.len = c.return_seats.auto.consumers ∙ (ap length now ∙ len) in
    let as_many : length rings ≡ length us = omega (arith, returns-clause-len g c, many, c.split.new.rings.ok.0) in
    let rows : seat_rows (joined_rings rings us) ≡ returned_rows us = rows_joined rings us as_many in
    let below : k < length c.args.workers.now = omega (arith, inside, c.requires.count) in
    let new = c.requires.workers k d below in
    let h1 = c.split.ensures.workers k d below in
    let gb = AllZip-get_or (GivesBack c.as_slice.result.now c.args.jobs.now) c.split.new.workers c.run_threads.new.workers k d d c.run_threads.ensures.workers (omega (arith, c.split.auto.workers)) in
    let h2 = c.return_seats.ensures.workers k d (omega (arith, c.run_threads.auto.workers, c.split.auto.workers)) in (
      sym h2.0 ∙ (gb.0 ∙ (h1.0 ∙ new.0)),
      worked_at c.args.jobs.now _ _ _ _ _ _ _ _ _ _ (h1.0 ∙ new.0) h2.1 (ap (λ (v : _). v.items) h2.2) h1.3
          (h2.3 ∙ ap (λ (r : List (List WorkerSeat)). worker_column k r) (sym rows) ∙ ap (λ (l : List (ConsumerTask g.row.S.Denot)). worker_column k (seat_rows (joined_rings rings l))) (sym (lent_whole c.split.new.consumers.len us _ many))) gb.2,
    )

pub returns-clause-handed_back : goal.returns-clause-handed_back
returns-clause-handed_back g c =
    let pos = g.S.Sink.position_of in
    let takes = g.S.Sink.takes in
    let opened = c.args.opened.items in
    let rings = c.split.new.rings.items in
    let first = c.split.new.consumers.items in
    let ts = c.run_threads.new.consumers in
    let us = c.return_seats.new.consumers in
    let ends : AllZip (Consumed pos takes) first ts = subst (λ (l : List (ConsumerTask g.row.S.Denot)). AllZip (Consumed pos takes) l ts) c.as_mut_slice.ensures.value c.run_threads.ensures.consumers in
    let len : length ts ≡ c.split.new.consumers.len = let z = zip_length (Consumed pos takes) first ts ends in omega (arith, c.split.new.consumers.ok.0) in
    let now : c.as_mut_slice-2.result.now ≡ ts = c.as_mut_slice-2.ensures.value ∙ lent_whole c.split.new.consumers.len ts first len in
    let many : length us ≡ c.split.new.consumers.len = c.return_seats.auto.consumers ∙ (ap length now ∙ len) in
    let as_many : length rings ≡ length us = omega (arith, returns-clause-len g c, many, c.split.new.rings.ok.0) in
    let whole = lent_whole c.split.new.consumers.len us _ many in
    let workers = c.return_seats.new.workers in
    let counted : length workers ≡ length c.args.workers.now = c.return_seats.auto.workers ∙ (c.run_threads.auto.workers ∙ c.split.auto.workers) in
    let Ran = λ (l : List (ConsumerTask g.row.S.Denot)). (k : ℕ) (d : Worker) → k < workers_of opened → HasRun k c.args.jobs.now (worker_column k (seat_rows opened)) (worker_column k (seat_rows (joined_rings rings l))) (get_or workers k d) in
    subst (λ (l : List (ConsumerTask g.row.S.Denot)). IsHandedBack pos takes opened c.args.jobs.now (joined_rings rings l)) (sym whole)
    (handed_back pos takes opened (joined_rings rings us) c.args.jobs.now (subst (λ n. All (IsOpened pos n) opened) c.requires.count c.requires.opened) (rings_joined rings us as_many ∙ c.split.ensures.rings)
    (subst (λ (l : List (ConsumerTask g.row.S.Denot)). AllZip (IsConsumed pos takes) opened (joined_rings rings l)) whole (returns-clause-consumed g c))
    (long_joined (workers_of opened) rings us as_many (λ k d below. c.return_seats.ensures.seats k d below ∙ (c.run_threads.auto.workers ∙ (c.split.auto.workers ∙ c.requires.count))))
    (each_ran (workers_of opened) c.args.jobs.now (seat_rows opened) (seat_rows (joined_rings rings us)) workers (counted ∙ c.requires.count) (subst Ran whole (returns-clause-workers g c))))
