use Rattle.std.proofs.Common.{◌≡◌, ◌∙◌, ◌<◌, ◌≤◌, [], List, sym, ap, subst, map, get_or, length, vec_capacity, arith}
use Rattle.std.specs.List.{AllZip}
use Rattle.std.specs.Prelude.{All}
use Rattle.rb_ledger.specs.Seats.{Shared, WorkerSeat}
use Rattle.rb_jobs.specs.SeatHelpers.{IsAt, AtRings}
use Rattle.rb_jobs.proofs.Lists.{zip_length}
use Rattle.rb_workers.specs.declared.opened.Opened.{Opened}
use Rattle.rb_workers.specs.declared.consumer_task.ConsumerTask.{ConsumerTask}
use Rattle.rb_workers.specs.inner.ConsumerTasks.{IsSplitOff, IsConsumerTaskOf, Consumed, HasSameParts, IsConsumed, joined_rings, returned_rows}
use Rattle.rb_workers.specs.Opened.{IsOpened, workers_of}
use Rattle.rb_workers.specs.SeatRows.{seat_rows, worker_column}
use Rattle.rb_workers.proofs.Joined.{long_joined, merged_into, rings_joined, rows_joined}
use Rattle.rb_workers.proofs.Numbered.{seats_length}
use Rattle.rb_workers.proofs.Whole.{column_at, takers_at, homes_at, lent_whole, rings_length, ends_at}
use Rattle.rb_stream_worker.specs.ContextRuns.{IsProgramFor}
use Rattle.rb_stream_worker.specs.Turns.{FitsRings}
use Rattle.rb_stream.specs.Returned.{AreReturned}
use Rattle.rb_stream.specs.inner.Runs.{StreamRan}
use Rattle.rb_stream.proofs.Counted.{element_of}
use Rattle.rb_stream.proofs.Streams.{columns, returned_of, seats_of_at, stream_at}
use Rattle.rb_stream.proofs.stream_run.run_in.Goals as goal

pub split-requires-clause-seats : goal.split-requires-clause-seats
split-requires-clause-seats g c = λ k d below. seats_length g.S.Sink.position_of (length c.args.workers.now) (get_or c.args.opened.items k d) (c.requires.opened k d below)

pub run_split-requires-clause-fit : goal.run_split-requires-clause-fit
run_split-requires-clause-fit g c κs within =
    let rings : length c.as_slice.result.now ≡ length c.args.opened.items = ap length (c.as_slice.ensures.value ∙ c.split.ensures.rings) ∙ rings_length c.args.opened.items in
    subst (λ n. All (IsProgramFor n c.args.ctx_len) c.args.programs.now) (c.args.opened.ok.0 ∙ sym rings) c.requires.fit

pub run_split-requires-clause-limits : goal.run_split-requires-clause-limits
run_split-requires-clause-limits g c κs within =
    let rings : length c.as_slice.result.now ≡ length c.args.opened.items = ap length (c.as_slice.ensures.value ∙ c.split.ensures.rings) ∙ rings_length c.args.opened.items in
    subst (λ n. FitsRings c.args.full.now n) (c.args.opened.ok.0 ∙ sym rings) c.requires.limits

pub run_split-requires-clause-seats : goal.run_split-requires-clause-seats
run_split-requires-clause-seats g c κs within =
    let ra : c.as_slice.result.now ≡ map (λ (o : Opened g.row.S.Denot). o.ring) c.args.opened.items = c.as_slice.ensures.value ∙ c.split.ensures.rings in
    λ k d below.
    let kw : k < length c.args.workers.now = omega (arith, c.split.auto.workers) in
    let h = c.split.ensures.workers k d kw in
    subst (λ (r : List Shared). AtRings r (get_or c.split.new.workers k d).seats.items) (sym ra)
    (subst (AtRings (map (λ (o : Opened g.row.S.Denot). o.ring) c.args.opened.items)) (sym h.3) (column_at g.S.Sink.position_of (length c.args.workers.now) k c.args.opened.items c.requires.opened kw))

pub run_split-requires-clause-consumers : goal.run_split-requires-clause-consumers
run_split-requires-clause-consumers g c κs within =
    subst (λ (r : List Shared). AllZip (IsConsumerTaskOf g.S.Sink.position_of) r c.as_mut_slice.result.now) (sym (c.as_slice.ensures.value ∙ c.split.ensures.rings))
    (subst (λ (t : List (ConsumerTask g.row.S.Denot)). AllZip (IsConsumerTaskOf g.S.Sink.position_of) (map (λ (o : Opened g.row.S.Denot). o.ring) c.args.opened.items) t) (sym c.as_mut_slice.ensures.value)
    (takers_at g.S.Sink.position_of (length c.args.workers.now) c.args.opened.items c.split.new.consumers.items c.split.ensures.consumers c.requires.opened))

pub return_seats-requires-clause-returned_seats : goal.return_seats-requires-clause-returned_seats
return_seats-requires-clause-returned_seats g c =
    let pos = g.S.Sink.position_of in
    let takes = g.S.Sink.takes in
    let ts = c.run_split.new.consumers in
    let ends : AllZip (Consumed pos takes) c.split.new.consumers.items ts = subst (λ (l : List (ConsumerTask g.row.S.Denot)). AllZip (Consumed pos takes) l ts) c.as_mut_slice.ensures.value c.run_split.ensures.consumers in
    let len : length ts ≡ c.split.new.consumers.len = let z = zip_length (Consumed pos takes) c.split.new.consumers.items ts ends in omega (arith, c.split.new.consumers.ok.0) in
    subst (All (λ (t : ConsumerTask g.row.S.Denot). (t.returned_seats.items ≡ []) × (length c.run_split.new.workers ≤ vec_capacity t.returned_seats))) (sym (c.as_mut_slice-2.ensures.value ∙ lent_whole c.split.new.consumers.len ts c.split.new.consumers.items len))
    (λ k d below. let h = homes_at pos takes (length c.args.workers.now) c.args.opened.items c.split.new.consumers.items ts c.split.ensures.consumers ends c.requires.opened k d below in (h.0, omega (arith, h.1, c.run_split.auto.workers, c.split.auto.workers)))

pub return_seats-requires-clause-workers : goal.return_seats-requires-clause-workers
return_seats-requires-clause-workers g c = λ k d below.
    let pos = g.S.Sink.position_of in
    let takes = g.S.Sink.takes in
    let ts = c.run_split.new.consumers in
    let ends : AllZip (Consumed pos takes) c.split.new.consumers.items ts = subst (λ (l : List (ConsumerTask g.row.S.Denot)). AllZip (Consumed pos takes) l ts) c.as_mut_slice.ensures.value c.run_split.ensures.consumers in
    let consumed = zip_length (Consumed pos takes) c.split.new.consumers.items ts ends in
    let len : length ts ≡ c.split.new.consumers.len = omega (arith, c.split.new.consumers.ok.0) in
    let now : length c.as_mut_slice-2.result.now ≡ length ts = ap length (c.as_mut_slice-2.ensures.value ∙ lent_whole c.split.new.consumers.len ts c.split.new.consumers.items len) in
    let seats = zip_length IsAt c.as_slice.result.now (get_or c.run_split.new.workers k d).seats.items (c.run_split.ensures.seats k d below) in
    let rings : length c.as_slice.result.now ≡ length c.args.opened.items = ap length (c.as_slice.ensures.value ∙ c.split.ensures.rings) ∙ rings_length c.args.opened.items in
    let parts = zip_length IsSplitOff c.args.opened.items c.split.new.consumers.items c.split.ensures.consumers in
    omega (arith, now, seats, rings, parts, consumed)

pub returns-clause-len : goal.returns-clause-len
returns-clause-len g c =
    let z = zip_length IsSplitOff c.args.opened.items c.split.new.consumers.items c.split.ensures.consumers in
    let r : length c.split.new.rings.items ≡ length c.args.opened.items = ap length c.split.ensures.rings ∙ rings_length c.args.opened.items in
    omega (arith, c.split.new.consumers.ok.0, c.split.new.rings.ok.0)

pub returns-clause-consumed : goal.returns-clause-consumed
returns-clause-consumed g c =
    let pos = g.S.Sink.position_of in
    let takes = g.S.Sink.takes in
    let rings = c.split.new.rings.items in
    let first = c.split.new.consumers.items in
    let ts = c.run_split.new.consumers in
    let us = c.return_seats.new.consumers in
    let ends : AllZip (Consumed pos takes) first ts = subst (λ (l : List (ConsumerTask g.row.S.Denot)). AllZip (Consumed pos takes) l ts) c.as_mut_slice.ensures.value c.run_split.ensures.consumers in
    let len : length ts ≡ c.split.new.consumers.len = let z = zip_length (Consumed pos takes) first ts ends in omega (arith, c.split.new.consumers.ok.0) in
    let now : c.as_mut_slice-2.result.now ≡ ts = c.as_mut_slice-2.ensures.value ∙ lent_whole c.split.new.consumers.len ts first len in
    let same : AllZip HasSameParts ts us = subst (λ (l : List (ConsumerTask g.row.S.Denot)). AllZip HasSameParts l us) now c.return_seats.ensures.consumers in
    let many : length us ≡ c.split.new.consumers.len = c.return_seats.auto.consumers ∙ (ap length now ∙ len) in
    let as_many : length rings ≡ length us = omega (arith, returns-clause-len g c, many, c.split.new.rings.ok.0) in
    subst (λ (l : List (ConsumerTask g.row.S.Denot)). AllZip (IsConsumed pos takes) c.args.opened.items (joined_rings rings l)) (sym (lent_whole c.split.new.consumers.len us _ many))
    (ends_at pos takes c.args.opened.items (joined_rings rings us) first ts c.split.ensures.consumers ends (merged_into rings ts us as_many same))

pub returns-clause-ran : goal.returns-clause-ran
returns-clause-ran g c =
    let pos = g.S.Sink.position_of in
    let takes = g.S.Sink.takes in
    let opened = c.args.opened.items in
    let rings = c.split.new.rings.items in
    let first = c.split.new.consumers.items in
    let ts = c.run_split.new.consumers in
    let us = c.return_seats.new.consumers in
    let ends : AllZip (Consumed pos takes) first ts = subst (λ (l : List (ConsumerTask g.row.S.Denot)). AllZip (Consumed pos takes) l ts) c.as_mut_slice.ensures.value c.run_split.ensures.consumers in
    let len : length ts ≡ c.split.new.consumers.len = let z = zip_length (Consumed pos takes) first ts ends in omega (arith, c.split.new.consumers.ok.0) in
    let now : c.as_mut_slice-2.result.now ≡ ts = c.as_mut_slice-2.ensures.value ∙ lent_whole c.split.new.consumers.len ts first len in
    let many : length us ≡ c.split.new.consumers.len = c.return_seats.auto.consumers ∙ (ap length now ∙ len) in
    let as_many : length rings ≡ length us = omega (arith, returns-clause-len g c, many, c.split.new.rings.ok.0) in
    let rows : seat_rows (joined_rings rings us) ≡ returned_rows us = rows_joined rings us as_many in
    let same : length c.split.new.workers ≡ workers_of opened = c.split.auto.workers ∙ c.requires.count in
    let whole = lent_whole c.split.new.consumers.len us _ many in
    subst (λ (l : List (ConsumerTask g.row.S.Denot)). StreamRan g.I.Source.gives (workers_of opened) c.args.programs.now c.args.full.now c.args.options.bound c.args.source.now c.run_split.new.source (columns opened) (columns (joined_rings rings l)) c.run_split.new.dealt c.run_split.new.total) (sym whole)
    (stream_at g.I.Source.gives (length c.split.new.workers) (workers_of opened) c.args.programs.now c.args.full.now c.args.options.bound c.args.source.now c.run_split.new.source _ _ (columns opened) (columns (joined_rings rings us)) c.run_split.new.dealt c.run_split.new.total same
    (λ k below.
    let here : k < length c.args.workers.now = omega (arith, below, c.requires.count) in
    let d = element_of c.split.new.workers k (omega (arith, below, same)) in
    seats_of_at c.split.new.workers k d (omega (arith, below, same)) ∙ (c.split.ensures.workers k d here).3)
    (λ k below.
    let there : k < length c.run_split.new.workers = omega (arith, below, same, c.run_split.auto.workers) in
    let d = element_of c.run_split.new.workers k there in
    seats_of_at c.run_split.new.workers k d there ∙ ((c.return_seats.ensures.workers k d there).3 ∙ ap (λ (r : List (List WorkerSeat)). worker_column k r) (sym rows)))
    c.run_split.ensures.ran)

pub returns-clause-returned : goal.returns-clause-returned
returns-clause-returned g c =
    let pos = g.S.Sink.position_of in
    let takes = g.S.Sink.takes in
    let opened = c.args.opened.items in
    let rings = c.split.new.rings.items in
    let first = c.split.new.consumers.items in
    let ts = c.run_split.new.consumers in
    let us = c.return_seats.new.consumers in
    let ends : AllZip (Consumed pos takes) first ts = subst (λ (l : List (ConsumerTask g.row.S.Denot)). AllZip (Consumed pos takes) l ts) c.as_mut_slice.ensures.value c.run_split.ensures.consumers in
    let len : length ts ≡ c.split.new.consumers.len = let z = zip_length (Consumed pos takes) first ts ends in omega (arith, c.split.new.consumers.ok.0) in
    let now : c.as_mut_slice-2.result.now ≡ ts = c.as_mut_slice-2.ensures.value ∙ lent_whole c.split.new.consumers.len ts first len in
    let many : length us ≡ c.split.new.consumers.len = c.return_seats.auto.consumers ∙ (ap length now ∙ len) in
    let as_many : length rings ≡ length us = omega (arith, returns-clause-len g c, many, c.split.new.rings.ok.0) in
    let whole = lent_whole c.split.new.consumers.len us _ many in
    let Ran = λ (l : List (ConsumerTask g.row.S.Denot)). StreamRan g.I.Source.gives (workers_of opened) c.args.programs.now c.args.full.now c.args.options.bound c.args.source.now c.run_split.new.source (columns opened) (columns (joined_rings rings l)) c.run_split.new.dealt c.run_split.new.total in
    subst (λ (l : List (ConsumerTask g.row.S.Denot)). AreReturned pos takes opened (joined_rings rings l)) (sym whole)
    (returned_of pos takes g.I.Source.gives opened (joined_rings rings us) c.args.programs.now c.args.full.now c.args.options.bound c.args.source.now c.run_split.new.source c.run_split.new.dealt c.run_split.new.total
    (subst (λ n. All (IsOpened pos n) opened) c.requires.count c.requires.opened) (rings_joined rings us as_many ∙ c.split.ensures.rings)
    (subst (λ (l : List (ConsumerTask g.row.S.Denot)). AllZip (IsConsumed pos takes) opened (joined_rings rings l)) whole (returns-clause-consumed g c))
    (long_joined (workers_of opened) rings us as_many (λ k d below. c.return_seats.ensures.seats k d below ∙ (c.run_split.auto.workers ∙ (c.split.auto.workers ∙ c.requires.count))))
    (subst Ran whole (returns-clause-ran g c)))
