use Rattle.std.proofs.Common.{◌≡◌, ◌∙◌, List, sym, ap, subst, length}
use Rattle.std.specs.Prelude.{All}
use Rattle.rb_dealing.specs.Queues.{AreEmptyQueues, AreFeedsOf}
use Rattle.rb_dealing.specs.Streams.{RunsStream}
use Rattle.rb_dealing.specs.declared.lane.Lane.{Lane}
use Rattle.rb_dealing.specs.declared.lane.LaneFeed.{LaneFeed}
use Rattle.rb_workers.specs.declared.used_sheets.UsedSheets.{UsedSheets}
use Rattle.rb_workers.proofs.Whole.{lent_whole}
use Rattle.rb_stream_worker.specs.ContextRuns.{IsReadyWorker, WorkerRuns}
use Rattle.rb_stream_worker.specs.declared.stream_worker.StreamWorker.{StreamWorker}
use Rattle.rb_stream.specs.inner.Counts.{AddsCounts, SameTables}
use Rattle.rb_stream.specs.inner.Lanes.{SwapsSeats}
use Rattle.rb_stream.proofs.Counted.{counts_in}
use Rattle.rb_stream.proofs.Streams.{nothing_ran, took_nothing}
use Rattle.rb_stream.proofs.Swapped.{empty_at, pairs_at, ready_at, split_ran, split_seats, split_tables}
use Rattle.rb_stream.proofs.stream_run.run_split.Goals as goal

pub returns-in_default-clause-ran : goal.returns-in_default-clause-ran
returns-in_default-clause-ran g c =
    nothing_ran g.I.Source.gives (length c.args.workers.now) c.args.programs.now c.args.full.now c.args.options.bound c.args.source.now _ c.args.dealt.now c.args.total.now (c.gives_nothing.ensures.law c.args.source.now) c.requires.dealt.0 c.requires.dealt.1 c.requires.total

pub returns-in_default-clause-consumers : goal.returns-in_default-clause-consumers
returns-in_default-clause-consumers g c = took_nothing g.S.Sink.position_of g.S.Sink.takes c.args.rings.now c.args.consumers.now c.requires.consumers

pub run_threads-requires-clause-ready : goal.run_threads-requires-clause-ready
run_threads-requires-clause-ready g c κs within =
    let L = Lane (StreamWorker g.row.R.Denot (UsedSheets g.row.R.Denot)) in
    let lanes = c.in-Ok.field-0.lanes in
    let os = c.swap_seats.new.lanes in
    let made = c.in-Ok.ensures.new in
    let many : length os ≡ length lanes.items = c.swap_seats.auto.lanes ∙ ap length c.as_mut_slice.ensures.value in
    let now : c.as_mut_slice-3.result.now ≡ os = c.as_mut_slice-3.ensures.value ∙ lent_whole lanes.len os lanes.items (many ∙ sym lanes.ok.0) in
    let swapped = subst (λ (l : List L). SwapsSeats c.args.workers.now c.swap_seats.new.workers l os) c.as_mut_slice.ensures.value c.swap_seats.ensures.swapped in
    subst (λ (l : List L). All (λ lane. IsReadyWorker lane.worker) l) (sym now)
    (ready_at c.args.rings.now c.args.programs.now c.args.full.now c.args.ctx_len c.args.options.bound _ c.args.workers.now c.swap_seats.new.workers os made many swapped c.requires.seats c.requires.fit c.requires.limits)

pub run_threads-requires-clause-pairs : goal.run_threads-requires-clause-pairs
run_threads-requires-clause-pairs g c κs within =
    let L = Lane (StreamWorker g.row.R.Denot (UsedSheets g.row.R.Denot)) in
    let lanes = c.in-Ok.field-0.lanes in
    let os = c.swap_seats.new.lanes in
    let made = c.in-Ok.ensures.new in
    let many : length os ≡ length lanes.items = c.swap_seats.auto.lanes ∙ ap length c.as_mut_slice.ensures.value in
    let now : c.as_mut_slice-3.result.now ≡ os = c.as_mut_slice-3.ensures.value ∙ lent_whole lanes.len os lanes.items (many ∙ sym lanes.ok.0) in
    let swapped = subst (λ (l : List L). SwapsSeats c.args.workers.now c.swap_seats.new.workers l os) c.as_mut_slice.ensures.value c.swap_seats.ensures.swapped in
    subst (λ (l : List L). AreFeedsOf c.as_mut_slice-2.result.now l) (sym now)
    (subst (λ (l : List LaneFeed). AreFeedsOf l os) (sym c.as_mut_slice-2.ensures.value)
    (pairs_at c.args.rings.now c.args.programs.now c.args.full.now c.args.ctx_len c.args.options.bound _ c.args.workers.now c.swap_seats.new.workers os made many swapped))

pub run_threads-requires-clause-empty : goal.run_threads-requires-clause-empty
run_threads-requires-clause-empty g c κs within =
    let L = Lane (StreamWorker g.row.R.Denot (UsedSheets g.row.R.Denot)) in
    let lanes = c.in-Ok.field-0.lanes in
    let os = c.swap_seats.new.lanes in
    let made = c.in-Ok.ensures.new in
    let many : length os ≡ length lanes.items = c.swap_seats.auto.lanes ∙ ap length c.as_mut_slice.ensures.value in
    let now : c.as_mut_slice-3.result.now ≡ os = c.as_mut_slice-3.ensures.value ∙ lent_whole lanes.len os lanes.items (many ∙ sym lanes.ok.0) in
    let swapped = subst (λ (l : List L). SwapsSeats c.args.workers.now c.swap_seats.new.workers l os) c.as_mut_slice.ensures.value c.swap_seats.ensures.swapped in
    subst (λ (l : List L). AreEmptyQueues c.as_mut_slice-2.result.now l) (sym now)
    (subst (λ (l : List LaneFeed). AreEmptyQueues l os) (sym c.as_mut_slice-2.ensures.value)
    (empty_at c.args.rings.now c.args.programs.now c.args.full.now c.args.ctx_len c.args.options.bound _ c.args.workers.now c.swap_seats.new.workers os made many swapped))

pub add_up-requires : goal.add_up-requires
add_up-requires g c =
    let L = Lane (StreamWorker g.row.R.Denot (UsedSheets g.row.R.Denot)) in
    let lanes = c.in-Ok.field-0.lanes in
    let os = c.swap_seats.new.lanes in
    let ls = c.run_threads.new.lanes in
    let ends = c.swap_seats-2.new.lanes in
    let made = c.in-Ok.ensures.new in
    let many : length os ≡ length lanes.items = c.swap_seats.auto.lanes ∙ ap length c.as_mut_slice.ensures.value in
    let now : c.as_mut_slice-3.result.now ≡ os = c.as_mut_slice-3.ensures.value ∙ lent_whole lanes.len os lanes.items (many ∙ sym lanes.ok.0) in
    let swapped = subst (λ (l : List L). SwapsSeats c.args.workers.now c.swap_seats.new.workers l os) c.as_mut_slice.ensures.value c.swap_seats.ensures.swapped in
    let later : length ls ≡ length lanes.items = c.run_threads.auto.lanes ∙ (ap length now ∙ many) in
    let after : c.as_mut_slice-4.result.now ≡ ls = c.as_mut_slice-4.ensures.value ∙ lent_whole lanes.len ls _ (later ∙ sym lanes.ok.0) in
    let ended : length ends ≡ length ls = c.swap_seats-2.auto.lanes ∙ ap length after in
    let stream = subst (λ (l : List L). RunsStream g.I.Source.gives IsReadyWorker WorkerRuns c.args.source.now c.run_threads.new.source l ls c.run_threads.new.dealt) now c.run_threads.ensures.stream in
    let again = subst (λ (l : List L). SwapsSeats c.swap_seats.new.workers c.swap_seats-2.new.workers l ends) after c.swap_seats-2.ensures.swapped in
    let all : c.as_slice.result.now ≡ ends = c.as_slice.ensures.value ∙ lent_whole lanes.len ends _ (ended ∙ (later ∙ sym lanes.ok.0)) in
    record {
      tables = subst (λ (l : List L). All (λ lane. SameTables lane.worker.counts c.args.total.now) l) (sym all)
          (split_tables g.I.Source.gives c.args.rings.now c.args.programs.now c.args.full.now c.args.ctx_len c.args.options.bound c.args.source.now c.run_threads.new.source _ c.args.workers.now c.swap_seats.new.workers c.swap_seats-2.new.workers os ls ends c.run_threads.new.dealt made many swapped stream c.swap_seats.auto.workers c.swap_seats-2.auto.workers ended again c.args.total.now c.requires.total);
    }

pub returns-clause-ran : goal.returns-clause-ran
returns-clause-ran g c =
    let L = Lane (StreamWorker g.row.R.Denot (UsedSheets g.row.R.Denot)) in
    let lanes = c.in-Ok.field-0.lanes in
    let os = c.swap_seats.new.lanes in
    let ls = c.run_threads.new.lanes in
    let ends = c.swap_seats-2.new.lanes in
    let made = c.in-Ok.ensures.new in
    let many : length os ≡ length lanes.items = c.swap_seats.auto.lanes ∙ ap length c.as_mut_slice.ensures.value in
    let now : c.as_mut_slice-3.result.now ≡ os = c.as_mut_slice-3.ensures.value ∙ lent_whole lanes.len os lanes.items (many ∙ sym lanes.ok.0) in
    let swapped = subst (λ (l : List L). SwapsSeats c.args.workers.now c.swap_seats.new.workers l os) c.as_mut_slice.ensures.value c.swap_seats.ensures.swapped in
    let later : length ls ≡ length lanes.items = c.run_threads.auto.lanes ∙ (ap length now ∙ many) in
    let after : c.as_mut_slice-4.result.now ≡ ls = c.as_mut_slice-4.ensures.value ∙ lent_whole lanes.len ls _ (later ∙ sym lanes.ok.0) in
    let ended : length ends ≡ length ls = c.swap_seats-2.auto.lanes ∙ ap length after in
    let stream = subst (λ (l : List L). RunsStream g.I.Source.gives IsReadyWorker WorkerRuns c.args.source.now c.run_threads.new.source l ls c.run_threads.new.dealt) now c.run_threads.ensures.stream in
    let again = subst (λ (l : List L). SwapsSeats c.swap_seats.new.workers c.swap_seats-2.new.workers l ends) after c.swap_seats-2.ensures.swapped in
    let all : c.as_slice.result.now ≡ ends = c.as_slice.ensures.value ∙ lent_whole lanes.len ends _ (ended ∙ (later ∙ sym lanes.ok.0)) in
    split_ran g.I.Source.gives c.args.rings.now c.args.programs.now c.args.full.now c.args.ctx_len c.args.options.bound c.args.source.now c.run_threads.new.source _ c.args.workers.now c.swap_seats.new.workers c.swap_seats-2.new.workers os ls ends c.run_threads.new.dealt made many swapped stream c.swap_seats.auto.workers c.swap_seats-2.auto.workers ended again c.args.total.now c.add_up.new.total c.requires.total
    (subst (λ (l : List L). AddsCounts (counts_in l) c.args.total.now c.add_up.new.total) all c.add_up.ensures.added)

pub returns-clause-seats : goal.returns-clause-seats
returns-clause-seats g c =
    let L = Lane (StreamWorker g.row.R.Denot (UsedSheets g.row.R.Denot)) in
    let lanes = c.in-Ok.field-0.lanes in
    let os = c.swap_seats.new.lanes in
    let ls = c.run_threads.new.lanes in
    let ends = c.swap_seats-2.new.lanes in
    let made = c.in-Ok.ensures.new in
    let many : length os ≡ length lanes.items = c.swap_seats.auto.lanes ∙ ap length c.as_mut_slice.ensures.value in
    let now : c.as_mut_slice-3.result.now ≡ os = c.as_mut_slice-3.ensures.value ∙ lent_whole lanes.len os lanes.items (many ∙ sym lanes.ok.0) in
    let swapped = subst (λ (l : List L). SwapsSeats c.args.workers.now c.swap_seats.new.workers l os) c.as_mut_slice.ensures.value c.swap_seats.ensures.swapped in
    let later : length ls ≡ length lanes.items = c.run_threads.auto.lanes ∙ (ap length now ∙ many) in
    let after : c.as_mut_slice-4.result.now ≡ ls = c.as_mut_slice-4.ensures.value ∙ lent_whole lanes.len ls _ (later ∙ sym lanes.ok.0) in
    let ended : length ends ≡ length ls = c.swap_seats-2.auto.lanes ∙ ap length after in
    let stream = subst (λ (l : List L). RunsStream g.I.Source.gives IsReadyWorker WorkerRuns c.args.source.now c.run_threads.new.source l ls c.run_threads.new.dealt) now c.run_threads.ensures.stream in
    let again = subst (λ (l : List L). SwapsSeats c.swap_seats.new.workers c.swap_seats-2.new.workers l ends) after c.swap_seats-2.ensures.swapped in
    split_seats g.I.Source.gives c.args.rings.now c.args.programs.now c.args.full.now c.args.ctx_len c.args.options.bound c.args.source.now c.run_threads.new.source _ c.args.workers.now c.swap_seats.new.workers c.swap_seats-2.new.workers os ls ends c.run_threads.new.dealt made many swapped stream c.swap_seats.auto.workers c.swap_seats-2.auto.workers ended again
