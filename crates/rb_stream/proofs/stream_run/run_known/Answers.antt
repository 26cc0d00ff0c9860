use Rattle.std.proofs.Common.{◌≡◌, ◌∙◌, List, get_or, length, vec_len, refl, sym, ap, subst, arith}
use Rattle.std.specs.Prelude.{All}
use Rattle.std.specs.List.{AllZip}
use Rattle.rb_ledger.specs.Seats.{IsSameSeat}
use Rattle.rb_jobs.proofs.Lists.{zip_length}
use Rattle.rb_workers.specs.declared.workers.Worker.{Worker}
use Rattle.rb_workers.specs.inner.ConsumerTasks.{joined_rings}
use Rattle.rb_workers.specs.inner.WorkerRuns.{IsNew}
use Rattle.rb_workers.specs.Opened.{IsOpened, workers_of}
use Rattle.rb_workers.specs.inner.RunBuffers.{IsEmptyFor}
use Rattle.rb_workers.specs.SeatRows.{seat_rows}
use Rattle.rb_workers.proofs.Joined.{joined_length}
use Rattle.rb_workers.proofs.Parts.{rows_length}
use Rattle.rb_workers.proofs.Settling.{all_leave_nothing}
use Rattle.rb_stream.proofs.Settled.{all_settled}
use Rattle.rb_stream.proofs.Streams.{ends_source, streamed_of}
use Rattle.rb_stream.proofs.stream_run.run_known.Goals as goal

pub run_and_empty-requires-clause-opened : goal.run_and_empty-requires-clause-opened
run_and_empty-requires-clause-opened g c κs within =
    let count = workers_of c.args.opened.items in
    let many : length c.as_mut_slice.result.now ≡ count = ap length c.as_mut_slice.ensures.value ∙ (sym c.args.buffers.workers.ok.0 ∙ c.requires.buffers.workers_count) in
    subst (λ n. All (IsOpened g.S.Sink.position_of n) c.args.opened.items) (sym many) c.requires.opened

pub run_and_empty-requires-clause-workers : goal.run_and_empty-requires-clause-workers
run_and_empty-requires-clause-workers g c κs within =
    let count = workers_of c.args.opened.items in
    let many : length c.as_mut_slice.result.now ≡ count = ap length c.as_mut_slice.ensures.value ∙ (sym c.args.buffers.workers.ok.0 ∙ c.requires.buffers.workers_count) in
    λ k d below. subst (λ (l : List Worker). IsNew k (vec_len c.args.opened) (get_or l k d)) (sym c.as_mut_slice.ensures.value) (c.requires.buffers.workers_new k d (omega (arith, below, many)))

pub merge-requires-clause-merged : goal.merge-requires-clause-merged
merge-requires-clause-merged g c =
    let back = c.run_and_empty.ensures.returned in
    let rings = c.run_and_empty.new.rings in
    let tasks = c.run_and_empty.new.consumers in
    let len : length rings.items ≡ length tasks.items = omega (arith, c.run_and_empty.ensures.len, rings.ok.0, tasks.ok.0) in
    let joined = joined_rings rings.items tasks.items in
    let z = zip_length (AllZip IsSameSeat) (seat_rows c.args.opened.items) (seat_rows joined) back.seats_same in
    let old = rows_length c.args.opened.items in
    let new = rows_length joined in
    let many = joined_length rings.items tasks.items len in
    (c.requires.buffers.merged_fits.0, omega (arith, c.run_and_empty.ensures.len, rings.ok.0, tasks.ok.0, z, old, new, many, c.args.opened.ok.0, c.requires.buffers.merged_fits.1))

pub close_all-rings-requires-clause-ended : goal.close_all-rings-requires-clause-ended
close_all-rings-requires-clause-ended g c =
    let back = c.run_and_empty.ensures.returned in
    let rings = c.run_and_empty.new.rings in
    let tasks = c.run_and_empty.new.consumers in
    let len : length rings.items ≡ length tasks.items = omega (arith, c.run_and_empty.ensures.len, rings.ok.0, tasks.ok.0) in
    let joined = joined_rings rings.items tasks.items in
    let z = zip_length (AllZip IsSameSeat) (seat_rows c.args.opened.items) (seat_rows joined) back.seats_same in
    let old = rows_length c.args.opened.items in
    let new = rows_length joined in
    let many = joined_length rings.items tasks.items len in
    (c.requires.buffers.ended_fit.0, omega (arith, c.run_and_empty.ensures.len, rings.ok.0, tasks.ok.0, z, old, new, many, c.args.opened.ok.0, c.requires.buffers.ended_fit.1))

pub close_all-rings-requires-clause-tallies : goal.close_all-rings-requires-clause-tallies
close_all-rings-requires-clause-tallies g c =
    let returned = c.run_and_empty.ensures.returned in
    let rings = c.run_and_empty.new.rings in
    let tasks = c.run_and_empty.new.consumers in
    let len : length rings.items ≡ length tasks.items = omega (arith, c.run_and_empty.ensures.len, rings.ok.0, tasks.ok.0) in
    let back = joined_rings rings.items tasks.items in
    let z = zip_length (AllZip IsSameSeat) (seat_rows c.args.opened.items) (seat_rows back) returned.seats_same in
    let old = rows_length c.args.opened.items in
    let new = rows_length back in
    let many = joined_length rings.items tasks.items len in (
      omega (arith, c.requires.buffers.tallies_count, c.args.opened.ok.0, tasks.ok.0, c.run_and_empty.ensures.len, z, old, new, many),
      subst (λ n. All (IsEmptyFor n) c.args.buffers.tallies.items) (sym returned.workers_same) c.requires.buffers.tallies_fit,
    )

pub returns-clause-streamed : goal.returns-clause-streamed
returns-clause-streamed g c =
    let run = c.run_and_empty in
    let back = joined_rings run.new.rings.items run.new.consumers.items in
    streamed_of g.S.Sink.position_of g.S.Sink.takes g.I.Source.gives c.args.opened.items back c.args.programs.now c.args.full.now c.args.options.bound c.args.source.now run.new.source run.new.dealt run.new.total _
    c.requires.opened run.ensures.returned run.ensures.ran c.in-Some.ensures.not_stopped c.close_all-rings.ensures.closes refl refl refl refl refl

pub returns-clause-end : goal.returns-clause-end
returns-clause-end g c =
    let run = c.run_and_empty in
    ends_source g.I.Source.is_over g.I.Source.fails run.new.source c.in-Some.end run.new.dealt.end c.in-Some.ensures.end run.ensures.end

pub returns-clause-nothing_left : goal.returns-clause-nothing_left
returns-clause-nothing_left g c =
    all_leave_nothing (joined_rings c.run_and_empty.new.rings.items c.run_and_empty.new.consumers.items) c.close_all-rings.result.items c.close_all-rings.ensures.closes c.run_and_empty.ensures.drained

pub returns-clause-settled : goal.returns-clause-settled
returns-clause-settled g c =
    let run = c.run_and_empty in
    let opened = c.args.opened.items in
    let returned = run.ensures.returned in
    let back = joined_rings run.new.rings.items run.new.consumers.items in
    let again : All (IsOpened g.S.Sink.position_of (workers_of opened)) back = subst (λ n. All (IsOpened g.S.Sink.position_of n) back) returned.workers_same returned.runs_again in
    all_settled g.S.Sink.position_of (workers_of opened) c.args.programs.now c.args.full.now run.ensures.ran.runs opened back c.close_all-rings.result.items again c.close_all-rings.ensures.closes (λ k below. (run.ensures.ran.ran_first k below).in_turn)
