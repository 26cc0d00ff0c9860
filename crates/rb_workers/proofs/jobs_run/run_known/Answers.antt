use Rattle.std.proofs.Common.{◌≡◌, ◌∙◌, ℕ, ◌<◌, List, false, get_or, length, vec_len, sym, ap, subst, arith}
use Rattle.std.specs.Prelude.{All}
use Rattle.std.specs.List.{AllZip, list_any}
use Rattle.rb_ledger.specs.Seats.{IsSameSeat}
use Rattle.rb_workers.specs.declared.workers.Worker.{Worker}
use Rattle.rb_workers.specs.inner.ConsumerTasks.{joined_rings}
use Rattle.rb_workers.specs.inner.RingEnds.{Closes}
use Rattle.rb_workers.specs.JobRuns.{own_jobs}
use Rattle.rb_workers.specs.inner.WorkerRuns.{IsNew, own_answers}
use Rattle.rb_workers.specs.Opened.{IsOpened, workers_of}
use Rattle.rb_workers.specs.inner.RunBuffers.{IsEmptyFor}
use Rattle.rb_workers.specs.SeatRows.{seat_rows, worker_column}
use Rattle.rb_workers.proofs.Reported.{each_answered, each_told, known_rings, known_workers, ran_length, reported}
use Rattle.rb_workers.proofs.Settling.{all_leave_nothing}
use Rattle.rb_jobs.proofs.Lists.{zip_length}
use Rattle.rb_workers.proofs.Joined.{joined_length}
use Rattle.rb_workers.proofs.Parts.{rows_length}
use Rattle.rb_workers.proofs.Whole.{lent_whole}
use Rattle.rb_workers.proofs.jobs_run.run_known.Goals as goal

pub run_and_empty-requires-clause-jobs : goal.run_and_empty-requires-clause-jobs
run_and_empty-requires-clause-jobs g c κs within = known_rings (vec_len c.args.opened) c.args.jobs.now c.requires.rings

pub run_and_empty-requires-clause-opened : goal.run_and_empty-requires-clause-opened
run_and_empty-requires-clause-opened g c κs within =
    let count = workers_of c.args.opened.items in
    let many : length c.as_mut_slice.result.now ≡ count = ap length c.as_mut_slice.ensures.value ∙ (sym c.args.buffers.workers.ok.0 ∙ c.requires.buffers.workers_count) in
    subst (λ n. All (IsOpened g.S.Sink.position_of n) c.args.opened.items) (sym many) c.requires.opened

pub run_and_empty-requires-clause-workers : goal.run_and_empty-requires-clause-workers
run_and_empty-requires-clause-workers g c κs within =
    let count = workers_of c.args.opened.items in
    let many : length c.as_mut_slice.result.now ≡ count = ap length c.as_mut_slice.ensures.value ∙ (sym c.args.buffers.workers.ok.0 ∙ c.requires.buffers.workers_count) in
    λ k d below. subst (λ (l : List Worker). IsNew k (vec_len c.args.opened) (get_or l k d)) (sym c.as_mut_slice.ensures.value) (c.requires.buffers.workers_new k d (omega (arith, below, many)))

pub report_on-requires-clause-known : goal.report_on-requires-clause-known
report_on-requires-clause-known g c =
    let count = workers_of c.args.opened.items in
    let many : length c.as_mut_slice.result.now ≡ count = ap length c.as_mut_slice.ensures.value ∙ (sym c.args.buffers.workers.ok.0 ∙ c.requires.buffers.workers_count) in
    let workers = c.run_and_empty.new.workers in
    let len : length workers ≡ count = c.run_and_empty.auto.workers ∙ many in
    let same : c.as_mut_slice-2.result.now ≡ workers = c.as_mut_slice-2.ensures.value ∙ lent_whole c.args.buffers.workers.len workers c.args.buffers.workers.items (omega (arith, len, c.requires.buffers.workers_count)) in
    let longer : length c.as_mut_slice-2.result.now ≡ count = ap length same ∙ len in
    λ k d below. let known = known_workers count c.args.jobs.now c.requires.workers k d below in omega (arith, known, longer)

pub report_on-requires-clause-each : goal.report_on-requires-clause-each
report_on-requires-clause-each g c =
    let opened = c.args.opened.items in
    let back = joined_rings c.run_and_empty.new.rings.items c.run_and_empty.new.consumers.items in
    let jobs = c.args.jobs.now in
    let count = workers_of opened in
    let many : length c.as_mut_slice.result.now ≡ count = ap length c.as_mut_slice.ensures.value ∙ (sym c.args.buffers.workers.ok.0 ∙ c.requires.buffers.workers_count) in
    let workers = c.run_and_empty.new.workers in
    let len : length workers ≡ count = c.run_and_empty.auto.workers ∙ many in
    let same : c.as_mut_slice-2.result.now ≡ workers = c.as_mut_slice-2.ensures.value ∙ lent_whole c.args.buffers.workers.len workers c.args.buffers.workers.items (omega (arith, len, c.requires.buffers.workers_count)) in
    let same' : c.deref.result.now ≡ workers = c.deref.ensures.value ∙ lent_whole c.args.buffers.workers.len workers c.args.buffers.workers.items (omega (arith, len, c.requires.buffers.workers_count)) in
    let short : list_any (λ (w : Worker). w.short) workers ≡ false = ap (list_any (λ (w : Worker). w.short)) (sym same') ∙ (sym c.is_any_short.ensures ∙ c.if-is_any_short.false) in
    let answered = each_answered count jobs (seat_rows opened) (seat_rows back) workers len short c.run_and_empty.ensures.workers in
    subst (λ (l : List Worker). (k : ℕ) (d : Worker) → k < length l → length (get_or l k d).answers.items ≡ length (own_jobs k jobs)) (sym same)
    (λ k d below. ran_length (own_jobs k jobs) (get_or workers k d).answers.items (worker_column k (seat_rows opened)) (worker_column k (seat_rows back)) (answered k d (omega (arith, len, below))))

pub merge-requires-clause-merged : goal.merge-requires-clause-merged
merge-requires-clause-merged g c =
    let back = c.run_and_empty.ensures.handed_back in
    let rings = c.run_and_empty.new.rings in
    let tasks = c.run_and_empty.new.consumers in
    let len : length rings.items ≡ length tasks.items = omega (arith, c.run_and_empty.ensures.len, rings.ok.0, tasks.ok.0) in
    let joined = joined_rings rings.items tasks.items in
    let z = zip_length (AllZip IsSameSeat) (seat_rows c.args.opened.items) (seat_rows joined) back.seats_same in
    let old = rows_length c.args.opened.items in
    let new = rows_length joined in
    let many = joined_length rings.items tasks.items len in
    (c.requires.buffers.merged_fits.0, omega (arith, c.run_and_empty.ensures.len, rings.ok.0, tasks.ok.0, z, old, new, many, c.args.opened.ok.0, c.requires.buffers.merged_fits.1))

pub close_all-rings-requires-clause-ended : goal.close_all-rings-requires-clause-ended
close_all-rings-requires-clause-ended g c =
    let back = c.run_and_empty.ensures.handed_back in
    let rings = c.run_and_empty.new.rings in
    let tasks = c.run_and_empty.new.consumers in
    let len : length rings.items ≡ length tasks.items = omega (arith, c.run_and_empty.ensures.len, rings.ok.0, tasks.ok.0) in
    let joined = joined_rings rings.items tasks.items in
    let z = zip_length (AllZip IsSameSeat) (seat_rows c.args.opened.items) (seat_rows joined) back.seats_same in
    let old = rows_length c.args.opened.items in
    let new = rows_length joined in
    let many = joined_length rings.items tasks.items len in
    (c.requires.buffers.ended_fit.0, omega (arith, c.run_and_empty.ensures.len, rings.ok.0, tasks.ok.0, z, old, new, many, c.args.opened.ok.0, c.requires.buffers.ended_fit.1))

pub close_all-rings-requires-clause-tallies : goal.close_all-rings-requires-clause-tallies
close_all-rings-requires-clause-tallies g c =
    let handed = c.run_and_empty.ensures.handed_back in
    let rings = c.run_and_empty.new.rings in
    let tasks = c.run_and_empty.new.consumers in
    let len : length rings.items ≡ length tasks.items = omega (arith, c.run_and_empty.ensures.len, rings.ok.0, tasks.ok.0) in
    let back = joined_rings rings.items tasks.items in
    let z = zip_length (AllZip IsSameSeat) (seat_rows c.args.opened.items) (seat_rows back) handed.seats_same in
    let old = rows_length c.args.opened.items in
    let new = rows_length back in
    let many = joined_length rings.items tasks.items len in (
      omega (arith, c.requires.buffers.tallies_count, c.args.opened.ok.0, tasks.ok.0, c.run_and_empty.ensures.len, z, old, new, many),
      subst (λ n. All (IsEmptyFor n) c.args.buffers.tallies.items) (sym handed.workers_same) c.requires.buffers.tallies_fit,
    )

pub returns-clause-report : goal.returns-clause-report
returns-clause-report g c =
    let opened = c.args.opened.items in
    let back = joined_rings c.run_and_empty.new.rings.items c.run_and_empty.new.consumers.items in
    let jobs = c.args.jobs.now in
    let count = workers_of opened in
    let many : length c.as_mut_slice.result.now ≡ count = ap length c.as_mut_slice.ensures.value ∙ (sym c.args.buffers.workers.ok.0 ∙ c.requires.buffers.workers_count) in
    let workers = c.run_and_empty.new.workers in
    let len : length workers ≡ count = c.run_and_empty.auto.workers ∙ many in
    let same : c.as_mut_slice-2.result.now ≡ workers = c.as_mut_slice-2.ensures.value ∙ lent_whole c.args.buffers.workers.len workers c.args.buffers.workers.items (omega (arith, len, c.requires.buffers.workers_count)) in
    let same' : c.deref.result.now ≡ workers = c.deref.ensures.value ∙ lent_whole c.args.buffers.workers.len workers c.args.buffers.workers.items (omega (arith, len, c.requires.buffers.workers_count)) in
    let short : list_any (λ (w : Worker). w.short) workers ≡ false = ap (list_any (λ (w : Worker). w.short)) (sym same') ∙ (sym c.is_any_short.ensures ∙ c.if-is_any_short.false) in
    let answered = each_answered count jobs (seat_rows opened) (seat_rows back) workers len short c.run_and_empty.ensures.workers in
    let report = c.report_on.result in
    let told = c.report_on.ensures.answers in
    let own_told : (k : ℕ) (d : Worker) → k < count → own_answers k jobs told.answers ≡ (get_or workers k d).answers.items =
    λ k d below. (subst (λ (l : List Worker). (k : ℕ) (d : Worker) → k < length l → own_answers k jobs told.answers ≡ (get_or l k d).answers.items) same told.own_are) k d (omega (arith, len, below)) in
    let closes : AllZip Closes back report.rings.items = subst (λ rings. AllZip Closes back rings.items) (sym c.report_on.ensures.rings) c.close_all-rings.ensures.closes in
    reported g.S.Sink.position_of g.S.Sink.takes opened back jobs told.answers report c.requires.opened c.run_and_empty.ensures.handed_back told.one_each (known_workers count jobs c.requires.workers)
    (each_told count jobs told.answers (seat_rows opened) (seat_rows back) workers len answered own_told) closes told.results_are told.strays_are told.unlogged_is

pub returns-clause-nothing_left : goal.returns-clause-nothing_left
returns-clause-nothing_left g c =
    let report = c.report_on.result in
    let back = joined_rings c.run_and_empty.new.rings.items c.run_and_empty.new.consumers.items in
    let closes : AllZip Closes back report.rings.items = subst (λ rings. AllZip Closes back rings.items) (sym c.report_on.ensures.rings) c.close_all-rings.ensures.closes in
    all_leave_nothing back report.rings.items closes c.run_and_empty.ensures.drained
