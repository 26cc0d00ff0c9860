use Rattle.std.proofs.Common.{◌≡◌, ◌∙◌, ℕ, ◌<◌, List, sym, ap, subst, get_or, length, arith}
use Rattle.std.specs.Prelude.{All}
use Rattle.std.specs.List.{AllZip}
use Rattle.rb_ledger.specs.Seats.{Shared, WorkerSeat}
use Rattle.rb_workers.specs.declared.consumer_task.ConsumerTask.{ConsumerTask}
use Rattle.rb_workers.specs.declared.opened.Opened.{Opened}
use Rattle.rb_workers.specs.inner.ConsumerTasks.{IsConsumerTaskOf, TakesRest, joined_rings}
use Rattle.rb_workers.specs.inner.WorkerRuns.{HasRun}
use Rattle.rb_workers.specs.Opened.{IsOpened, workers_of}
use Rattle.rb_workers.specs.Reports.{IsHandedBack}
use Rattle.rb_workers.specs.Rest.{IsDrained}
use Rattle.rb_workers.specs.SeatRows.{seat_rows, worker_column}
use Rattle.rb_workers.proofs.Joined.{joined_ready}
use Rattle.rb_workers.proofs.Same.{emptied}
use Rattle.rb_workers.proofs.Whole.{lent_whole, rests_of}
use Rattle.rb_workers.proofs.jobs_run.run_and_empty.Goals as goal

pub take_rests-requires : goal.take_rests-requires
take_rests-requires g c =
    let pos = g.S.Sink.position_of in
    let rings = c.run_in.new.rings in
    let tasks = c.run_in.new.consumers in
    let len : length rings.items ≡ length tasks.items = omega (arith, c.run_in.ensures.len, rings.ok.0, tasks.ok.0) in
    record {
      ready = subst (λ (r : List Shared). AllZip (IsConsumerTaskOf pos) r c.as_mut_slice.result.now) (sym c.as_slice.ensures.value)
          (subst (λ (t : List (ConsumerTask g.row.S.Denot)). AllZip (IsConsumerTaskOf pos) rings.items t) (sym c.as_mut_slice.ensures.value)
          (joined_ready pos _ rings.items tasks.items len c.run_in.ensures.handed_back.runs_again));
    }

pub returns-clause-drained : goal.returns-clause-drained
returns-clause-drained g c =
    let pos = g.S.Sink.position_of in
    let takes = g.S.Sink.takes in
    let rings = c.run_in.new.rings.items in
    let tasks = c.run_in.new.consumers in
    let news = c.take_rests.new.consumers in
    let long : length news ≡ tasks.len = c.take_rests.auto.consumers ∙ (ap length c.as_mut_slice.ensures.value ∙ sym tasks.ok.0) in
    let rests : AllZip (TakesRest pos takes) (joined_rings rings tasks.items) (joined_rings rings news) =
    subst (λ (t : List (ConsumerTask g.row.S.Denot)). AllZip (TakesRest pos takes) (joined_rings rings t) (joined_rings rings news)) c.as_mut_slice.ensures.value
    (subst (λ (r : List Shared). AllZip (TakesRest pos takes) (joined_rings r c.as_mut_slice.result.now) (joined_rings r news)) c.as_slice.ensures.value c.take_rests.ensures.rests) in
    subst (λ (t : List (ConsumerTask g.row.S.Denot)). All (λ (o : Opened g.row.S.Denot). IsDrained o) (joined_rings rings t)) (sym (lent_whole tasks.len news tasks.items long)) (rests_of pos takes _ _ rests).3

pub returns-clause-workers : goal.returns-clause-workers
returns-clause-workers g c =
    let pos = g.S.Sink.position_of in
    let takes = g.S.Sink.takes in
    let rings = c.run_in.new.rings.items in
    let tasks = c.run_in.new.consumers in
    let news = c.take_rests.new.consumers in
    let long : length news ≡ tasks.len = c.take_rests.auto.consumers ∙ (ap length c.as_mut_slice.ensures.value ∙ sym tasks.ok.0) in
    let rests : AllZip (TakesRest pos takes) (joined_rings rings tasks.items) (joined_rings rings news) =
    subst (λ (t : List (ConsumerTask g.row.S.Denot)). AllZip (TakesRest pos takes) (joined_rings rings t) (joined_rings rings news)) c.as_mut_slice.ensures.value
    (subst (λ (r : List Shared). AllZip (TakesRest pos takes) (joined_rings r c.as_mut_slice.result.now) (joined_rings r news)) c.as_slice.ensures.value c.take_rests.ensures.rests) in
    let rows : seat_rows (joined_rings rings tasks.items) ≡ seat_rows (joined_rings rings news) = sym (rests_of pos takes _ _ rests).2 in
    let Ran = λ (r : List (List WorkerSeat)). (k : ℕ) (d : _) → k < workers_of c.args.opened.items → HasRun k c.args.jobs.now (worker_column k (seat_rows c.args.opened.items)) (worker_column k r) (get_or c.run_in.new.workers k d) in
    subst (λ (t : List (ConsumerTask g.row.S.Denot)). Ran (seat_rows (joined_rings rings t))) (sym (lent_whole tasks.len news tasks.items long)) (subst Ran rows c.run_in.ensures.workers)

pub returns-clause-handed_back : goal.returns-clause-handed_back
returns-clause-handed_back g c =
    let pos = g.S.Sink.position_of in
    let takes = g.S.Sink.takes in
    let opened = c.args.opened.items in
    let rings = c.run_in.new.rings.items in
    let tasks = c.run_in.new.consumers in
    let news = c.take_rests.new.consumers in
    let long : length news ≡ tasks.len = c.take_rests.auto.consumers ∙ (ap length c.as_mut_slice.ensures.value ∙ sym tasks.ok.0) in
    let rests : AllZip (TakesRest pos takes) (joined_rings rings tasks.items) (joined_rings rings news) =
    subst (λ (t : List (ConsumerTask g.row.S.Denot)). AllZip (TakesRest pos takes) (joined_rings rings t) (joined_rings rings news)) c.as_mut_slice.ensures.value
    (subst (λ (r : List Shared). AllZip (TakesRest pos takes) (joined_rings r c.as_mut_slice.result.now) (joined_rings r news)) c.as_slice.ensures.value c.take_rests.ensures.rests) in
    subst (λ (t : List (ConsumerTask g.row.S.Denot)). IsHandedBack pos takes opened c.args.jobs.now (joined_rings rings t)) (sym (lent_whole tasks.len news tasks.items long))
    (emptied pos takes opened (joined_rings rings tasks.items) (joined_rings rings news) c.args.jobs.now (subst (λ n. All (IsOpened pos n) opened) c.requires.count c.requires.opened) c.run_in.ensures.handed_back c.run_in.ensures.consumed rests)
