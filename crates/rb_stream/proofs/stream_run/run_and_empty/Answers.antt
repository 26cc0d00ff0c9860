use Rattle.std.proofs.Common.{◌≡◌, ◌∙◌, List, sym, ap, subst, length, arith}
use Rattle.std.specs.Prelude.{All}
use Rattle.std.specs.List.{AllZip}
use Rattle.rb_ledger.specs.Seats.{Shared, WorkerSeat}
use Rattle.rb_workers.specs.declared.consumer_task.ConsumerTask.{ConsumerTask}
use Rattle.rb_workers.specs.declared.opened.Opened.{Opened}
use Rattle.rb_workers.specs.inner.ConsumerTasks.{IsConsumerTaskOf, TakesRest, joined_rings}
use Rattle.rb_workers.specs.Opened.{IsOpened, workers_of}
use Rattle.rb_workers.specs.Rest.{IsDrained}
use Rattle.rb_workers.specs.SeatRows.{seat_rows, worker_column}
use Rattle.rb_workers.proofs.Joined.{joined_ready}
use Rattle.rb_workers.proofs.Whole.{lent_whole, rests_of}
use Rattle.rb_stream.specs.Returned.{AreReturned}
use Rattle.rb_stream.specs.inner.Runs.{StreamRan}
use Rattle.rb_stream.proofs.Returned.{emptied}
use Rattle.rb_stream.proofs.stream_run.run_and_empty.Goals as goal

pub take_rests-requires : goal.take_rests-requires
take_rests-requires g c =
    let pos = g.S.Sink.position_of in
    let rings = c.run_in.new.rings in
    let tasks = c.run_in.new.consumers in
    let len : length rings.items ≡ length tasks.items = omega (arith, c.run_in.ensures.len, rings.ok.0, tasks.ok.0) in
    record {
      ready = subst (λ (r : List Shared). AllZip (IsConsumerTaskOf pos) r c.as_mut_slice.result.now) (sym c.as_slice.ensures.value)
          (subst (λ (t : List (ConsumerTask g.row.S.Denot)). AllZip (IsConsumerTaskOf pos) rings.items t) (sym c.as_mut_slice.ensures.value)
          (joined_ready pos _ rings.items tasks.items len c.run_in.ensures.returned.runs_again));
    }

pub returns-clause-drained : goal.returns-clause-drained
returns-clause-drained g c =
    let pos = g.S.Sink.position_of in
    let takes = g.S.Sink.takes in
    let rings = c.run_in.new.rings.items in
    let tasks = c.run_in.new.consumers in
    let news = c.take_rests.new.consumers in
    let long : length news ≡ tasks.len = c.take_rests.auto.consumers ∙ (ap length c.as_mut_slice.ensures.value ∙ sym tasks.ok.0) in
    let rests : AllZip (TakesRest pos takes) (joined_rings rings tasks.items) (joined_rings rings news) =
    subst (λ (t : List (ConsumerTask g.row.S.Denot)). AllZip (TakesRest pos takes) (joined_rings rings t) (joined_rings rings news)) c.as_mut_slice.ensures.value
    (subst (λ (r : List Shared). AllZip (TakesRest pos takes) (joined_rings r c.as_mut_slice.result.now) (joined_rings r news)) c.as_slice.ensures.value c.take_rests.ensures.rests) in
    subst (λ (t : List (ConsumerTask g.row.S.Denot)). All (λ (o : Opened g.row.S.Denot). IsDrained o) (joined_rings rings t)) (sym (lent_whole tasks.len news tasks.items long)) (rests_of pos takes _ _ rests).3

pub returns-clause-ran : goal.returns-clause-ran
returns-clause-ran g c =
    let pos = g.S.Sink.position_of in
    let takes = g.S.Sink.takes in
    let rings = c.run_in.new.rings.items in
    let tasks = c.run_in.new.consumers in
    let news = c.take_rests.new.consumers in
    let long : length news ≡ tasks.len = c.take_rests.auto.consumers ∙ (ap length c.as_mut_slice.ensures.value ∙ sym tasks.ok.0) in
    let rests : AllZip (TakesRest pos takes) (joined_rings rings tasks.items) (joined_rings rings news) =
    subst (λ (t : List (ConsumerTask g.row.S.Denot)). AllZip (TakesRest pos takes) (joined_rings rings t) (joined_rings rings news)) c.as_mut_slice.ensures.value
    (subst (λ (r : List Shared). AllZip (TakesRest pos takes) (joined_rings r c.as_mut_slice.result.now) (joined_rings r news)) c.as_slice.ensures.value c.take_rests.ensures.rests) in
    let rows : seat_rows (joined_rings rings tasks.items) ≡ seat_rows (joined_rings rings news) = sym (rests_of pos takes _ _ rests).2 in
    let Ran = λ (r : List (List WorkerSeat)). StreamRan g.I.Source.gives (workers_of c.args.opened.items) c.args.programs.now c.args.full.now c.args.options.bound c.args.source.now c.run_in.new.source (λ k. worker_column k (seat_rows c.args.opened.items)) (λ k. worker_column k r) c.run_in.new.dealt c.run_in.new.total in
    subst (λ (t : List (ConsumerTask g.row.S.Denot)). Ran (seat_rows (joined_rings rings t))) (sym (lent_whole tasks.len news tasks.items long)) (subst Ran rows c.run_in.ensures.ran)

pub returns-clause-returned : goal.returns-clause-returned
returns-clause-returned g c =
    let pos = g.S.Sink.position_of in
    let takes = g.S.Sink.takes in
    let rings = c.run_in.new.rings.items in
    let tasks = c.run_in.new.consumers in
    let news = c.take_rests.new.consumers in
    let long : length news ≡ tasks.len = c.take_rests.auto.consumers ∙ (ap length c.as_mut_slice.ensures.value ∙ sym tasks.ok.0) in
    let rests : AllZip (TakesRest pos takes) (joined_rings rings tasks.items) (joined_rings rings news) =
    subst (λ (t : List (ConsumerTask g.row.S.Denot)). AllZip (TakesRest pos takes) (joined_rings rings t) (joined_rings rings news)) c.as_mut_slice.ensures.value
    (subst (λ (r : List Shared). AllZip (TakesRest pos takes) (joined_rings r c.as_mut_slice.result.now) (joined_rings r news)) c.as_slice.ensures.value c.take_rests.ensures.rests) in
    let opened = c.args.opened.items in
    subst (λ (t : List (ConsumerTask g.row.S.Denot)). AreReturned pos takes opened (joined_rings rings t)) (sym (lent_whole tasks.len news tasks.items long))
    (emptied pos takes opened (joined_rings rings tasks.items) (joined_rings rings news) (subst (λ n. All (IsOpened pos n) opened) c.requires.count c.requires.opened) c.run_in.ensures.returned c.run_in.ensures.consumed rests)
