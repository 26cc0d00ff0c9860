-- Rings that are returned are those that were passed in, and may be run again.
use Rattle.std.proofs.Common.{◌≡◌, ℕ, ◌<◌, List, [], ◌∷◌, length, map, refl, ap, sym, ◌∙◌, subst, arith}
use Rattle.std.specs.Prelude.{All}
use Rattle.std.specs.List.{AllZip}
use Rattle.rb_ledger.specs.Seats.{WorkerSeat, IsSameSeat}
use Rattle.rb_jobs.specs.SeatLaws.{SeatBegins}
use Rattle.rb_jobs.proofs.Lists.{zip_length}
use Rattle.rb_workers.specs.declared.opened.Opened.{Opened}
use Rattle.rb_workers.specs.inner.ConsumerTasks.{IsConsumed, TakesRest}
use Rattle.rb_workers.specs.Opened.{IsOpened, AreOpened, workers_of}
use Rattle.rb_workers.specs.Sink.{SinkItem}
use Rattle.rb_workers.specs.SeatRows.{seat_rows, worker_column}
use Rattle.rb_workers.proofs.Parts.{rows_length}
use Rattle.rb_workers.proofs.Same.{all_again, count_same, long_rows, opened_long, sinks_given, takers_begin, takers_same, unchanged}
use Rattle.rb_workers.proofs.SameSeats.{rows_of_columns}
use Rattle.rb_workers.proofs.Whole.{consumed_again, rests_of}
use Rattle.rb_stream.specs.Returned.{AreReturned}

-- the rings were returned, each with its seats
pub rows_returned : {S : Type 0} (position : S → ℕ) (takes : S → SinkItem → S → Type 0) (opened back : List (Opened S)) → AreOpened position opened → map (λ o. o.ring) back ≡ map (λ o. o.ring) opened
    → AllZip (IsConsumed position takes) opened back → AllZip (AllZip IsSameSeat) (seat_rows opened) (seat_rows back) → AllZip (AllZip SeatBegins) (seat_rows opened) (seat_rows back)
    → AreReturned position takes opened back
rows_returned {S} position takes opened back all rings consumed same begin =
    let many = count_same opened back same in
    record {
      rings_same = rings;
      seats_same = same;
      seats_begin = begin;
      consumers_same = takers_same position takes opened back consumed;
      consumers_begin = takers_begin position takes opened back consumed;
      sinks_given = sinks_given position takes opened back consumed;
      runs_again = subst (λ n. All (IsOpened position n) back) (sym many) (all_again position takes (workers_of opened) opened back all rings consumed same);
      workers_same = many;
    }

-- a relation that each worker's seats preserve holds for all rows
pub rows_keep : {S : Type 0} (R : WorkerSeat → WorkerSeat → Type 0) (position : S → ℕ) (takes : S → SinkItem → S → Type 0) (opened back : List (Opened S)) → AreOpened position opened
    → AllZip (IsConsumed position takes) opened back → All (λ o. length o.seats.items ≡ workers_of opened) back
    → ((k : ℕ) → k < workers_of opened → AllZip R (worker_column k (seat_rows opened)) (worker_column k (seat_rows back)))
    → AllZip (AllZip R) (seat_rows opened) (seat_rows back)
rows_keep R position takes opened back all consumed long each =
    let len : length (seat_rows opened) ≡ length (seat_rows back) = rows_length opened ∙ (zip_length (IsConsumed position takes) opened back consumed ∙ sym (rows_length back)) in
    rows_of_columns R (workers_of opened) (seat_rows opened) (seat_rows back) (opened_long position (workers_of opened) opened all) (long_rows (workers_of opened) back long) len each

-- the same after what was left in them is taken
pub emptied : {S : Type 0} (position : S → ℕ) (takes : S → SinkItem → S → Type 0) (opened back left : List (Opened S)) → AreOpened position opened → AreReturned position takes opened back → AllZip (IsConsumed position takes) opened back
    → AllZip (TakesRest position takes) back left → AreReturned position takes opened left
emptied position takes opened back left all returned consumed rests =
    let each = rests_of position takes back left rests in
    rows_returned position takes opened left all (each.1 ∙ returned.rings_same) (consumed_again position takes opened back left consumed each.0)
    (subst (λ (rows : List (List WorkerSeat)). AllZip (AllZip IsSameSeat) (seat_rows opened) rows) (sym each.2) returned.seats_same)
    (subst (λ (rows : List (List WorkerSeat)). AllZip (AllZip SeatBegins) (seat_rows opened) rows) (sym each.2) returned.seats_begin)

-- nothing moved
pub returned_itself : {S : Type 0} (position : S → ℕ) (takes : S → SinkItem → S → Type 0) (opened : List (Opened S)) → AreOpened position opened → AreReturned position takes opened opened
returned_itself position takes opened all =
    let same = unchanged position takes opened [] all in
    record {
      rings_same = same.rings_same;
      seats_same = same.seats_same;
      seats_begin = same.seats_begin;
      consumers_same = same.consumers_same;
      consumers_begin = same.consumers_begin;
      sinks_given = same.sinks_given;
      runs_again = same.runs_again;
      workers_same = same.workers_same;
    }
