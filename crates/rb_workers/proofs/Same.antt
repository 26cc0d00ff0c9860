-- Seats and consumers that are returned are those that were passed in.
use Rattle.std.proofs.Common.{◌≡◌, ℕ, ◌<◌, List, [], ◌∷◌, length, get_or, map, drop, refl, ap, sym, ◌∙◌, subst, arith}
use Rattle.std.specs.Prelude.{All}
use Rattle.std.specs.List.{AllZip}
use Rattle.std.proofs.lemmas.List.Elements.{AllZip-get_or, All-cons}
use Rattle.rb_history.specs.RoomRule.{Setup}
use Rattle.rb_ledger.specs.Roles.{BeginsWith}
use Rattle.rb_ledger.specs.Seats.{Shared, WorkerSeat, IsSameSeat}
use Rattle.rb_shared_ring.specs.SharedSeats.{IsSameChapterConsumer}
use Rattle.rb_ledger.proofs.Beginnings.{begins_with_all}
use Rattle.rb_jobs.specs.SeatLaws.{SeatBegins}
use Rattle.rb_jobs.proofs.Lists.{zip_self}
use Rattle.rb_jobs.proofs.Beginnings.{begins_itself}
use Rattle.rb_jobs.specs.declared.job.Job.{Job}
use Rattle.rb_workers.specs.declared.opened.Opened.{Opened}
use Rattle.rb_workers.specs.inner.ConsumerTasks.{IsConsumed, TakesRest}
use Rattle.rb_workers.specs.JobRuns.{own_jobs}
use Rattle.rb_workers.specs.Opened.{IsOpened, AreOpened, SinkGetsTaken, workers_of}
use Rattle.rb_workers.specs.Sink.{SinkItem}
use Rattle.rb_workers.proofs.SinkItems.{nothing_given}
use Rattle.rb_workers.specs.Reports.{IsHandedBack, RunsFirst}
use Rattle.rb_workers.specs.SeatRows.{seat_rows, worker_column}
use Rattle.rb_jobs.proofs.Lists.{zip_length}
use Rattle.rb_workers.proofs.Numbered.{seats_length}
use Rattle.rb_workers.proofs.Parts.{all_first, all_rest, rows_length}
use Rattle.rb_workers.proofs.Whole.{consumed_again, rests_of}
use Rattle.rb_workers.proofs.SameSeats.{same_seats, seats_same_of_runs, seats_begin_of_runs, rows_of_columns}

pub long_rows : {S : Type 0} (count : ℕ) (opened : List (Opened S)) → All (λ o. length o.seats.items ≡ count) opened → All (λ row. length row ≡ count) (seat_rows opened)
long_rows count [] all = λ k d below. absurd (omega arith)
long_rows {S} count (o ∷ more) all =
    All-cons (λ (row : List WorkerSeat). length row ≡ count) o.seats.items (seat_rows more)
    (all_first (λ (x : Opened S). length x.seats.items ≡ count) (o ∷ more) more o refl all)
    (long_rows count more (all_rest (λ (x : Opened S). length x.seats.items ≡ count) (o ∷ more) more o refl all))

-- as many seats at each ring
pub opened_long : {S : Type 0} (position : S → ℕ) (count : ℕ) (opened : List (Opened S)) → All (IsOpened position count) opened → All (λ row. length row ≡ count) (seat_rows opened)
opened_long position count opened all = long_rows count opened (λ k d below. seats_length position count (get_or opened k d) (all k d below))

-- ---- rings that may be run again

workers_same : (xs ys : List WorkerSeat) → AllZip IsSameSeat xs ys → map (λ (s : WorkerSeat). s.worker) ys ≡ map (λ (s : WorkerSeat). s.worker) xs
workers_same [] [] p = refl
workers_same [] (y ∷ ys) p = absurd p
workers_same (x ∷ xs) [] p = absurd p
workers_same (x ∷ xs) (y ∷ ys) p = λ i. p.0.worker_same i ∷ workers_same xs ys p.1 i

again : {S : Type 0} (position : S → ℕ) (takes : S → SinkItem → S → Type 0) (count : ℕ) (o b : Opened S) → IsOpened position count o → b.ring ≡ o.ring → IsConsumed position takes o b → AllZip IsSameSeat o.seats.items b.seats.items → IsOpened position count b
again position takes count o b is ring consumed same =
    record {
      numbered = workers_same o.seats.items b.seats.items same ∙ is.numbered;
      seats_at = λ k d below.
          let s = AllZip-get_or IsSameSeat o.seats.items b.seats.items k d d same (omega (arith, zip_length IsSameSeat o.seats.items b.seats.items same)) in
          let at = is.seats_at k d (omega (arith, zip_length IsSameSeat o.seats.items b.seats.items same)) in
          (s.tag_same ∙ (at.0 ∙ ap (λ (r : Shared). r.tag) (sym ring)), s.ring_same ∙ (at.1 ∙ ap (λ (r : Shared). r.ring) (sym ring)));
      as_many = ap (λ (x : Setup). x.workers) consumed.0.begins.setup_same ∙ is.as_many;
      consumer_tag = consumed.0.tag_same ∙ (is.consumer_tag ∙ ap (λ (r : Shared). r.tag) (sym ring));
      consumer_at = consumed.0.ring_same ∙ (is.consumer_at ∙ ap (λ (r : Shared). r.ring) (sym ring));
      keeper_fits = consumed.3;
      sink_follows = consumed.1;
    }

pub list_head : {A : Type 0} (x y : A) (xs ys : List A) → x ∷ xs ≡ y ∷ ys → x ≡ y
list_head x y xs ys e = ap (λ l. get_or l 0 x) e

pub list_tail : {A : Type 0} (x y : A) (xs ys : List A) → x ∷ xs ≡ y ∷ ys → xs ≡ ys
list_tail x y xs ys e = ap (λ l. drop 1 l) e

pub all_again : {S : Type 0} (position : S → ℕ) (takes : S → SinkItem → S → Type 0) (count : ℕ) (opened back : List (Opened S)) → All (IsOpened position count) opened → map (λ o. o.ring) back ≡ map (λ o. o.ring) opened
    → AllZip (IsConsumed position takes) opened back → AllZip (AllZip IsSameSeat) (seat_rows opened) (seat_rows back) → All (IsOpened position count) back
all_again position takes count [] [] all rings consumed same = λ k d below. absurd (omega arith)
all_again position takes count [] (b ∷ bs) all rings consumed same = absurd consumed
all_again position takes count (o ∷ os) [] all rings consumed same = absurd consumed
all_again position takes count (o ∷ os) (b ∷ bs) all rings consumed same =
    All-cons (IsOpened position count) b bs
    (again position takes count o b (all_first (IsOpened position count) (o ∷ os) os o refl all) (list_head b.ring o.ring (map (λ x. x.ring) bs) (map (λ x. x.ring) os) rings) consumed.0 same.0)
    (all_again position takes count os bs (all_rest (IsOpened position count) (o ∷ os) os o refl all) (list_tail b.ring o.ring (map (λ x. x.ring) bs) (map (λ x. x.ring) os) rings) consumed.1 same.1)

pub count_same : {S : Type 0} (opened back : List (Opened S)) → AllZip (AllZip IsSameSeat) (seat_rows opened) (seat_rows back) → workers_of back ≡ workers_of opened
count_same [] [] same = refl
count_same [] (b ∷ bs) same = absurd same
count_same (o ∷ os) [] same = absurd same
count_same (o ∷ os) (b ∷ bs) same = sym (zip_length IsSameSeat o.seats.items b.seats.items same.0)

pub takers_same : {S : Type 0} (position : S → ℕ) (takes : S → SinkItem → S → Type 0) (opened back : List (Opened S)) → AllZip (IsConsumed position takes) opened back → AllZip (λ o b. IsSameChapterConsumer o.consumer b.consumer) opened back
takers_same position takes [] [] consumed = tt
takers_same position takes [] (b ∷ bs) consumed = absurd consumed
takers_same position takes (o ∷ os) [] consumed = absurd consumed
takers_same position takes (o ∷ os) (b ∷ bs) consumed = (record { tag_same = consumed.0.0.tag_same; ring_same = consumed.0.0.ring_same; room_same = consumed.0.0.room_same }, takers_same position takes os bs consumed.1)

pub takers_begin : {S : Type 0} (position : S → ℕ) (takes : S → SinkItem → S → Type 0) (opened back : List (Opened S)) → AllZip (IsConsumed position takes) opened back → AllZip (λ o b. BeginsWith b.consumer.seen o.consumer.seen) opened back
takers_begin position takes [] [] consumed = tt
takers_begin position takes [] (b ∷ bs) consumed = absurd consumed
takers_begin position takes (o ∷ os) [] consumed = absurd consumed
takers_begin position takes (o ∷ os) (b ∷ bs) consumed = (consumed.0.0.begins, takers_begin position takes os bs consumed.1)

pub sinks_given : {S : Type 0} (position : S → ℕ) (takes : S → SinkItem → S → Type 0) (opened back : List (Opened S)) → AllZip (IsConsumed position takes) opened back → AllZip (SinkGetsTaken takes) opened back
sinks_given position takes [] [] consumed = tt
sinks_given position takes [] (b ∷ bs) consumed = absurd consumed
sinks_given position takes (o ∷ os) [] consumed = absurd consumed
sinks_given position takes (o ∷ os) (b ∷ bs) consumed = (consumed.0.2.gets, sinks_given position takes os bs consumed.1)

-- what a run returned may be run again
pub handed_back : {S : Type 0} (position : S → ℕ) (takes : S → SinkItem → S → Type 0) (opened back : List (Opened S)) (jobs : List Job) → AreOpened position opened → map (λ o. o.ring) back ≡ map (λ o. o.ring) opened
    → AllZip (IsConsumed position takes) opened back → All (λ o. length o.seats.items ≡ workers_of opened) back
    → ((k : ℕ) → k < workers_of opened → RunsFirst (own_jobs k jobs) (worker_column k (seat_rows opened)) (worker_column k (seat_rows back)))
    → IsHandedBack position takes opened jobs back
handed_back {S} position takes opened back jobs all rings consumed long ran =
    let count = workers_of opened in
    let len : length (seat_rows opened) ≡ length (seat_rows back) = rows_length opened ∙ (zip_length (IsConsumed position takes) opened back consumed ∙ sym (rows_length back)) in
    let same = rows_of_columns IsSameSeat count (seat_rows opened) (seat_rows back) (opened_long position count opened all) (long_rows count back long) len
    (λ k below. let r = ran k below in seats_same_of_runs r.0 (worker_column k (seat_rows opened)) (worker_column k (seat_rows back)) r.3) in
    let many = count_same opened back same in
    record {
      rings_same = rings;
      seats_same = same;
      seats_begin = rows_of_columns SeatBegins count (seat_rows opened) (seat_rows back) (opened_long position count opened all) (long_rows count back long) len
          (λ k below. let r = ran k below in seats_begin_of_runs r.0 (worker_column k (seat_rows opened)) (worker_column k (seat_rows back)) r.3);
      consumers_same = takers_same position takes opened back consumed;
      consumers_begin = takers_begin position takes opened back consumed;
      sinks_given = sinks_given position takes opened back consumed;
      runs_again = subst (λ n. All (IsOpened position n) back) (sym many) (all_again position takes count opened back all rings consumed same);
      workers_same = many;
      worked = ran;
    }

-- the returned rings are the same after what was left in them is taken
long_left : {S : Type 0} (position : S → ℕ) (takes : S → SinkItem → S → Type 0) (count : ℕ) (back left : List (Opened S)) → AllZip (TakesRest position takes) back left → All (IsOpened position count) back → All (λ o. length o.seats.items ≡ count) left
long_left {S} position takes count [] [] rests all = λ k d below. absurd (omega arith)
long_left {S} position takes count [] (n ∷ left) rests all = absurd rests
long_left {S} position takes count (b ∷ back) [] rests all = absurd rests
long_left {S} position takes count (b ∷ back) (n ∷ left) rests all =
    All-cons (λ (o : Opened S). length o.seats.items ≡ count) n left
    (ap (λ v. length v.items) rests.0.2 ∙ seats_length position count b (all_first (IsOpened position count) (b ∷ back) back b refl all))
    (long_left position takes count back left rests.1 (all_rest (IsOpened position count) (b ∷ back) back b refl all))

pub emptied : {S : Type 0} (position : S → ℕ) (takes : S → SinkItem → S → Type 0) (opened back left : List (Opened S)) (jobs : List Job) → AreOpened position opened → IsHandedBack position takes opened jobs back → AllZip (IsConsumed position takes) opened back
    → AllZip (TakesRest position takes) back left → IsHandedBack position takes opened jobs left
emptied {S} position takes opened back left jobs all handed consumed rests =
    let each = rests_of position takes back left rests in
    handed_back position takes opened left jobs all (each.1 ∙ handed.rings_same) (consumed_again position takes opened back left consumed each.0)
    (long_left position takes (workers_of opened) back left rests (subst (λ n. All (IsOpened position n) back) handed.workers_same handed.runs_again))
    (λ k below. subst (λ (rows : List (List WorkerSeat)). RunsFirst (own_jobs k jobs) (worker_column k (seat_rows opened)) (worker_column k rows)) (sym each.2) (handed.worked k below))

-- nothing ran
pub unchanged : {S : Type 0} (position : S → ℕ) (takes : S → SinkItem → S → Type 0) (opened : List (Opened S)) (jobs : List Job) → AreOpened position opened → IsHandedBack position takes opened jobs opened
unchanged {S} position takes opened jobs all =
    record {
      rings_same = refl;
      seats_same = each (seat_rows opened);
      seats_begin = zip_self (AllZip SeatBegins) (zip_self SeatBegins begins_itself) (seat_rows opened);
      consumers_same = consumers opened;
      consumers_begin = begins opened;
      sinks_given = zip_self (SinkGetsTaken takes) (λ o. (nothing_given takes o.consumer o.sink).gets) opened;
      runs_again = all;
      workers_same = refl;
      worked = λ k below. ([], own_jobs k jobs, refl, refl);
    }
  where
    each : (xs : List (List WorkerSeat)) → AllZip (AllZip IsSameSeat) xs xs
    each [] = tt
    each (x ∷ xs) = (same_seats x, each xs)

    consumers : (xs : List (Opened S)) → AllZip (λ o b. IsSameChapterConsumer o.consumer b.consumer) xs xs
    consumers [] = tt
    consumers (x ∷ xs) = (record { tag_same = refl; ring_same = refl; room_same = refl }, consumers xs)

    begins : (xs : List (Opened S)) → AllZip (λ o b. BeginsWith b.consumer.seen o.consumer.seen) xs xs
    begins [] = tt
    begins (x ∷ xs) = (begins_with_all x.consumer.seen, begins xs)
