-- What a whole run reports.
use Rattle.std.proofs.Common.{◌≡◌, ℕ, suc, ◌<◌, ◌≤◌, List, [], ◌∷◌, ◌++◌, Bool, true, false, ◌||◌, length, get_or, map, refl, ap, sym, ◌∙◌, subst, append-nil, ⊎_elim, arith}
use Rattle.std.proofs.lemmas.Bool.{true≢false}
use Rattle.std.proofs.lemmas.Bool.Decides.{leb_tells}
use Rattle.std.specs.Prelude.{All, nat_lt, not}
use Rattle.std.specs.List.{AllZip, count_by, list_any, sum_by}
use Rattle.std.proofs.lemmas.List.Elements.{All-cons, AllZip-get_or}
use Rattle.rb_ledger.specs.Headline.{Accounts}
use Rattle.rb_ledger.specs.Roles.{Book, BeginsWith, book_of}
use Rattle.rb_ledger.specs.Roles.Role.{Consumer, Worker as WorkerRole}
use Rattle.rb_ledger.proofs.Beginnings.{begins_through, extended_begins}
use Rattle.rb_jobs.specs.SeatLaws.{SeatBegins}
use Rattle.rb_ledger.specs.Seats.{WorkerSeat, IsSameSeat}
use Rattle.rb_chapter_ring.specs.Chapters.{joined}
use Rattle.rb_ledger.proofs.BoundChapters.{gathered-continues}
use Rattle.rb_ledger.proofs.WholeCalls.{consumer-same}
use Rattle.rb_shared_ring.specs.SharedSeats.{IsSameChapterConsumer}
use Rattle.rb_jobs.specs.declared.job.Job.{Job}
use Rattle.rb_jobs.specs.declared.job.JobAnswer.{JobAnswer}
use Rattle.rb_workers.specs.declared.opened.Opened.{Opened}
use Rattle.rb_workers.specs.declared.opened.Ended.{Ended}
use Rattle.rb_workers.specs.declared.opened.JobsReport.{JobsReport}
use Rattle.rb_workers.specs.declared.workers.Worker.{Worker}
use Rattle.rb_workers.specs.inner.RingEnds.{Closes}
use Rattle.rb_workers.specs.JobRuns.{JobRun, own_jobs, is_stray}
use Rattle.rb_workers.specs.inner.WorkerRuns.{RunsJobs, RunsOwnJobs, own_answers}
use Rattle.rb_workers.specs.Opened.{AreOpened, IsKeeperFor, IsOpened, SinkGetsTaken, workers_of}
use Rattle.rb_workers.specs.Reports.{RingsEnd, ring_at_end, IsHandedBack, IsReport, RunsFirst, has_unknown_ring, has_unknown_worker}
use Rattle.rb_workers.specs.Sink.{SinkItem}
use Rattle.rb_workers.specs.SeatRows.{seat_rows, worker_column}
use Rattle.rb_workers.specs.inner.WorkerRuns.{HasRun}
use Rattle.rb_jobs.proofs.Lists.{zip_length}
use Rattle.rb_workers.proofs.Same.{opened_long, list_head, list_tail}
use Rattle.rb_workers.proofs.Totals.{results_of_runs, runs_of, report_of_runs, unlogged_of_runs}
use Rattle.rb_workers.proofs.SinkItems.{gets_at_close}
use Rattle.rb_workers.proofs.Strays.{none_strays}
use Rattle.rb_workers.proofs.Parts.{all_first, all_rest}

-- ---- rings

-- a prefix of a prefix of a history is a prefix of the history
all_begin : (b : Book) (opened seats : List WorkerSeat) → AllZip SeatBegins opened seats → All (Accounts b) seats → All (λ s. BeginsWith b s.seen) opened
all_begin b opened seats begins ties =
    λ k d below.
    let same = zip_length SeatBegins opened seats begins in
    begins_through (get_or opened k d).seen (get_or seats k d).seen b (AllZip-get_or SeatBegins opened seats k d d begins below)
    (extended_begins (WorkerRole (get_or seats k d).worker) (get_or seats k d).seen b (ties k d (omega (arith, same, below))).goes_on)

-- each ring that was closed after the run is one that was opened
pub rings_end : {S : Type 0} (position : S → ℕ) (takes : S → SinkItem → S → Type 0) (opened back : List (Opened S)) (ended : List (Ended S)) (count : ℕ) → All (IsOpened position count) back → map (λ o. o.ring) back ≡ map (λ o. o.ring) opened
    → AllZip (AllZip IsSameSeat) (seat_rows opened) (seat_rows back) → AllZip (λ o b. IsSameChapterConsumer o.consumer b.consumer) opened back → AllZip (λ o b. BeginsWith b.consumer.seen o.consumer.seen) opened back
    → AllZip (AllZip SeatBegins) (seat_rows opened) (seat_rows back) → AllZip (SinkGetsTaken takes) opened back → AllZip Closes back ended → RingsEnd position takes opened ended (seat_rows back)
rings_end position takes [] [] [] count all rings seats consumers begins seen given closes = tt
rings_end position takes [] [] (e ∷ es) count all rings seats consumers begins seen given closes = absurd closes
rings_end position takes [] (b ∷ bs) ended count all rings seats consumers begins seen given closes = absurd consumers
rings_end position takes (o ∷ os) [] ended count all rings seats consumers begins seen given closes = absurd consumers
rings_end position takes (o ∷ os) (b ∷ bs) [] count all rings seats consumers begins seen given closes = absurd closes
rings_end position takes (o ∷ os) (b ∷ bs) (e ∷ es) count all rings seats consumers begins seen given closes =
    let is = all_first (IsOpened position count) (b ∷ bs) bs b refl all in
    let c = closes.0 in
    let whole = ring_at_end b.consumer e in
    let closed = c.closed.closed in
    let last = e.closing.at_end in
    let goes_on = gathered-continues last b.seats.items b.consumer c.closed.gathered in (
      record {
        consumer = b.consumer;
        which = c.which ∙ list_head b.ring o.ring (map (λ x. x.ring) bs) (map (λ x. x.ring) os) rings;
        closed = c.closed;
        begins = begins_through _ _ _ begins.0 (extended_begins Consumer _ _ closed.consumer_goes_on);
        seats_begin = all_begin (book_of whole) o.seats.items b.seats.items seen.0 closed.seats_tie;
        same_seats = seats.0;
        same_consumer = consumers.0;
        keeper_fits = subst (IsKeeperFor b.consumer) (sym c.same_keeper) is.keeper_fits;
        sink_given = gets_at_close takes o.consumer b.consumer (book_of whole) o.sink b.sink e.sink closed.consumer_goes_on c.same_sink given.0;
        sink_follows = ap position c.same_sink ∙ (is.sink_follows ∙ (closed.consumer_ties.position_is ∙ sym (consumer-same (joined b.consumer.handed_out) last last goes_on)));
        tallies_are = c.tallies_are;
      },
      rings_end position takes os bs es count (all_rest (IsOpened position count) (b ∷ bs) bs b refl all) (list_tail b.ring o.ring (map (λ x. x.ring) bs) (map (λ x. x.ring) os) rings) seats.1 consumers.1 begins.1 seen.1 given.1 closes.1,
    )

-- ---- workers

or_parts : (a b : Bool) → (a || b) ≡ false → (a ≡ false) × (b ≡ false)
or_parts true b e = absurd (true≢false e)
or_parts false b e = (refl, e)

-- if no worker is unknown, each job names one of the workers
pub known_workers : (count : ℕ) (jobs : List Job) → has_unknown_worker count jobs ≡ false → All (λ j. j.worker < count) jobs
known_workers count [] e = λ k d below. absurd (omega arith)
known_workers count (j ∷ js) e =
    let parts = or_parts (not (nat_lt j.worker count)) (has_unknown_worker count js) e in
    All-cons (λ (i : Job). i.worker < count) j js (below_known j.worker count parts.0) (known_workers count js parts.1)
  where
    below_known : (w n : ℕ) → not (nat_lt w n) ≡ false → w < n
    below_known w n e = ⊎_elim (λ is. omega (arith, is.1)) (λ above. absurd (true≢false (sym (ap not above.0) ∙ e))) (leb_tells (suc w) n)

-- if no ring is unknown, each job's program uses rings among these
pub known_rings : (rings : ℕ) (jobs : List Job) → has_unknown_ring rings jobs ≡ false → All (λ j. j.program.now.rings ≤ rings) jobs
known_rings rings [] e = λ k d below. absurd (omega arith)
known_rings rings (j ∷ js) e =
    let parts = or_parts (nat_lt rings j.program.now.rings) (has_unknown_ring rings js) e in
    All-cons (λ (i : Job). i.program.now.rings ≤ rings) j js (within_known rings j.program.now.rings parts.0) (known_rings rings js parts.1)
  where
    within_known : (n r : ℕ) → nat_lt n r ≡ false → r ≤ n
    within_known n r e = ⊎_elim (λ is. absurd (true≢false (sym is.0 ∙ e))) (λ above. omega (arith, above.1)) (leb_tells (suc n) r)

-- no allocation failed for a worker
none_short : (workers : List Worker) → list_any (λ w. w.short) workers ≡ false → All (λ w. w.short ≡ false) workers
none_short [] e = λ k d below. absurd (omega arith)
none_short (w ∷ ws) e =
    let parts = or_parts w.short (list_any (λ x. x.short) ws) e in
    All-cons (λ (x : Worker). x.short ≡ false) w ws parts.0 (none_short ws parts.1)

-- a worker without a failed allocation ran all its jobs
ran_all : (jobs : List Job) (short : Bool) (answers : List JobAnswer) (old new : List WorkerSeat) → RunsOwnJobs jobs short answers old new → short ≡ false → RunsJobs jobs answers old new
ran_all jobs short answers old new w e =
    subst (λ l. RunsJobs l answers old new) (sym (w.2 ∙ (ap (λ l. w.0 ++ l) (w.3 e) ∙ append-nil w.0))) w.4

pub ran_first : (jobs : List Job) (short : Bool) (answers : List JobAnswer) (old new : List WorkerSeat) → RunsOwnJobs jobs short answers old new → RunsFirst jobs old new
ran_first jobs short answers old new w =
    let turns = runs_of w.0 answers old new w.4 in
    (turns.0, w.1, w.2 ∙ ap (λ js. js ++ w.1) (sym turns.1), turns.3)

pub ran_length : (js : List Job) (answers : List JobAnswer) (old new : List WorkerSeat) → RunsJobs js answers old new → length answers ≡ length js
ran_length [] [] old new ran = refl
ran_length [] (a ∷ answers) old new ran = absurd ran
ran_length (j ∷ js) [] old new ran = absurd ran
ran_length (j ∷ js) (a ∷ answers) old new ran = let e = ran_length js answers ran.0 new ran.2 in omega arith

element_of : {A : Type 0} (xs : List A) (k : ℕ) → k < length xs → A
element_of [] k below = absurd (omega arith)
element_of (x ∷ xs) k below = x

-- each worker ran a prefix of its own jobs
pub each_ran : (count : ℕ) (jobs : List Job) (old new : List (List WorkerSeat)) (workers : List Worker) → length workers ≡ count
    → ((k : ℕ) (d : Worker) → k < count → HasRun k jobs (worker_column k old) (worker_column k new) (get_or workers k d))
    → (k : ℕ) → k < count → RunsFirst (own_jobs k jobs) (worker_column k old) (worker_column k new)
each_ran count jobs old new workers len run k below =
    let d = element_of workers k (omega (arith, len, below)) in
    ran_first (own_jobs k jobs) (get_or workers k d).short (get_or workers k d).answers.items (worker_column k old) (worker_column k new) (run k d below).1

-- without failed allocations, each worker has an answer to each of its own jobs
pub each_answered : (count : ℕ) (jobs : List Job) (old new : List (List WorkerSeat)) (workers : List Worker) → length workers ≡ count → list_any (λ w. w.short) workers ≡ false
    → ((k : ℕ) (d : Worker) → k < count → HasRun k jobs (worker_column k old) (worker_column k new) (get_or workers k d))
    → (k : ℕ) (d : Worker) → k < count → RunsJobs (own_jobs k jobs) (get_or workers k d).answers.items (worker_column k old) (worker_column k new)
each_answered count jobs old new workers len short run k d below =
    ran_all (own_jobs k jobs) (get_or workers k d).short (get_or workers k d).answers.items (worker_column k old) (worker_column k new) (run k d below).1 (none_short workers short k d (omega (arith, len, below)))

-- the same with the collected answers
pub each_told : (count : ℕ) (jobs : List Job) (answers : List JobAnswer) (old new : List (List WorkerSeat)) (workers : List Worker) → length workers ≡ count
    → ((k : ℕ) (d : Worker) → k < count → RunsJobs (own_jobs k jobs) (get_or workers k d).answers.items (worker_column k old) (worker_column k new))
    → ((k : ℕ) (d : Worker) → k < count → own_answers k jobs answers ≡ (get_or workers k d).answers.items)
    → (k : ℕ) → k < count → RunsJobs (own_jobs k jobs) (own_answers k jobs answers) (worker_column k old) (worker_column k new)
each_told count jobs answers old new workers len ran merged k below =
    let d = element_of workers k (omega (arith, len, below)) in
    subst (λ l. RunsJobs (own_jobs k jobs) l (worker_column k old) (worker_column k new)) (sym (merged k d below)) (ran k d below)

-- ---- the whole report

pub reported : {S : Type 0} (position : S → ℕ) (takes : S → SinkItem → S → Type 0) (opened back : List (Opened S)) (jobs : List Job) (answers : List JobAnswer) (report : JobsReport S) → AreOpened position opened → IsHandedBack position takes opened jobs back
    → length answers ≡ length jobs → All (λ j. j.worker < workers_of opened) jobs
    → ((k : ℕ) → k < workers_of opened → RunsJobs (own_jobs k jobs) (own_answers k jobs answers) (worker_column k (seat_rows opened)) (worker_column k (seat_rows back)))
    → AllZip Closes back report.rings.items → report.answers.items ≡ map (λ a. a.result) answers → report.strays ≡ 0 → report.unlogged ≡ sum_by (λ a. a.unlogged) answers
    → IsReport position takes opened jobs report
reported position takes opened back jobs answers report all handed len known ran closes results strays unlogged =
    let count = workers_of opened in
    let again : All (IsOpened position count) back = subst (λ n. All (IsOpened position n) back) handed.workers_same handed.runs_again in
    let told = report_of_runs count jobs answers (seat_rows opened) (seat_rows back) (opened_long position count opened all) (opened_long position count back again) len known ran in
    let failed = told.failures_add_up in
    let unlogged_is : report.unlogged ≡ sum_by (λ run. run.answer.unlogged) told.runs = unlogged ∙ (ap (sum_by (λ (a : JobAnswer). a.unlogged)) (sym told.answers_are) ∙ unlogged_of_runs told.runs) in
    let answers_are : report.answers.items ≡ map (λ (r : JobRun). r.answer.result) told.runs = results ∙ (ap (map (λ (a : JobAnswer). a.result)) (sym told.answers_are) ∙ results_of_runs told.runs) in
    record {
      seats = seat_rows back;
      runs = told.runs;
      jobs_are = told.jobs_are;
      rings_end = rings_end position takes opened back report.rings.items count again handed.rings_same handed.seats_same handed.consumers_same handed.consumers_begin handed.seats_begin handed.sinks_given closes;
      worked = told.turns;
      runs_match = told.runs_match;
      answers_are = answers_are;
      strays_are = strays ∙ sym (ap (count_by is_stray) answers_are ∙ none_strays told.runs told.runs_match);
      unlogged_is = unlogged_is;
      numbers_rose = told.numbers_rose;
      failures_add_up = omega (arith, failed, unlogged_is);
    }
