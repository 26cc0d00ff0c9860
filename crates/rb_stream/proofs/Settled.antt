-- Rings whose seats submitted or discarded all records that they made, before a stream and after it.
use Rattle.std.proofs.Common.{sym, ap, map, ◌≡◌, ℕ, ◌<◌, List, [], ◌∷◌, subst, ◌∙◌, arith}
use Rattle.std.proofs.lemmas.List.Elements.{All-head, All-tail, All-cons, All-nil, All-same, All-map}
use Rattle.std.specs.List.{All, AllZip}
use Rattle.rb_verifier.specs.Subject.{Subject}
use Rattle.rb_history.specs.declared.answers.Counts.{Counts}
use Rattle.rb_chapter_ring.specs.Chapters.{joined}
use Rattle.rb_ledger.specs.Seats.{WorkerSeat, SettlesWithin, HasSettledAll}
use Rattle.rb_ledger.specs.ChapterSeats.{whole_consumer}
use Rattle.rb_ledger.proofs.BoundChapters.{gathered-continues}
use Rattle.rb_ledger.proofs.Sums.{once-closed}
use Rattle.rb_ledger.proofs.WholeCalls.{said}
use Rattle.rb_jobs.proofs.Returned.{jobs_balance}
use Rattle.rb_workers.specs.declared.opened.Opened.{Opened}
use Rattle.rb_workers.specs.declared.opened.Ended.{Ended}
use Rattle.rb_workers.specs.inner.RingEnds.{Closes}
use Rattle.rb_workers.specs.Opened.{IsOpened}
use Rattle.rb_workers.specs.Reports.{ring_at_end}
use Rattle.rb_workers.specs.SeatRows.{seat_rows, worker_column}
use Rattle.rb_workers.specs.Settled.{AreSettled, EachSettled, IsEven, EndsSettled}
use Rattle.rb_workers.proofs.Same.{opened_long}
use Rattle.rb_workers.proofs.Settling.{each_settled}
use Rattle.rb_stream_worker.specs.Tasks.{TaskRun, RunsTasks}
use Rattle.rb_stream_worker.specs.Turns.{RunsAs, RunsTurn, RunsTurns}
use Rattle.rb_stream_worker.specs.declared.when_full.Turns.{Turns}
use Rattle.rb_stream_worker.specs.declared.when_full.WhenFull.{WhenFull}
use Rattle.rb_stream_worker.specs.declared.when_full.WhenFull.TheVariants.{Refuse, Wait}
use Rattle.rb_stream.proofs.TaskRuns.{answer_of, still_in, task_at}

-- ---- a worker's seats

-- each run submits and discards as many records as it makes
tasks_settle : (worker : ℕ) (programs : List Subject) (runs : List TaskRun) (old new : List WorkerSeat) → RunsTasks worker programs runs old new → AreSettled old → AreSettled new
tasks_settle worker programs [] old new same settled = subst AreSettled (sym same) settled
tasks_settle worker programs (run ∷ runs) old new turn settled =
    let first = jobs_balance (task_at worker turn.1.program run) (answer_of run) old turn.0 turn.1.ran in
    tasks_settle worker programs runs turn.0 new turn.2 (omega (arith, first, settled))

turn_settles : (t : Turns) (worker : ℕ) (programs : List Subject) (runs : List TaskRun) (old new : List WorkerSeat) → RunsTurn t worker programs runs old new → AreSettled old → AreSettled new
turn_settles t worker programs runs old new turn settled =
    let made = still_in (λ y. y.made) t.limits.items old turn.looked turn.found in
    let submitted = still_in (λ y. y.submitted) t.limits.items old turn.looked turn.found in
    let discarded = still_in (λ y. y.discarded) t.limits.items old turn.looked turn.found in
    tasks_settle worker programs runs turn.looked new turn.ran (omega (arith, made, submitted, discarded, settled))

turns_settle : (t : Turns) (worker : ℕ) (programs : List Subject) (parts : List (List TaskRun)) (old new : List WorkerSeat) → RunsTurns t worker programs parts old new → AreSettled old → AreSettled new
turns_settle t worker programs [] old new same settled = subst AreSettled (sym same) settled
turns_settle t worker programs (runs ∷ parts) old new turns settled = turns_settle t worker programs parts turns.0 new turns.2 (turn_settles t worker programs runs old turns.0 turns.1 settled)

runs_settle : (full : WhenFull) (worker : ℕ) (programs : List Subject) (runs : List TaskRun) (old new : List WorkerSeat) → RunsAs full worker programs runs old new → AreSettled old → AreSettled new
runs_settle Refuse worker programs runs old new ran settled = tasks_settle worker programs runs old new ran settled
runs_settle (Wait t) worker programs runs old new ran settled = turns_settle t worker programs ran.0 old new ran.2 settled

-- ---- closed rings

closed_within : {S : Type 0} (back : List (Opened S)) (ended : List (Ended S)) → AllZip Closes back ended → All (All SettlesWithin) (seat_rows back)
closed_within [] [] closes = All-nil (All SettlesWithin)
closed_within [] (e ∷ es) closes = absurd closes
closed_within (o ∷ os) [] closes = absurd closes
closed_within (o ∷ os) (e ∷ es) closes =
    All-cons (All SettlesWithin) o.seats.items (seat_rows os) (once-closed (ring_at_end o.consumer e) o.seats.items (whole_consumer o.consumer) closes.0.closed.closed).within (closed_within os es closes.1)

closed_settled : {S : Type 0} (back : List (Opened S)) (ended : List (Ended S)) → AllZip Closes back ended → All (All HasSettledAll) (seat_rows back) → All EndsSettled ended
closed_settled [] [] closes all = All-nil EndsSettled
closed_settled [] (e ∷ es) closes all = absurd closes
closed_settled (o ∷ os) [] closes all = absurd closes
closed_settled (o ∷ os) (e ∷ es) closes all =
    let c = closes.0 in
    let row = o.seats.items in
    let last = e.closing.at_end in
    let here = All-head (All HasSettledAll) row (seat_rows os) all in
    let goes_on = gathered-continues last row o.consumer c.closed.gathered in
    let one : EndsSettled e = record {
      tallies_even = All-same IsEven e.tallies.items (map (λ (s : WorkerSeat). s.tally) row) c.tallies_are (All-map IsEven (λ (s : WorkerSeat). s.tally) row here);
      none_busy = ap (λ (n : Counts). n.busy) (said (joined o.consumer.handed_out) last last goes_on).counts ∙ (once-closed (ring_at_end o.consumer e) row (whole_consumer o.consumer) c.closed.closed).none_busy.0 here;
    } in
    All-cons EndsSettled e es one (closed_settled os es closes.1 (All-tail (All HasSettledAll) row (seat_rows os) all))

-- if each worker's seats were settled before, each ring ends settled
pub all_settled : {S : Type 0} (position : S → ℕ) (count : ℕ) (programs : List Subject) (full : WhenFull) (runs : ℕ → List TaskRun) (opened back : List (Opened S)) (ended : List (Ended S)) → All (IsOpened position count) back → AllZip Closes back ended
    → ((k : ℕ) → k < count → RunsAs full k programs (runs k) (worker_column k (seat_rows opened)) (worker_column k (seat_rows back))) → EachSettled count (seat_rows opened) → All EndsSettled ended
all_settled position count programs full runs opened back ended again closes turns settled =
    let still : EachSettled count (seat_rows back) = λ k below. runs_settle full k programs (runs k) (worker_column k (seat_rows opened)) (worker_column k (seat_rows back)) (turns k below) (settled k below) in
    closed_settled back ended closes (each_settled count (seat_rows back) (opened_long position count back again) (closed_within back ended closes) still)
