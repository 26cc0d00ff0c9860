-- What consecutive runs of tasks preserve of a worker's seats, and how the seats' counts grow.
use Rattle.std.proofs.Common.{◌≡◌, ℕ, ◌+◌, List, [], ◌∷◌, Ok, get_or, refl, sym, ap, subst, arith}
use Rattle.std.specs.List.{AllZip, flat_map, sum_by}
use Rattle.std.proofs.lemmas.List.Sums.{sum_by-append, sum_by-cons}
use Rattle.rb_verifier.specs.Subject.{Subject}
use Rattle.rb_history.specs.declared.tally.Tally.{Tally}
use Rattle.rb_interp.specs.declared.completed_call.Done.{Done}
use Rattle.rb_interp.specs.AnsweredCalls.{notes_of}
use Rattle.rb_ledger.specs.Seats.{WorkerSeat, IsSameSeat}
use Rattle.rb_jobs.specs.SeatLaws.{SeatBegins}
use Rattle.rb_jobs.specs.SeatHelpers.{makes, submits, discards, fails, call_total, made_in, refused_in, submitted_in, discarded_in}
use Rattle.rb_jobs.specs.declared.job.JobAnswer.{JobAnswer}
use Rattle.rb_jobs.specs.Jobs.{JobRan, Task}
use Rattle.rb_jobs.proofs.Lists.{zip_self, zip_through}
use Rattle.rb_jobs.proofs.Totals.{same_seat, same_through}
use Rattle.rb_jobs.proofs.Beginnings.{begins_itself, begins_on, seats_go_on}
use Rattle.rb_workers.proofs.Lists.{zip_of}
use Rattle.rb_stream_worker.specs.Tasks.{TaskRun, RunsTasks}
use Rattle.rb_stream_worker.specs.Turns.{FindsRoomInEach, RunsAs, RunsTurn, RunsTurns, SeesMore}
use Rattle.rb_stream_worker.specs.declared.when_full.Turns.{Turns}
use Rattle.rb_stream_worker.specs.declared.when_full.WhenFull.{WhenFull}
use Rattle.rb_stream_worker.specs.declared.when_full.WhenFull.TheVariants.{Refuse, Wait}
use Rattle.rb_stream.specs.Streamed.{HaveRisen, times_in, unlogged_in}

-- the run as a job of a worker, and its result
abbrev pub task_at : ℕ → Subject → TaskRun → Task
task_at worker program run = record { worker = worker; program = program; context = run.task.context }

abbrev pub answer_of : TaskRun → JobAnswer
answer_of run = record { result = Ok run.result; unlogged = run.unlogged }

-- a relation between a worker's seats before and after each job holds for all runs together
zip_of_tasks : (R : WorkerSeat → WorkerSeat → Type 0) → ((s : WorkerSeat) → R s s) → ((x y z : WorkerSeat) → R x y → R y z → R x z)
    → ((task : Task) (answer : JobAnswer) (old new : List WorkerSeat) → JobRan task answer old new → AllZip R old new)
    → (worker : ℕ) (programs : List Subject) (runs : List TaskRun) (old new : List WorkerSeat) → RunsTasks worker programs runs old new → AllZip R old new
zip_of_tasks R itself through one worker programs [] old new same = subst (AllZip R old) (sym same) (zip_self R itself old)
zip_of_tasks R itself through one worker programs (run ∷ runs) old new turn =
    zip_through R through old turn.0 new (one (task_at worker turn.1.program run) (answer_of run) old turn.0 turn.1.ran) (zip_of_tasks R itself through one worker programs runs turn.0 new turn.2)

-- looks preserve what is preserved when a seat sees more
found_zip : (R : WorkerSeat → WorkerSeat → Type 0) → ((b a : WorkerSeat) → SeesMore b a → R b a) → (limits : List ℕ) (olds news : List WorkerSeat) → FindsRoomInEach limits olds news → AllZip R olds news
found_zip R look limits olds news found = zip_of R olds news (sym found.0) (λ k d below. look (get_or olds k d) (get_or news k d) (found.1 k 0 d d below).sees)

-- and so do turns
module _ (R : WorkerSeat → WorkerSeat → Type 0) (itself : (s : WorkerSeat) → R s s) (through : (x y z : WorkerSeat) → R x y → R y z → R x z) (look : (b a : WorkerSeat) → SeesMore b a → R b a)
    (one : (task : Task) (answer : JobAnswer) (old new : List WorkerSeat) → JobRan task answer old new → AllZip R old new) where
  zip_of_turns : (t : Turns) (worker : ℕ) (programs : List Subject) (parts : List (List TaskRun)) (old new : List WorkerSeat) → RunsTurns t worker programs parts old new → AllZip R old new
  zip_of_turns t worker programs [] old new same = subst (AllZip R old) (sym same) (zip_self R itself old)
  zip_of_turns t worker programs (runs ∷ parts) old new turns =
      let turn = turns.1 in
      zip_through R through old turns.0 new
      (zip_through R through old turn.looked turns.0 (found_zip R look t.limits.items old turn.looked turn.found) (zip_of_tasks R itself through one worker programs runs turn.looked turns.0 turn.ran))
      (zip_of_turns t worker programs parts turns.0 new turns.2)

  zip_of_runs : (full : WhenFull) (worker : ℕ) (programs : List Subject) (runs : List TaskRun) (old new : List WorkerSeat) → RunsAs full worker programs runs old new → AllZip R old new
  zip_of_runs Refuse worker programs runs old new ran = zip_of_tasks R itself through one worker programs runs old new ran
  zip_of_runs (Wait t) worker programs runs old new ran = zip_of_turns t worker programs ran.0 old new ran.2

looked_same : (b a : WorkerSeat) → SeesMore b a → IsSameSeat b a
looked_same b a sees = record {
  tag_same = ap (λ (s : WorkerSeat). s.tag) sees.seat_same;
  ring_same = ap (λ (s : WorkerSeat). s.ring) sees.seat_same;
  room_same = ap (λ (s : WorkerSeat). s.room) sees.seat_same;
  worker_same = ap (λ (s : WorkerSeat). s.worker) sees.seat_same;
}

looked_on : (b a : WorkerSeat) → SeesMore b a → SeatBegins b a
looked_on b a sees = record { setup_same = sees.goes_on.setup_same; behind = sees.goes_on.behind; history_is = sees.goes_on.history_is }

pub tasks_keep_seats : (full : WhenFull) (worker : ℕ) (programs : List Subject) (runs : List TaskRun) (old new : List WorkerSeat) → RunsAs full worker programs runs old new → AllZip IsSameSeat old new
tasks_keep_seats = zip_of_runs IsSameSeat same_seat same_through looked_same (λ task answer old new did. did.same)

pub tasks_begin : (full : WhenFull) (worker : ℕ) (programs : List Subject) (runs : List TaskRun) (old new : List WorkerSeat) → RunsAs full worker programs runs old new → AllZip SeatBegins old new
tasks_begin = zip_of_runs SeatBegins begins_itself begins_on looked_on (λ task answer old new did. seats_go_on old new did.calls answer.unlogged did.led)

-- ---- counts

-- looks change no count
pub still_in : (f : Tally → ℕ) (limits : List ℕ) (olds news : List WorkerSeat) → FindsRoomInEach limits olds news → sum_by (λ s. f s.tally) news ≡ sum_by (λ s. f s.tally) olds
still_in f limits olds news found = same_sums olds news (found_zip (λ b a. a.tally ≡ b.tally) (λ b a sees. ap (λ (s : WorkerSeat). s.tally) sees.seat_same) limits olds news found)
  where
    same_sums : (xs ys : List WorkerSeat) → AllZip (λ b a. a.tally ≡ b.tally) xs ys → sum_by (λ s. f s.tally) ys ≡ sum_by (λ s. f s.tally) xs
    same_sums [] [] zip = refl
    same_sums [] (y ∷ ys) zip = absurd zip
    same_sums (x ∷ xs) [] zip = absurd zip
    same_sums (x ∷ xs) (y ∷ ys) zip =
        let a = sum_by-cons (λ (s : WorkerSeat). f s.tally) x xs in
        let b = sum_by-cons (λ (s : WorkerSeat). f s.tally) y ys in
        let here : f y.tally ≡ f x.tally = ap f zip.0 in
        let rest = same_sums xs ys zip.1 in
        omega (arith, a, b, here, rest)

-- a count that grows with each job by what its calls say grows with the runs by what theirs say
tasks_raise : (number : List WorkerSeat → ℕ) (what : Done → ℕ)
    → ((task : Task) (answer : JobAnswer) (old new : List WorkerSeat) (did : JobRan task answer old new) → number new ≡ number old + call_total what (notes_of did.calls))
    → (worker : ℕ) (programs : List Subject) (runs : List TaskRun) (old new : List WorkerSeat) → RunsTasks worker programs runs old new → number new ≡ number old + times_in what runs
tasks_raise number what one worker programs [] old new same = let e = ap number same in omega (arith, e)
tasks_raise number what one worker programs (run ∷ runs) old new turn =
    let first = one (task_at worker turn.1.program run) (answer_of run) old turn.0 turn.1.ran in
    let calls = ap (λ cs. call_total what (notes_of cs)) turn.1.calls_are in
    let rest = tasks_raise number what one worker programs runs turn.0 new turn.2 in
    let sum = sum_by-cons (λ (r : TaskRun). call_total what (notes_of r.calls)) run runs in
    omega (arith, first, calls, rest, sum)

-- and with turns
module _ (f : Tally → ℕ) (what : Done → ℕ)
    (one : (task : Task) (answer : JobAnswer) (old new : List WorkerSeat) (did : JobRan task answer old new) → sum_by (λ s. f s.tally) new ≡ sum_by (λ s. f s.tally) old + call_total what (notes_of did.calls)) where
  abbrev number : List WorkerSeat → ℕ
  number seats = sum_by (λ s. f s.tally) seats

  turns_raise : (t : Turns) (worker : ℕ) (programs : List Subject) (parts : List (List TaskRun)) (old new : List WorkerSeat) → RunsTurns t worker programs parts old new → number new ≡ number old + times_in what (flat_map (λ part. part) parts)
  turns_raise t worker programs [] old new same = let e = ap number same in omega (arith, e)
  turns_raise t worker programs (runs ∷ parts) old new turns =
      let turn = turns.1 in
      let looked = still_in f t.limits.items old turn.looked turn.found in
      let first = tasks_raise number what one worker programs runs turn.looked turns.0 turn.ran in
      let rest = turns_raise t worker programs parts turns.0 new turns.2 in
      let sum = sum_by-append (λ (r : TaskRun). call_total what (notes_of r.calls)) runs (flat_map (λ part. part) parts) in
      omega (arith, looked, first, rest, sum)

  runs_raise : (full : WhenFull) (worker : ℕ) (programs : List Subject) (runs : List TaskRun) (old new : List WorkerSeat) → RunsAs full worker programs runs old new → number new ≡ number old + times_in what runs
  runs_raise Refuse worker programs runs old new ran = tasks_raise number what one worker programs runs old new ran
  runs_raise (Wait t) worker programs runs old new ran =
      let all = turns_raise t worker programs ran.0 old new ran.2 in
      let same = ap (times_in what) ran.1 in
      omega (arith, all, same)

pub tasks_rise : (full : WhenFull) (worker : ℕ) (programs : List Subject) (runs : List TaskRun) (old new : List WorkerSeat) → RunsAs full worker programs runs old new → HaveRisen runs old new
tasks_rise full worker programs runs old new ran =
    record {
      made_is = runs_raise (λ y. y.made) makes (λ task answer old new did. did.made_is) full worker programs runs old new ran;
      submitted_is = runs_raise (λ y. y.submitted) submits (λ task answer old new did. did.submitted_is) full worker programs runs old new ran;
      discarded_is = runs_raise (λ y. y.discarded) discards (λ task answer old new did. did.discarded_is) full worker programs runs old new ran;
    }

-- each failure is refused or unlogged
at_once_fail : (worker : ℕ) (programs : List Subject) (runs : List TaskRun) (old new : List WorkerSeat) → RunsTasks worker programs runs old new → refused_in new + unlogged_in runs ≡ refused_in old + times_in fails runs
at_once_fail worker programs [] old new same = let e = ap refused_in same in omega (arith, e)
at_once_fail worker programs (run ∷ runs) old new turn =
    let first = turn.1.ran.failed_is in
    let calls = ap (λ cs. call_total fails (notes_of cs)) turn.1.calls_are in
    let rest = at_once_fail worker programs runs turn.0 new turn.2 in
    let sum = sum_by-cons (λ (r : TaskRun). call_total fails (notes_of r.calls)) run runs in
    let unlogged = sum_by-cons (λ (r : TaskRun). r.unlogged) run runs in
    omega (arith, first, calls, rest, sum, unlogged)

turns_fail : (t : Turns) (worker : ℕ) (programs : List Subject) (parts : List (List TaskRun)) (old new : List WorkerSeat) → RunsTurns t worker programs parts old new
    → refused_in new + unlogged_in (flat_map (λ part. part) parts) ≡ refused_in old + times_in fails (flat_map (λ part. part) parts)
turns_fail t worker programs [] old new same = let e = ap refused_in same in omega (arith, e)
turns_fail t worker programs (runs ∷ parts) old new turns =
    let turn = turns.1 in
    let looked = still_in (λ y. y.refused) t.limits.items old turn.looked turn.found in
    let first = at_once_fail worker programs runs turn.looked turns.0 turn.ran in
    let rest = turns_fail t worker programs parts turns.0 new turns.2 in
    let sum = sum_by-append (λ (r : TaskRun). call_total fails (notes_of r.calls)) runs (flat_map (λ part. part) parts) in
    let unlogged = sum_by-append (λ (r : TaskRun). r.unlogged) runs (flat_map (λ part. part) parts) in
    omega (arith, looked, first, rest, sum, unlogged)

pub tasks_fail : (full : WhenFull) (worker : ℕ) (programs : List Subject) (runs : List TaskRun) (old new : List WorkerSeat) → RunsAs full worker programs runs old new → refused_in new + unlogged_in runs ≡ refused_in old + times_in fails runs
tasks_fail Refuse worker programs runs old new ran = at_once_fail worker programs runs old new ran
tasks_fail (Wait t) worker programs runs old new ran =
    let all = turns_fail t worker programs ran.0 old new ran.2 in
    let failed = ap (times_in fails) ran.1 in
    let unlogged = ap unlogged_in ran.1 in
    omega (arith, all, failed, unlogged)
