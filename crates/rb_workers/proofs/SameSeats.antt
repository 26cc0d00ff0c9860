-- A worker's seats stay the same seats, whatever it ran; and so do all rows if all columns do.
use Rattle.std.proofs.Common.{◌≡◌, ℕ, zero, suc, ◌<◌, List, [], ◌∷◌, length, sym, subst, arith}
use Rattle.std.proofs.lemmas.List.Elements.{All-head, All-tail}
use Rattle.std.specs.Prelude.{slice_get}
use Rattle.std.specs.List.{All, AllZip, cons_option}
use Rattle.rb_ledger.specs.Seats.{WorkerSeat, IsSameSeat}
use Rattle.rb_jobs.specs.SeatLaws.{SeatBegins}
use Rattle.rb_jobs.proofs.Lists.{zip_self, zip_through}
use Rattle.rb_jobs.proofs.Totals.{same_seat, same_through}
use Rattle.rb_jobs.proofs.Beginnings.{begins_itself, begins_on, seats_go_on}
use Rattle.rb_jobs.specs.Jobs.{JobRan, Task, task_of}
use Rattle.rb_jobs.specs.declared.job.JobAnswer.{JobAnswer}
use Rattle.rb_workers.specs.JobRuns.{JobRun, RunsInTurn}
use Rattle.rb_workers.specs.SeatRows.{worker_column}

-- ---- a worker's seats

pub same_seats : (xs : List WorkerSeat) → AllZip IsSameSeat xs xs
same_seats xs = zip_self IsSameSeat same_seat xs

-- a relation between a worker's seats before and after each job holds for all jobs together
zip_of_runs : (R : WorkerSeat → WorkerSeat → Type 0) → ((s : WorkerSeat) → R s s) → ((x y z : WorkerSeat) → R x y → R y z → R x z)
    → ((task : Task) (answer : JobAnswer) (old new : List WorkerSeat) → JobRan task answer old new → AllZip R old new)
    → (runs : List JobRun) (old new : List WorkerSeat) → RunsInTurn runs old new → AllZip R old new
zip_of_runs R itself through one [] old new same = subst (AllZip R old) (sym same) (zip_self R itself old)
zip_of_runs R itself through one (run ∷ runs) old new turn =
    zip_through R through old turn.0 new (one (task_of run.job) run.answer old turn.0 turn.1.0) (zip_of_runs R itself through one runs turn.0 new turn.2)

pub seats_same_of_runs : (runs : List JobRun) (old new : List WorkerSeat) → RunsInTurn runs old new → AllZip IsSameSeat old new
seats_same_of_runs = zip_of_runs IsSameSeat same_seat same_through (λ task answer old new did. did.same)

pub seats_begin_of_runs : (runs : List JobRun) (old new : List WorkerSeat) → RunsInTurn runs old new → AllZip SeatBegins old new
seats_begin_of_runs = zip_of_runs SeatBegins begins_itself begins_on (λ task answer old new did. seats_go_on old new did.calls answer.unlogged did.led)

-- ---- rows from columns

-- both rows, and all columns below them
row_zip : {A : Type 0} (R : A → A → Type 0) (n : ℕ) (xs ys : List A) (aboves belows : ℕ → List A) → length xs ≡ n → length ys ≡ n
    → ((k : ℕ) → k < n → AllZip R (cons_option (slice_get xs k) (aboves k)) (cons_option (slice_get ys k) (belows k)))
    → AllZip R xs ys × ((k : ℕ) → k < n → AllZip R (aboves k) (belows k))
row_zip R zero [] [] aboves belows lx ly each = (tt, λ k below. absurd (omega arith))
row_zip R zero [] (y ∷ ys) aboves belows lx ly each = absurd (omega arith)
row_zip R zero (x ∷ xs) ys aboves belows lx ly each = absurd (omega arith)
row_zip R (suc n) [] ys aboves belows lx ly each = absurd (omega arith)
row_zip R (suc n) (x ∷ xs) [] aboves belows lx ly each = absurd (omega arith)
row_zip R (suc n) (x ∷ xs) (y ∷ ys) aboves belows lx ly each =
    let first = each 0 (omega arith) in
    let rest = row_zip R n xs ys (λ k. aboves (suc k)) (λ k. belows (suc k)) (omega arith) (omega arith) (λ k below. each (suc k) (omega arith)) in
    ((first.0, rest.0), elim [ zero ↦ λ below. first.1 | suc k ↦ λ below. rest.1 k (omega arith) ])

-- a relation that holds for all columns holds for all rows
pub rows_of_columns : (R : WorkerSeat → WorkerSeat → Type 0) (count : ℕ) (old new : List (List WorkerSeat)) → All (λ row. length row ≡ count) old → All (λ row. length row ≡ count) new → length old ≡ length new
    → ((k : ℕ) → k < count → AllZip R (worker_column k old) (worker_column k new)) → AllZip (AllZip R) old new
rows_of_columns R count [] [] old_rows new_rows len columns = tt
rows_of_columns R count [] (row ∷ new) old_rows new_rows len columns = absurd (omega arith)
rows_of_columns R count (row ∷ old) [] old_rows new_rows len columns = absurd (omega arith)
rows_of_columns R count (row ∷ old) (now ∷ new) old_rows new_rows len columns =
    let first = row_zip R count row now (λ k. worker_column k old) (λ k. worker_column k new) (All-head (λ (r : List WorkerSeat). length r ≡ count) row old old_rows) (All-head (λ (r : List WorkerSeat). length r ≡ count) now new new_rows) columns in
    (first.0, rows_of_columns R count old new (All-tail (λ (r : List WorkerSeat). length r ≡ count) row old old_rows) (All-tail (λ (r : List WorkerSeat). length r ≡ count) now new new_rows) (omega arith) first.1)
