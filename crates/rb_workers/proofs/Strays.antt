-- No run strays, and each worker's seats together submit and discard as many records as they make.
use Rattle.std.proofs.Common.{◌≡◌, ◌≢◌, ℕ, ◌+◌, ◌==◌, Bool, true, false, cond, List, [], ◌∷◌, Result, Ok, Err, map, refl, ap, arith}
use Rattle.std.proofs.lemmas.List.Elements.{All-head, All-tail}
use Rattle.std.proofs.lemmas.List.Sums.{sum_by-cons}
use Rattle.std.specs.List.{All, count_by}
use Rattle.rb_interp.specs.declared.completed_call.Done.{Done}
use Rattle.rb_interp.specs.AnsweredCalls.{notes_of}
use Rattle.rb_interp.specs.declared.fault.RunFault.{RunFault}
use Rattle.rb_interp.specs.declared.fault.RunFault.TheVariants.{ContextLength, Stray}
use Rattle.rb_ledger.specs.Seats.{WorkerSeat}
use Rattle.rb_jobs.specs.SeatHelpers.{makes, submits, discards, call_total, made_in, submitted_in, discarded_in}
use Rattle.rb_jobs.proofs.Returned.{calls_give_back}
use Rattle.rb_workers.specs.JobRuns.{JobRun, own_runs, is_stray}
use Rattle.rb_workers.specs.Reports.{IsRun, HasRisen, times_in}
use Rattle.rb_workers.specs.Settled.{AreSettled}

told : (result : Result ℕ RunFault) → result ≢ Err Stray → is_stray result ≡ false
told (Ok n) kept = refl
told (Err ContextLength) kept = refl
told (Err Stray) kept = absurd (kept refl)

-- no run strays
pub none_strays : (runs : List JobRun) → All IsRun runs → count_by is_stray (map (λ run. run.answer.result) runs) ≡ 0
none_strays [] all = refl
none_strays (run ∷ runs) all =
    let results = map (λ (r : JobRun). r.answer.result) runs in
    let none : cond {A = ℕ} (is_stray run.answer.result) 1 0 ≡ 0 = ap (λ b. cond {A = ℕ} b 1 0) (told run.answer.result (All-head IsRun run runs all).never_stray) in
    let rest = none_strays runs (All-tail IsRun run runs all) in
    let counted = sum_by-cons (λ (r : Result ℕ RunFault). cond (is_stray r) 1 0) run.answer.result results in
    omega (arith, none, rest, counted)

either : (b : Bool) (m s d : ℕ) → m ≡ s + d → cond b m 0 ≡ cond b s 0 + cond b d 0
either true m s d e = e
either false m s d e = refl

run_gives_back : (run : JobRun) → IsRun run → call_total makes (notes_of run.calls) ≡ call_total submits (notes_of run.calls) + call_total discards (notes_of run.calls)
run_gives_back run is = calls_give_back run.job.program.now run.job.ctx.now run.answer.result run.calls is.shows is.balanced is.never_stray

own_times : (what : Done → ℕ) (run : JobRun) (runs : List JobRun) (b : Bool) → times_in what (cond b (run ∷ runs) runs) ≡ cond b (call_total what (notes_of run.calls)) 0 + times_in what runs
own_times what run runs true = sum_by-cons (λ (r : JobRun). call_total what (notes_of r.calls)) run runs
own_times what run runs false = omega arith

runs_give_back : (worker : ℕ) (runs : List JobRun) → All IsRun runs
    → times_in makes (own_runs worker runs) ≡ times_in submits (own_runs worker runs) + times_in discards (own_runs worker runs)
runs_give_back worker [] all = refl
runs_give_back worker (run ∷ runs) all =
    let b = run.job.worker == worker in
    let one = either b (call_total makes (notes_of run.calls)) (call_total submits (notes_of run.calls)) (call_total discards (notes_of run.calls)) (run_gives_back run (All-head IsRun run runs all)) in
    let rest = runs_give_back worker runs (All-tail IsRun run runs all) in
    let made = own_times makes run (own_runs worker runs) b in
    let submitted = own_times submits run (own_runs worker runs) b in
    let discarded = own_times discards run (own_runs worker runs) b in
    omega (arith, one, rest, made, submitted, discarded)

-- the additional records that a worker's seats made were submitted or discarded
gives_all_back : (worker : ℕ) (runs : List JobRun) (old new : List WorkerSeat) → All IsRun runs → HasRisen (own_runs worker runs) old new → made_in new + submitted_in old + discarded_in old ≡ made_in old + submitted_in new + discarded_in new
gives_all_back worker runs old new all rose =
    let given = runs_give_back worker runs all in
    let made = rose.made_is in let submitted = rose.submitted_is in let discarded = rose.discarded_is in
    omega (arith, given, made, submitted, discarded)

pub stays_settled : (worker : ℕ) (runs : List JobRun) (old new : List WorkerSeat) → All IsRun runs → HasRisen (own_runs worker runs) old new → AreSettled old → AreSettled new
stays_settled worker runs old new all rose settled =
    let even = gives_all_back worker runs old new all rose in
    omega (arith, even, settled)
