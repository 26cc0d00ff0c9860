-- A ring whose consumer keeps up refuses no worker a record, by the tallies of its seats.
use Rattle.std.proofs.Common.{◌≡◌, ℕ, ◌+◌, ◌≤◌, ◌<◌, suc, refl, sym, ap, subst, cond, Bool, true, false, List, [], ◌∷◌, length, map, get_or, Some, None, arith}
use Rattle.std.specs.Prelude.{All, ◌==◌}
use Rattle.std.specs.List.{AllZip, count_by, sum_by}
use Rattle.std.proofs.lemmas.List.Elements.{All-cons, All-map, All-nil}
use Rattle.std.proofs.lemmas.List.Sums.{sum_by-cons}
use Rattle.rb_history.specs.declared.entries.Entry.{Entry}
use Rattle.rb_history.specs.declared.entries.Entry.TheVariants.{Res, Full, Sub, Dis, Take}
use Rattle.rb_history.specs.declared.tally.Tally.{Tally}
use Rattle.rb_history.specs.Counting.{is_refusal_entry}
use Rattle.rb_history.specs.WorkerCounts.{is_refusal_of}
use Rattle.rb_history.specs.Span.{span}
use Rattle.rb_history.proofs.Lists.{opt_sum, sum_by-add, sum_by-only}
use Rattle.rb_ledger.specs.Seats.{WorkerSeat}
use Rattle.rb_ledger.specs.ChapterClosing.{AreTied, bound_book}
use Rattle.rb_ledger.proofs.BoundChapters.{tied-once-bound}
use Rattle.rb_admission.specs.Admission.{asked_span, asked_bytes}
use Rattle.rb_admission.proofs.OnTime.{none_refused_on_time}
use Rattle.rb_cost.specs.declared.cost.Cost.{Cost}
use Rattle.rb_cost.specs.Runs.{ring_cost_at}
use Rattle.rb_run_cost.specs.CallCosts.{AreCallsWithin, asked_span as asked_by}
use Rattle.rb_run_cost.proofs.TracedCalls.{calls_stay}
use Rattle.rb_run_cost.specs.JobRequests.{Request, request_of, requests_of, AreLeft}
use Rattle.rb_run_cost.specs.JobCosts.{requested_bytes}
use Rattle.rb_run_cost.proofs.Asking.{all_calls}
use Rattle.rb_jobs.specs.declared.job.Job.{Job}
use Rattle.rb_chapter_ring.specs.RingRecords.{reserved_bytes, with_record_bytes}
use Rattle.rb_interp.specs.declared.completed_call.Done.{Done}
use Rattle.rb_interp.specs.AnsweredCalls.{notes_of}
use Rattle.rb_jobs.specs.SeatHelpers.{makes, fails, call_total, refused_in}
use Rattle.rb_workers.specs.declared.opened.Opened.{Opened}
use Rattle.rb_workers.specs.declared.opened.Ended.{Ended}
use Rattle.rb_workers.specs.JobRuns.{JobRun, own_runs}
use Rattle.rb_workers.specs.Reports.{IsRun, RingEnds, RingsEnd, refused_by_all, times_in}
use Rattle.rb_workers.specs.SeatRows.{seat_rows}
use Rattle.rb_workers.specs.Sink.{SinkItem}
use Rattle.rb_run_cost.specs.RunCosts.{CostsAtMost, NoJobIsRefused, RefusesNone, RingKeepsUp, RingsKeepUp, asks}

-- ---- the refusals of one worker are among those of a history

at_most_one : (b : Bool) → cond b 1 0 ≤ 1
at_most_one true = omega arith
at_most_one false = omega arith

one_of : (w : ℕ) (e : Entry) → cond (is_refusal_of w e) 1 0 ≤ cond (is_refusal_entry e) 1 0
one_of w (Res v k n p) = omega arith
one_of w (Full v n) = at_most_one (v == w)
one_of w (Sub p) = omega arith
one_of w (Dis p) = omega arith
one_of w (Take p) = omega arith

pub fewer : (w : ℕ) (h : List Entry) → count_by (is_refusal_of w) h ≤ count_by is_refusal_entry h
fewer w [] = omega arith
fewer w (e ∷ h) =
    let own : count_by (is_refusal_of w) (e ∷ h) ≡ cond (is_refusal_of w e) 1 0 + count_by (is_refusal_of w) h = sum_by-cons (λ x. cond (is_refusal_of w x) 1 0) e h in
    let all : count_by is_refusal_entry (e ∷ h) ≡ cond (is_refusal_entry e) 1 0 + count_by is_refusal_entry h = sum_by-cons (λ x. cond (is_refusal_entry x) 1 0) e h in
    let here : cond (is_refusal_of w e) 1 0 ≤ cond (is_refusal_entry e) 1 0 = one_of w e in
    let rest : count_by (is_refusal_of w) h ≤ count_by is_refusal_entry h = fewer w h in
    omega arith

-- ---- one run

-- what a worker requests in a part of a history is what its requests there request
pub asked_is : (w : ℕ) (entries : List Entry) → asked_bytes w entries ≡ requested_bytes (requests_of w entries)
asked_is w entries = sum_by-only (asked_span w) (request_of w) (λ (q : Request). span q.len) one_asks entries
  where
    by_test : (b granted : Bool) (n : ℕ) → cond b (span n) 0 ≡ opt_sum (λ (q : Request). span q.len) (cond b (Some (record { len = n; granted = granted })) None)
    by_test true granted n = refl
    by_test false granted n = refl

    one_asks : (e : Entry) → asked_span w e ≡ opt_sum (λ (q : Request). span q.len) (request_of w e)
    one_asks (Res v k n p) = by_test (v == w) true n
    one_asks (Full v n) = by_test (v == w) false n
    one_asks (Sub p) = refl
    one_asks (Dis p) = refl
    one_asks (Take p) = refl

-- a worker without requests requests nothing
idle_within : (most w : ℕ) (entries : List Entry) → requests_of w entries ≡ [] → asked_bytes w entries ≤ most
idle_within most w entries none =
    let same : asked_bytes w entries ≡ requested_bytes (requests_of w entries) = asked_is w entries in
    let zero : requested_bytes (requests_of w entries) ≡ requested_bytes [] = ap requested_bytes none in
    omega arith

-- a run requests from a ring at most what its job costs
abbrev RunCosts : ℕ → ℕ → (Job → Cost) → JobRun → Type 0
RunCosts rings most costs run = IsRun run × CostsAtMost rings most run.job (costs run.job)

run_within : (rings most ring w : ℕ) (costs : Job → Cost) (run : JobRun) (entries : List Entry) → ring < rings → RunCosts rings most costs run → AreLeft ring (notes_of run.calls) (requests_of w entries)
    → asked_bytes w entries ≤ most
run_within rings most ring w costs run entries lt ran left =
    let knows : rings ≤ run.job.program.now.rings = ran.1.knows in
    let calls : AreCallsWithin run.job.program.now (costs run.job) (notes_of run.calls) =
    calls_stay reserved_bytes with_record_bytes run.job.program.now (costs run.job) run.job.ctx.now run.calls run.answer.result ran.1.verified ran.1.is ran.0.length_is ran.0.shows in
    let bytes : sum_by (asked_by ring) (notes_of run.calls) ≤ (ring_cost_at (costs run.job) ring).bytes = calls.bytes ring (omega arith) in
    let most_bytes : (ring_cost_at (costs run.job) ring).bytes ≤ most = ran.1.within ring lt in
    let asked : requested_bytes (requests_of w entries) ≤ sum_by (asked_by ring) (notes_of run.calls) = all_calls ring (notes_of run.calls) (requests_of w entries) left in
    let same : asked_bytes w entries ≡ requested_bytes (requests_of w entries) = asked_is w entries in
    omega arith

parts_within : (rings most ring w : ℕ) (costs : Job → Cost) → ring < rings → (runs : List JobRun) (parts : List (List Entry)) → All (RunCosts rings most costs) runs
    → AllZip (λ run entries. AreLeft ring (notes_of run.calls) (requests_of w entries)) runs parts → All (λ entries. asked_bytes w entries ≤ most) parts
parts_within rings most ring w costs lt [] [] all each = All-nil (λ entries. asked_bytes w entries ≤ most)
parts_within rings most ring w costs lt [] (p ∷ parts) all each = absurd each
parts_within rings most ring w costs lt (run ∷ runs) [] all each = absurd each
parts_within rings most ring w costs lt (run ∷ runs) (p ∷ parts) all each =
    All-cons (λ entries. asked_bytes w entries ≤ most) p parts (run_within rings most ring w costs run p lt (all 0 run (omega arith)) each.0)
    (parts_within rings most ring w costs lt runs parts (λ k d lt. all (suc k) d (omega arith)) each.1)

-- what holds for all runs holds for a worker's own
own_all : (Q : JobRun → Type 0) (w : ℕ) (runs : List JobRun) → All Q runs → All Q (own_runs w runs)
own_all Q w [] all = All-nil Q
own_all Q w (run ∷ runs) all = by_test (run.job.worker == w) (own_all Q w runs (λ k d lt. all (suc k) d (omega arith)))
  where
    by_test : (b : Bool) → All Q (own_runs w runs) → All Q (cond b (run ∷ own_runs w runs) (own_runs w runs))
    by_test true rest = All-cons Q run (own_runs w runs) (all 0 run (omega arith)) rest
    by_test false rest = rest

-- and what holds for all jobs holds for all their runs
jobs_all : (P : Job → Type 0) (Q : JobRun → Type 0) (runs : List JobRun) → All P (map (λ run. run.job) runs) → All Q runs → All (λ run. Q run × P run.job) runs
jobs_all P Q [] jobs all = All-nil (λ run. Q run × P run.job)
jobs_all P Q (run ∷ runs) jobs all =
    All-cons (λ run. Q run × P run.job) run runs (all 0 run (omega arith), jobs 0 run.job (omega arith))
    (jobs_all P Q runs (λ k d lt. jobs (suc k) d (omega arith)) (λ k d lt. all (suc k) d (omega arith)))

-- ---- one ring

none_in : (seats : List WorkerSeat) → All (λ s. s.tally.refused ≡ 0) seats → refused_in seats ≡ 0
none_in [] all = refl
none_in (s ∷ seats) all =
    let more : refused_in (s ∷ seats) ≡ s.tally.refused + refused_in seats = sum_by-cons (λ (s : WorkerSeat). s.tally.refused) s seats in
    let here : s.tally.refused ≡ 0 = all 0 s (omega arith) in
    let rest : refused_in seats ≡ 0 = none_in seats (λ k d lt. all (suc k) d (omega arith)) in
    omega arith

module _ {S : Type 0} (position : S → ℕ) (takes : S → SinkItem → S → Type 0) (runs : List JobRun) (costs : Job → Cost) (rings most behind : ℕ) (ran : All (RunCosts rings most costs) runs) where
  module _ (ring : ℕ) (inside : ring < rings) (o : Opened S) (ended : Ended S) (seats : List WorkerSeat) (ends : RingEnds position takes o ended seats) (keeps : RingKeepsUp ring runs most behind ended) where
    tied : AreTied seats ends.consumer (bound_book ended.closing.at_end keeps.history)
    tied = tied-once-bound ended.closing.at_end seats ends.consumer keeps.chapters keeps.history ends.closed.gathered keeps.bound

    none : count_by is_refusal_entry keeps.history ≡ 0
    none = none_refused_on_time ended.closing.at_end.chapter.opening.setup most behind keeps.history (λ w. keeps.idle w ∷ keeps.parts w) keeps.bound.legal keeps.low
        (λ w lt. record {
          whole = (keeps.cut w lt).whole;
          each = All-cons (λ entries. asked_bytes w entries ≤ most) (keeps.idle w) (keeps.parts w) (idle_within most w (keeps.idle w) (keeps.cut w lt).asks_nothing)
              (parts_within rings most ring w costs inside (own_runs w runs) (keeps.parts w) (own_all (RunCosts rings most costs) w runs ran) (keeps.cut w lt).each);
        })
        keeps.late keeps.larger

    seats_none : All (λ s. s.tally.refused ≡ 0) seats
    seats_none k d lt =
        let t = tied.seats_tie k d lt in
        let own = fewer (get_or seats k d).worker keeps.history in
        let counted : (get_or seats k d).tally.refused ≡ count_by (is_refusal_of (get_or seats k d).worker) keeps.history = ap (λ (t : Tally). t.refused) t.counted in
        let all : count_by is_refusal_entry keeps.history ≡ 0 = none in
        omega arith

    tallies_none : RefusesNone ended
    tallies_none = subst (All (λ (t : Tally). t.refused ≡ 0)) (sym ends.tallies_are) (All-map (λ (t : Tally). t.refused ≡ 0) (λ (s : WorkerSeat). s.tally) seats seats_none)

  -- ---- all rings

  all_rings : (ring : ℕ) (os : List (Opened S)) (es : List (Ended S)) (rows : List (List WorkerSeat)) → ring + length es ≡ rings → RingsEnd position takes os es rows → RingsKeepUp ring runs most behind es
      → All RefusesNone es × (refused_by_all rows ≡ 0)
  all_rings ring [] [] [] long ends keep = (All-nil RefusesNone, refl)
  all_rings ring (o ∷ os) (e ∷ es) (seats ∷ rows) long ends keep =
      let inside : ring < rings = omega arith in
      let rest = all_rings (ring + 1) os es rows (omega arith) ends.1 keep.1 in
      let none : refused_in seats ≡ 0 = none_in seats (seats_none ring inside o e seats ends.0 keep.0) in
      let others : refused_by_all rows ≡ 0 = rest.1 in
      let more : refused_by_all (seats ∷ rows) ≡ refused_in seats + refused_by_all rows = sum_by-cons refused_in seats rows in
      (All-cons RefusesNone e es (tallies_none ring inside o e seats ends.0 keep.0) rest.0, omega arith)
  all_rings ring [] (e ∷ es) rows long ends keep = absurd ends
  all_rings ring [] [] (seats ∷ rows) long ends keep = absurd ends
  all_rings ring (o ∷ os) [] rows long ends keep = absurd ends
  all_rings ring (o ∷ os) (e ∷ es) [] long ends keep = absurd ends

-- ---- what calls request

asked_in : (calls : List Done) → call_total asks calls ≡ call_total makes calls + call_total fails calls
asked_in [] = refl
asked_in (call ∷ calls) = let rest : call_total asks calls ≡ call_total makes calls + call_total fails calls = asked_in calls in omega arith

asked_in_all : (runs : List JobRun) → times_in asks runs ≡ times_in makes runs + times_in fails runs
asked_in_all runs =
    sum_by-add (λ (run : JobRun). call_total makes (notes_of run.calls)) (λ (run : JobRun). call_total fails (notes_of run.calls)) (λ (run : JobRun). call_total asks (notes_of run.calls)) (λ run. asked_in (notes_of run.calls)) runs

pub no_job_refused : {S : Type 0} (position : S → ℕ) (takes : S → SinkItem → S → Type 0) → NoJobIsRefused position takes
no_job_refused position takes opened jobs report is costs most behind each keep =
    let rings_count : ℕ = length report.rings.items in
    let ran : All (RunCosts rings_count most costs) is.runs =
    jobs_all (λ job. CostsAtMost rings_count most job (costs job)) IsRun is.runs (subst (All (λ job. CostsAtMost rings_count most job (costs job))) (sym is.jobs_are) each) is.runs_match in
    let rings = all_rings position takes is.runs costs rings_count most behind ran 0 opened report.rings.items is.seats (omega arith) is.rings_end keep in
    let none : refused_by_all is.seats ≡ 0 = rings.1 in
    let failed : refused_by_all is.seats + report.unlogged ≡ refused_by_all (seat_rows opened) + times_in fails is.runs = is.failures_add_up in
    let asked : times_in asks is.runs ≡ times_in makes is.runs + times_in fails is.runs = asked_in_all is.runs in
    record { refused = rings.0; made = omega arith }
