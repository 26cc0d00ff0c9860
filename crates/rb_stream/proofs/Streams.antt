-- The result of a whole stream.
use Rattle.std.proofs.Common.{◌≡◌, ℕ, zero, suc, ◌+◌, ◌<◌, ◌≤◌, ◌==◌, ◌||◌, Bool, true, false, List, [], ◌∷◌, ◌++◌, length, get_or, map, refl, ap, sym, ◌∙◌, subst, append-nil, ⊎_elim, arith}
use Rattle.std.proofs.lemmas.Bool.{true≢false}
use Rattle.std.proofs.lemmas.Bool.Decides.{leb_tells, eqb_tells}
use Rattle.std.proofs.lemmas.List.Elements.{All-cons, All-nil}
use Rattle.std.proofs.lemmas.Option.{slice_get-get_or}
use Rattle.std.specs.Prelude.{Vec, nat_lt, not}
use Rattle.std.specs.List.{All, AllZip}
use Rattle.rb_verifier.specs.Subject.{Subject}
use Rattle.rb_interp.specs.AnsweredCalls.{notes_of}
use Rattle.rb_ledger.specs.Seats.{Shared, WorkerSeat, IsSameSeat}
use Rattle.rb_ledger.proofs.Beginnings.{begins_with_all}
use Rattle.rb_jobs.specs.SeatLaws.{SeatBegins}
use Rattle.rb_jobs.specs.SeatHelpers.{fails, call_total, refused_in}
use Rattle.rb_source.specs.declared.source.SourceFault.{SourceFault}
use Rattle.rb_dealing.specs.Dealt.{dealt_to, saturated}
use Rattle.rb_dealing.specs.Streams.{IsEndOf}
use Rattle.rb_dealing.specs.declared.reader.Dealt.{Dealt}
use Rattle.rb_dealing.specs.declared.reader.DealEnd.{DealEnd}
use Rattle.rb_workers.specs.declared.opened.Opened.{Opened}
use Rattle.rb_workers.specs.declared.workers.Worker.{Worker}
use Rattle.rb_workers.specs.declared.consumer_task.ConsumerTask.{ConsumerTask}
use Rattle.rb_workers.specs.inner.ConsumerTasks.{Consumed, IsConsumed, IsConsumerTaskOf}
use Rattle.rb_workers.specs.inner.RingEnds.{Closes}
use Rattle.rb_workers.specs.Opened.{AreOpened, IsOpened, workers_of}
use Rattle.rb_workers.specs.Reports.{refused_by_all}
use Rattle.rb_workers.specs.SeatRows.{seat_rows, worker_column}
use Rattle.rb_workers.specs.Sink.{SinkItem}
use Rattle.rb_workers.proofs.Reported.{rings_end}
use Rattle.rb_workers.proofs.Same.{opened_long}
use Rattle.rb_workers.proofs.SinkItems.{nothing_given}
use Rattle.rb_workers.proofs.Sums.{sum_to_add, sum_to_same, sum_of_columns}
use Rattle.rb_stream_worker.specs.Tasks.{TaskRun, tasks_of}
use Rattle.rb_stream_worker.specs.Turns.{RunsAs}
use Rattle.rb_stream_worker.specs.inner.RunLaws.{none_run}
use Rattle.rb_stream_worker.specs.ContextRuns.{IsBegun, IsNewCounts, IsProgramFor}
use Rattle.rb_stream_worker.specs.declared.result_counts.ResultCounts.{ResultCounts}
use Rattle.rb_stream_worker.specs.declared.stream_counts.StreamCounts.{StreamCounts}
use Rattle.rb_stream_worker.specs.declared.when_full.WhenFull.{WhenFull}
use Rattle.rb_stream.specs.Refusals.{has_other_length, has_unknown_ring}
use Rattle.rb_stream.specs.Returned.{AreReturned}
use Rattle.rb_stream.specs.Streamed.{CountsEach, EndsSource, IsStoppedAs, IsStreamedAs, RunsFirst, of_all, times_in, unlogged_in}
use Rattle.rb_stream.specs.inner.Runs.{StreamRan, reported_as, seats_in, seats_of}
use Rattle.rb_stream.specs.declared.report.StreamEnd.{StreamEnd}
use Rattle.rb_stream.specs.declared.report.StreamEnd.TheVariants.{Over, Failed}
use Rattle.rb_stream.specs.declared.report.StreamReport.{StreamReport}
use Rattle.rb_stream.specs.declared.report.StreamStop.{StreamStop}
use Rattle.rb_stream.proofs.OfAll.{sum_of_all}
use Rattle.rb_stream.proofs.Returned.{returned_itself, rows_keep, rows_returned}
use Rattle.rb_stream.proofs.TaskRuns.{tasks_begin, tasks_fail, tasks_keep_seats, tasks_rise}

-- ---- seats

pub seats_of_at : (workers : List Worker) (k : ℕ) (d : Worker) → k < length workers → seats_of workers k ≡ (get_or workers k d).seats.items
seats_of_at workers k d below = ap seats_in (slice_get-get_or workers k d below)

-- the same stream, for equal seats
pub stream_at : {I : Type 0} (gives : I → List (List ℕ) → I → Type 0) (n m : ℕ) (programs : List Subject) (full : WhenFull) (bound : ℕ) (source later : I) (old new before after : ℕ → List WorkerSeat) (dealt : Dealt) (total : StreamCounts) → n ≡ m
    → ((k : ℕ) → k < m → old k ≡ before k) → ((k : ℕ) → k < m → new k ≡ after k) → StreamRan gives n programs full bound source later old new dealt total → StreamRan gives m programs full bound source later before after dealt total
stream_at {I} gives n m programs full bound source later old new before after dealt total e olds news ran =
    let here : StreamRan gives m programs full bound source later old new dealt total = subst (λ (x : ℕ). StreamRan gives x programs full bound source later old new dealt total) e ran in
    record {
      pieces = here.pieces;
      runs = here.runs;
      done = here.done;
      left = here.left;
      gave = here.gave;
      known = here.known;
      dealt_are = here.dealt_are;
      ran_first = λ k below.
          subst (λ (s : List WorkerSeat). RunsFirst full k programs (here.runs k) (here.done k) (here.left k) s (after k)) (olds k below)
          (subst (λ (s : List WorkerSeat). RunsFirst full k programs (here.runs k) (here.done k) (here.left k) (old k) s) (news k below) (here.ran_first k below));
      none_left = here.none_left;
      contexts_are = here.contexts_are;
      dropped_are = here.dropped_are;
      ran_are = here.ran_are;
      left_is = here.left_is;
      results_are = here.results_are;
      unlogged_is = here.unlogged_is;
    }

-- the seats of the rings, a column for each worker
abbrev pub columns : {S : Type 0} → List (Opened S) → ℕ → List WorkerSeat
columns opened k = worker_column k (seat_rows opened)

-- what a stream returned may be run again
pub returned_of : {S I : Type 0} (position : S → ℕ) (takes : S → SinkItem → S → Type 0) (gives : I → List (List ℕ) → I → Type 0) (opened back : List (Opened S)) (programs : List Subject) (full : WhenFull) (bound : ℕ) (source later : I) (dealt : Dealt) (total : StreamCounts)
    → AreOpened position opened → map (λ o. o.ring) back ≡ map (λ o. o.ring) opened → AllZip (IsConsumed position takes) opened back → All (λ o. length o.seats.items ≡ workers_of opened) back
    → StreamRan gives (workers_of opened) programs full bound source later (columns opened) (columns back) dealt total → AreReturned position takes opened back
returned_of position takes gives opened back programs full bound source later dealt total all rings consumed long ran =
    rows_returned position takes opened back all rings consumed
    (rows_keep IsSameSeat position takes opened back all consumed long (λ k below. tasks_keep_seats full k programs (ran.runs k) (columns opened k) (columns back k) (ran.ran_first k below).in_turn))
    (rows_keep SeatBegins position takes opened back all consumed long (λ k below. tasks_begin full k programs (ran.runs k) (columns opened k) (columns back k) (ran.ran_first k below).in_turn))

-- ---- a stream that reached its end

of_all_same : {A : Type 0} (n : ℕ) (xs ys : ℕ → List A) → ((k : ℕ) → k < n → xs k ≡ ys k) → of_all n xs ≡ of_all n ys
of_all_same zero xs ys same = refl
of_all_same (suc n) xs ys same = ap (λ l. l ++ xs n) (of_all_same n xs ys (λ k below. same k (omega (arith, below)))) ∙ ap (λ l. of_all n ys ++ l) (same n (omega arith))

-- a worker that left nothing ran everything that was dealt to it
none_begun : (programs : ℕ) (left : List (List ℕ)) (begun : List _) → left ≡ [] → IsBegun programs begun left → begun ≡ []
none_begun programs left begun e is = subst (IsBegun programs begun) e is

-- each failure is refused or unlogged
failures : (n : ℕ) (programs : List Subject) (runs : ℕ → List TaskRun) (olds news : List (List WorkerSeat)) → All (λ row. length row ≡ n) olds → All (λ row. length row ≡ n) news
    → ((k : ℕ) → k < n → refused_in (worker_column k news) + unlogged_in (runs k) ≡ refused_in (worker_column k olds) + times_in fails (runs k))
    → refused_by_all news + unlogged_in (of_all n runs) ≡ refused_by_all olds + times_in fails (of_all n runs)
failures n programs runs olds news old_rows new_rows each =
    let before = sum_of_columns (λ s. s.tally.refused) n olds old_rows in
    let now = sum_of_columns (λ s. s.tally.refused) n news new_rows in
    let unlogged = sum_of_all (λ (run : TaskRun). run.unlogged) n runs in
    let failed = sum_of_all (λ (run : TaskRun). call_total fails (notes_of run.calls)) n runs in
    let same = sum_to_same n (λ k. refused_in (worker_column k news) + unlogged_in (runs k)) (λ k. refused_in (worker_column k olds) + times_in fails (runs k)) each in
    let left = sum_to_add n (λ k. refused_in (worker_column k news)) (λ k. unlogged_in (runs k)) in
    let right = sum_to_add n (λ k. refused_in (worker_column k olds)) (λ k. times_in fails (runs k)) in
    omega (arith, before, now, unlogged, failed, same, left, right)

pub streamed_of : {S I : Type 0} (position : S → ℕ) (takes : S → SinkItem → S → Type 0) (gives : I → List (List ℕ) → I → Type 0) (opened back : List (Opened S)) (programs : List Subject) (full : WhenFull) (bound : ℕ) (source later : I) (dealt : Dealt) (total : StreamCounts) (report : StreamReport S)
    → AreOpened position opened → AreReturned position takes opened back → StreamRan gives (workers_of opened) programs full bound source later (columns opened) (columns back) dealt total → total.stopped ≡ false → AllZip Closes back report.rings.items
    → report.contexts ≡ dealt.contexts → report.dropped ≡ dealt.dropped → report.ran ≡ total.contexts → report.results ≡ total.results → report.unlogged ≡ total.unlogged
    → IsStreamedAs full position takes gives opened programs bound source later report
streamed_of {S} {I} position takes gives opened back programs full bound source later dealt total report all returned ran goes_on closes contexts dropped done results unlogged =
    let count = workers_of opened in
    let again : All (IsOpened position count) back = subst (λ n. All (IsOpened position n) back) returned.workers_same returned.runs_again in
    let none = ran.none_left goes_on in
    let whole : (k : ℕ) → k < count → ran.done k ≡ dealt_to k ran.pieces =
    λ k below. sym (ran.dealt_are k below ∙ (ap (λ l. ran.done k ++ l) (none k below) ∙ append-nil (ran.done k)))
    in
    record {
      pieces = ran.pieces;
      runs = ran.runs;
      seats = seat_rows back;
      gave = ran.gave;
      known = ran.known;
      tasks_are = λ k below.
          let first = ran.ran_first k below in
          first.tasks_are ∙ (ap (λ l. tasks_of (length programs) (ran.done k) ++ l) (none_begun (length programs) (ran.left k) first.begun (none k below) first.begun_of)
          ∙ (append-nil (tasks_of (length programs) (ran.done k)) ∙ ap (tasks_of (length programs)) (whole k below)));
      in_turn = λ k below. (ran.ran_first k below).in_turn;
      rings_end = rings_end position takes opened back report.rings.items count again returned.rings_same returned.seats_same returned.consumers_same returned.consumers_begin returned.seats_begin returned.sinks_given closes;
      contexts_are = contexts ∙ ran.contexts_are;
      dropped_are = dropped ∙ ran.dropped_are;
      ran_are = done ∙ (ran.ran_are ∙ ap (λ l. saturated (length l)) (of_all_same count ran.done (λ k. dealt_to k ran.pieces) whole));
      results_are = subst (λ (r : List ResultCounts). CountsEach (length programs) bound (of_all count ran.runs) r) (sym (ap (λ (v : Vec ResultCounts _). v.items) results)) ran.results_are;
      unlogged_is = unlogged ∙ ran.unlogged_is;
      numbers_rose = λ k below. tasks_rise full k programs (ran.runs k) (columns opened k) (columns back k) (ran.ran_first k below).in_turn;
      failures_add_up = failures count programs ran.runs (seat_rows opened) (seat_rows back) (opened_long position count opened all) (opened_long position count back again)
          (λ k below. tasks_fail full k programs (ran.runs k) (columns opened k) (columns back k) (ran.ran_first k below).in_turn);
    }

-- the reader's end means what the stream's end means
pub ends_source : {I : Type 0} (over : I → Type 0) (fails : I → SourceFault → Type 0) (source : I) (end : StreamEnd) (dealt : DealEnd) → dealt ≡ reported_as end → IsEndOf over fails source dealt → EndsSource over fails source end
ends_source over fails source Over dealt e is = subst (IsEndOf over fails source) e is
ends_source over fails source (Failed fault) dealt e is = subst (IsEndOf over fails source) e is

-- ---- a stream that stopped

pub stopped_of : {S I : Type 0} (position : S → ℕ) (takes : S → SinkItem → S → Type 0) (gives : I → List (List ℕ) → I → Type 0) (opened : List (Opened S)) (programs : List Subject) (full : WhenFull) (bound : ℕ) (source later : I) (dealt : Dealt) (total : StreamCounts) (stop : StreamStop S)
    → AreReturned position takes opened stop.opened.items → StreamRan gives (workers_of opened) programs full bound source later (columns opened) (columns stop.opened.items) dealt total
    → stop.contexts ≡ dealt.contexts → stop.dropped ≡ dealt.dropped → stop.left ≡ total.left → IsStoppedAs full position takes gives opened programs source later stop
stopped_of position takes gives opened programs full bound source later dealt total stop returned ran contexts dropped left =
    record {
      pieces = ran.pieces;
      runs = ran.runs;
      done = ran.done;
      left = ran.left;
      gave = ran.gave;
      known = ran.known;
      dealt_are = ran.dealt_are;
      ran_first = ran.ran_first;
      returned = returned;
      contexts_are = contexts ∙ ran.contexts_are;
      dropped_are = dropped ∙ ran.dropped_are;
      left_is = left ∙ ran.left_is;
    }

none_of_all : {A : Type 0} (n : ℕ) → of_all {A = A} n (λ k. []) ≡ []
none_of_all zero = refl
none_of_all {A} (suc n) = append-nil (of_all {A = A} n (λ k. [])) ∙ none_of_all n

-- nothing was read
pub stopped_before : {S I : Type 0} (position : S → ℕ) (takes : S → SinkItem → S → Type 0) (gives : I → List (List ℕ) → I → Type 0) (opened : List (Opened S)) (programs : List Subject) (full : WhenFull) (source : I) (stop : StreamStop S) → AreOpened position opened → gives source [] source
    → stop.contexts ≡ 0 → stop.dropped ≡ 0 → stop.left ≡ 0 → stop.opened.items ≡ opened → IsStoppedAs full position takes gives opened programs source source stop
stopped_before {S} position takes gives opened programs full source stop all nothing contexts dropped left same =
    record {
      pieces = [];
      runs = λ k. [];
      done = λ k. [];
      left = λ k. [];
      gave = nothing;
      known = λ k d below. absurd (omega arith);
      dealt_are = λ k below. refl;
      ran_first = λ k below. record { begun = []; begun_of = refl; tasks_are = refl; in_turn = subst (λ (l : List (Opened S)). RunsAs full k programs [] (columns opened k) (columns l k)) (sym same) (none_run full k programs (columns opened k)) };
      returned = subst (λ (l : List (Opened S)). AreReturned position takes opened l) (sym same) (returned_itself position takes opened all);
      contexts_are = contexts;
      dropped_are = dropped;
      left_is = left ∙ sym (ap (λ (l : List (List ℕ)). saturated (length l)) (none_of_all (workers_of opened)));
    }

-- nothing ran
pub nothing_ran : {I : Type 0} (gives : I → List (List ℕ) → I → Type 0) (n : ℕ) (programs : List Subject) (full : WhenFull) (bound : ℕ) (source : I) (seats : ℕ → List WorkerSeat) (dealt : Dealt) (total : StreamCounts) → gives source [] source
    → dealt.contexts ≡ 0 → dealt.dropped ≡ 0 → IsNewCounts (length programs) bound total → StreamRan gives n programs full bound source source seats seats dealt total
nothing_ran gives n programs full bound source seats dealt total nothing contexts dropped none_counted =
    let no_runs : of_all {A = TaskRun} n (λ k. []) ≡ [] = none_of_all n in
    let none : of_all {A = List ℕ} n (λ k. []) ≡ [] = none_of_all n in
    record {
      pieces = [];
      runs = λ k. [];
      done = λ k. [];
      left = λ k. [];
      gave = nothing;
      known = λ k d below. absurd (omega arith);
      dealt_are = λ k below. refl;
      ran_first = λ k below. record { begun = []; begun_of = refl; tasks_are = refl; in_turn = none_run full k programs (seats k) };
      none_left = λ e k below. refl;
      contexts_are = contexts;
      dropped_are = dropped;
      ran_are = none_counted.contexts_are ∙ sym (ap (λ (l : List (List ℕ)). saturated (length l)) none);
      left_is = none_counted.left_is ∙ sym (ap (λ (l : List (List ℕ)). saturated (length l)) none);
      results_are = subst (λ (l : List TaskRun). CountsEach (length programs) bound l total.results.items) (sym no_runs) (record {
        as_many = none_counted.as_many;
        counts_are = λ p d inside. let z = none_counted.results_are p d inside in record { bound_is = z.bound_is; below_are = z.below_are; other_is = z.other_is };
      });
      unlogged_is = none_counted.unlogged_is ∙ sym (ap (λ (l : List TaskRun). saturated (unlogged_in l)) no_runs);
    }

-- consumers that took nothing
pub took_nothing : {S : Type 0} (position : S → ℕ) (takes : S → SinkItem → S → Type 0) (rings : List Shared) (tasks : List (ConsumerTask S)) → AllZip (IsConsumerTaskOf position) rings tasks → AllZip (Consumed position takes) tasks tasks
took_nothing position takes [] [] are = tt
took_nothing position takes [] (t ∷ ts) are = absurd are
took_nothing position takes (r ∷ rs) [] are = tt
took_nothing position takes (r ∷ rs) (t ∷ ts) are = (
  (record { tag_same = refl; ring_same = refl; room_same = refl; begins = begins_with_all t.consumer.seen }, are.0.2, refl, nothing_given takes t.consumer t.sink, are.0.3),
  took_nothing position takes rs ts are.1,
)

-- ---- programs

or_parts : (a b : Bool) → (a || b) ≡ false → (a ≡ false) × (b ≡ false)
or_parts true b e = absurd (true≢false e)
or_parts false b e = (refl, e)

within_known : (n r : ℕ) → nat_lt n r ≡ false → r ≤ n
within_known n r e = ⊎_elim (λ is. absurd (true≢false (sym is.0 ∙ e))) (λ above. omega (arith, above.1)) (leb_tells (suc n) r)

same_length : (a b : ℕ) → not (a == b) ≡ false → a ≡ b
same_length a b e = ⊎_elim (λ same. same.1) (λ other. absurd (true≢false (sym (ap not other.0) ∙ e))) (eqb_tells a b)

-- programs that are not refused fit
pub programs_fit : (rings ctx_len : ℕ) (programs : List Subject) → has_unknown_ring rings programs ≡ false → has_other_length ctx_len programs ≡ false → All (IsProgramFor rings ctx_len) programs
programs_fit rings ctx_len [] known same = All-nil (IsProgramFor rings ctx_len)
programs_fit rings ctx_len (p ∷ programs) known same =
    let first = or_parts (nat_lt rings p.rings) (has_unknown_ring rings programs) known in
    let second = or_parts (not (p.ctx_len == ctx_len)) (has_other_length ctx_len programs) same in
    All-cons (IsProgramFor rings ctx_len) p programs (within_known rings p.rings first.0, same_length p.ctx_len ctx_len second.0) (programs_fit rings ctx_len programs first.1 second.1)
