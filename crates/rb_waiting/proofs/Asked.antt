-- What the runs of a turn request from a ring: at most what the turn's contexts cost.
use Rattle.std.proofs.Common.{◌≡◌, ℕ, zero, suc, ◌+◌, ◌*◌, ◌<◌, ◌≤◌, List, [], ◌∷◌, ◌++◌, length, get_or, map, refl, sym, ap, ◌∙◌, subst, append-nil, append_assoc, arith, take, Option, None, Some}
use Rattle.std.specs.Prelude.{slice_get}
use Rattle.std.specs.List.{sum_by}
use Rattle.std.proofs.lemmas.List.{take_more}
use Rattle.std.proofs.lemmas.List.FromFn.{sum_by-map-range_with_len_more}
use Rattle.std.proofs.lemmas.List.Sums.{sum_by-append, sum_by-cons, sum_by_push}
use Rattle.std.proofs.lemmas.Option.{slice_get-get_or}
use Rattle.std.proofs.Math.Seq.{take-length}
use Rattle.std.proofs.Math.Nat.{mul-le-mul_right}
use Rattle.rb_history.specs.Span.{span}
use Rattle.rb_verifier.specs.Subject.{Subject}
use Rattle.rb_cost.specs.declared.cost.Cost.{Cost}
use Rattle.rb_cost.specs.Cost.{IsCost}
use Rattle.rb_cost.specs.Runs.{ring_cost_at}
use Rattle.rb_run_cost.specs.CallCosts.{IsVerified}
use Rattle.rb_ledger.specs.Seats.{WorkerSeat}
use Rattle.rb_run_cost.specs.JobRequests.{Request, requests_of}
use Rattle.rb_run_cost.specs.JobCosts.{requested_bytes}
use Rattle.rb_run_cost.proofs.Asking.{jobs_ask}
use Rattle.rb_stream_worker.specs.Tasks.{StreamTask, TaskRun, RunsTasks, tasks_of, tasks_over}
use Rattle.rb_stream.proofs.Counted.{element_of}
use Rattle.rb_stream.proofs.TaskRuns.{answer_of, task_at}
use Rattle.rb_waiting.specs.Plans.{bytes_asked}

-- ---- what contexts cost

abbrev pub bytes_in : ℕ → Option Cost → ℕ
bytes_in ring None = 0
bytes_in ring (Some cost) = (ring_cost_at cost ring).bytes

-- what the program of a task can request from a ring
abbrev pub task_bytes : List Cost → ℕ → StreamTask → ℕ
task_bytes costs ring task = bytes_in ring (slice_get costs task.program)

-- a prefix of the programs over one context
over_first : (costs : List Cost) (ring : ℕ) (context : List ℕ) (k : ℕ) → k ≤ length costs → sum_by (task_bytes costs ring) (tasks_over k context) ≡ bytes_asked (take k costs) ring
over_first costs ring context zero le = refl
over_first costs ring context (suc k) le =
    let task : ℕ → StreamTask = λ p. record { program = p; context = context } in
    let bytes : Cost → ℕ = λ c. (ring_cost_at c ring).bytes in
    let below : k < length costs = omega (arith, le) in
    let d = element_of costs k below in
    let rest = over_first costs ring context k (omega (arith, le)) in
    let more = sum_by-map-range_with_len_more (task_bytes costs ring) task 0 k k (omega arith) in
    let split : sum_by bytes (take (k + 1) costs) ≡ sum_by bytes (take k costs) + bytes (get_or costs k d) = ap (sum_by bytes) (take_more costs k d below) ∙ sum_by_push bytes (take k costs) (get_or costs k d) in
    let here : task_bytes costs ring (task k) ≡ bytes (get_or costs k d) = ap (bytes_in ring) (slice_get-get_or costs k d below) in
    let one : suc k ≡ k + 1 = omega arith in
    let both : sum_by (task_bytes costs ring) (tasks_over (k + 1) context) ≡ sum_by bytes (take (k + 1) costs) = omega (arith, rest, more, split, here) in
    ap (λ n. sum_by (task_bytes costs ring) (tasks_over n context)) one ∙ (both ∙ ap (λ n. sum_by bytes (take n costs)) (sym one))

-- all programs over each of the contexts
over_all : (costs : List Cost) (ring : ℕ) (contexts : List (List ℕ)) → sum_by (task_bytes costs ring) (tasks_of (length costs) contexts) ≡ length contexts * bytes_asked costs ring
over_all costs ring [] = omega arith
over_all costs ring (context ∷ contexts) =
    let n = length costs in
    let here : sum_by (task_bytes costs ring) (tasks_over n context) ≡ bytes_asked costs ring = over_first costs ring context n (omega arith) ∙ ap (λ l. bytes_asked l ring) (take-length costs) in
    let rest = over_all costs ring contexts in
    let both = sum_by-append (task_bytes costs ring) (tasks_over n context) (tasks_of n contexts) in
    let more : suc (length contexts) * bytes_asked costs ring ≡ length contexts * bytes_asked costs ring + bytes_asked costs ring = omega arith in
    omega (arith, here, rest, both, more)

-- a prefix of the tasks over at most as many contexts as a turn has
pub turn_bytes : (costs : List Cost) (ring n : ℕ) (tasks not_run : List StreamTask) (contexts : List (List ℕ)) (programs : ℕ) → programs ≡ length costs → tasks ++ not_run ≡ tasks_of programs contexts → length contexts ≤ n
    → sum_by (task_bytes costs ring) tasks ≤ n * bytes_asked costs ring
turn_bytes costs ring n tasks not_run contexts programs many are few =
    let all = ap (sum_by (task_bytes costs ring)) (are ∙ ap (λ m. tasks_of m contexts) many) in
    let parts = sum_by-append (task_bytes costs ring) tasks not_run in
    let cost = over_all costs ring contexts in
    let few_bytes = mul-le-mul_right (bytes_asked costs ring) few in
    omega (arith, all, parts, cost, few_bytes)

-- ---- what runs request

-- The program with a number is verified, uses the ring, and has its cost among these.
pub record HasCost (ring : ℕ) (programs : List Subject) (costs : List Cost) (p : ℕ) (program : Subject) : Type 0 where
  pub cost : Cost
  pub cost_at : slice_get costs p ≡ Some cost
  pub is : IsCost program cost
  pub verified : IsVerified program
  pub knows : ring < program.rings

-- At a ring, the runs led from one state of a worker's seat to another. Their requests there have at most as many bytes
-- as their tasks can request.
pub record AskWithin (ring most : ℕ) (before : WorkerSeat) (new : List WorkerSeat) : Type 0 where
  pub after : WorkerSeat
  pub left : List Request
  pub is_there : slice_get new ring ≡ Some after
  pub same_worker : after.worker ≡ before.worker
  pub requests : requests_of before.worker after.seen.history ≡ requests_of before.worker before.seen.history ++ left
  pub within : requested_bytes left ≤ most

module _ (ring w : ℕ) (programs : List Subject) (costs : List Cost) (has_cost : (p : ℕ) (program : Subject) → slice_get programs p ≡ Some program → HasCost ring programs costs p program) where
  pub runs_ask : (runs : List TaskRun) (old new : List WorkerSeat) (before : WorkerSeat) → RunsTasks w programs runs old new → slice_get old ring ≡ Some before
      → AskWithin ring (sum_by (task_bytes costs ring) (map (λ run. run.task) runs)) before new
  runs_ask [] old new before same at = record {
    after = before;
    left = [];
    is_there = ap (λ (l : List WorkerSeat). slice_get l ring) same ∙ at;
    same_worker = refl;
    requests = sym (append-nil (requests_of before.worker before.seen.history));
    within = omega arith;
  }
  runs_ask (run ∷ runs) old new before turn at =
      let one = turn.1 in
      let c = has_cost run.task.program one.program one.found in
      let first = jobs_ask (task_at w one.program run) (answer_of run) old turn.0 c.cost ring before one.ran c.verified c.is c.knows at in
      let mid : WorkerSeat = first.after in
      let rest = runs_ask runs turn.0 new mid turn.2 first.is_there in
      let is_worker : mid.worker ≡ before.worker = first.adds.same_worker in
      let later : requests_of before.worker rest.after.seen.history ≡ requests_of before.worker mid.seen.history ++ rest.left =
      subst (λ v. requests_of v rest.after.seen.history ≡ requests_of v mid.seen.history ++ rest.left) is_worker rest.requests
      in
      let own : task_bytes costs ring run.task ≡ (ring_cost_at c.cost ring).bytes = ap (bytes_in ring) c.cost_at in
      let sum = sum_by-cons (task_bytes costs ring) run.task (map (λ (r : TaskRun). r.task) runs) in
      let joined = sum_by-append (λ (q : Request). span q.len) first.left rest.left in
      let few = first.within in
      let others = rest.within in
      record {
        after = rest.after;
        left = first.left ++ rest.left;
        is_there = rest.is_there;
        same_worker = rest.same_worker ∙ is_worker;
        requests = later ∙ (ap (λ l. l ++ rest.left) first.adds.requests ∙ append_assoc (requests_of before.worker before.seen.history) first.left rest.left);
        within = omega (arith, own, sum, joined, few, others);
      }
