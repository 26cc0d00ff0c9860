-- When a ring refuses no reservation, by the number of jobs by which its consumer is late (own).
use Rattle.std.specs.Prelude.{◌≡◌, ℕ, ◌+◌, ◌-◌, ◌*◌, ◌<◌, ◌≤◌, ◌^◌, ◌==◌, ◌&&◌, not, nat_le, Bool, false, List, [], ◌∷◌, ◌++◌, length, if◌then◌else◌}
use Rattle.std.specs.List.{All, count_by, flat_map, list_any, sum_by}
use Rattle.rb_history.specs.declared.entries.Entry.{Entry}
use Rattle.rb_history.specs.declared.entries.Entry.TheVariants.{Res}
use Rattle.rb_history.specs.History.{is_taken_at, producer_of}
use Rattle.rb_history.specs.Counting.{is_refusal_entry}
use Rattle.rb_history.specs.Legal.{IsLegal}
use Rattle.rb_history.specs.RoomRule.{Setup}
use Rattle.rb_history.specs.WorkerCounts.{numbers_below}
use Rattle.rb_admission.specs.Admission.{asked_bytes}

-- The jobs of a worker cut the history into parts, one for each job in the order in which the worker ran them. In each
-- part the worker requests at most `most` bytes.
pub record JobsCut (most w : ℕ) (h : List Entry) (jobs : List (List Entry)) : Type 0 where
  pub whole : h ≡ flat_map (λ entries. entries) jobs
  pub each : All (λ entries. asked_bytes w entries ≤ most) jobs

-- the jobs whose parts lie within the first n entries: those that have ended by then
abbrev pub ended_by : ℕ → List (List Entry) → List (List Entry)
ended_by n [] = []
ended_by n (entries ∷ more) = if nat_le (length entries) n then entries ∷ ended_by (n - length entries) more else []

-- the entry grants the worker a record that is not taken in the history up to now
abbrev pub is_left : ℕ → List Entry → Entry → Bool
is_left w now (Res v k n p) = v == w && not (is_taken_at now p)
is_left w now e = false

-- the number of a worker's jobs that have ended by now and left a record that is not taken
abbrev pub late_jobs : ℕ → List Entry → List (List Entry) → ℕ
late_jobs w now jobs = count_by (λ entries. list_any (is_left w now) entries) (ended_by (length now) jobs)

-- at every moment of the history, the consumer is late by at most `behind` jobs of all workers together
abbrev pub IsLateByAtMost : Setup → List Entry → (ℕ → List (List Entry)) → ℕ → Type 0
IsLateByAtMost r h jobs behind =
    (now : List Entry) (e : Entry) (after : List Entry) → h ≡ now ++ e ∷ after → sum_by (λ w. late_jobs w now (jobs w)) (numbers_below r.workers) ≤ behind

-- A ring larger than what these jobs request together, one for each of its workers and `behind` further ones, refuses
-- no reservation as long as its consumer is late by at most `behind` jobs.
abbrev pub NoneIsRefusedOnTime : Type 0
NoneIsRefusedOnTime =
    (r : Setup) (most behind : ℕ) (h : List Entry) (jobs : ℕ → List (List Entry)) → IsLegal r h → producer_of r.start h + most ≤ 2 ^ 62
    → ((w : ℕ) → w < r.workers → JobsCut most w h (jobs w)) → IsLateByAtMost r h jobs behind → (behind + r.workers) * most < r.size
    → count_by is_refusal_entry h ≡ 0
