-- The worker of each record, and the counts of a history for one worker and for the consumer (own).
use Rattle.std.specs.Prelude.{ℕ, ◌==◌, ◌&&◌, Bool, false, List, [], ◌∷◌, ◌++◌, zero, suc, Option, Some, None, if◌then◌else◌}
use Rattle.std.specs.List.{list_any, count_by, filter_map}
use Rattle.rb_history.specs.declared.entries.Entry.{Entry}
use Rattle.rb_history.specs.declared.entries.Entry.TheVariants.{Res, Full, Sub, Dis, Take}
use Rattle.rb_history.specs.History.{grants, is_submitted_at, is_discarded_at}
use Rattle.rb_history.specs.declared.tally.Tally.{Tally}

-- ---- the worker of a record

abbrev pub is_grant_to : ℕ → ℕ → Entry → Bool
is_grant_to w p (Res v k n q) = (v == w) && (q == p)
is_grant_to w p _ = false

-- the record at p was granted to worker w
abbrev pub is_record_of : ℕ → List Entry → ℕ → Bool
is_record_of w h p = list_any (is_grant_to w p) h

-- ---- the counts of a worker

abbrev pub is_refusal_of : ℕ → Entry → Bool
is_refusal_of w (Full v n) = v == w
is_refusal_of w _ = false

-- the entry submits a record that h grants to the worker
abbrev pub is_submit_of : ℕ → List Entry → Entry → Bool
is_submit_of w h (Sub p) = is_record_of w h p
is_submit_of w h _ = false

-- the entry discards a record that h grants to the worker
abbrev pub is_discard_of : ℕ → List Entry → Entry → Bool
is_discard_of w h (Dis p) = is_record_of w h p
is_discard_of w h _ = false

-- a worker's entries in a history, counted by kind: its grants, its refusals, and the submits and discards of its
-- records
abbrev pub tally_of : ℕ → List Entry → Tally
tally_of w h = record {
  made = grants w h;
  refused = count_by (is_refusal_of w) h;
  submitted = count_by (is_submit_of w h) h;
  discarded = count_by (is_discard_of w h) h;
}

-- ---- the counts of the consumer

-- the entry takes a record whose position passes the test
abbrev pub is_take_where : (ℕ → Bool) → Entry → Bool
is_take_where test (Take p) = test p
is_take_where test _ = false

-- the number of submitted records that were taken
abbrev pub events_of : List Entry → ℕ
events_of h = count_by (is_take_where (is_submitted_at h)) h

-- the number of discarded records that were skipped
abbrev pub skips_of : List Entry → ℕ
skips_of h = count_by (is_take_where (is_discarded_at h)) h

-- ---- the order of a worker's reservations

abbrev pub serial_to : ℕ → Entry → Option ℕ
serial_to w (Res v k n p) = if v == w then Some k else None
serial_to w _ = None

-- the serials of the worker's records, in the order of the history
abbrev pub serials_of : ℕ → List Entry → List ℕ
serials_of w h = filter_map (serial_to w) h

-- 0 to n - 1, in order
abbrev pub numbers_below : ℕ → List ℕ
numbers_below zero = []
numbers_below (suc n) = numbers_below n ++ n ∷ []
