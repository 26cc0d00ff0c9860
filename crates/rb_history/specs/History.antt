-- What a whole history determines: sums and filters over all its entries.
use Rattle.std.specs.Prelude.{ℕ, ◌+◌, ◌==◌, Bool, true, false, List, Option, Some, None, if◌then◌else◌}
use Rattle.std.specs.List.{list_any, sum_by, count_by, filter_map}
use Rattle.rb_history.specs.declared.entries.Entry.{Entry}
use Rattle.rb_history.specs.declared.entries.Entry.TheVariants.{Res, Sub, Dis, Take}
use Rattle.rb_history.specs.Span.{span}

-- ---- tests of an entry

abbrev pub is_grant_at : ℕ → Entry → Bool
is_grant_at p (Res w k n q) = q == p
is_grant_at p _ = false

abbrev pub is_grant_of : ℕ → Entry → Bool
is_grant_of v (Res w k n q) = w == v
is_grant_of v _ = false

abbrev pub is_submit : ℕ → Entry → Bool
is_submit p (Sub q) = q == p
is_submit p _ = false

abbrev pub is_discard : ℕ → Entry → Bool
is_discard p (Dis q) = q == p
is_discard p _ = false

abbrev pub is_take : ℕ → Entry → Bool
is_take p (Take q) = q == p
is_take p _ = false

-- ---- the record at a position, in a history

abbrev pub is_granted_at : List Entry → ℕ → Bool
is_granted_at h p = list_any (is_grant_at p) h

abbrev pub is_submitted_at : List Entry → ℕ → Bool
is_submitted_at h p = list_any (is_submit p) h

abbrev pub is_discarded_at : List Entry → ℕ → Bool
is_discarded_at h p = list_any (is_discard p) h

abbrev pub is_taken_at : List Entry → ℕ → Bool
is_taken_at h p = list_any (is_take p) h

pub data Status : Type 0 where
  Busy : Status
  Waiting : Status
  Consumed : Status
  Discarded : Status

-- a record's status, by whether it was submitted, discarded and taken
abbrev pub status_by : Bool → Bool → Bool → Status
status_by s true t = Discarded
status_by true false true = Consumed
status_by true false false = Waiting
status_by false false t = Busy

-- A record is busy until it is submitted or discarded. A submitted record waits until it is taken, and is then
-- consumed. A discarded one remains discarded (ringbuf.rst: a reserved record is committed or discarded).
abbrev pub status_of : List Entry → ℕ → Status
status_of h p = status_by (is_submitted_at h p) (is_discarded_at h p) (is_taken_at h p)

-- ---- the two positions (ringbuf.rst: the producer and the consumer counter)

abbrev pub granted_span : Entry → ℕ
granted_span (Res w k n p) = span n
granted_span _ = 0

-- the producer position: the start plus the spans of all granted records
abbrev pub producer_of : ℕ → List Entry → ℕ
producer_of start h = start + sum_by granted_span h

abbrev pub granted_span_at : ℕ → Entry → ℕ
granted_span_at p (Res w k n q) = if q == p then span n else 0
granted_span_at p _ = 0

-- the span of the record at p, by the entry that granted it
abbrev pub span_of_record : List Entry → ℕ → ℕ
span_of_record h p = sum_by (granted_span_at p) h

abbrev pub taken_span : List Entry → Entry → ℕ
taken_span h (Take p) = span_of_record h p
taken_span h _ = 0

-- the consumer position: the start plus the spans of the records that the Take entries name
abbrev pub consumer_of : ℕ → List Entry → ℕ
consumer_of start h = start + sum_by (taken_span h) h

-- the number of records that were granted to a worker
abbrev pub grants : ℕ → List Entry → ℕ
grants w h = count_by (is_grant_of w) h

-- ---- the records that were not taken

-- a record, as a ring's state shows it
pub record Shown : Type 0 where
  pub pos : ℕ
  pub len : ℕ
  pub worker : ℕ
  pub serial : ℕ
  pub status : Status

abbrev pub untaken : List Entry → Entry → Option Shown
untaken h (Res w k n p) =
    if is_taken_at h p then None else Some (record { pos = p; len = n; worker = w; serial = k; status = status_of h p })
untaken h _ = None

-- the records of a history that were not taken, in order
abbrev pub records : List Entry → List Shown
records h = filter_map (untaken h) h
