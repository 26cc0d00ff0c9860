-- The meaning of entries counted from an opening: the opening's positions, records and totals, combined with those of
-- the entries themselves. Each definition corresponds to one over a whole history in rb_history, of the same name
-- without `from` (own).
use Rattle.std.specs.Prelude.{ℕ, ◌≡◌, ◌+◌, ◌-◌, ◌<◌, ◌≤◌, ◌^◌, ◌==◌, ◌&&◌, ◌||◌, Bool, true, false, List, ◌∷◌, ◌++◌, Option, Some, None, if◌then◌else◌, map}
use Rattle.std.specs.List.{list_any, sum_by, count_by, filter_map}
use Rattle.rb_history.specs.declared.entries.Entry.{Entry}
use Rattle.rb_history.specs.declared.entries.Entry.TheVariants.{Res, Full, Sub, Dis, Take}
use Rattle.rb_history.specs.declared.answers.Counts.{Counts}
use Rattle.rb_history.specs.Span.{span}
use Rattle.rb_history.specs.History.{Shown, Status, status_by, is_granted_at, is_submitted_at, is_discarded_at, is_taken_at, producer_of, span_of_record, grants, records}
use Rattle.rb_history.specs.History.Status.{Waiting, Discarded}
use Rattle.rb_history.specs.Counting.{is_same}
use Rattle.rb_history.specs.declared.notices_and_queries.TheConstants.{AVAIL_DATA, RING_SIZE, CONS_POS, PROD_POS}
use Rattle.rb_history.specs.declared.tally.Tally.{Tally}
use Rattle.rb_history.specs.WorkerCounts.{is_record_of, is_refusal_of, is_take_where, numbers_below}
use Rattle.rb_chapter_ring.specs.Snapshot.{Snapshot, tally_at, counts_at}

-- ---- tests of a record of the opening

abbrev pub shows_at : ℕ → Shown → Bool
shows_at p s = s.pos == p

abbrev pub shows_waiting_at : ℕ → Shown → Bool
shows_waiting_at p s = (s.pos == p) && is_same Waiting s.status

abbrev pub shows_discarded_at : ℕ → Shown → Bool
shows_discarded_at p s = (s.pos == p) && is_same Discarded s.status

abbrev pub shows_worker_at : ℕ → ℕ → Shown → Bool
shows_worker_at w p s = (s.worker == w) && (s.pos == p)

abbrev pub shown_span_at : ℕ → Shown → ℕ
shown_span_at p s = if s.pos == p then span s.len else 0

-- ---- the record at a position

abbrev pub is_granted_from : Snapshot → List Entry → ℕ → Bool
is_granted_from o h p = list_any (shows_at p) o.records || is_granted_at h p

abbrev pub is_submitted_from : Snapshot → List Entry → ℕ → Bool
is_submitted_from o h p = list_any (shows_waiting_at p) o.records || is_submitted_at h p

abbrev pub is_discarded_from : Snapshot → List Entry → ℕ → Bool
is_discarded_from o h p = list_any (shows_discarded_at p) o.records || is_discarded_at h p

-- the status of a record that was not taken before the opening; any other position counts as busy
abbrev pub status_from : Snapshot → List Entry → ℕ → Status
status_from o h p = status_by (is_submitted_from o h p) (is_discarded_from o h p) (is_taken_at h p)

-- the record at p was granted to worker w
abbrev pub is_record_from : Snapshot → ℕ → List Entry → ℕ → Bool
is_record_from o w h p = list_any (shows_worker_at w p) o.records || is_record_of w h p

-- the span of the record at p
abbrev pub span_from : Snapshot → List Entry → ℕ → ℕ
span_from o h p = sum_by (shown_span_at p) o.records + span_of_record h p

-- ---- the two positions

abbrev pub producer_from : Snapshot → List Entry → ℕ
producer_from o h = producer_of o.producer h

abbrev pub taken_span_from : Snapshot → List Entry → Entry → ℕ
taken_span_from o h (Take p) = span_from o h p
taken_span_from o h _ = 0

abbrev pub consumer_from : Snapshot → List Entry → ℕ
consumer_from o h = o.consumer + sum_by (taken_span_from o h) h

-- ---- the records that were not taken

-- a record of the opening with its current status, unless an entry takes it
abbrev pub still_untaken : Snapshot → List Entry → Shown → Option Shown
still_untaken o h s = if is_taken_at h s.pos then None else Some (record s { status = status_from o h s.pos })

-- the opening's records that were not taken since, followed by those that the entries grant and do not take
abbrev pub records_from : Snapshot → List Entry → List Shown
records_from o h = filter_map (still_untaken o h) o.records ++ records h

-- ---- totals

-- the number of records that were granted to a worker
abbrev pub grants_from : Snapshot → ℕ → List Entry → ℕ
grants_from o w h = (tally_at o w).made + grants w h

-- the entry submits a record of the worker
abbrev pub is_own_submit_from : Snapshot → ℕ → List Entry → Entry → Bool
is_own_submit_from o w h (Sub p) = is_record_from o w h p
is_own_submit_from o w h _ = false

-- the entry discards a record of the worker
abbrev pub is_own_discard_from : Snapshot → ℕ → List Entry → Entry → Bool
is_own_discard_from o w h (Dis p) = is_record_from o w h p
is_own_discard_from o w h _ = false

-- a worker's four totals
abbrev pub tally_from : Snapshot → ℕ → List Entry → Tally
tally_from o w h = record {
  made = grants_from o w h;
  refused = (tally_at o w).refused + count_by (is_refusal_of w) h;
  submitted = (tally_at o w).submitted + count_by (is_own_submit_from o w h) h;
  discarded = (tally_at o w).discarded + count_by (is_own_discard_from o w h) h;
}

-- the number of submitted records that were taken
abbrev pub events_from : Snapshot → List Entry → ℕ
events_from o h = o.consumed + count_by (is_take_where (is_submitted_from o h)) h

-- the number of discarded records that were skipped
abbrev pub skips_from : Snapshot → List Entry → ℕ
skips_from o h = o.skipped + count_by (is_take_where (is_discarded_from o h)) h

-- the opening that begins where the entries end
abbrev pub snapshot_after : Snapshot → List Entry → Snapshot
snapshot_after o h = record {
  setup = o.setup;
  producer = producer_from o h;
  consumer = consumer_from o h;
  records = records_from o h;
  tallies = map (λ w. tally_from o w h) (numbers_below o.setup.workers);
  consumed = events_from o h;
  skipped = skips_from o h;
}

-- the six counts
abbrev pub counts_from : Snapshot → List Entry → Counts
counts_from o h = counts_at (snapshot_after o h)

-- the answer to each query; 0 for an unknown one (bpf-helpers(7), bpf_ringbuf_query)
abbrev pub query_answer_from : Snapshot → List Entry → ℕ → ℕ
query_answer_from o h q =
    if q == AVAIL_DATA then producer_from o h - consumer_from o h
    else if q == RING_SIZE then o.setup.size
    else if q == CONS_POS then consumer_from o h
    else if q == PROD_POS then producer_from o h
    else 0

-- ---- which entries may follow in a chapter

-- there is room for a record of n bytes: the room rule, applied to these positions
pub record HasRoomFrom (o : Snapshot) (h : List Entry) (n : ℕ) : Type 0 where
  pub space : producer_from o h + span n ≤ consumer_from o h + (o.setup.size - 1)
  pub limit : producer_from o h + span n ≤ 2 ^ 62

-- an entry may come next after b
abbrev pub MayFollowFrom : Snapshot → List Entry → Entry → Type 0
MayFollowFrom o b (Res w k n p) = (w < o.setup.workers) × (p ≡ producer_from o b) × (k ≡ grants_from o w b) × HasRoomFrom o b n
MayFollowFrom o b (Full w n) = (w < o.setup.workers) × ¬ HasRoomFrom o b n
MayFollowFrom o b (Sub p) = (is_granted_from o b p ≡ true) × (is_submitted_from o b p ≡ false) × (is_discarded_from o b p ≡ false)
MayFollowFrom o b (Dis p) = (is_granted_from o b p ≡ true) × (is_submitted_from o b p ≡ false) × (is_discarded_from o b p ≡ false)
MayFollowFrom o b (Take p) = (p ≡ consumer_from o b) × ((is_submitted_from o b p || is_discarded_from o b p) ≡ true)

-- each entry may follow the entries before it
pub record IsLegalFrom (o : Snapshot) (h : List Entry) : Type 0 where
  pub each : (before : List Entry) (e : Entry) (after : List Entry) → h ≡ before ++ e ∷ after → MayFollowFrom o before e
