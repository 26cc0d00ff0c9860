-- If each worker's seats together are settled, each seat is, so no closed ring has a busy record.
use Rattle.std.proofs.Common.{refl, sym, ap, map, ◌≡◌, ℕ, zero, suc, ◌+◌, ◌<◌, ◌≤◌, List, [], ◌∷◌, length, ◌∙◌, arith}
use Rattle.std.proofs.lemmas.List.Elements.{All-head, All-tail, All-cons, All-nil, All-same, All-map}
use Rattle.std.proofs.lemmas.Slice.Zip.{AllZip-long}
use Rattle.std.specs.Prelude.{slice_get}
use Rattle.std.specs.List.{All, AllZip, count_by}
use Rattle.rb_ledger.specs.Seats.{WorkerSeat, IsSameSeat, SettlesWithin, HasSettledAll}
use Rattle.rb_ledger.proofs.Sums.{once-closed}
use Rattle.rb_history.specs.declared.answers.Counts.{Counts}
use Rattle.rb_history.specs.Counting.{counts_of}
use Rattle.rb_history.specs.WorkerCounts.{events_of}
use Rattle.rb_chapter_ring.proofs.Counts.{counts-are}
use Rattle.rb_chapter_ring.specs.Chapters.{Chapter, joined}
use Rattle.rb_chapter_ring.specs.ChapterRing.{ChapterRing}
use Rattle.rb_chapter_ring.specs.OpenedRing.{told_counts}
use Rattle.rb_chapter_ring.specs.WholeHistory.{ContinuesHistory}
use Rattle.rb_ledger.specs.ChapteredRing.{chaptered_ring, whole_of}
use Rattle.rb_ledger.specs.ChapterSeats.{whole_consumer}
use Rattle.rb_ledger.proofs.BoundChapters.{gathered-continues}
use Rattle.rb_ledger.proofs.WholeCalls.{said}
use Rattle.rb_jobs.specs.SeatHelpers.{made_in, submitted_in, discarded_in}
use Rattle.rb_jobs.specs.declared.job.Job.{Job}
use Rattle.rb_workers.specs.declared.opened.Opened.{Opened}
use Rattle.rb_workers.specs.declared.opened.Ended.{Ended}
use Rattle.rb_workers.specs.declared.opened.JobsReport.{JobsReport}
use Rattle.rb_workers.specs.Opened.{AreOpened, IsOpened, workers_of}
use Rattle.rb_workers.specs.Reports.{IsReport, RingsEnd, ring_at_end}
use Rattle.rb_workers.specs.SeatRows.{worker_column, seat_rows}
use Rattle.rb_workers.specs.Sink.{SinkItem}
use Rattle.rb_workers.specs.JobRuns.{is_stray}
use Rattle.rb_workers.specs.Rest.{IsDrained, LeavesNothing}
use Rattle.rb_workers.specs.inner.RingEnds.{Closes}
use Rattle.rb_workers.specs.Settled.{AreSettled, EachSettled, IsEven, EndsSettled}
use Rattle.rb_workers.proofs.Sums.{number_at, cons_sum}
use Rattle.rb_workers.proofs.Numbered.{seats_length}
use Rattle.rb_workers.proofs.Strays.{none_strays, stays_settled}

-- ---- one row

abbrev made_at : List WorkerSeat → ℕ → ℕ
made_at row k = number_at (λ s. s.tally.made) (slice_get row k)

abbrev submitted_at : List WorkerSeat → ℕ → ℕ
submitted_at row k = number_at (λ s. s.tally.submitted) (slice_get row k)

abbrev discarded_at : List WorkerSeat → ℕ → ℕ
discarded_at row k = number_at (λ s. s.tally.discarded) (slice_get row k)

within_at : (row : List WorkerSeat) (k : ℕ) → All SettlesWithin row → submitted_at row k + discarded_at row k ≤ made_at row k
within_at [] k all = omega arith
within_at (s ∷ row) zero all = All-head SettlesWithin s row all
within_at (s ∷ row) (suc k) all = within_at row k (All-tail SettlesWithin s row all)

row_settled : (row : List WorkerSeat) → ((k : ℕ) → k < length row → made_at row k ≡ submitted_at row k + discarded_at row k) → All HasSettledAll row
row_settled [] each = All-nil HasSettledAll
row_settled (s ∷ row) each = All-cons HasSettledAll s row (each 0 (omega arith)) (row_settled row (λ k below. each (suc k) (omega arith)))

-- ---- all rows

column_within : (k : ℕ) (seats : List (List WorkerSeat)) → All (All SettlesWithin) seats → submitted_in (worker_column k seats) + discarded_in (worker_column k seats) ≤ made_in (worker_column k seats)
column_within k [] all = omega arith
column_within k (row ∷ seats) all =
    let here = within_at row k (All-head (All SettlesWithin) row seats all) in
    let rest = column_within k seats (All-tail (All SettlesWithin) row seats all) in
    let made = cons_sum (λ (s : WorkerSeat). s.tally.made) (slice_get row k) (worker_column k seats) in
    let submitted = cons_sum (λ (s : WorkerSeat). s.tally.submitted) (slice_get row k) (worker_column k seats) in
    let discarded = cons_sum (λ (s : WorkerSeat). s.tally.discarded) (slice_get row k) (worker_column k seats) in
    omega (arith, here, rest, made, submitted, discarded)

column_settled : (k : ℕ) (row : List WorkerSeat) (seats : List (List WorkerSeat)) → All (All SettlesWithin) (row ∷ seats) → AreSettled (worker_column k (row ∷ seats))
    → (made_at row k ≡ submitted_at row k + discarded_at row k) × AreSettled (worker_column k seats)
column_settled k row seats all settled =
    let here = within_at row k (All-head (All SettlesWithin) row seats all) in
    let rest = column_within k seats (All-tail (All SettlesWithin) row seats all) in
    let made = cons_sum (λ (s : WorkerSeat). s.tally.made) (slice_get row k) (worker_column k seats) in
    let submitted = cons_sum (λ (s : WorkerSeat). s.tally.submitted) (slice_get row k) (worker_column k seats) in
    let discarded = cons_sum (λ (s : WorkerSeat). s.tally.discarded) (slice_get row k) (worker_column k seats) in
    (omega (arith, here, rest, made, submitted, discarded, settled), omega (arith, here, rest, made, submitted, discarded, settled))

-- no seat settles more than it made, so if each worker's seats together settled all, each seat did
pub each_settled : (count : ℕ) (seats : List (List WorkerSeat)) → All (λ row. length row ≡ count) seats → All (All SettlesWithin) seats → EachSettled count seats → All (All HasSettledAll) seats
each_settled count [] seat_rows within settled = All-nil (All HasSettledAll)
each_settled count (row ∷ seats) seat_rows within settled =
    let len : length row ≡ count = All-head (λ (r : List WorkerSeat). length r ≡ count) row seats seat_rows in
    All-cons (All HasSettledAll) row seats (row_settled row (λ k below. (column_settled k row seats within (settled k (omega (arith, len, below)))).0))
    (each_settled count seats (All-tail (λ (r : List WorkerSeat). length r ≡ count) row seats seat_rows) (All-tail (All SettlesWithin) row seats within) (λ k below. (column_settled k row seats within (settled k below)).1))

-- what is settled seat by seat is settled together
settled_within : (row : List WorkerSeat) (k : ℕ) → All HasSettledAll row → made_at row k ≡ submitted_at row k + discarded_at row k
settled_within [] k all = refl
settled_within (s ∷ row) zero all = All-head HasSettledAll s row all
settled_within (s ∷ row) (suc k) all = settled_within row k (All-tail HasSettledAll s row all)

pub settled_together : (count : ℕ) (seats : List (List WorkerSeat)) → All (All HasSettledAll) seats → EachSettled count seats
settled_together count [] all k below = refl
settled_together count (row ∷ seats) all k below =
    let here = settled_within row k (All-head (All HasSettledAll) row seats all) in
    let rest = settled_together count seats (All-tail (All HasSettledAll) row seats all) k below in
    let made = cons_sum (λ (s : WorkerSeat). s.tally.made) (slice_get row k) (worker_column k seats) in
    let submitted = cons_sum (λ (s : WorkerSeat). s.tally.submitted) (slice_get row k) (worker_column k seats) in
    let discarded = cons_sum (λ (s : WorkerSeat). s.tally.discarded) (slice_get row k) (worker_column k seats) in
    omega (arith, here, rest, made, submitted, discarded)

-- ---- closed rings

-- the busy records that a closed ring reports are those of its whole history
busy_told : (handed_out : List Chapter) (last : ChapterRing) → ContinuesHistory (joined handed_out) last.chapter → (told_counts last).busy ≡ (counts_of (whole_of (chaptered_ring handed_out last)).history).busy
busy_told handed_out last goes_on = ap (λ (n : Counts). n.busy) (said (joined handed_out) last last goes_on).counts

waiting_told : (handed_out : List Chapter) (last : ChapterRing) → ContinuesHistory (joined handed_out) last.chapter → (told_counts last).waiting ≡ (counts_of (whole_of (chaptered_ring handed_out last)).history).waiting
waiting_told handed_out last goes_on = ap (λ (n : Counts). n.waiting) (said (joined handed_out) last last goes_on).counts

-- a ring that was drained before it was closed leaves nothing
leaves_nothing : {S : Type 0} (o : Opened S) (e : Ended S) → Closes o e → IsDrained o → LeavesNothing e
leaves_nothing o e closes drained none =
    let whole = ring_at_end o.consumer e in
    let closed = closes.closed.closed in
    let numbers = once-closed whole o.seats.items (whole_consumer o.consumer) closed in
    let goes_on = gathered-continues e.closing.at_end o.seats.items o.consumer closes.closed.gathered in
    let settled = numbers.none_busy.1 (sym (busy_told o.consumer.handed_out e.closing.at_end goes_on) ∙ none) in
    let took = (drained settled).0 in
    let ties = closed.consumer_ties.consumed_is in
    let events : events_of whole.history ≡ (counts_of whole.history).consumed = ap (λ (n : Counts). n.consumed) (counts-are whole.setup whole.history closed.is_ring.legal) in
    let sum = numbers.submitted_are in
    let left : (counts_of whole.history).waiting ≡ 0 = omega (arith, took, ties, events, sum) in
    waiting_told o.consumer.handed_out e.closing.at_end goes_on ∙ left

pub all_leave_nothing : {S : Type 0} (back : List (Opened S)) (ended : List (Ended S)) → AllZip Closes back ended → All IsDrained back → All LeavesNothing ended
all_leave_nothing [] [] closes drained = All-nil LeavesNothing
all_leave_nothing [] (e ∷ es) closes drained = absurd closes
all_leave_nothing (o ∷ os) [] closes drained = absurd closes
all_leave_nothing (o ∷ os) (e ∷ es) closes drained =
    All-cons LeavesNothing e es (leaves_nothing o e closes.0 (All-head IsDrained o os drained)) (all_leave_nothing os es closes.1 (All-tail IsDrained o os drained))

rings_within : {S : Type 0} (position : S → ℕ) (takes : S → SinkItem → S → Type 0) (opened : List (Opened S)) (ended : List (Ended S)) (seats : List (List WorkerSeat)) → RingsEnd position takes opened ended seats → All (All SettlesWithin) seats
rings_within position takes [] [] [] ends = All-nil (All SettlesWithin)
rings_within position takes [] [] (row ∷ more) ends = absurd ends
rings_within position takes [] (e ∷ es) [] ends = absurd ends
rings_within position takes [] (e ∷ es) (row ∷ more) ends = absurd ends
rings_within position takes (o ∷ os) [] [] ends = absurd ends
rings_within position takes (o ∷ os) [] (row ∷ more) ends = absurd ends
rings_within position takes (o ∷ os) (e ∷ es) [] ends = absurd ends
rings_within position takes (o ∷ os) (e ∷ es) (row ∷ more) ends =
    let ring = ends.0 in
    All-cons (All SettlesWithin) row more (once-closed (ring_at_end ring.consumer e) row (whole_consumer ring.consumer) ring.closed.closed).within (rings_within position takes os es more ends.1)

rings_settled : {S : Type 0} (position : S → ℕ) (takes : S → SinkItem → S → Type 0) (opened : List (Opened S)) (ended : List (Ended S)) (seats : List (List WorkerSeat)) → RingsEnd position takes opened ended seats → All (All HasSettledAll) seats → All EndsSettled ended
rings_settled position takes [] [] [] ends settled = All-nil EndsSettled
rings_settled position takes [] [] (row ∷ more) ends settled = absurd ends
rings_settled position takes [] (e ∷ es) [] ends settled = absurd ends
rings_settled position takes [] (e ∷ es) (row ∷ more) ends settled = absurd ends
rings_settled position takes (o ∷ os) [] [] ends settled = absurd ends
rings_settled position takes (o ∷ os) [] (row ∷ more) ends settled = absurd ends
rings_settled position takes (o ∷ os) (e ∷ es) [] ends settled = absurd ends
rings_settled position takes (o ∷ os) (e ∷ es) (row ∷ more) ends settled =
    let ring = ends.0 in
    let here = All-head (All HasSettledAll) row more settled in
    let one : EndsSettled e = record {
      tallies_even = All-same IsEven e.tallies.items (map (λ (s : WorkerSeat). s.tally) row) ring.tallies_are (All-map IsEven (λ (s : WorkerSeat). s.tally) row here);
      none_busy = busy_told ring.consumer.handed_out e.closing.at_end (gathered-continues e.closing.at_end row ring.consumer ring.closed.gathered) ∙ (once-closed (ring_at_end ring.consumer e) row (whole_consumer ring.consumer) ring.closed.closed).none_busy.0 here;
    } in
    All-cons EndsSettled e es one (rings_settled position takes os es more ends.1 (All-tail (All HasSettledAll) row more settled))

-- ---- a report

-- the rows with which the rings end are as long as those that were opened
rows_at_end : {S : Type 0} (position : S → ℕ) (takes : S → SinkItem → S → Type 0) (count : ℕ) (opened : List (Opened S)) (ended : List (Ended S)) (seats : List (List WorkerSeat)) → All (IsOpened position count) opened
    → RingsEnd position takes opened ended seats → All (λ row. length row ≡ count) seats
rows_at_end position takes count [] [] [] each ends = All-nil (λ (row : List WorkerSeat). length row ≡ count)
rows_at_end position takes count [] [] (row ∷ more) each ends = absurd ends
rows_at_end position takes count [] (e ∷ es) [] each ends = absurd ends
rows_at_end position takes count [] (e ∷ es) (row ∷ more) each ends = absurd ends
rows_at_end position takes count (o ∷ os) [] [] each ends = absurd ends
rows_at_end position takes count (o ∷ os) [] (row ∷ more) each ends = absurd ends
rows_at_end position takes count (o ∷ os) (e ∷ es) [] each ends = absurd ends
rows_at_end position takes count (o ∷ os) (e ∷ es) (row ∷ more) each ends =
    let here = seats_length position count o (All-head (IsOpened position count) o os each) in
    let same = AllZip-long IsSameSeat o.seats.items row ends.0.same_seats in
    All-cons (λ (row : List WorkerSeat). length row ≡ count) row more (same ∙ here) (rows_at_end position takes count os es more (All-tail (IsOpened position count) o os each) ends.1)

-- no run ended with a stray record
pub no_strays : {S : Type 0} (position : S → ℕ) (takes : S → SinkItem → S → Type 0) (opened : List (Opened S)) (jobs : List Job) (report : JobsReport S) → IsReport position takes opened jobs report → report.strays ≡ 0
no_strays position takes opened jobs report told = told.strays_are ∙ ap (count_by is_stray) told.answers_are ∙ none_strays told.runs told.runs_match

-- if each worker's seats were settled before, each ring ends settled
pub all_settled : {S : Type 0} (position : S → ℕ) (takes : S → SinkItem → S → Type 0) (opened : List (Opened S)) (jobs : List Job) (report : JobsReport S) → AreOpened position opened → IsReport position takes opened jobs report
    → EachSettled (workers_of opened) (seat_rows opened) → All EndsSettled report.rings.items
all_settled position takes opened jobs report each told settled =
    let count = workers_of opened in
    let still : EachSettled count told.seats =
    λ k below. stays_settled k told.runs (worker_column k (seat_rows opened)) (worker_column k told.seats) told.runs_match (told.numbers_rose k below) (settled k below)
    in
    let all = each_settled count told.seats (rows_at_end position takes count opened report.rings.items told.seats each told.rings_end) (rings_within position takes opened report.rings.items told.seats told.rings_end) still in
    rings_settled position takes opened report.rings.items told.seats told.rings_end all
