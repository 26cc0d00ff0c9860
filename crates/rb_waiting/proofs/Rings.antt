-- Rings whose workers looked before they requested records refused none.
use Rattle.std.proofs.Common.{◌≡◌, ℕ, zero, suc, ◌+◌, ◌*◌, ◌<◌, ◌≤◌, ◌==◌, ◌^◌, cond, List, [], ◌∷◌, ◌++◌, length, get_or, map, refl, sym, ap, ◌∙◌, subst, arith, Some, ⊎_elim}
use Rattle.std.specs.Prelude.{All, slice_get}
use Rattle.std.specs.List.{AllZip, count_by, cons_option, sum_by}
use Rattle.std.proofs.lemmas.Bool.{cases_lt, eq-eqb}
use Rattle.std.proofs.lemmas.List.{get_or-map, get_or_append_left, get_or_push, length-map}
use Rattle.std.proofs.lemmas.List.Elements.{All-cons, All-head, All-map, All-nil, All-tail}
use Rattle.std.proofs.lemmas.List.Sums.{sum_by-append, sum_by-cons}
use Rattle.std.proofs.lemmas.Option.{get_or_from_slice_get, none-some, slice_get-get_or, slice_get_within}
use Rattle.std.proofs.Math.Nat.{mul-le-mul_right}
use Rattle.rb_history.specs.declared.entries.Entry.{Entry}
use Rattle.rb_history.specs.declared.entries.Entry.TheVariants.{Full}
use Rattle.rb_history.specs.declared.tally.Tally.{Tally}
use Rattle.rb_history.specs.History.{producer_of}
use Rattle.rb_history.specs.Counting.{is_refusal_entry}
use Rattle.rb_history.specs.RingModel.{Ring}
use Rattle.rb_history.specs.RoomRule.{Setup}
use Rattle.rb_history.specs.WorkerCounts.{is_refusal_of, numbers_below}
use Rattle.rb_chapter_ring.specs.Chapters.{Chapter, joined}
use Rattle.rb_chapter_ring.specs.ChapterCalls.{producer_by_chapter}
use Rattle.rb_chapter_ring.specs.Snapshot.{Snapshot}
use Rattle.rb_chapter_ring.specs.WholeHistory.{IsBound}
use Rattle.rb_chapter_ring.proofs.ChapterNumbers.{length-below}
use Rattle.rb_admission.specs.Admission.{LooksBeforeItAsks}
use Rattle.rb_admission.proofs.Admitted.{none-refused, none_refused_after_looks}
use Rattle.rb_verifier.specs.Subject.{Subject}
use Rattle.rb_cost.specs.declared.cost.Cost.{Cost}
use Rattle.rb_cost.specs.Cost.{IsCost}
use Rattle.rb_run_cost.specs.CallCosts.{IsVerified}
use Rattle.rb_ledger.specs.Seats.{IsSameSeat, Ties, WorkerSeat}
use Rattle.rb_ledger.specs.Roles.{BeginsWith, book_of}
use Rattle.rb_ledger.specs.Headline.{Accounts}
use Rattle.rb_ledger.specs.ChapterClosing.{AreTied, bound_book}
use Rattle.rb_ledger.proofs.BoundChapters.{gathered-continues, tied-once-bound}
use Rattle.rb_ledger.proofs.WholeCalls.{said}
use Rattle.rb_jobs.specs.SeatHelpers.{refused_in}
use Rattle.rb_jobs.proofs.Lists.{zip_length}
use Rattle.rb_run_cost.proofs.Refusals.{fewer}
use Rattle.rb_workers.specs.declared.opened.Ended.{Ended}
use Rattle.rb_workers.specs.declared.opened.Opened.{Opened}
use Rattle.rb_workers.specs.Opened.{AreOpened, IsOpened, workers_of}
use Rattle.rb_workers.specs.Reports.{RingEnds, RingsEnd, refused_by_all, ring_at_end}
use Rattle.rb_workers.specs.SeatRows.{seat_rows, worker_column}
use Rattle.rb_workers.proofs.Numbered.{seats_length}
use Rattle.rb_workers.proofs.Same.{opened_long}
use Rattle.rb_workers.specs.Sink.{SinkItem}
use Rattle.rb_stream_worker.specs.Turns.{RunsTurns}
use Rattle.rb_stream_worker.specs.declared.when_full.Turns.{Turns}
use Rattle.rb_stream_worker.specs.Tasks.{TaskRun}
use Rattle.rb_stream_worker.specs.declared.when_full.WhenFull.TheVariants.{Wait}
use Rattle.rb_stream.specs.Streamed.{IsStreamedAs}
use Rattle.rb_stream.specs.declared.report.StreamReport.{StreamReport}
use Rattle.rb_waiting.specs.Plans.{IsPlan, LeavesRoom, bytes_asked}
use Rattle.rb_waiting.specs.Failures.{FailsUnlogged}
use Rattle.rb_waiting.specs.NoneRefused.{HasNotAsked, RefusesNoRecord, StaysLow}
use Rattle.rb_waiting.proofs.Asked.{HasCost}
use Rattle.rb_waiting.proofs.Looked.{by_turns, looks, none_asked, same_some, zip_get}

-- ---- columns

-- a worker's seat at a ring is the same in its column as in the ring's row
pub column_get : (k ring : ℕ) (rows : List (List WorkerSeat)) (row : List WorkerSeat) (s : WorkerSeat) → All (λ l. k < length l) rows → slice_get rows ring ≡ Some row → slice_get row k ≡ Some s → slice_get (worker_column k rows) ring ≡ Some s
column_get k ring [] row s long is at = absurd (none-some row is)
column_get k zero (l ∷ rows) row s long is at =
    let one : slice_get l k ≡ Some s = ap (λ (x : List WorkerSeat). slice_get x k) (same_some l row is) ∙ at in
    ap (λ o. slice_get (cons_option o (worker_column k rows)) 0) one
column_get k (suc ring) (l ∷ rows) row s long is at =
    let here = slice_get-get_or l k (first_of l k (All-head (λ x. k < length x) l rows long)) (All-head (λ x. k < length x) l rows long) in
    ap (λ o. slice_get (cons_option o (worker_column k rows)) (suc ring)) here ∙ column_get k ring rows row s (All-tail (λ x. k < length x) l rows long) is at
  where
    first_of : (l : List WorkerSeat) (k : ℕ) → k < length l → WorkerSeat
    first_of [] k below = absurd (omega arith)
    first_of (x ∷ l) k below = x

-- the numbers below n, at their indices
number_at : (n k d : ℕ) → k < n → get_or (numbers_below n) k d ≡ k
number_at zero k d below = absurd (omega arith)
number_at (suc n) k d below =
    let long = length-below n in
    ⊎_elim
    (λ lower. get_or_append_left (numbers_below n) (n ∷ []) d k (omega (arith, lower, long)) ∙ number_at n k d lower)
    (λ last. let same : k ≡ n = omega (arith, last, below) in get_or_push (numbers_below n) n d k (long ∙ sym same) ∙ sym same)
    (cases_lt k n)

-- a seat's worker is its index
worker_at : (count : ℕ) (seats : List WorkerSeat) (k : ℕ) (s : WorkerSeat) → map (λ x. x.worker) seats ≡ numbers_below count → slice_get seats k ≡ Some s → s.worker ≡ k
worker_at count seats k s numbered at =
    let below : k < length seats = slice_get_within seats k s at in
    let is : get_or seats k s ≡ s = get_or_from_slice_get seats k s s at in
    let long = length-map seats (λ (x : WorkerSeat). x.worker) in
    let many = ap length numbered in
    let few = length-below count in
    sym (get_or-map (λ (x : WorkerSeat). x.worker) seats k s 0 below ∙ ap (λ (x : WorkerSeat). x.worker) is) ∙ (ap (λ l. get_or l k 0) numbered ∙ number_at count k 0 (omega (arith, below, long, many, few)))

some_at : {A : Type 0} (xs : List A) (k : ℕ) → k < length xs → (x : A) × (slice_get xs k ≡ Some x)
some_at [] k below = absurd (omega arith)
some_at (x ∷ xs) k below = (get_or (x ∷ xs) k x, slice_get-get_or (x ∷ xs) k x below)

all_at : {A : Type 0} (P : A → Type 0) (xs : List A) (k : ℕ) (x : A) → All P xs → slice_get xs k ≡ Some x → P x
all_at P xs k x all at = subst P (get_or_from_slice_get xs k x x at) (all k x (slice_get_within xs k x at))

own_one : (w m : ℕ) → cond (w == w) m 0 ≡ m
own_one w m = ap (λ b. cond b m 0) (eq-eqb w w refl)

-- ---- one ring

module _ {S : Type 0} (position : S → ℕ) (takes : S → SinkItem → S → Type 0) (ring : ℕ) (t : Turns) (programs : List Subject) (costs : List Cost) (many : length programs ≡ length costs)
    (has_cost : (p : ℕ) (program : Subject) → slice_get programs p ≡ Some program → HasCost ring programs costs p program)
    (o : Opened S) (e : Ended S) (seats : List WorkerSeat) (count : ℕ) (opens : IsOpened position count o) (ends : RingEnds position takes o e seats)
    (room : (d : ℕ) → LeavesRoom o.consumer.seen.setup (t.contexts * bytes_asked costs ring) (get_or t.limits.items ring d)) (old new : ℕ → List WorkerSeat)
    (ran : (k : ℕ) → k < count → (parts : List (List TaskRun)) × RunsTurns t k programs parts (old k) (new k))
    (old_at : (k : ℕ) (s : WorkerSeat) → k < count → slice_get o.seats.items k ≡ Some s → slice_get (old k) ring ≡ Some s) (new_at : (k : ℕ) (s : WorkerSeat) → k < count → slice_get seats k ≡ Some s → slice_get (new k) ring ≡ Some s)
    (unasked : All HasNotAsked o.seats.items) (low : StaysLow e) where
  abbrev whole : Ring
  whole = ring_at_end ends.consumer e

  abbrev turn : ℕ
  turn = t.contexts * bytes_asked costs ring

  setup_is : whole.setup ≡ o.consumer.seen.setup
  setup_is = ends.begins.setup_same

  workers_are : whole.setup.workers ≡ count
  workers_are = ap (λ (r : Setup). r.workers) setup_is ∙ opens.as_many

  has_room : (d : ℕ) → LeavesRoom whole.setup turn (get_or t.limits.items ring d)
  has_room d = subst (λ (r : Setup). LeavesRoom r turn (get_or t.limits.items ring d)) (sym setup_is) (room d)

  as_long : length o.seats.items ≡ count
  as_long = seats_length position count o opens

  seats_long : length seats ≡ count
  seats_long = sym (zip_length IsSameSeat o.seats.items seats ends.same_seats) ∙ as_long

  -- each worker looked before it requested records
  looked : (k : ℕ) → k < whole.setup.workers → LooksBeforeItAsks whole.setup turn k whole.history
  looked k lt =
      let below : k < count = omega (arith, lt, workers_are) in
      let first = some_at o.seats.items k (omega (arith, below, as_long)) in
      let last = some_at seats k (omega (arith, below, seats_long)) in
      let s : WorkerSeat = first.0 in
      let l : WorkerSeat = last.0 in
      let own : s.worker ≡ k = worker_at count o.seats.items k s opens.numbered first.1 in
      let begins = all_at (λ (x : WorkerSeat). BeginsWith (book_of whole) x.seen) o.seats.items k s ends.seats_begin first.1 in
      let accounts : Accounts (book_of whole) l = all_at (Accounts (book_of whole)) seats k l ends.closed.closed.seats_tie last.1 in
      let part = ran k below in
      looks ring k t programs costs many has_cost whole.setup has_room whole.history s own (all_at HasNotAsked o.seats.items k s unasked first.1)
      (by_turns ring k t programs costs many has_cost whole.setup has_room whole.history part.0 (old k) (new k) s l accounts.goes_on.behind part.1 (old_at k s below first.1) (sym begins.setup_same) (new_at k l below last.1)
      accounts.goes_on.history_is (none_asked l.worker l.seen.history accounts.goes_on.behind accounts.goes_on.none_own))

  stays_low : producer_of whole.setup.start whole.history + turn ≤ 2 ^ 62
  stays_low =
      let goes_on = gathered-continues e.closing.at_end seats ends.consumer ends.closed.gathered in
      let producer : producer_by_chapter e.closing.at_end ≡ producer_of whole.setup.start whole.history = ap (λ (x : Snapshot). x.producer) (said (joined ends.consumer.handed_out) e.closing.at_end e.closing.at_end goes_on).stands in
      let some_worker : 1 ≤ whole.setup.workers = ends.closed.closed.is_ring.bounded.workers.0 in
      let one : 1 * turn ≤ whole.setup.workers * turn = mul-le-mul_right turn some_worker in
      let leaves : get_or t.limits.items ring 0 + whole.setup.workers * turn + 1 ≡ whole.setup.size = has_room 0 in
      let same : 1 * turn ≡ turn = omega arith in
      omega (arith, producer, one, leaves, same, low)

  -- no entry of the whole history is a refusal
  none : count_by is_refusal_entry whole.history ≡ 0
  none = none_refused_after_looks whole.setup turn whole.history ends.closed.closed.is_ring.legal stays_low looked

  seat_none : (k : ℕ) (l : WorkerSeat) → slice_get seats k ≡ Some l → l.tally.refused ≡ 0
  seat_none k l at =
      let accounts : Accounts (book_of whole) l = all_at (Accounts (book_of whole)) seats k l ends.closed.closed.seats_tie at in
      let counted : l.tally.refused ≡ count_by (is_refusal_of l.worker) whole.history = ap (λ (y : Tally). y.refused) accounts.ties.counted in
      let few = fewer l.worker whole.history in
      omega (arith, counted, few, none)

  tallies_none : All (λ (y : Tally). y.refused ≡ 0) e.tallies.items
  tallies_none =
      subst (All (λ (y : Tally). y.refused ≡ 0)) (sym ends.tallies_are)
      (All-map (λ (y : Tally). y.refused ≡ 0) (λ (s : WorkerSeat). s.tally) seats (λ k d below. seat_none k (get_or seats k d) (slice_get-get_or seats k d below)))

  -- nor is any entry of a history to which the chapters are bound
  module _ (chapters : List Chapter) (history : List Entry) (bound : IsBound chapters e.closing.at_end.chapter history) where
    tied : AreTied seats ends.consumer (bound_book e.closing.at_end history)
    tied = tied-once-bound e.closing.at_end seats ends.consumer chapters history ends.closed.gathered bound

    not_full : (before after : List Entry) (w n : ℕ) → history ≡ before ++ Full w n ∷ after → ⊥
    not_full before after w n is =
        let lt : w < whole.setup.workers = (bound.legal.each before (Full w n) after is).0 in
        let below : w < count = omega (arith, lt, workers_are) in
        let first = some_at o.seats.items w (omega (arith, below, as_long)) in
        let last = some_at seats w (omega (arith, below, seats_long)) in
        let l : WorkerSeat = last.0 in
        let same = zip_get IsSameSeat o.seats.items seats w first.0 l ends.same_seats first.1 last.1 in
        let own : l.worker ≡ w = same.worker_same ∙ worker_at count o.seats.items w first.0 opens.numbered first.1 in
        let ties = all_at (λ (s : WorkerSeat). Ties s.worker s.tally (bound_book e.closing.at_end history)) seats w l tied.seats_tie last.1 in
        let counted : l.tally.refused ≡ count_by (is_refusal_of w) history = ap (λ (y : Tally). y.refused) ties.counted ∙ ap (λ v. count_by (is_refusal_of v) history) own in
        let zero_refused = seat_none w l last.1 in
        let one : Entry → ℕ = λ x. cond (is_refusal_of w x) 1 0 in
        let whole_is = ap (sum_by one) is in
        let parts = sum_by-append one before (Full w n ∷ after) in
        let first_is = sum_by-cons one (Full w n) after in
        let here = own_one w 1 in
        omega (arith, counted, zero_refused, whole_is, parts, first_is, here)

    history_none : count_by is_refusal_entry history ≡ 0
    history_none = none-refused history not_full [] history refl

  pub ring_refuses_none : RefusesNoRecord e
  ring_refuses_none = record { tallies = tallies_none; histories = history_none }

-- ---- all rings

-- the opened ring, and the row of its seats
rings_at : {S : Type 0} (position : S → ℕ) (takes : S → SinkItem → S → Type 0) (os : List (Opened S)) (es : List (Ended S)) (rows : List (List WorkerSeat)) (k : ℕ) (e : Ended S) → RingsEnd position takes os es rows → slice_get es k ≡ Some e
    → (o : Opened S) × (row : List WorkerSeat) × (slice_get os k ≡ Some o) × (slice_get rows k ≡ Some row) × RingEnds position takes o e row
rings_at position takes [] [] [] k e ends at = absurd (none-some e at)
rings_at position takes (o ∷ os) (x ∷ es) (row ∷ rows) zero e ends at = (o, row, refl, refl, subst (λ y. RingEnds position takes o y row) (same_some x e at) ends.0)
rings_at position takes (o ∷ os) (x ∷ es) (row ∷ rows) (suc k) e ends at = rings_at position takes os es rows k e ends.1 at
rings_at position takes [] (x ∷ es) rows k e ends at = absurd ends
rings_at position takes [] [] (row ∷ rows) k e ends at = absurd ends
rings_at position takes (o ∷ os) [] rows k e ends at = absurd ends
rings_at position takes (o ∷ os) (x ∷ es) [] k e ends at = absurd ends

rows_long : {S : Type 0} (position : S → ℕ) (takes : S → SinkItem → S → Type 0) (count : ℕ) (os : List (Opened S)) (es : List (Ended S)) (rows : List (List WorkerSeat)) → RingsEnd position takes os es rows → All (IsOpened position count) os
    → All (λ row. length row ≡ count) rows
rows_long position takes count [] [] [] ends all = All-nil (λ row. length row ≡ count)
rows_long position takes count (o ∷ os) (x ∷ es) (row ∷ rows) ends all =
    let one : length row ≡ count = sym (zip_length IsSameSeat o.seats.items row ends.0.same_seats) ∙ seats_length position count o (All-head (IsOpened position count) o os all) in
    All-cons (λ (l : List WorkerSeat). length l ≡ count) row rows one (rows_long position takes count os es rows ends.1 (All-tail (IsOpened position count) o os all))
rows_long position takes count [] (x ∷ es) rows ends all = absurd ends
rows_long position takes count [] [] (row ∷ rows) ends all = absurd ends
rows_long position takes count (o ∷ os) [] rows ends all = absurd ends
rows_long position takes count (o ∷ os) (x ∷ es) [] ends all = absurd ends

map_get : {A B : Type 0} (f : A → B) (xs : List A) (k : ℕ) (x : A) → slice_get xs k ≡ Some x → slice_get (map f xs) k ≡ Some (f x)
map_get f [] k x at = absurd (none-some x at)
map_get f (y ∷ xs) zero x at = ap (λ z. Some (f z)) (same_some y x at)
map_get f (y ∷ xs) (suc k) x at = map_get f xs k x at

all_long : (k count : ℕ) (rows : List (List WorkerSeat)) → k < count → All (λ row. length row ≡ count) rows → All (λ row. k < length row) rows
all_long k count rows below long i d inside = let here = long i d inside in omega (arith, below, here)

-- each program's cost
cost_beside : (programs : List Subject) (costs : List Cost) (p : ℕ) (program : Subject) → AllZip IsCost programs costs → slice_get programs p ≡ Some program → (cost : Cost) × (slice_get costs p ≡ Some cost) × IsCost program cost
cost_beside [] costs p program zip at = absurd (none-some program at)
cost_beside (x ∷ programs) [] p program zip at = absurd zip
cost_beside (x ∷ programs) (c ∷ costs) zero program zip at = (c, refl, subst (λ s. IsCost s c) (same_some x program at) zip.0)
cost_beside (x ∷ programs) (c ∷ costs) (suc p) program zip at = cost_beside programs costs p program zip.1 at

pub none_refused : {S I : Type 0} (position : S → ℕ) (takes : S → SinkItem → S → Type 0) (gives : I → List (List ℕ) → I → Type 0) (opened : List (Opened S)) (programs : List Subject) (t : Turns) (bound : ℕ) (source later : I) (report : StreamReport S)
    → AreOpened position opened → IsPlan opened programs t → IsStreamedAs (Wait t) position takes gives opened programs bound source later report
    → All (All HasNotAsked) (seat_rows opened) → All StaysLow report.rings.items → All RefusesNoRecord report.rings.items
none_refused {S} position takes gives opened programs t bound source later report all plan streamed unasked low k d below =
    let e : Ended S = get_or report.rings.items k d in
    let here = rings_at position takes opened report.rings.items streamed.seats k e streamed.rings_end (slice_get-get_or report.rings.items k d below) in
    let o : Opened S = here.0 in
    let row : List WorkerSeat = here.1 in
    let count = workers_of opened in
    let inside : k < length opened = slice_get_within opened k o here.2 in
    let costs = plan.costs in
    let old_long : All (λ r. length r ≡ count) (seat_rows opened) = opened_long position count opened all in
    let new_long : All (λ r. length r ≡ count) streamed.seats = rows_long position takes count opened report.rings.items streamed.seats streamed.rings_end all in
    let row_at : slice_get (seat_rows opened) k ≡ Some o.seats.items = map_get (λ (x : Opened S). x.seats.items) opened k o here.2 in
    let is_o : get_or opened k o ≡ o = get_or_from_slice_get opened k o o here.2 in
    ring_refuses_none position takes k t programs costs (zip_length IsCost programs costs plan.costs_are)
    (λ p program at.
    let c = cost_beside programs costs p program plan.costs_are at in
    let knows : length opened ≤ program.rings = all_at (λ (x : Subject). length opened ≤ x.rings) programs p program plan.knows at in
    record { cost = c.0; cost_at = c.1; is = c.2; verified = all_at IsVerified programs p program plan.verified at; knows = omega (arith, knows, inside) })
    o e row count (all_at (IsOpened position count) opened k o all here.2) here.4
    (λ n. subst (λ (x : Opened S). LeavesRoom x.consumer.seen.setup (t.contexts * bytes_asked costs k) (get_or t.limits.items k n)) is_o (plan.leaves_room k n o inside))
    (λ w. worker_column w (seat_rows opened)) (λ w. worker_column w streamed.seats)
    (λ w lt. let turns = streamed.in_turn w lt in (turns.0, turns.2))
    (λ w s lt at. column_get w k (seat_rows opened) o.seats.items s (all_long w count (seat_rows opened) lt old_long) row_at at)
    (λ w s lt at. column_get w k streamed.seats row s (all_long w count streamed.seats lt new_long) here.3 at)
    (all_at (All HasNotAsked) (seat_rows opened) k o.seats.items unasked row_at) (low k d below)

-- ---- failures

-- seats that were refused nothing, together
none_by_seats : (seats : List WorkerSeat) → All (λ (y : Tally). y.refused ≡ 0) (map (λ s. s.tally) seats) → refused_in seats ≡ 0
none_by_seats [] all = refl
none_by_seats (s ∷ seats) all =
    let more = sum_by-cons (λ (x : WorkerSeat). x.tally.refused) s seats in
    let here : s.tally.refused ≡ 0 = All-head (λ (y : Tally). y.refused ≡ 0) s.tally (map (λ (x : WorkerSeat). x.tally) seats) all in
    let rest = none_by_seats seats (All-tail (λ (y : Tally). y.refused ≡ 0) s.tally (map (λ (x : WorkerSeat). x.tally) seats) all) in
    omega (arith, more, here, rest)

none_by_rows : {S : Type 0} (position : S → ℕ) (takes : S → SinkItem → S → Type 0) (os : List (Opened S)) (es : List (Ended S)) (rows : List (List WorkerSeat)) → RingsEnd position takes os es rows → All RefusesNoRecord es
    → refused_by_all rows ≡ 0
none_by_rows position takes [] [] [] ends all = refl
none_by_rows position takes (o ∷ os) (e ∷ es) (row ∷ rows) ends all =
    let first : RefusesNoRecord e = All-head RefusesNoRecord e es all in
    let here = none_by_seats row (subst (All (λ (y : Tally). y.refused ≡ 0)) ends.0.tallies_are first.tallies) in
    let rest = none_by_rows position takes os es rows ends.1 (All-tail RefusesNoRecord e es all) in
    let more = sum_by-cons refused_in row rows in
    omega (arith, more, here, rest)
none_by_rows position takes [] (e ∷ es) rows ends all = absurd ends
none_by_rows position takes [] [] (row ∷ rows) ends all = absurd ends
none_by_rows position takes (o ∷ os) [] rows ends all = absurd ends
none_by_rows position takes (o ∷ os) (e ∷ es) [] ends all = absurd ends

-- so each failure was counted as unlogged
pub fails_unlogged : {S I : Type 0} (position : S → ℕ) (takes : S → SinkItem → S → Type 0) (gives : I → List (List ℕ) → I → Type 0) (opened : List (Opened S)) (programs : List Subject) (t : Turns) (bound : ℕ) (source later : I) (report : StreamReport S)
    → AreOpened position opened → IsPlan opened programs t → IsStreamedAs (Wait t) position takes gives opened programs bound source later report
    → All (All HasNotAsked) (seat_rows opened) → All StaysLow report.rings.items → FailsUnlogged (Wait t) position takes gives opened programs bound source later report
fails_unlogged position takes gives opened programs t bound source later report all plan streamed unasked low =
    let none = none_refused position takes gives opened programs t bound source later report all plan streamed unasked low in
    let zero_refused = none_by_rows position takes opened report.rings.items streamed.seats streamed.rings_end none in
    let sum = streamed.failures_add_up in
    record { streamed = streamed; all_unlogged = omega (arith, zero_refused, sum) }
