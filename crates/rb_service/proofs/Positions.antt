-- Rings whose sinks are forgotten, except for their positions.
use Rattle.std.proofs.Common.{◌≡◌, ℕ, ◌+◌, ◌*◌, ◌<◌, ◌≤◌, List, [], ◌∷◌, ◌++◌, get_or, length, map, refl, sym, ap, subst, ◌∙◌, arith}
use Rattle.std.proofs.lemmas.List.{get_or-map, length-map}
use Rattle.std.proofs.lemmas.List.Elements.{All-cons, All-head, All-nil, All-tail}
use Rattle.std.specs.Prelude.{All}
use Rattle.std.specs.List.{AllZip}
use Rattle.std.specs.declared.vec.Vec.{Vec}
use Rattle.rb_verifier.specs.Subject.{Subject}
use Rattle.rb_history.specs.RoomRule.{Setup}
use Rattle.rb_history.specs.declared.entries.Entry.{Entry}
use Rattle.rb_chapter_ring.specs.OpenedRing.{told_counts}
use Rattle.rb_dealing.specs.Dealt.{AreDealtAmong, dealt_to, saturated}
use Rattle.rb_jobs.specs.SeatHelpers.{fails}
use Rattle.rb_ledger.specs.ChapterSeats.{ChapterConsumerSeat}
use Rattle.rb_ledger.specs.Seats.{WorkerSeat}
use Rattle.rb_workers.specs.declared.opened.Ended.{Ended}
use Rattle.rb_workers.specs.declared.opened.Opened.{Opened}
use Rattle.rb_workers.specs.Opened.{workers_of}
use Rattle.rb_workers.specs.Reports.{RingEnds, RingsEnd, refused_by_all}
use Rattle.rb_workers.specs.SeatRows.{seat_rows, worker_column}
use Rattle.rb_workers.specs.Sink.{GetsTaken, SinkItem, TakesAll}
use Rattle.rb_stream.specs.Streamed.{CountsEach, HaveRisen, IsStreamedAs, of_all, times_in, unlogged_in}
use Rattle.rb_stream.specs.declared.report.StreamReport.{StreamReport}
use Rattle.rb_stream_worker.specs.Turns.{RunsAs}
use Rattle.rb_stream_worker.specs.declared.when_full.Turns.{Turns}
use Rattle.rb_stream_worker.specs.declared.when_full.WhenFull.{WhenFull}
use Rattle.rb_waiting.specs.Plans.{IsPlan, LeavesRoom, bytes_asked}
use Rattle.rb_service.specs.Counters.{ring_line, rings_lines}
use Rattle.rb_service.specs.PrintedStream.{TakesAny}
use Rattle.rb_service.specs.Rings.{IsFreshFor}
use Rattle.rb_service.specs.Service.{IsRequested, RunsAsRequested, Serves}
use Rattle.rb_service.specs.declared.rings.RingPlan.{RingPlan}
use Rattle.rb_service.specs.declared.service.Full.{Full}
use Rattle.rb_service.specs.declared.service.Full.TheVariants.{Refuse, Wait}
use Rattle.rb_service.specs.declared.service.ServiceRequest.{ServiceRequest}

-- a function of each element
abbrev pub vec_map : {X Y Z : Type 0} → (X → Y) → Vec X Z → Vec Y Z
vec_map f v = record { ptr = v.ptr; len = v.len; cap = v.cap; alloc = v.alloc; items = map f v.items; ok = (v.ok.0 ∙ sym (length-map v.items f), v.ok.1); small = v.small }

-- the same with the position in place of the sink: of a plan, of an opened ring, of a ring at its end, and of a report
abbrev pub plan_at : {S : Type 0} → (S → ℕ) → RingPlan S → RingPlan ℕ
plan_at position p = record { size = p.size; sink = position p.sink }

abbrev pub opened_at : {S : Type 0} → (S → ℕ) → Opened S → Opened ℕ
opened_at position o = record { ring = o.ring; seats = o.seats; consumer = o.consumer; keeper = o.keeper; sink = position o.sink }

abbrev pub ended_at : {S : Type 0} → (S → ℕ) → Ended S → Ended ℕ
ended_at position e = record { closing = e.closing; tallies = e.tallies; keeper = e.keeper; sink = position e.sink }

abbrev pub report_at : {S : Type 0} → (S → ℕ) → StreamReport S → StreamReport ℕ
report_at position r = record {
  rings = vec_map (ended_at position) r.rings;
  contexts = r.contexts;
  dropped = r.dropped;
  ran = r.ran;
  results = r.results;
  unlogged = r.unlogged;
  strays = r.strays;
  end = r.end;
}

-- ---- rings that are opened

module _ {S : Type 0} (position : S → ℕ) where
  rows_at : (opened : List (Opened S)) → seat_rows (map (opened_at position) opened) ≡ seat_rows opened
  rows_at [] = refl
  rows_at (o ∷ more) = ap (λ rows. o.seats.items ∷ rows) (rows_at more)

  workers_at : (opened : List (Opened S)) → workers_of (map (opened_at position) opened) ≡ workers_of opened
  workers_at [] = refl
  workers_at (o ∷ more) = refl

  fresh_at : (workers : ℕ) (plans : List (RingPlan S)) (opened : List (Opened S)) → AllZip (IsFreshFor position workers) plans opened
      → AllZip (IsFreshFor (λ n. n) workers) (map (plan_at position) plans) (map (opened_at position) opened)
  fresh_at workers [] [] fresh = tt
  fresh_at workers [] (o ∷ opened) fresh = absurd fresh
  fresh_at workers (p ∷ plans) [] fresh = absurd fresh
  fresh_at workers (p ∷ plans) (o ∷ opened) fresh = (
    record { seats_are = fresh.0.seats_are; consumer_is = fresh.0.consumer_is; keeper_is = fresh.0.keeper_is; sink_is = ap position fresh.0.sink_is },
    fresh_at workers plans opened fresh.1,
  )

  -- what holds of the setup of an opened ring
  setup_at : (P : Setup → Type 0) (opened : List (Opened S)) (k : ℕ) (o : Opened ℕ) → k < length opened → ((d : Opened S) → P (get_or opened k d).consumer.seen.setup)
      → P (get_or (map (opened_at position) opened) k o).consumer.seen.setup
  setup_at P [] k o below holds = absurd (omega arith)
  setup_at P (d ∷ more) k o below holds =
      subst (λ (q : Opened ℕ). P q.consumer.seen.setup) (sym (get_or-map (opened_at position) (d ∷ more) k d o below)) (holds d)

  plan_of_turns_at : (opened : List (Opened S)) (programs : List Subject) (turns : Turns) → IsPlan opened programs turns → IsPlan (map (opened_at position) opened) programs turns
  plan_of_turns_at opened programs turns plan =
      let same : length (map (opened_at position) opened) ≡ length opened = length-map opened (opened_at position) in
      record {
        costs = plan.costs;
        costs_are = plan.costs_are;
        verified = plan.verified;
        knows = subst (λ n. All (λ (p : Subject). n ≤ p.rings) programs) (sym same) plan.knows;
        some = plan.some;
        as_many = plan.as_many ∙ sym same;
        leaves_room = λ k d o below. setup_at (λ setup. LeavesRoom setup (turns.contexts * bytes_asked plan.costs k) (get_or turns.limits.items k d)) opened k o (subst (λ n. k < n) same below) (λ q. plan.leaves_room k d q (subst (λ n. k < n) same below));
      }

  requested_at : (request : Full) (opened : List (Opened S)) (programs : List Subject) (full : WhenFull) → IsRequested request opened programs full → IsRequested request (map (opened_at position) opened) programs full
  requested_at Refuse opened programs full requested = requested
  requested_at Wait opened programs full requested = (requested.0, requested.1, plan_of_turns_at opened programs requested.0 requested.2)

-- ---- rings that ended

module _ {S : Type 0} (position : S → ℕ) (takes : S → SinkItem → S → Type 0) where
  items_at : (items : List SinkItem) (old new : S) → TakesAll takes old items new → TakesAll TakesAny (position old) items (position new)
  items_at [] old new given = ap position given
  items_at (item ∷ items) old new given = (position given.0, tt, items_at items given.0 new given.2)

  given_at : (before after : ChapterConsumerSeat) (history : List Entry) (old new : S) → GetsTaken takes before after history old new → GetsTaken TakesAny before after history (position old) (position new)
  given_at before after history old new given = record {
    items = given.items;
    taken_are = given.taken_are;
    records_are = given.records_are;
    chapters_are = given.chapters_are;
    given = items_at given.items old new given.given;
  }

  end_at : (o : Opened S) (ended : Ended S) (seats : List WorkerSeat) → RingEnds position takes o ended seats → RingEnds (λ n. n) TakesAny (opened_at position o) (ended_at position ended) seats
  end_at o ended seats e = record {
    consumer = e.consumer;
    which = e.which;
    closed = e.closed;
    begins = e.begins;
    seats_begin = e.seats_begin;
    same_seats = e.same_seats;
    same_consumer = e.same_consumer;
    keeper_fits = e.keeper_fits;
    sink_given = given_at _ _ _ _ _ e.sink_given;
    sink_follows = e.sink_follows;
    tallies_are = e.tallies_are;
  }

  ends_at : (opened : List (Opened S)) (rings : List (Ended S)) (seats : List (List WorkerSeat)) → RingsEnd position takes opened rings seats
      → RingsEnd (λ n. n) TakesAny (map (opened_at position) opened) (map (ended_at position) rings) seats
  ends_at [] [] [] end = tt
  ends_at [] [] (s ∷ seats) end = absurd end
  ends_at [] (e ∷ rings) seats end = absurd end
  ends_at (o ∷ opened) [] seats end = absurd end
  ends_at (o ∷ opened) (e ∷ rings) [] end = absurd end
  ends_at (o ∷ opened) (e ∷ rings) (s ∷ seats) end = (end_at o e s end.0, ends_at opened rings seats end.1)

  -- a ring ended for each that was opened
  pub ends_length : (opened : List (Opened S)) (rings : List (Ended S)) (seats : List (List WorkerSeat)) → RingsEnd position takes opened rings seats → length rings ≡ length opened
  ends_length [] [] seats end = refl
  ends_length [] (e ∷ rings) seats end = absurd end
  ends_length (o ∷ opened) [] seats end = absurd end
  ends_length (o ∷ opened) (e ∷ rings) [] end = absurd end
  ends_length (o ∷ opened) (e ∷ rings) (s ∷ seats) end = let more = ends_length opened rings seats end.1 in omega arith

-- ---- the service

module _ {S I J : Type 0} (position : S → ℕ) (takes : S → SinkItem → S → Type 0) (gives : I → List (List ℕ) → I → Type 0) (gives_next : J → List (List ℕ) → J → Type 0) (source_of : I → J)
    (gives_same : (old new : I) (contexts : List (List ℕ)) → gives old contexts new → gives_next (source_of old) contexts (source_of new)) where
  streamed_at : (full : WhenFull) (opened : List (Opened S)) (programs : List Subject) (bound : ℕ) (source later : I) (report : StreamReport S)
      → IsStreamedAs full position takes gives opened programs bound source later report
      → IsStreamedAs full (λ n. n) TakesAny gives_next (map (opened_at position) opened) programs bound (source_of source) (source_of later) (report_at position report)
  streamed_at full opened programs bound source later report s =
      let same = workers_at position opened in
      let rows = rows_at position opened in
      let within = λ (k : ℕ) (below : k < workers_of (map (opened_at position) opened)). subst (λ n. k < n) same below in
      record {
        pieces = s.pieces;
        runs = s.runs;
        seats = s.seats;
        gave = gives_same source later _ s.gave;
        known = subst (λ n. AreDealtAmong n s.pieces) (sym same) s.known;
        tasks_are = λ k below. s.tasks_are k (within k below);
        in_turn = λ k below. subst (λ rs. RunsAs full k programs (s.runs k) (worker_column k rs) (worker_column k s.seats)) (sym rows) (s.in_turn k (within k below));
        rings_end = ends_at position takes opened report.rings.items s.seats s.rings_end;
        contexts_are = s.contexts_are;
        dropped_are = s.dropped_are;
        ran_are = s.ran_are ∙ ap (λ n. saturated (length (of_all n (λ k. dealt_to k s.pieces)))) (sym same);
        results_are = subst (λ n. CountsEach (length programs) bound (of_all n s.runs) report.results.items) (sym same) s.results_are;
        unlogged_is = s.unlogged_is ∙ ap (λ n. saturated (unlogged_in (of_all n s.runs))) (sym same);
        numbers_rose = λ k below. subst (λ rs. HaveRisen (s.runs k) (worker_column k rs) (worker_column k s.seats)) (sym rows) (s.numbers_rose k (within k below));
        failures_add_up = subst (λ n. refused_by_all s.seats + unlogged_in (of_all n s.runs) ≡ refused_by_all (seat_rows (map (opened_at position) opened)) + times_in fails (of_all n s.runs)) (sym same)
            (subst (λ rs. refused_by_all s.seats + unlogged_in (of_all (workers_of opened) s.runs) ≡ refused_by_all rs + times_in fails (of_all (workers_of opened) s.runs)) (sym rows) s.failures_add_up);
      }

  ran_at : (opened : List (Opened S)) (programs : List Subject) (request : ServiceRequest) (source later : I) (report : StreamReport S) → RunsAsRequested position takes gives opened programs request source later report
      → RunsAsRequested (λ n. n) TakesAny gives_next (map (opened_at position) opened) programs request (source_of source) (source_of later) (report_at position report)
  ran_at opened programs request source later report ran = record {
    full = ran.full;
    requested = requested_at position request.full opened programs ran.full ran.requested;
    streamed = streamed_at ran.full opened programs request.results source later report ran.streamed;
  }

  pub serves_at : (plans : List (RingPlan S)) (programs : List Subject) (request : ServiceRequest) (source later : I) (report : StreamReport S) → Serves position takes gives plans programs request source later report
      → Serves (λ n. n) TakesAny gives_next (map (plan_at position) plans) programs request (source_of source) (source_of later) (report_at position report)
  serves_at plans programs request source later report serves = record {
    opened = map (opened_at position) serves.opened;
    fresh = fresh_at position request.workers plans serves.opened serves.fresh;
    ran = ran_at serves.opened programs request source later report serves.ran;
  }

-- ---- the counters

module _ {S : Type 0} (position : S → ℕ) where
  pub rings_lines_at : (names : List (List ℕ)) (rings : List (Ended S)) → rings_lines names (map (ended_at position) rings) ≡ rings_lines names rings
  rings_lines_at [] rings = refl
  rings_lines_at (name ∷ names) [] = refl
  rings_lines_at (name ∷ names) (e ∷ rings) = ap (λ lines. ring_line name (told_counts e.closing.at_end) ++ lines) (rings_lines_at names rings)

  pub all_at : (P : Ended S → Type 0) (Q : Ended ℕ → Type 0) → ((e : Ended S) → P e → Q (ended_at position e)) → (rings : List (Ended S)) → All P rings → All Q (map (ended_at position) rings)
  all_at P Q one [] all = All-nil Q
  all_at P Q one (e ∷ rings) all = All-cons Q (ended_at position e) (map (ended_at position) rings) (one e (All-head P e rings all)) (all_at P Q one rings (All-tail P e rings all))

  pub all_from : (P : Ended S → Type 0) (Q : Ended ℕ → Type 0) → ((e : Ended S) → Q (ended_at position e) → P e) → (rings : List (Ended S)) → All Q (map (ended_at position) rings) → All P rings
  all_from P Q one [] all = All-nil P
  all_from P Q one (e ∷ rings) all =
      All-cons P e rings (one e (All-head Q (ended_at position e) (map (ended_at position) rings) all)) (all_from P Q one rings (All-tail Q (ended_at position e) (map (ended_at position) rings) all))
