-- Looks at the rings, and turns.
use Rattle.std.proofs.Common.{◌≡◌, ℕ, zero, suc, ◌+◌, ◌-◌, ◌<◌, ◌≤◌, true, List, [], ◌∷◌, ◌++◌, length, get_or, refl, sym, ap, ◌∙◌, subst, append-nil, append_assoc, arith, drop, set, take, None, ⊎_elim}
use Rattle.std.proofs.Math.Seq.{take-append_seam}
use Rattle.std.proofs.lemmas.Bool.{cases_lt}
use Rattle.std.proofs.lemmas.List.{get_or-set_other, get_or-set_same, get_or_default, length-drop, length-take-le, take-append-drop, take-take}
use Rattle.std.proofs.lemmas.List.Concat.{flat_map-append}
use Rattle.std.proofs.lemmas.List.FromFn.{map-range_with_len_more}
use Rattle.std.specs.List.{AllZip}
use Rattle.rb_verifier.specs.Subject.{Subject}
use Rattle.rb_history.specs.declared.notices_and_queries.TheConstants.{AVAIL_DATA}
use Rattle.rb_history.specs.NoticesAndQueries.{query_answer}
use Rattle.rb_history.specs.RingModel.{Ring}
use Rattle.rb_ledger.specs.Roles.{Book, ExtendsSeen, book_of}
use Rattle.rb_ledger.specs.Roles.Role.{Worker}
use Rattle.rb_ledger.specs.EntryRoom.{InRoom}
use Rattle.rb_ledger.specs.LockedCalls.{LockedCall, Queries}
use Rattle.rb_ledger.specs.Seats.{IsSameSeat, Shared, WorkerSeat}
use Rattle.rb_ledger.proofs.Histories.{goes-further}
use Rattle.rb_jobs.specs.SeatHelpers.{AtRings, IsAt}
use Rattle.rb_jobs.proofs.Lists.{zip_at, zip_length}
use Rattle.rb_jobs.proofs.OneSeat.{seat_is}
use Rattle.rb_stream_worker.specs.Tasks.{StreamTask, tasks_of, tasks_over}
use Rattle.rb_stream_worker.specs.Turns.{FindsRoom, FindsRoomInEach, RunsTurn, SeesMore}
use Rattle.rb_stream_worker.specs.inner.Looks.{LooksAt}
use Rattle.rb_stream_worker.specs.Results.{raised}
use Rattle.rb_stream_worker.specs.ContextRuns.{IsBegun, IsSameWorker, RunsContexts, WorkerRuns}
use Rattle.rb_stream_worker.specs.inner.RunLaws.{runs_in_turn}
use Rattle.rb_stream_worker.specs.declared.stream_counts.StreamCounts.{StreamCounts}
use Rattle.rb_stream_worker.specs.declared.stream_worker.StreamWorker.{StreamWorker}
use Rattle.rb_stream_worker.specs.declared.when_full.Turns.{Turns}
use Rattle.rb_stream_worker.specs.declared.when_full.WhenFull.{WhenFull}
use Rattle.rb_stream_worker.specs.declared.when_full.WhenFull.TheVariants.{Refuse, Wait}
use Rattle.rb_stream_worker.proofs.Runs.{contexts_left}

-- ---- tasks that were begun

-- the first programs over a context come first among all of them
first_programs : (n k : ℕ) (context : List ℕ) → (rest : List StreamTask) × (tasks_over (n + k) context ≡ tasks_over n context ++ rest)
first_programs n zero context = ([], ap (λ m. tasks_over m context) (omega arith) ∙ sym (append-nil (tasks_over n context)))
first_programs n (suc k) context =
    let task : ℕ → StreamTask = λ p. record { program = p; context = context } in
    let before = first_programs n k context in (
      before.0 ++ task (n + k) ∷ [],
      ap (λ m. tasks_over m context) (omega arith)
          ∙ (map-range_with_len_more task 0 (n + k) (n + k) (omega arith)
          ∙ (ap (λ l. l ++ task (n + k) ∷ []) before.1 ∙ append_assoc (tasks_over n context) before.0 (task (n + k) ∷ []))),
    )

begun_first : (programs : ℕ) (begun : List StreamTask) (left : List (List ℕ)) → IsBegun programs begun left → (rest : List StreamTask) × (begun ++ rest ≡ tasks_of programs left)
begun_first programs begun [] is = ([], append-nil begun ∙ is)
begun_first programs begun (context ∷ more) is =
    let first = first_programs is.0 (programs - is.0) context in
    let few = is.1 in
    let all : is.0 + (programs - is.0) ≡ programs = omega (arith, few) in
    let others : List StreamTask = tasks_of programs more in (
      first.0 ++ others,
      ap (λ l. l ++ (first.0 ++ others)) is.2
          ∙ (sym (append_assoc (tasks_over is.0 context) first.0 others) ∙ ap (λ l. l ++ others) (sym first.1 ∙ ap (λ n. tasks_over n context) all)),
    )

-- ---- a turn

module _ (t : Turns) (w : ℕ) (ps : List Subject) (contexts : List (List ℕ)) (a looked b : List WorkerSeat) (c d : StreamCounts) (found : FindsRoomInEach t.limits.items a looked) (few : length contexts ≤ t.contexts) (ran : RunsContexts Refuse w ps contexts looked b c d) where
  one_turn : RunsTurn t w ps ran.runs a b
  one_turn =
      let n = length ps in
      let rest = begun_first n ran.begun ran.left ran.begun_of in
      record {
        contexts = contexts;
        not_run = rest.0;
        looked = looked;
        few = few;
        tasks_are =
            ap (λ l. l ++ rest.0) ran.tasks_are
            ∙ (append_assoc (tasks_of n ran.done) ran.begun rest.0
            ∙ (ap (λ l. tasks_of n ran.done ++ l) rest.1 ∙ (sym (flat_map-append (tasks_over n) ran.done ran.left) ∙ ap (tasks_of n) (sym ran.contexts_are))));
        found = found;
        ran = ran.in_turn;
      }

  -- contexts that were run at once after a look are a turn
  pub turn_taken : RunsContexts (Wait t) w ps contexts a b c d
  turn_taken = record {
    runs = ran.runs;
    done = ran.done;
    left = ran.left;
    begun = ran.begun;
    contexts_are = ran.contexts_are;
    tasks_are = ran.tasks_are;
    begun_of = ran.begun_of;
    all_done = ran.all_done;
    stays = ran.stays;
    in_turn = (ran.runs ∷ [], sym (append-nil ran.runs), (b, one_turn, refl));
    counted = ran.counted;
    contexts_counted = ran.contexts_counted;
    left_counted = ran.left_counted;
  }

-- the contexts up to an index, followed by a part
pub parts_are : (contexts : List (List ℕ)) (from to : ℕ) → from ≤ to → take from contexts ++ drop from (take to contexts) ≡ take to contexts
parts_are contexts from to le = ap (λ l. l ++ drop from (take to contexts)) (sym (take-take from to contexts le)) ∙ take-append-drop from (take to contexts)

pub part_length : (contexts : List (List ℕ)) (from to : ℕ) → from ≤ to → to ≤ length contexts → length (drop from (take to contexts)) ≡ to - from
part_length contexts from to le inside =
    let long = length-drop from (take to contexts) in
    let all = length-take-le to contexts inside in
    omega (arith, long, all)

-- ---- workers

-- a turn of a worker that had stopped
pub stopped_turn : (full : WhenFull) (w : ℕ) (ps : List Subject) (contexts : List (List ℕ)) (from to : ℕ) (a : List WorkerSeat) (c d : StreamCounts) → from ≤ to → to ≤ length contexts → d ≡ record c { left = raised c.left (to - from); stopped = true }
    → RunsContexts full w ps (drop from (take to contexts)) a a c d
stopped_turn full w ps contexts from to a c d le inside is = contexts_left full w ps (drop from (take to contexts)) a c d (to - from) (part_length contexts from to le inside) is

-- a turn after the earlier ones
pub turns_more : {R K : Type 0} (old mid new : StreamWorker R K) (contexts : List (List ℕ)) (from to : ℕ) → from ≤ to → WorkerRuns old (take from contexts) mid → IsSameWorker mid new
    → RunsContexts mid.full.now mid.number mid.programs.now (drop from (take to contexts)) mid.seats.items new.seats.items mid.counts new.counts → WorkerRuns old (take to contexts) new
turns_more old mid new contexts from to le before same ran =
    subst (λ xs. WorkerRuns old xs new) (parts_are contexts from to le) (runs_in_turn old mid new (take from contexts) (drop from (take to contexts)) before (record { same = same; ran = ran }))

-- ---- looks

pub sees_itself : (s : WorkerSeat) → SeesMore s s
sees_itself s = record { goes_on = record { setup_same = refl; behind = []; history_is = sym (append-nil s.seen.history); none_own = tt }; seat_same = refl }

pub sees_on : (old mid new : WorkerSeat) → SeesMore old mid → SeesMore mid new → SeesMore old new
sees_on old mid new one two =
    let more : ExtendsSeen (Worker old.worker) mid.seen new.seen = subst (λ w. ExtendsSeen (Worker w) mid.seen new.seen) (ap (λ (s : WorkerSeat). s.worker) one.seat_same) two.goes_on in
    record {
      goes_on = goes-further (Worker old.worker) old.seen mid.seen new.seen more.behind one.goes_on more.setup_same more.history_is more.none_own;
      seat_same = two.seat_same ∙ ap (λ (s : WorkerSeat). record s { seen = new.seen; cut = new.cut }) one.seat_same;
    }

-- the answer of a query is about what the seat has then seen
pub looks_by_query : (answer : ℕ) (old new : WorkerSeat) → LockedCall (Worker old.worker) old.seen new.seen (InRoom old.room new.cut (Queries AVAIL_DATA answer)) → IsSameSeat old new → (old.out ≡ None) × (new.out ≡ None) → new.tally ≡ old.tally
    → new.hands ≡ old.hands → new.sent ≡ old.sent → LooksAt answer old new
looks_by_query answer old new call same released tally hands sent =
    let point : Ring = call.point in
    let left_is : new.seen ≡ book_of point = call.seen ∙ ap book_of call.called.called.0 in
    record {
      sees = record {
        goes_on = subst (ExtendsSeen (Worker old.worker) old.seen) (sym left_is) call.goes_on;
        seat_same = seat_is old new old.tally old.hands old.sent same released tally hands sent;
      };
      untaken_is = call.called.called.1 ∙ ap (λ (b : Book). query_answer b.setup b.history AVAIL_DATA) (sym left_is);
    }

pub finds_room : (limit untaken : ℕ) (old mid new : WorkerSeat) → SeesMore old mid → LooksAt untaken mid new → untaken ≤ limit → FindsRoom limit old new
finds_room limit untaken old mid new before look le = record {
  sees = sees_on old mid new before look.sees;
  has_room = let is = look.untaken_is in omega (arith, is, le);
}

-- the seat is at the same ring
pub still_at : (ring : Shared) (old new : WorkerSeat) → IsAt ring old → SeesMore old new → IsAt ring new
still_at ring old new at sees = (ap (λ (s : WorkerSeat). s.tag) sees.seat_same ∙ at.0, ap (λ (s : WorkerSeat). s.ring) sees.seat_same ∙ at.1)

pub all_still_at : (limits : List ℕ) (rings : List Shared) (olds news : List WorkerSeat) → AtRings rings olds → FindsRoomInEach limits olds news → AtRings rings news
all_still_at limits rings olds news at found = zip_from rings news (zip_length IsAt rings olds at ∙ sym found.0)
    (λ k r a below.
    let inside : k < length olds = let len = zip_length IsAt rings olds at in omega (arith, below, len) in
    still_at (get_or rings k r) (get_or olds k a) (get_or news k a) (zip_at IsAt rings olds k r a at below) (found.1 k 0 a a inside).sees)
  where
    zip_from : (rs : List Shared) (ss : List WorkerSeat) → length rs ≡ length ss → ((k : ℕ) (r : Shared) (a : WorkerSeat) → k < length rs → IsAt (get_or rs k r) (get_or ss k a)) → AllZip IsAt rs ss
    zip_from [] [] len each = tt
    zip_from [] (s ∷ ss) len each = absurd (omega (arith, len))
    zip_from (r ∷ rs) [] len each = absurd (omega (arith, len))
    zip_from (r ∷ rs) (s ∷ ss) len each = (each 0 r s (omega arith), zip_from rs ss (omega (arith, len)) (λ k d a below. each (suc k) d a (omega (arith, below))))

-- one more ring was looked at
pub found_more : (limits : List ℕ) (olds xs : List WorkerSeat) (at : ℕ) (s new : WorkerSeat) → at < length limits → at < length olds → at < length xs → FindsRoom (get_or limits at 0) (get_or olds at s) new
    → ((k d : ℕ) (b a : WorkerSeat) → k < at → FindsRoom (get_or limits k d) (get_or olds k b) (get_or xs k a))
    → (k d : ℕ) (b a : WorkerSeat) → k < at + 1 → FindsRoom (get_or limits k d) (get_or olds k b) (get_or (set xs at new) k a)
found_more limits olds xs at s new in_limits in_olds in_xs one before k d b a below =
    ⊎_elim
    (λ lower. subst (FindsRoom (get_or limits k d) (get_or olds k b)) (sym (get_or-set_other xs at k new a (omega (arith, lower)))) (before k d b a lower))
    (λ last.
    let same : k ≡ at = omega (arith, last, below) in
    subst (λ j. FindsRoom (get_or limits j d) (get_or olds j b) (get_or (set xs at new) j a)) (sym same)
    (subst (FindsRoom (get_or limits at d) (get_or olds at b)) (sym (get_or-set_same xs at new a in_xs))
    (subst (λ n. FindsRoom n (get_or olds at b) new) (get_or_default limits at 0 d in_limits)
    (subst (λ p. FindsRoom (get_or limits at 0) p new) (get_or_default olds at s b in_olds) one))))
    (cases_lt k at)

-- the same by what is known of the rings
pub found_next : (rings : List Shared) (limits : List ℕ) (olds xs : List WorkerSeat) (at : ℕ) (s new : WorkerSeat) → AtRings rings olds → length limits ≡ length rings → length xs ≡ length olds → at < length rings
    → ((k : ℕ) (b : WorkerSeat) → at ≤ k → get_or xs k b ≡ get_or olds k b) → FindsRoom (get_or limits at 0) (get_or xs at s) new
    → ((k d : ℕ) (b a : WorkerSeat) → k < at → FindsRoom (get_or limits k d) (get_or olds k b) (get_or xs k a))
    → (k d : ℕ) (b a : WorkerSeat) → k < at + 1 → FindsRoom (get_or limits k d) (get_or olds k b) (get_or (set xs at new) k a)
found_next rings limits olds xs at s new at_rings many kept inside later one before =
    let lens = zip_length IsAt rings olds at_rings in
    found_more limits olds xs at s new (omega (arith, many, inside)) (omega (arith, lens, inside)) (omega (arith, kept, lens, inside))
    (subst (λ p. FindsRoom (get_or limits at 0) p new) (later at s (omega arith)) one) before

-- the seats of the later rings are unchanged
pub later_next : (olds xs : List WorkerSeat) (at : ℕ) (new : WorkerSeat) → ((k : ℕ) (b : WorkerSeat) → at ≤ k → get_or xs k b ≡ get_or olds k b) → (k : ℕ) (b : WorkerSeat) → at + 1 ≤ k → get_or (set xs at new) k b ≡ get_or olds k b
later_next olds xs at new later k b le = get_or-set_other xs at k new b (omega (arith, le)) ∙ later k b (omega (arith, le))

-- a list that was lent as a whole contains what was written to it
pub lent_whole : {A : Type 0} (len : ℕ) (new items : List A) → length new ≡ len → take len (new ++ drop (length new) items) ≡ new
lent_whole len new items e = subst (λ n. take n (new ++ drop (length new) items) ≡ new) e (take-append_seam new (drop (length new) items))
