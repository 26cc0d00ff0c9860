-- The turns of a worker cut the history of a ring as admission requires.
use Rattle.std.proofs.Common.{◌≡◌, ℕ, zero, suc, ◌+◌, ◌-◌, ◌*◌, ◌<◌, ◌≤◌, false, cond, List, [], ◌∷◌, ◌++◌, length, get_or, map, refl, sym, ap, ◌∙◌, subst, append-nil, append_assoc, arith, Some}
use Rattle.std.specs.Prelude.{slice_get, unwrap_or}
use Rattle.std.specs.List.{AllZip, flat_map}
use Rattle.std.proofs.lemmas.List.Sums.{sum_by-append, sum_by-cons}
use Rattle.std.proofs.lemmas.Option.{get_or_from_slice_get, none-some, slice_get-get_or, slice_get_within}
use Rattle.rb_history.specs.declared.entries.Entry.{Entry}
use Rattle.rb_history.specs.declared.entries.Entry.TheVariants.{Res, Full, Sub, Dis, Take}
use Rattle.rb_history.specs.declared.notices_and_queries.TheConstants.{AVAIL_DATA}
use Rattle.rb_history.specs.NoticesAndQueries.{query_answer}
use Rattle.rb_history.specs.RoomRule.{Setup}
use Rattle.rb_history.specs.Span.{span}
use Rattle.rb_admission.specs.Admission.{HasTurns, LooksBeforeItAsks, MayBegin, asked_bytes, asked_span}
use Rattle.rb_verifier.specs.Subject.{Subject}
use Rattle.rb_cost.specs.declared.cost.Cost.{Cost}
use Rattle.rb_ledger.specs.Roles.{NoneOwn, is_own}
use Rattle.rb_ledger.specs.Roles.Role.{Worker}
use Rattle.rb_ledger.specs.Seats.{WorkerSeat}
use Rattle.rb_jobs.specs.SeatLaws.{SeatBegins}
use Rattle.rb_run_cost.specs.JobRequests.{Request, requests_of}
use Rattle.rb_run_cost.specs.JobCosts.{requested_bytes}
use Rattle.rb_run_cost.proofs.Refusals.{asked_is}
use Rattle.rb_stream_worker.specs.Tasks.{TaskRun}
use Rattle.rb_stream_worker.specs.Turns.{FindsRoom, RunsTurn, RunsTurns}
use Rattle.rb_stream_worker.specs.declared.when_full.Turns.{Turns}
use Rattle.rb_stream_worker.specs.declared.when_full.WhenFull.TheVariants.{Refuse}
use Rattle.rb_stream.proofs.TaskRuns.{tasks_begin}
use Rattle.rb_waiting.specs.Plans.{LeavesRoom, bytes_asked}
use Rattle.rb_waiting.proofs.Asked.{HasCost, runs_ask, turn_bytes}

-- ---- entries that are not a worker's own

not_own : (w : ℕ) (before : List Entry) (e : Entry) → is_own (Worker w) before e ≡ false → asked_span w e ≡ 0
not_own w before (Res v k n p) is = ap (λ b. cond b (span n) 0) is
not_own w before (Full v n) is = ap (λ b. cond b (span n) 0) is
not_own w before (Sub p) is = refl
not_own w before (Dis p) is = refl
not_own w before (Take p) is = refl

pub none_asked : (w : ℕ) (before es : List Entry) → NoneOwn (Worker w) before es → asked_bytes w es ≡ 0
none_asked w before [] none = refl
none_asked w before (e ∷ es) none =
    let here = not_own w before e none.0 in
    let rest = none_asked w (before ++ e ∷ []) es none.1 in
    let sum = sum_by-cons (asked_span w) e es in
    omega (arith, here, rest, sum)

-- ---- elements of lists that are related elementwise

pub same_some : {A : Type 0} (x y : A) → Some x ≡ Some y → x ≡ y
same_some x y e = ap (λ o. unwrap_or o x) e

pub zip_get : {A : Type 0} (R : A → A → Type 0) (xs ys : List A) (i : ℕ) (x y : A) → AllZip R xs ys → slice_get xs i ≡ Some x → slice_get ys i ≡ Some y → R x y
zip_get R [] ys i x y zip is there = absurd (none-some x is)
zip_get R (a ∷ xs) [] i x y zip is there = absurd zip
zip_get R (a ∷ xs) (b ∷ ys) zero x y zip is there = subst (λ p. R p y) (same_some a x is) (subst (R a) (same_some b y there) zip.0)
zip_get R (a ∷ xs) (b ∷ ys) (suc i) x y zip is there = zip_get R xs ys i x y zip.1 is there

-- ---- one turn

module _ (ring w : ℕ) (t : Turns) (programs : List Subject) (costs : List Cost) (many : length programs ≡ length costs)
    (has_cost : (p : ℕ) (program : Subject) → slice_get programs p ≡ Some program → HasCost ring programs costs p program) (r : Setup) (room : (d : ℕ) → LeavesRoom r (t.contexts * bytes_asked costs ring) (get_or t.limits.items ring d)) where
  abbrev pub turn : ℕ
  turn = t.contexts * bytes_asked costs ring

  -- the seat looked, and then its worker had a turn
  record HasTurn (before after : WorkerSeat) : Type 0 where
    idle : List Entry
    asks : List Entry
    setup_same : after.seen.setup ≡ before.seen.setup
    same_worker : after.worker ≡ before.worker
    whole : after.seen.history ≡ (before.seen.history ++ idle) ++ asks
    nothing : asked_bytes before.worker idle ≡ 0
    begins : MayBegin r turn (before.seen.history ++ idle)
    few : asked_bytes before.worker asks ≤ turn

  one_turn : (runs : List TaskRun) (old new : List WorkerSeat) (before : WorkerSeat) → RunsTurn t w programs runs old new → slice_get old ring ≡ Some before → before.seen.setup ≡ r
      → (after : WorkerSeat) × (slice_get new ring ≡ Some after) × HasTurn before after
  one_turn runs old new before does at setup =
      let below : ring < length old = slice_get_within old ring before at in
      let found : FindsRoom (get_or t.limits.items ring 0) (get_or old ring before) (get_or does.looked ring before) = does.found.1 ring 0 before before below in
      let is_old : get_or old ring before ≡ before = get_or_from_slice_get old ring before before at in
      let looked : WorkerSeat = get_or does.looked ring before in
      let look : FindsRoom (get_or t.limits.items ring 0) before looked = subst (λ s. FindsRoom (get_or t.limits.items ring 0) s looked) is_old found in
      let there : slice_get does.looked ring ≡ Some looked = slice_get-get_or does.looked ring before (omega (arith, below, does.found.0)) in
      let asks = runs_ask ring w programs costs has_cost runs does.looked new looked does.ran there in
      let begun : SeatBegins looked asks.after = zip_get SeatBegins does.looked new ring looked asks.after (tasks_begin Refuse w programs runs does.looked new does.ran) there asks.is_there in
      let is_worker : looked.worker ≡ before.worker = ap (λ (s : WorkerSeat). s.worker) look.sees.seat_same in
      let goes = look.sees.goes_on in
      let seen_is : looked.seen.history ≡ before.seen.history ++ goes.behind = goes.history_is in
      let looked_setup : looked.seen.setup ≡ r = goes.setup_same ∙ setup in
      let few = turn_bytes costs ring t.contexts (map (λ (run : TaskRun). run.task) runs) does.not_run does.contexts (length programs) many does.tasks_are does.few in
      let v = looked.worker in
      let split = sum_by-append (asked_span v) looked.seen.history begun.behind in
      let after_is : asked_bytes v asks.after.seen.history ≡ asked_bytes v (looked.seen.history ++ begun.behind) = ap (asked_bytes v) begun.history_is in
      let by_requests : asked_bytes v asks.after.seen.history ≡ requested_bytes (requests_of v looked.seen.history ++ asks.left) = asked_is v asks.after.seen.history ∙ ap requested_bytes asks.requests in
      let joined = sum_by-append (λ (q : Request). span q.len) (requests_of v looked.seen.history) asks.left in
      let before_is = asked_is v looked.seen.history in
      let within = asks.within in
      let own : asked_bytes v begun.behind ≤ turn = omega (arith, few, split, after_is, by_requests, joined, before_is, within) in
      let has_room : query_answer r looked.seen.history AVAIL_DATA ≤ get_or t.limits.items ring 0 = subst (λ (s : Setup). query_answer s looked.seen.history AVAIL_DATA ≤ get_or t.limits.items ring 0) looked_setup look.has_room in
      let leaves : get_or t.limits.items ring 0 + r.workers * turn + 1 ≡ r.size = room 0 in
      let may : query_answer r looked.seen.history AVAIL_DATA + r.workers * turn ≤ r.size - 1 = omega (arith, has_room, leaves) in (
        asks.after,
        asks.is_there,
        record {
          idle = goes.behind;
          asks = begun.behind;
          setup_same = begun.setup_same ∙ goes.setup_same;
          same_worker = asks.same_worker ∙ is_worker;
          whole = begun.history_is ∙ ap (λ l. l ++ begun.behind) seen_is;
          nothing = none_asked before.worker before.seen.history goes.behind goes.none_own;
          begins = subst (MayBegin r turn) seen_is may;
          few = subst (λ x. asked_bytes x begun.behind ≤ turn) is_worker own;
        },
      )

  -- ---- all turns

  -- from what a seat has seen on, a history continues with turns
  pub record GoesOnByTurns (h : List Entry) (seat : WorkerSeat) : Type 0 where
    pub idle : List Entry
    pub turns : List (List Entry)
    pub whole : h ≡ (seat.seen.history ++ idle) ++ flat_map (λ entries. entries) turns
    pub nothing : asked_bytes seat.worker idle ≡ 0
    pub in_turns : HasTurns r turn seat.worker (seat.seen.history ++ idle) turns

  -- a history that continues from what the seat has last seen, without entries of its worker
  ends : (h : List Entry) (seat : WorkerSeat) (rest : List Entry) → h ≡ seat.seen.history ++ rest → asked_bytes seat.worker rest ≡ 0 → GoesOnByTurns h seat
  ends h seat rest is none = record { idle = rest; turns = []; whole = is ∙ sym (append-nil (seat.seen.history ++ rest)); nothing = none; in_turns = tt }

  -- a turn first, and then what follows it
  turn_first : (h : List Entry) (before after : WorkerSeat) → HasTurn before after → GoesOnByTurns h after → GoesOnByTurns h before
  turn_first h before after one more =
      let own : asked_bytes before.worker more.idle ≡ 0 = subst (λ v. asked_bytes v more.idle ≡ 0) one.same_worker more.nothing in
      let both = sum_by-append (asked_span before.worker) one.asks more.idle in
      let few = one.few in
      let seen : List Entry = before.seen.history ++ one.idle in
      let after_is : after.seen.history ++ more.idle ≡ seen ++ (one.asks ++ more.idle) = ap (λ l. l ++ more.idle) one.whole ∙ append_assoc seen one.asks more.idle in
      let later : HasTurns r turn before.worker (after.seen.history ++ more.idle) more.turns = subst (λ v. HasTurns r turn v (after.seen.history ++ more.idle) more.turns) one.same_worker more.in_turns in
      record {
        idle = one.idle;
        turns = (one.asks ++ more.idle) ∷ more.turns;
        whole = more.whole ∙ (ap (λ l. l ++ flat_map (λ entries. entries) more.turns) after_is ∙ append_assoc seen (one.asks ++ more.idle) (flat_map (λ entries. entries) more.turns));
        nothing = one.nothing;
        in_turns = (one.begins, omega (arith, own, both, few), subst (λ l. HasTurns r turn before.worker l more.turns) after_is later);
      }

  pub by_turns : (h : List Entry) (parts : List (List TaskRun)) (old new : List WorkerSeat) (before last : WorkerSeat) (rest : List Entry) → RunsTurns t w programs parts old new → slice_get old ring ≡ Some before → before.seen.setup ≡ r
      → slice_get new ring ≡ Some last → h ≡ last.seen.history ++ rest → asked_bytes last.worker rest ≡ 0 → GoesOnByTurns h before
  by_turns h [] old new before last rest same at setup there is none =
      let one : last ≡ before = same_some last before (sym there ∙ (ap (λ (l : List WorkerSeat). slice_get l ring) same ∙ at)) in
      ends h before rest (is ∙ ap (λ (s : WorkerSeat). s.seen.history ++ rest) one) (ap (λ (s : WorkerSeat). asked_bytes s.worker rest) (sym one) ∙ none)
  by_turns h (runs ∷ parts) old new before last rest (mid, first, more) at setup there is none =
      let one = one_turn runs old mid before first at setup in
      turn_first h before one.0 one.2 (by_turns h parts mid new one.0 last rest more one.1 (one.2.setup_same ∙ setup) there is none)

  -- so each worker looks before it requests records, if it had requested none before
  pub looks : (h : List Entry) (before : WorkerSeat) → before.worker ≡ w → asked_bytes before.worker before.seen.history ≡ 0 → GoesOnByTurns h before → LooksBeforeItAsks r turn w h
  looks h before is none goes =
      let both = sum_by-append (asked_span before.worker) before.seen.history goes.idle in
      let nothing = goes.nothing in
      record {
        first = before.seen.history ++ goes.idle;
        turns = goes.turns;
        whole = goes.whole;
        idle = subst (λ v. asked_bytes v (before.seen.history ++ goes.idle) ≡ 0) is (omega (arith, both, none, nothing));
        in_turns = subst (λ v. HasTurns r turn v (before.seen.history ++ goes.idle) goes.turns) is goes.in_turns;
      }
