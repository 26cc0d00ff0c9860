-- The requests that each call leaves in a ring's history.
use Rattle.std.proofs.Common.{◌≡◌, ◌≢◌, ◌⊎◌, inl, inr, ⊎_elim, ℕ, zero, suc, ◌<◌, refl, sym, ◌∙◌, ap, subst, ℤ, pos, neg_ℤ, Bool, true, false, cond, List, [], ◌∷◌, ◌++◌, length, set, Option, Some, None, arith, append_assoc, append-nil}
use Rattle.std.specs.Prelude.{is_some, slice_get}
use Rattle.std.specs.List.{cons_option}
use Rattle.std.proofs.lemmas.Bool.{cases_eq, cases_lt, eq-eqb, ne_eqb}
use Rattle.std.proofs.lemmas.Option.{slice_get_within}
use Rattle.std.proofs.lemmas.List.Elements.{filter_map-append}
use Rattle.rb_history.specs.declared.entries.Entry.{Entry}
use Rattle.rb_history.specs.declared.entries.Entry.TheVariants.{Res, Full, Sub, Dis, Take}
use Rattle.rb_history.specs.Calls.{producer_now}
use Rattle.rb_history.specs.History.{grants}
use Rattle.rb_history.specs.RingModel.{Ring}
use Rattle.rb_chapter_ring.specs.HandGranted.{HandGranted}
use Rattle.rb_ledger.specs.Roles.{Book, NoneOwn, is_own}
use Rattle.rb_ledger.specs.Roles.Role.{Worker}
use Rattle.rb_ledger.specs.Seats.{WorkerSeat}
use Rattle.rb_ledger.specs.LockedCalls.{LockedCall}
use Rattle.rb_interp.specs.ErrorNumbers.{EAGAIN, EINVAL}
use Rattle.rb_interp.specs.declared.completed_call.Done.{Done}
use Rattle.rb_interp.specs.declared.completed_call.Done.TheVariants.{Reserve, Submit, Discard, Output, Query}
use Rattle.rb_interp.specs.AnsweredCalls.{AnsweredCall, Reserved, Submitted, Discarded, SentOut, Queried, note_of}
use Rattle.rb_chapter_ring.specs.declared.ring_record.RingRecord.{RingRecord}
use Rattle.rb_jobs.specs.SeatCalls.{AtSeat, CallsSeats, OutputAnswered, RecordAnswered, SeatIsGranted, SeatFindsFull, SeatFindsChapterFull, SeatOutputs, SeatQueries, SeatDiscards, SeatIsRefused, SeatSubmits, NoHandOrSheet, HasNoSheet}
use Rattle.rb_jobs.proofs.Lists.{get_set_here, get_set_other}
use Rattle.rb_run_cost.specs.JobRequests.{Request, request_of, requests_of, request_at, MayLeave, AddsRequests, CallsLeaveRequests}

-- ---- histories

-- another worker's entry is no request of this worker
not_own : (w : ℕ) (before : List Entry) (e : Entry) → is_own (Worker w) before e ≡ false → request_of w e ≡ None
not_own w before (Res v k n p) is = ap (λ b. cond b (Some (record { len = n; granted = true })) None) is
not_own w before (Full v n) is = ap (λ b. cond b (Some (record { len = n; granted = false })) None) is
not_own w before (Sub p) is = refl
not_own w before (Dis p) is = refl
not_own w before (Take p) is = refl

none_own : (w : ℕ) (before es : List Entry) → NoneOwn (Worker w) before es → requests_of w es ≡ []
none_own w before [] h = refl
none_own w before (e ∷ es) h = ap (λ o. cons_option o (requests_of w es)) (not_own w before e h.0) ∙ none_own w (before ++ e ∷ []) es h.1

-- a call under the lock appends the requests of its entries
locked_adds : (w : ℕ) (before after : Book) (Call : Ring → Ring → Type 0) (entries : List Entry) (c : LockedCall (Worker w) before after Call) → c.left.history ≡ c.point.history ++ entries
    → requests_of w after.history ≡ requests_of w before.history ++ requests_of w entries
locked_adds w before after Call entries c logged =
    let seen : requests_of w after.history ≡ requests_of w c.left.history = ap (λ (b : Book). requests_of w b.history) c.seen in
    let split : requests_of w c.left.history ≡ requests_of w c.point.history ++ requests_of w entries = ap (requests_of w) logged ∙ filter_map-append (request_of w) c.point.history entries in
    let others : requests_of w c.goes_on.behind ≡ [] = none_own w before.history c.goes_on.behind c.goes_on.none_own in
    let point : requests_of w c.point.history ≡ requests_of w before.history =
    ap (requests_of w) c.goes_on.history_is ∙ (filter_map-append (request_of w) before.history c.goes_on.behind ∙ (ap (λ xs. requests_of w before.history ++ xs) others ∙ append-nil (requests_of w before.history))) in
    seen ∙ (split ∙ ap (λ xs. xs ++ requests_of w entries) point)

-- a grant and a refusal are requests of their worker
granted_entry : (w k n p : ℕ) (rest : List Entry) → requests_of w (Res w k n p ∷ rest) ≡ record { len = n; granted = true } ∷ requests_of w rest
granted_entry w k n p rest = ap (λ b. cons_option (cond b (Some (record { len = n; granted = true })) None) (requests_of w rest)) (eq-eqb w w refl)

refused_entry : (w n : ℕ) → requests_of w (Full w n ∷ []) ≡ record { len = n; granted = false } ∷ []
refused_entry w n = ap (λ b. cons_option (cond b (Some (record { len = n; granted = false })) None) []) (eq-eqb w w refl)

-- ---- one seat

no_change : (s : WorkerSeat) → AddsRequests s s []
no_change s = record { same_worker = refl; requests = sym (append-nil (requests_of s.worker s.seen.history)) }

unchanged : (b a : WorkerSeat) → a ≡ b → AddsRequests b a []
unchanged b a is = subst (λ s. AddsRequests b s []) (sym is) (no_change b)

granted_adds : (n : ℕ) (r : HandGranted) (b a : WorkerSeat) → SeatIsGranted n r b a → AddsRequests b a (record { len = n; granted = true } ∷ [])
granted_adds n r b a did =
    let c = did.0 in
    record {
      same_worker = ap (λ (s : WorkerSeat). s.worker) did.4;
      requests = locked_adds b.worker b.seen a.seen _ _ c c.called.called.0.logged.history_is
          ∙ ap (λ xs. requests_of b.worker b.seen.history ++ xs) (granted_entry b.worker r.granted.serial n r.granted.pos []);
    }

full_adds : (n : ℕ) (b a : WorkerSeat) → SeatFindsFull n b a → AddsRequests b a (record { len = n; granted = false } ∷ [])
full_adds n b a did =
    let c = did.0 in
    record {
      same_worker = ap (λ (s : WorkerSeat). s.worker) did.1;
      requests = locked_adds b.worker b.seen a.seen _ _ c c.called.called.0.logged.history_is ∙ ap (λ xs. requests_of b.worker b.seen.history ++ xs) (refused_entry b.worker n);
    }

-- a call that changes nothing in the ring
same_ring : (b a : WorkerSeat) (Call : Ring → Ring → Type 0) (c : LockedCall (Worker b.worker) b.seen a.seen Call) → c.left ≡ c.point → a.worker ≡ b.worker → AddsRequests b a []
same_ring b a Call c same worker =
    record { same_worker = worker; requests = locked_adds b.worker b.seen a.seen Call [] c (ap (λ (v : Ring). v.history) same ∙ sym (append-nil c.point.history)) }

chapter_full_adds : (n : ℕ) (b a : WorkerSeat) → SeatFindsChapterFull n b a → AddsRequests b a []
chapter_full_adds n b a did = same_ring b a _ did.0 did.0.called.called.same (ap (λ (s : WorkerSeat). s.worker) did.1)

query_adds : (what answer : ℕ) (b a : WorkerSeat) → SeatQueries what answer b a → AddsRequests b a []
query_adds what answer b a did = same_ring b a _ did.0 did.0.called.called.0 (ap (λ (s : WorkerSeat). s.worker) did.1)

submit_adds : (r : HandGranted) (flags : ℕ) (taken due : Bool) (b a : WorkerSeat) → SeatSubmits r flags taken due b a → AddsRequests b a []
submit_adds r flags true due b a did =
    let took = did.takes refl in
    record { same_worker = ap (λ (s : WorkerSeat). s.worker) took.1; requests = locked_adds b.worker b.seen a.seen _ _ took.0 took.0.called.called.0.logged.history_is }
submit_adds r flags false due b a did = unchanged b a (did.hands_back refl).1

discard_adds : (r : HandGranted) (flags : ℕ) (taken due : Bool) (b a : WorkerSeat) → SeatDiscards r flags taken due b a → AddsRequests b a []
discard_adds r flags true due b a did =
    let took = did.takes refl in
    record { same_worker = ap (λ (s : WorkerSeat). s.worker) took.1; requests = locked_adds b.worker b.seen a.seen _ _ took.0 took.0.called.called.0.logged.history_is }
discard_adds r flags false due b a did = unchanged b a (did.hands_back refl).1

output_adds : (bytes : List ℕ) (flags : ℕ) (due : Bool) (b a : WorkerSeat) → SeatOutputs bytes flags due b a → AddsRequests b a (record { len = length bytes; granted = true } ∷ [])
output_adds bytes flags due b a c =
    record {
      same_worker = ap (λ (s : WorkerSeat). s.worker) c.called.called.1;
      requests = locked_adds b.worker b.seen a.seen _ _ c c.called.called.0.0.logged.history_is ∙ ap (λ xs. requests_of b.worker b.seen.history ++ xs) (granted_entry b.worker (grants b.worker c.point.history) (length bytes) (producer_now c.point) (Sub (producer_now c.point) ∷ []));
    }

-- a seat that was refused a record leaves a refused request, or none
refusal_adds : (Uncalled : WorkerSeat → Type 0) (n unlogged : ℕ) (b a : WorkerSeat) → SeatIsRefused Uncalled n unlogged b a
    → AddsRequests b a [] ⊎ AddsRequests b a (record { len = n; granted = false } ∷ [])
refusal_adds Uncalled n unlogged b a (inl full) = inr (full_adds n b a full.0)
refusal_adds Uncalled n unlogged b a (inr (inl gave_up)) = inl (chapter_full_adds n b a gave_up.0.at_last)
refusal_adds Uncalled n unlogged b a (inr (inr uncalled)) = inl (unchanged b a uncalled.1)

-- ---- all seats of a worker, in one call

at_own : (r len : ℕ) (granted : Bool) → request_at r r len granted ≡ record { len = len; granted = granted } ∷ []
at_own r len granted = ap (λ b. cond b (record { len = len; granted = granted } ∷ []) []) (eq-eqb r r refl)

at_other : (ring r len : ℕ) (granted : Bool) → ring ≢ r → request_at ring r len granted ≡ []
at_other ring r len granted other = ap (λ b. cond b (record { len = len; granted = granted } ∷ []) []) (ne_eqb r ring (λ e. other (sym e)))

-- at each ring the call leaves what it may leave there
abbrev LeavesAt : Done → ℕ → WorkerSeat → List WorkerSeat → Type 0
LeavesAt call ring b new = (a : WorkerSeat) × (left : List Request) × (slice_get new ring ≡ Some a) × AddsRequests b a left × MayLeave ring call left

abbrev CallLeaves : Done → List WorkerSeat → List WorkerSeat → Type 0
CallLeaves call old new = (ring : ℕ) (b : WorkerSeat) → slice_get old ring ≡ Some b → LeavesAt call ring b new

-- nothing changed
leaves_nowhere : (call : Done) (old new : List WorkerSeat) → new ≡ old → ((ring : ℕ) → MayLeave ring call []) → CallLeaves call old new
leaves_nowhere call old new is may ring b got = (b, [], ap (λ xs. slice_get xs ring) is ∙ got, no_change b, may ring)

same_some : {X : Type 0} (x y : X) → Some x ≡ Some y → x ≡ y
same_some x y e = cc

-- one seat changed
leaves_one : (call : Done) (r : ℕ) (Did : WorkerSeat → WorkerSeat → Type 0) (old new : List WorkerSeat) (at : AtSeat r Did old new)
    → ((left : List Request) × AddsRequests at.before at.after left × MayLeave r call left) → ((ring : ℕ) → ring ≢ r → MayLeave ring call []) → CallLeaves call old new
leaves_one call r Did old new at here others ring b got =
    ⊎_elim
    (λ same.
    let own : at.before ≡ b = same_some at.before b (sym at.before_is ∙ (ap (slice_get old) (sym same) ∙ got)) in
    let inside : r < length old = slice_get_within old r at.before at.before_is in
    let after : slice_get new ring ≡ Some at.after = ap (λ xs. slice_get xs ring) at.new_is ∙ (ap (slice_get (set old r at.after)) same ∙ get_set_here old r at.after inside) in
    (at.after, here.0, after, subst (λ s. AddsRequests s at.after here.0) own here.1, subst (λ n. MayLeave n call here.0) (sym same) here.2))
    (λ other. (b, [], ap (λ xs. slice_get xs ring) at.new_is ∙ (get_set_other old r ring at.after other ∙ got), no_change b, others ring other))
    (cases_eq ring r)

reserve_leaves : (r n flags unlogged : ℕ) (old new : List WorkerSeat) (answer : Option RingRecord) (due : Bool) → CallsSeats (Reserved r n flags answer) due unlogged old new
    → CallLeaves (Reserve r n flags (is_some answer)) old new
reserve_leaves r n flags unlogged old new (Some owned) due did =
    leaves_one (Reserve r n flags true) r _ old new did.0.3
    (record { len = n; granted = true } ∷ [], granted_adds n owned.reservation did.0.3.before did.0.3.after did.0.3.did, inl (sym (at_own r n true)))
    (λ ring other. inl (sym (at_other ring r n true other)))
reserve_leaves r n zero unlogged old new None due did =
    let at = did.0.0 refl in
    leaves_one (Reserve r n 0 false) r _ old new at
    (⊎_elim
    (λ none. ([], none, inl refl))
    (λ full. (record { len = n; granted = false } ∷ [], full, inr (sym (at_own r n false))))
    (refusal_adds (NoHandOrSheet n) n unlogged at.before at.after at.did))
    (λ ring other. inl refl)
reserve_leaves r n (suc flags) unlogged old new None due did = leaves_nowhere (Reserve r n (suc flags) false) old new (did.0.1 (λ e. absurd (omega (arith, e)))).0 (λ ring. inl refl)

-- ending a record leaves no request
given_leaves : (call : Done) (r : ℕ) (taken due : Bool) (Did : WorkerSeat → WorkerSeat → Type 0) (old new : List WorkerSeat) → ((b a : WorkerSeat) → Did b a → AddsRequests b a []) → ((ring : ℕ) → MayLeave ring call [])
    → RecordAnswered r taken due Did old new → CallLeaves call old new
given_leaves call r taken due Did old new adds may did =
    ⊎_elim
    (λ inside. let at = did.at_ring inside in leaves_one call r Did old new at ([], adds at.before at.after at.did, may r) (λ ring other. may ring))
    (λ past. leaves_nowhere call old new (did.no_ring past).2 may)
    (cases_lt r (length old))

output_leaves : (r : ℕ) (bytes : List ℕ) (flags : ℕ) (answer : ℤ) (due : Bool) (unlogged : ℕ) (old new : List WorkerSeat) → OutputAnswered r bytes flags answer due unlogged old new
    → CallLeaves (Output r (length bytes) flags answer) old new
output_leaves r bytes flags answer due unlogged old new did =
    ⊎_elim
    (λ sent.
    let at = (did.sent sent).0 in
    subst (λ x. CallLeaves (Output r (length bytes) flags x) old new) (sym sent)
    (leaves_one (Output r (length bytes) flags (pos 0)) r _ old new at
    (record { len = length bytes; granted = true } ∷ [], output_adds bytes flags due at.before at.after at.did, inl (sym (at_own r (length bytes) true)))
    (λ ring other. inl (sym (at_other ring r (length bytes) true other)))))
    (λ failed.
    ⊎_elim
    (λ again.
    let at = (did.refused again).0 in
    subst (λ x. CallLeaves (Output r (length bytes) flags x) old new) (sym again)
    (leaves_one (Output r (length bytes) flags (neg_ℤ EAGAIN)) r _ old new at
    (⊎_elim
    (λ none. ([], none, inl refl))
    (λ full. (record { len = length bytes; granted = false } ∷ [], full, inr (sym (at_own r (length bytes) false))))
    (refusal_adds (HasNoSheet (length bytes)) (length bytes) unlogged at.before at.after at.did))
    (λ ring other. inl refl)))
    (λ bad. subst (λ x. CallLeaves (Output r (length bytes) flags x) old new) (sym bad) (leaves_nowhere (Output r (length bytes) flags (neg_ℤ EINVAL)) old new (did.no_step bad).0 (λ ring. inl refl)))
    failed)
    did.answer_is.1

call_leaves : (call : AnsweredCall RingRecord) (due : Bool) (unlogged : ℕ) (old new : List WorkerSeat) → CallsSeats call due unlogged old new → CallLeaves (note_of call) old new
call_leaves (Reserved r n flags answer) due unlogged old new did = reserve_leaves r n flags unlogged old new answer due did
call_leaves (Submitted owned flags taken) due unlogged old new did =
    given_leaves (Submit flags taken) owned.ring taken due _ old new (submit_adds owned.reservation flags taken due) (λ ring. inl refl) did.0
call_leaves (Discarded owned flags taken) due unlogged old new did =
    given_leaves (Discard flags taken) owned.ring taken due _ old new (discard_adds owned.reservation flags taken due) (λ ring. inl refl) did.0
call_leaves (SentOut r bytes flags answer) due unlogged old new did = output_leaves r bytes flags answer due unlogged old new did
call_leaves (Queried r what answer) due unlogged old new did =
    leaves_one (Query r what answer) r _ old new did.0 ([], query_adds what answer did.0.before did.0.after did.0.did, inl refl) (λ ring other. inl refl)

-- ---- a sequence of calls

pub calls_leave : CallsLeaveRequests
calls_leave old new [] unlogged ring before led got =
    record { after = before; left = []; is_there = ap (λ xs. slice_get xs ring) led.0 ∙ got; adds = no_change before; are_left = refl }
calls_leave old new (call ∷ calls) unlogged ring before led got =
    let one = call_leaves call led.0 led.2 old led.1 led.4 ring before got in
    let more = calls_leave led.1 new calls led.3 ring one.0 led.5 one.2 in
    let further : requests_of before.worker more.after.seen.history ≡ requests_of before.worker one.0.seen.history ++ more.left =
    subst (λ w. requests_of w more.after.seen.history ≡ requests_of w one.0.seen.history ++ more.left) one.3.same_worker more.adds.requests in
    record {
      after = more.after;
      left = one.1 ++ more.left;
      is_there = more.is_there;
      adds = record {
        same_worker = more.adds.same_worker ∙ one.3.same_worker;
        requests = further ∙ (ap (λ xs. xs ++ more.left) one.3.requests ∙ append_assoc (requests_of before.worker before.seen.history) one.1 more.left);
      };
      are_left = (one.1, more.left, refl, one.4, more.are_left);
    }
