-- The requests that a job leaves are within the cost of its program.
use Rattle.std.proofs.Common.{◌≡◌, inl, inr, ℕ, zero, suc, ◌+◌, ◌≤◌, sym, ◌∙◌, ap, subst, pos, negsuc, Bool, true, false, cond, List, [], ◌∷◌, ◌++◌, arith}
use Rattle.std.proofs.Math.Nat.{le_trans}
use Rattle.std.specs.Prelude.{◌==◌, sum_by}
use Rattle.std.proofs.lemmas.List.Sums.{sum_by-append, sum_by-cons}
use Rattle.rb_history.specs.Span.{span}
use Rattle.rb_interp.specs.declared.completed_call.Done.{Done}
use Rattle.rb_interp.specs.declared.completed_call.Done.TheVariants.{Reserve, Submit, Discard, Output, Query}
use Rattle.rb_interp.specs.AnsweredCalls.{notes_of}
use Rattle.rb_run_cost.specs.CallCosts.{asked_span, AreCallsWithin}
use Rattle.rb_run_cost.proofs.TracedCalls.{calls_stay}
use Rattle.rb_jobs.specs.SeatHelpers.{is_no_record}
use Rattle.rb_chapter_ring.specs.RingRecords.{reserved_bytes, with_record_bytes}
use Rattle.rb_run_cost.specs.JobRequests.{Request, request_at, granted_by, refused_by, MayLeave, AreLeft}
use Rattle.rb_run_cost.specs.JobCosts.{requested_bytes, JobsAskWithin}
use Rattle.rb_run_cost.proofs.Leaving.{calls_leave}

joined : (xs ys : List Request) → requested_bytes (xs ++ ys) ≡ requested_bytes xs + requested_bytes ys
joined xs ys = sum_by-append (λ (q : Request). span q.len) xs ys

at_bytes : (ring r len : ℕ) (granted : Bool) → requested_bytes (request_at ring r len granted) ≤ cond (r == ring) (span len) 0
at_bytes ring r len granted = elim (r == ring) as (λ b. requested_bytes (cond b (record { len = len; granted = granted } ∷ []) []) ≤ cond b (span len) 0) [ true ↦ omega arith | false ↦ omega arith ]

if_bytes : (b : Bool) (ring r len : ℕ) → requested_bytes (cond b (request_at ring r len false) []) ≤ cond (r == ring) (span len) 0
if_bytes true ring r len = at_bytes ring r len false
if_bytes false ring r len = omega arith

granted_bytes : (ring : ℕ) (call : Done) → requested_bytes (granted_by ring call) ≤ asked_span ring call
granted_bytes ring (Reserve r len flags true) = at_bytes ring r len true
granted_bytes ring (Reserve r len flags false) = omega arith
granted_bytes ring (Submit flags taken) = omega arith
granted_bytes ring (Discard flags taken) = omega arith
granted_bytes ring (Output r len flags (pos zero)) = at_bytes ring r len true
granted_bytes ring (Output r len flags (pos (suc n))) = omega arith
granted_bytes ring (Output r len flags (negsuc n)) = omega arith
granted_bytes ring (Query r what answer) = omega arith

-- followed by nothing
alone : (xs : List Request) (n : ℕ) → requested_bytes xs ≤ n → requested_bytes (xs ++ []) ≤ n
alone xs n le = let both : requested_bytes (xs ++ []) ≡ requested_bytes xs + requested_bytes [] = joined xs [] in omega arith

both_bytes : (ring : ℕ) (call : Done) → requested_bytes (granted_by ring call ++ refused_by ring call) ≤ asked_span ring call
both_bytes ring (Reserve r len zero true) = alone (request_at ring r len true) (cond (r == ring) (span len) 0) (at_bytes ring r len true)
both_bytes ring (Reserve r len (suc flags) true) = alone (request_at ring r len true) (cond (r == ring) (span len) 0) (at_bytes ring r len true)
both_bytes ring (Reserve r len zero false) = at_bytes ring r len false
both_bytes ring (Reserve r len (suc flags) false) = omega arith
both_bytes ring (Submit flags taken) = omega arith
both_bytes ring (Discard flags taken) = omega arith
both_bytes ring (Output r len flags (pos zero)) = alone (request_at ring r len true) (cond (r == ring) (span len) 0) (at_bytes ring r len true)
both_bytes ring (Output r len flags (pos (suc n))) = if_bytes (is_no_record (pos (suc n))) ring r len
both_bytes ring (Output r len flags (negsuc n)) = if_bytes (is_no_record (negsuc n)) ring r len
both_bytes ring (Query r what answer) = omega arith

one_call : (ring : ℕ) (call : Done) (left : List Request) → MayLeave ring call left → requested_bytes left ≤ asked_span ring call
one_call ring call left (inl is) = subst (λ l. requested_bytes l ≤ asked_span ring call) (sym is) (granted_bytes ring call)
one_call ring call left (inr is) = subst (λ l. requested_bytes l ≤ asked_span ring call) (sym is) (both_bytes ring call)

pub all_calls : (ring : ℕ) (calls : List Done) (left : List Request) → AreLeft ring calls left → requested_bytes left ≤ sum_by (asked_span ring) calls
all_calls ring [] left is = subst (λ l. requested_bytes l ≤ 0) (sym is) (omega arith)
all_calls ring (call ∷ calls) left h =
    let first : requested_bytes h.0 ≤ asked_span ring call = one_call ring call h.0 h.3 in
    let rest : requested_bytes h.1 ≤ sum_by (asked_span ring) calls = all_calls ring calls h.1 h.4 in
    let both : requested_bytes left ≡ requested_bytes h.0 + requested_bytes h.1 = ap requested_bytes h.2 ∙ joined h.0 h.1 in
    let more : sum_by (asked_span ring) (call ∷ calls) ≡ asked_span ring call + sum_by (asked_span ring) calls = sum_by-cons (asked_span ring) call calls in
    omega arith

pub jobs_ask : JobsAskWithin
jobs_ask task answer old new cost ring before ran verified is knows got =
    let leaves = calls_leave old new ran.calls answer.unlogged ring before ran.led got in
    let calls : AreCallsWithin task.program cost (notes_of ran.calls) = calls_stay reserved_bytes with_record_bytes task.program cost task.context ran.calls answer.result verified is ran.length_is ran.shows in
    record {
      after = leaves.after;
      left = leaves.left;
      is_there = leaves.is_there;
      adds = leaves.adds;
      within = le_trans (all_calls ring (notes_of ran.calls) leaves.left leaves.are_left) (calls.bytes ring knows);
    }
