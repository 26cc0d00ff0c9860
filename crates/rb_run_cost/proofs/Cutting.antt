-- The runs of a worker cut each history that has their requests.
use Rattle.std.proofs.Common.{◌≡◌, ℕ, refl, sym, ◌∙◌, ap, subst, cond, List, [], ◌∷◌, ◌++◌, filter_map, Option, Some, None, append_assoc, append-nil}
use Rattle.std.specs.Prelude.{slice_get}
use Rattle.std.specs.List.{AllZip, cons_option, flat_map}
use Rattle.rb_history.specs.declared.entries.Entry.{Entry}
use Rattle.rb_interp.specs.AnsweredCalls.{notes_of}
use Rattle.rb_ledger.specs.Seats.{WorkerSeat}
use Rattle.rb_run_cost.specs.JobRequests.{Request, request_of, requests_of, AreLeft, LeavesRequests}
use Rattle.rb_run_cost.proofs.Leaving.{calls_leave}
use Rattle.rb_workers.specs.JobRuns.{JobRun, RunsInTurn}
use Rattle.rb_run_cost.specs.RunCosts.{RunsCut, RunsCutHistories}

-- ---- a history is cut at its requests

record CutAt (w : ℕ) (h : List Entry) (xs ys : List Request) : Type 0 where
  front : List Entry
  back : List Entry
  whole : h ≡ front ++ back
  first : requests_of w front ≡ xs
  rest : requests_of w back ≡ ys

same_head : {X : Type 0} (x y : X) (xs ys : List X) → x ∷ xs ≡ y ∷ ys → x ≡ y
same_head x y xs ys e = cc

same_tail : {X : Type 0} (x y : X) (xs ys : List X) → x ∷ xs ≡ y ∷ ys → xs ≡ ys
same_tail x y xs ys e = cc

cut_at : (w : ℕ) (h : List Entry) (xs ys : List Request) → requests_of w h ≡ xs ++ ys → CutAt w h xs ys
cut_at w h [] ys is = record { front = []; back = h; whole = refl; first = refl; rest = is }
cut_at w [] (x ∷ xs) ys is = absurd (cc)
cut_at w (e ∷ h) (x ∷ xs) ys is = by_request (request_of w e) refl (cut_at w h (x ∷ xs) ys) (cut_at w h xs ys)
  where
    by_request : (o : Option Request) → request_of w e ≡ o → (requests_of w h ≡ x ∷ xs ++ ys → CutAt w h (x ∷ xs) ys) → (requests_of w h ≡ xs ++ ys → CutAt w h xs ys) → CutAt w (e ∷ h) (x ∷ xs) ys
    by_request None none other own =
        let c = other (ap (λ o. cons_option o (requests_of w h)) (sym none) ∙ is) in
        record { front = e ∷ c.front; back = c.back; whole = ap (λ t. e ∷ t) c.whole; first = ap (λ o. cons_option o (requests_of w c.front)) none ∙ c.first; rest = c.rest }
    by_request (Some q) some other own =
        let both : q ∷ requests_of w h ≡ x ∷ (xs ++ ys) = ap (λ o. cons_option o (requests_of w h)) (sym some) ∙ is in
        let c = own (same_tail q x (requests_of w h) (xs ++ ys) both) in
        record {
          front = e ∷ c.front;
          back = c.back;
          whole = ap (λ t. e ∷ t) c.whole;
          first = ap (λ o. cons_option o (requests_of w c.front)) some ∙ (ap (λ r. r ∷ requests_of w c.front) (same_head q x (requests_of w h) (xs ++ ys) both) ∙ ap (λ t. x ∷ t) c.first);
          rest = c.rest;
        }

abbrev joined : {X : Type 0} → List (List X) → List X
joined xss = flat_map (λ xs. xs) xss

-- the last part has all that remains
cut_more : (w : ℕ) (left : List Request) (lefts : List (List Request)) (h : List Entry) → requests_of w h ≡ left ++ joined lefts
    → (parts : List (List Entry)) × (h ≡ joined parts) × AllZip (λ l entries. requests_of w entries ≡ l) (left ∷ lefts) parts
cut_more w left [] h is = (h ∷ [], sym (append-nil h), (is ∙ append-nil left, tt))
cut_more w left (next ∷ lefts) h is =
    let c = cut_at w h left (next ++ joined lefts) is in
    let more = cut_more w next lefts c.back c.rest in
    (c.front ∷ more.0, c.whole ∙ ap (λ t. c.front ++ t) more.1, (c.first, more.2))

-- ---- the runs of a worker

record RunsLeave (ring w : ℕ) (runs : List JobRun) (before : WorkerSeat) (new : List WorkerSeat) : Type 0 where
  after : WorkerSeat
  lefts : List (List Request)
  is_there : slice_get new ring ≡ Some after
  requests : requests_of w after.seen.history ≡ requests_of w before.seen.history ++ joined lefts
  each : AllZip (λ run left. AreLeft ring (notes_of run.calls) left) runs lefts

runs_leave : (ring w : ℕ) (runs : List JobRun) (old new : List WorkerSeat) (before : WorkerSeat) → RunsInTurn runs old new → slice_get old ring ≡ Some before → before.worker ≡ w → RunsLeave ring w runs before new
runs_leave ring w [] old new before same got worker =
    record { after = before; lefts = []; is_there = ap (λ xs. slice_get xs ring) same ∙ got; requests = sym (append-nil (requests_of w before.seen.history)); each = tt }
runs_leave ring w (run ∷ runs) old new before (mid, ran, turns) got worker =
    let one = calls_leave old mid ran.0.calls run.answer.unlogged ring before ran.0.led got in
    let more = runs_leave ring w runs mid new one.after turns one.is_there (one.adds.same_worker ∙ worker) in
    let here : requests_of w one.after.seen.history ≡ requests_of w before.seen.history ++ one.left = subst (λ v. requests_of v one.after.seen.history ≡ requests_of v before.seen.history ++ one.left) worker one.adds.requests in
    record {
      after = more.after;
      lefts = one.left ∷ more.lefts;
      is_there = more.is_there;
      requests = more.requests ∙ (ap (λ xs. xs ++ joined more.lefts) here ∙ append_assoc (requests_of w before.seen.history) one.left (joined more.lefts));
      each = (subst (λ calls. AreLeft ring (notes_of calls) one.left) ran.1 one.are_left, more.each);
    }

-- what the runs left is what the parts contain
zipped : (ring w : ℕ) (runs : List JobRun) (lefts : List (List Request)) (parts : List (List Entry)) → AllZip (λ run left. AreLeft ring (notes_of run.calls) left) runs lefts
    → AllZip (λ left entries. requests_of w entries ≡ left) lefts parts → AllZip (λ run entries. AreLeft ring (notes_of run.calls) (requests_of w entries)) runs parts
zipped ring w [] [] [] first second = tt
zipped ring w [] [] (p ∷ parts) first second = absurd second
zipped ring w [] (l ∷ lefts) parts first second = absurd first
zipped ring w (run ∷ runs) [] parts first second = absurd first
zipped ring w (run ∷ runs) (l ∷ lefts) [] first second = absurd second
zipped ring w (run ∷ runs) (l ∷ lefts) (p ∷ parts) first second =
    (subst (AreLeft ring (notes_of run.calls)) (sym second.0) first.0, zipped ring w runs lefts parts first.1 second.1)

-- a history with the requests of some runs
cut_by : (ring w : ℕ) (runs : List JobRun) (lefts : List (List Request)) (h : List Entry) → AllZip (λ run left. AreLeft ring (notes_of run.calls) left) runs lefts → requests_of w h ≡ joined lefts
    → (idle : List Entry) × (parts : List (List Entry)) × RunsCut ring w runs h idle parts
cut_by ring w [] [] h each is = (h, [], record { whole = sym (append-nil h); asks_nothing = is; each = tt })
cut_by ring w [] (l ∷ lefts) h each is = absurd each
cut_by ring w (run ∷ runs) [] h each is = absurd each
cut_by ring w (run ∷ runs) (l ∷ lefts) h each is =
    let c = cut_more w l lefts h is in
    ([], c.0, record { whole = c.1; asks_nothing = refl; each = zipped ring w (run ∷ runs) (l ∷ lefts) c.0 each c.2 })

pub runs_cut : RunsCutHistories
runs_cut ring w runs old new before turns got worker none =
    let h = runs_leave ring w runs old new before turns got worker in
    (h.after, h.is_there, λ history same. cut_by ring w runs h.lefts history h.each (same ∙ (h.requests ∙ ap (λ xs. xs ++ joined h.lefts) none)))
