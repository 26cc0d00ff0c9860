-- The answers of all jobs, gathered from the last to the first.
use Rattle.std.proofs.Common.{◌≡◌, ◌∙◌, ℕ, ◌+◌, ◌*◌, ◌^◌, ◌<◌, ◌≤◌, ◌==◌, Bool, true, false, List, [], ◌∷◌, ◌++◌, cond, length, get_or, slice_set, map, take, drop, reverse, refl, sym, ap, append-nil, append_assoc, add-one, drop-cons, arith}
use Rattle.std.proofs.Math.Seq.{take-length, drop-length}
use Rattle.std.proofs.lemmas.Bool.{eqb-true, eq-eqb, false≢true}
use Rattle.std.proofs.lemmas.List.{get_or_default, get_or-set_other, length_push}
use Rattle.std.proofs.lemmas.List.Filters.{length-filter_more}
use Rattle.std.proofs.lemmas.List.Sums.{sum_by-cons}
use Rattle.std.proofs.lemmas.Grind.{get_or-set_at, reverse_onto}
use Rattle.std.specs.List.{sum_by}
use Rattle.std.specs.Prelude.{Result}
use Rattle.rb_interp.specs.declared.fault.RunFault.{RunFault}
use Rattle.rb_jobs.specs.declared.job.Job.{Job}
use Rattle.rb_jobs.specs.declared.job.JobAnswer.{JobAnswer}
use Rattle.rb_workers.specs.declared.workers.Worker.{Worker}
use Rattle.rb_workers.specs.JobRuns.{own_jobs}
use Rattle.rb_workers.specs.inner.WorkerRuns.{own_answers}

-- the answers of the jobs from `at` on were gathered: each worker's remaining answers, followed by its own among these,
-- are those that it had
pub record IsGathered (js : List Job) (olds : List Worker) (at : ℕ) (results : List (Result ℕ RunFault)) (unlogged : ℕ) (workers : List Worker) : Type 0 where
  pub answers : List JobAnswer
  pub results_are : results ≡ reverse (map (λ a. a.result) answers)
  pub unlogged_is : unlogged ≡ sum_by (λ a. a.unlogged) answers
  pub bounded : unlogged ≤ length answers * 2 ^ 64
  pub many : length answers + at ≡ length js
  pub left : (k : ℕ) (d : Worker) → k < length olds → length (get_or workers k d).answers.items ≡ length (own_jobs k (take at js))
  pub taken : (k : ℕ) (d : Worker) → k < length olds → (get_or workers k d).answers.items ++ own_answers k (drop at js) answers ≡ (get_or olds k d).answers.items

-- no job yet
pub gathered_none : (js : List Job) (olds : List Worker) (results : List (Result ℕ RunFault)) → results ≡ []
    → ((k : ℕ) (d : Worker) → k < length olds → length (get_or olds k d).answers.items ≡ length (own_jobs k js))
    → IsGathered js olds (length js) results 0 olds
gathered_none js olds results empty each =
    record {
      answers = [];
      results_are = empty;
      unlogged_is = refl;
      bounded = omega arith;
      many = omega arith;
      left = λ k d below. each k d below ∙ ap (λ l. length (own_jobs k l)) (sym (take-length js));
      taken = λ k d below. ap (λ l. (get_or olds k d).answers.items ++ own_answers k l []) (drop-length js) ∙ append-nil (get_or olds k d).answers.items;
    }

-- the answers of the jobs from `at` on, the first of which is this one
own_on : (k : ℕ) (js : List Job) (at : ℕ) (d : Job) (a : JobAnswer) (answers : List JobAnswer) → at < length js
    → own_answers k (drop at js) (a ∷ answers) ≡ cond ((get_or js at d).worker == k) (a ∷ own_answers k (drop (at + 1) js) answers) (own_answers k (drop (at + 1) js) answers)
own_on k js at d a answers below = rw (add-one, drop-cons js at d) refl

-- one more job, from the last on: what remains of each worker's own
left_on : (k : ℕ) (js : List Job) (at : ℕ) (workers : List Worker) (dj : Job) (dw new d : Worker) (a : JobAnswer) (own : Bool) → ((get_or js at dj).worker == k) ≡ own
    → at < length js → (get_or js at dj).worker < length workers → (get_or workers (get_or js at dj).worker dw).answers.items ≡ new.answers.items ++ a ∷ [] → k < length workers
    → length (get_or workers k d).answers.items ≡ length (own_jobs k (take (at + 1) js))
    → length (get_or (slice_set workers (get_or js at dj).worker new) k d).answers.items ≡ length (own_jobs k (take at js))
left_on k js at workers dj dw new d a true e below known taken within was =
    let same = eqb-true (get_or js at dj).worker k e in
    let there = get_or-set_at workers (get_or js at dj).worker k new d (sym same) known in
    let found : get_or workers (get_or js at dj).worker dw ≡ get_or workers k d = ap (λ i. get_or workers i dw) same ∙ get_or_default workers k dw d within in
    let fewer : length (get_or workers (get_or js at dj).worker dw).answers.items ≡ length new.answers.items + 1 = ap length taken ∙ length_push new.answers.items a in
    let more = length-filter_more (λ (j : Job). j.worker == k) js at dj below in
    let one : ◌≡◌ {A = ℕ} (cond ((get_or js at dj).worker == k) 1 0) 1 = ap (λ b. cond b 1 0) e in
    let now = ap (λ (w : Worker). length w.answers.items) there in
    let then = ap (λ (w : Worker). length w.answers.items) found in
    omega (arith, fewer, more, one, was, now, then)
left_on k js at workers dj dw new d a false e below known taken within was =
    let there = get_or-set_other workers (get_or js at dj).worker k new d (λ same. false≢true (sym e ∙ eq-eqb (get_or js at dj).worker k (sym same))) in
    let more = length-filter_more (λ (j : Job). j.worker == k) js at dj below in
    let none : ◌≡◌ {A = ℕ} (cond ((get_or js at dj).worker == k) 1 0) 0 = ap (λ b. cond b 1 0) e in
    let now = ap (λ (w : Worker). length w.answers.items) there in
    omega (arith, more, none, was, now)

-- and what is taken of them
taken_on : (k : ℕ) (js : List Job) (at : ℕ) (answers : List JobAnswer) (workers : List Worker) (dj : Job) (dw new d : Worker) (a : JobAnswer) (own : Bool) → ((get_or js at dj).worker == k) ≡ own
    → at < length js → (get_or js at dj).worker < length workers → (get_or workers (get_or js at dj).worker dw).answers.items ≡ new.answers.items ++ a ∷ [] → k < length workers
    → (get_or (slice_set workers (get_or js at dj).worker new) k d).answers.items ++ own_answers k (drop at js) (a ∷ answers)
    ≡ (get_or workers k d).answers.items ++ own_answers k (drop (at + 1) js) answers
taken_on k js at answers workers dj dw new d a true e below known taken within =
    let same = eqb-true (get_or js at dj).worker k e in
    let there = get_or-set_at workers (get_or js at dj).worker k new d (sym same) known in
    let found : get_or workers (get_or js at dj).worker dw ≡ get_or workers k d = ap (λ i. get_or workers i dw) same ∙ get_or_default workers k dw d within in
    let rest = own_answers k (drop (at + 1) js) answers in
    let first : own_answers k (drop at js) (a ∷ answers) ≡ a ∷ rest = own_on k js at dj a answers below ∙ ap (λ b. cond b (a ∷ rest) rest) e in
    ap (λ l. (get_or (slice_set workers (get_or js at dj).worker new) k d).answers.items ++ l) first
    ∙ (ap (λ (w : Worker). w.answers.items ++ a ∷ rest) there
    ∙ (sym (append_assoc new.answers.items (a ∷ []) rest)
    ∙ (ap (λ l. l ++ rest) (sym taken) ∙ ap (λ (w : Worker). w.answers.items ++ rest) found)))
taken_on k js at answers workers dj dw new d a false e below known taken within =
    let there = get_or-set_other workers (get_or js at dj).worker k new d (λ same. false≢true (sym e ∙ eq-eqb (get_or js at dj).worker k (sym same))) in
    let rest = own_answers k (drop (at + 1) js) answers in
    let first : own_answers k (drop at js) (a ∷ answers) ≡ rest = own_on k js at dj a answers below ∙ ap (λ b. cond b (a ∷ rest) rest) e in
    ap (λ l. (get_or (slice_set workers (get_or js at dj).worker new) k d).answers.items ++ l) first ∙ ap (λ (w : Worker). w.answers.items ++ rest) there

-- one more job, from the last on
pub gathered_more : (js : List Job) (olds : List Worker) (rest at : ℕ) (results grown : List (Result ℕ RunFault)) (unlogged more : ℕ) (workers : List Worker) (dj : Job) (dw new : Worker) (a : JobAnswer)
    → rest ≡ at + 1 → at < length js → length workers ≡ length olds → (get_or js at dj).worker < length olds
    → (get_or workers (get_or js at dj).worker dw).answers.items ≡ new.answers.items ++ a ∷ [] → a.unlogged < 2 ^ 64 → grown ≡ results ++ a.result ∷ [] → more ≡ a.unlogged
    → IsGathered js olds rest results unlogged workers → IsGathered js olds at grown (unlogged + more) (slice_set workers (get_or js at dj).worker new)
gathered_more js olds rest at results grown unlogged more workers dj dw new a next below same known taken small added counted g =
    let j = get_or js at dj in
    let sum = sum_by-cons (λ (x : JobAnswer). x.unlogged) a g.answers in
    record {
      answers = a ∷ g.answers;
      results_are = added ∙ (ap (λ l. l ++ a.result ∷ []) g.results_are ∙ sym (reverse_onto (map (λ (x : JobAnswer). x.result) g.answers) a.result []));
      unlogged_is = let e = g.unlogged_is in omega (arith, sum, e, counted);
      bounded = let e = g.bounded in omega arith;
      many = let e = g.many in omega arith;
      left = λ k d within.
          left_on k js at workers dj dw new d a (j.worker == k) refl below (omega arith) taken (omega arith)
          (g.left k d within ∙ ap (λ n. length (own_jobs k (take n js))) next);
      taken = λ k d within.
          taken_on k js at g.answers workers dj dw new d a (j.worker == k) refl below (omega arith) taken (omega arith)
          ∙ (ap (λ n. (get_or workers k d).answers.items ++ own_answers k (drop n js) g.answers) (sym next) ∙ g.taken k d within);
    }
