-- Laws about distributing seats and taking them back.
use Rattle.std.proofs.Common.{◌≡◌, ◌≢◌, ℕ, suc, ◌+◌, ◌<◌, ◌≤◌, List, [], ◌∷◌, ◌++◌, length, get_or, set, take, refl, ap, sym, ◌∙◌, subst, drop-cons, ⊎_elim, arith}
use Rattle.std.proofs.lemmas.List.{get_or-set_same, get_or-set_other, get_or-take, get_or_default, get_or_append_left, get_or_push}
use Rattle.std.proofs.lemmas.Bool.{cases_eq}
use Rattle.rb_ledger.specs.Seats.{WorkerSeat}
use Rattle.std.proofs.lemmas.List.{drop-set}
use Rattle.std.proofs.lemmas.List.Elements.{All-cons}
use Rattle.std.specs.Prelude.{All, drop}
use Rattle.std.specs.List.{AllZip}
use Rattle.rb_workers.specs.declared.consumer_task.ConsumerTask.{ConsumerTask}
use Rattle.rb_workers.specs.declared.workers.Worker.{Worker}
use Rattle.rb_workers.specs.inner.ConsumerTasks.{HasSameParts, returned_rows}
use Rattle.rb_workers.specs.inner.WorkerRuns.{IsOneMore}

one_more_at : (a a' b b' : Worker) (s s' : WorkerSeat) → a' ≡ a → b' ≡ b → s' ≡ s → IsOneMore a b s → IsOneMore a' b' s'
one_more_at a a' b b' s s' ea eb es h = subst (λ x. IsOneMore x b' s') (sym ea) (subst (λ x. IsOneMore a x s') (sym eb) (subst (λ x. IsOneMore a b x) (sym es) h))

pub dealt_more : (olds workers : List Worker) (row : List WorkerSeat) (at was : ℕ) (e x : Worker) (seat : WorkerSeat) → was ≡ at + 1 → at < length workers
    → ((k : ℕ) (d : Worker) → k < was → get_or workers k d ≡ get_or olds k d) → ((k : ℕ) (d : Worker) (s : WorkerSeat) → was ≤ k → k < length olds → IsOneMore (get_or olds k d) (get_or workers k d) (get_or row k s))
    → IsOneMore (get_or workers at e) x seat → ((s : WorkerSeat) → get_or row at s ≡ seat)
    → ((k : ℕ) (d : Worker) (s : WorkerSeat) → at ≤ k → k < length olds → IsOneMore (get_or olds k d) (get_or (set workers at x) k d) (get_or row k s))
dealt_more olds workers row at was e x seat ew inside low high one here k d s from below =
    ⊎_elim
    (λ (same : k ≡ at). subst (λ j. IsOneMore (get_or olds j d) (get_or (set workers at x) j d) (get_or row j s)) (sym same)
    (one_more_at (get_or workers at e) (get_or olds at d) x (get_or (set workers at x) at d) seat (get_or row at s) (sym (low at d (omega arith)) ∙ get_or_default workers at d e inside) (get_or-set_same workers at x d inside) (here s) one))
    (λ (other : k ≢ at). subst (λ y. IsOneMore (get_or olds k d) y (get_or row k s)) (sym (get_or-set_other workers at k x d other)) (high k d s (omega arith) below))
    (cases_eq k at)

pub returned_more : (olds workers : List Worker) (row : List WorkerSeat) (at : ℕ) (e x : Worker) (seat : WorkerSeat) → length row ≡ at → at < length workers
    → ((k : ℕ) (d : Worker) → at ≤ k → get_or workers k d ≡ get_or olds k d) → ((k : ℕ) (d : Worker) (s : WorkerSeat) → k < at → IsOneMore (get_or workers k d) (get_or olds k d) (get_or row k s))
    → IsOneMore x (get_or workers at e) seat
    → (k : ℕ) (d : Worker) (s : WorkerSeat) → k < at + 1 → IsOneMore (get_or (set workers at x) k d) (get_or olds k d) (get_or (row ++ seat ∷ []) k s)
returned_more olds workers row at e x seat len inside high low one k d s below =
    ⊎_elim
    (λ (same : k ≡ at). subst (λ j. IsOneMore (get_or (set workers at x) j d) (get_or olds j d) (get_or (row ++ seat ∷ []) j s)) (sym same)
    (one_more_at x (get_or (set workers at x) at d) (get_or workers at e) (get_or olds at d) seat (get_or (row ++ seat ∷ []) at s) (get_or-set_same workers at x d inside) (sym (high at d (omega arith)) ∙ get_or_default workers at d e inside) (get_or_push row seat s at len) one))
    (λ (other : k ≢ at). one_more_at (get_or workers k d) (get_or (set workers at x) k d) (get_or olds k d) (get_or olds k d) (get_or row k s) (get_or (row ++ seat ∷ []) k s) (get_or-set_other workers at k x d other) refl (get_or_append_left row (seat ∷ []) s k (omega arith)) (low k d s (omega arith)))
    (cases_eq k at)

pub taken_last : (xs ys : List WorkerSeat) (y s : WorkerSeat) (at was : ℕ) → was ≡ at + 1 → length ys ≡ at → take was xs ≡ ys ++ y ∷ [] → get_or xs at s ≡ y
taken_last xs ys y s at was ew len e = sym (get_or-take was xs at s (omega arith)) ∙ ap (λ (l : List WorkerSeat). get_or l at s) e ∙ get_or_push ys y s at len

-- ---- seats that are returned to tasks, from the last task on

-- the tasks from `at` on have a seat for each worker, and the others are unchanged
pub record AreReturnedFrom {S : Type 0} (at count : ℕ) (olds tasks : List (ConsumerTask S)) : Type 0 where
  pub others : (k : ℕ) (d : ConsumerTask S) → k < at → get_or tasks k d ≡ get_or olds k d
  pub same : AllZip HasSameParts (drop at olds) (drop at tasks)
  pub long : All (λ t. length t.returned_seats.items ≡ count) (drop at tasks)

pub rows_more : {S : Type 0} (tasks : List (ConsumerTask S)) (at next : ℕ) (x : ConsumerTask S) → next ≡ at + 1 → at < length tasks → returned_rows (drop at (set tasks at x)) ≡ x.returned_seats.items ∷ returned_rows (drop next tasks)
rows_more {S} tasks at next x is inside =
    ap (λ (l : List (ConsumerTask S)). returned_rows l) (drop-set tasks at x inside) ∙ ap (λ n. x.returned_seats.items ∷ returned_rows (drop n tasks)) (sym is)

pub returned_from_more : {S : Type 0} (at next count : ℕ) (olds tasks : List (ConsumerTask S)) (e x : ConsumerTask S) → next ≡ at + 1 → at < length tasks → length tasks ≡ length olds → e ≡ get_or tasks at e → HasSameParts e x
    → length x.returned_seats.items ≡ count → AreReturnedFrom next count olds tasks → AreReturnedFrom at count olds (set tasks at x)
returned_from_more {S} at next count olds tasks e x is inside len found same full was =
    let up : suc at ≡ next = omega (arith, is) in
    let first : drop at olds ≡ get_or olds at e ∷ drop next olds = drop-cons olds at e (omega (arith, inside, len)) ∙ ap (λ n. get_or olds at e ∷ drop n olds) up in
    let last : drop at (set tasks at x) ≡ x ∷ drop next tasks = drop-set tasks at x inside ∙ ap (λ n. x ∷ drop n tasks) (sym is) in
    let one : e ≡ get_or olds at e = found ∙ was.others at e (omega (arith, is)) in
    record {
      others = λ k d below. get_or-set_other tasks at k x d (λ equal. absurd (omega (arith, equal, below))) ∙ was.others k d (omega (arith, is, below));
      same = subst (λ (l : List (ConsumerTask S)). AllZip HasSameParts l (drop at (set tasks at x))) (sym first)
          (subst (λ (l : List (ConsumerTask S)). AllZip HasSameParts (get_or olds at e ∷ drop next olds) l) (sym last) (subst (λ (t : ConsumerTask S). HasSameParts t x) one same, was.same));
      long = subst (All (λ (t : ConsumerTask S). length t.returned_seats.items ≡ count)) (sym last)
          (All-cons (λ (t : ConsumerTask S). length t.returned_seats.items ≡ count) x (drop next tasks) full was.long);
    }
