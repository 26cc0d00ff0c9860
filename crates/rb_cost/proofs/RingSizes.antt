-- The room rule by the untaken bytes, and by the jobs that they belong to.
use Rattle.std.proofs.Common.{◌≡◌, inl, inr, ℕ, ◌+◌, ◌-◌, ◌*◌, ◌≤◌, refl, sym, ◌∙◌, ap, suc, cond, List, [], ◌∷◌, length, get_or, arith}
use Rattle.std.proofs.Math.Nat.{mul-le-mul_right}
use Rattle.std.specs.Prelude.{◌==◌}
use Rattle.std.specs.List.{All, Contains, sum_by}
use Rattle.std.proofs.lemmas.Bool.{cases_eq, eq-eqb, ne_eqb}
use Rattle.std.proofs.lemmas.List.Elements.{Contains-get_or}
use Rattle.std.proofs.lemmas.List.Sums.{sum_by-cons, get_or-le-sum_by, sum_by-le}
use Rattle.rb_history.specs.declared.entries.Entry.{Entry}
use Rattle.rb_history.specs.Span.{span}
use Rattle.rb_history.specs.History.{Shown, records, producer_of, consumer_of}
use Rattle.rb_history.specs.Legal.{IsLegal}
use Rattle.rb_history.specs.RoomRule.{Setup}
use Rattle.rb_history.specs.inner.RecordRows.{InRow}
use Rattle.rb_history.proofs.Laws.{kept-from-legal}
use Rattle.rb_history.proofs.Lists.{sum_by-add}
use Rattle.rb_cost.specs.RingSize.{untaken_bytes, RoomIsLeft, AreOfJobs, NoneIsRefusedBehind}

-- consecutive records cover the sum of their spans
row_sum : (from : ℕ) (ss : List Shown) (to : ℕ) → InRow from ss to → from + sum_by (λ s. span s.len) ss ≡ to
row_sum from [] to h = let same : from ≡ to = h in omega arith
row_sum from (s ∷ ss) to h =
    let rest : from + span s.len + sum_by (λ s. span s.len) ss ≡ to = row_sum (from + span s.len) ss to h.1 in
    let more : sum_by (λ (s : Shown). span s.len) (s ∷ ss) ≡ span s.len + sum_by (λ (s : Shown). span s.len) ss = sum_by-cons (λ (s : Shown). span s.len) s ss in
    omega arith

-- the untaken bytes lie between the two positions
pub untaken-positions : (r : Setup) (h : List Entry) → IsLegal r h → consumer_of r.start h + untaken_bytes h ≡ producer_of r.start h
untaken-positions r h legal = row_sum (consumer_of r.start h) (records h) (producer_of r.start h) (kept-from-legal r h legal).in_row

pub room_left : RoomIsLeft
room_left r h n legal limit =
    let between : consumer_of r.start h + untaken_bytes h ≡ producer_of r.start h = untaken-positions r h legal in
    record {
      granted = λ left. record { space = omega arith; limit = limit };
      refused = λ room. let space : producer_of r.start h + span n ≤ consumer_of r.start h + (r.size - 1) = room.space in omega arith;
    }

-- ---- jobs

-- a job of the list contributes to the sum over the list
one_job : (x v : ℕ) (jobs : List ℕ) → Contains jobs x → v ≤ sum_by (λ j. cond (x == j) v 0) jobs
one_job x v jobs (k, lt, is) =
    let part : cond (x == get_or jobs k x) v 0 ≤ sum_by (λ j. cond (x == j) v 0) jobs = get_or-le-sum_by (λ j. cond (x == j) v 0) jobs k x lt in
    let here : cond (x == get_or jobs k x) v 0 ≡ v = ap (λ j. cond (x == j) v 0) is ∙ ap (λ b. cond b v 0) (eq-eqb x x refl) in
    omega arith

module _ (job : Shown → ℕ) (jobs : List ℕ) where
  abbrev of_job : List Shown → ℕ → ℕ
  of_job ss j = sum_by (λ s. cond (job s == j) (span s.len) 0) ss

  -- the sum over records is at most the sum over their jobs
  by_jobs : (ss : List Shown) → All (λ s. Contains jobs (job s)) ss → sum_by (λ s. span s.len) ss ≤ sum_by (of_job ss) jobs
  by_jobs [] all = omega arith
  by_jobs (s ∷ ss) all =
      let one : span s.len ≤ sum_by (λ j. cond (job s == j) (span s.len) 0) jobs = one_job (job s) (span s.len) jobs (all 0 s (omega arith)) in
      let rest : sum_by (λ (s : Shown). span s.len) ss ≤ sum_by (of_job ss) jobs = by_jobs ss (λ k d lt. all (suc k) d (omega arith)) in
      let both : sum_by (of_job (s ∷ ss)) jobs ≡ sum_by (of_job ss) jobs + sum_by (λ j. cond (job s == j) (span s.len) 0) jobs =
      sum_by-add (of_job ss) (λ j. cond (job s == j) (span s.len) 0) (of_job (s ∷ ss)) (λ j. let more : of_job (s ∷ ss) j ≡ cond (job s == j) (span s.len) 0 + of_job ss j = sum_by-cons (λ (s : Shown). cond (job s == j) (span s.len) 0) s ss in omega arith) jobs in
      let more : sum_by (λ (s : Shown). span s.len) (s ∷ ss) ≡ span s.len + sum_by (λ (s : Shown). span s.len) ss = sum_by-cons (λ (s : Shown). span s.len) s ss in
      omega arith

  -- at most `most` bytes for each job
  within_jobs : (asking most n : ℕ) (h : List Entry) → AreOfJobs job jobs asking most h n → untaken_bytes h + span n ≤ length jobs * most
  within_jobs asking most n h are =
      let old : untaken_bytes h ≤ sum_by (of_job (records h)) jobs = by_jobs (records h) are.untaken in
      let new : span n ≤ sum_by (λ j. cond (asking == j) (span n) 0) jobs = one_job asking (span n) jobs are.next in
      let turned : (j : ℕ) → cond (asking == j) (span n) 0 ≡ cond (j == asking) (span n) 0 = λ j. ap (λ b. cond b (span n) 0) (turned_test asking j) in
      let both : sum_by (λ j. of_job (records h) j + cond (j == asking) (span n) 0) jobs ≡ sum_by (of_job (records h)) jobs + sum_by (λ j. cond (asking == j) (span n) 0) jobs =
      sum_by-add (of_job (records h)) (λ j. cond (asking == j) (span n) 0) (λ j. of_job (records h) j + cond (j == asking) (span n) 0) (λ j. ap (λ v. of_job (records h) j + v) (sym (turned j))) jobs in
      let each : All (λ j. of_job (records h) j + cond (j == asking) (span n) 0 ≤ most) jobs = λ k d lt. are.bytes (get_or jobs k d) (Contains-get_or jobs k d lt) in
      let all : sum_by (λ j. of_job (records h) j + cond (j == asking) (span n) 0) jobs ≤ length jobs * most = sum_by-le (λ j. of_job (records h) j + cond (j == asking) (span n) 0) most jobs each in
      omega arith
    where
      turned_test : (x y : ℕ) → (x == y) ≡ (y == x)
      turned_test x y = elim (cases_eq x y) [ inl same ↦ eq-eqb x y same ∙ sym (eq-eqb y x (sym same)) | inr other ↦ ne_eqb x y other ∙ sym (ne_eqb y x (λ e. other (sym e))) ]

pub none_behind : NoneIsRefusedBehind
none_behind r h n workers behind most job jobs asking legal limit are few large =
    let within : untaken_bytes h + span n ≤ length jobs * most = within_jobs job jobs asking most n h are in
    let more : length jobs * most ≤ (behind + workers) * most = mul-le-mul_right most few in
    (room_left r h n legal limit).granted (omega arith)
