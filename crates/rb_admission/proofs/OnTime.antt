-- If the consumer is late by few jobs, there is room for each record.
use Rattle.std.proofs.Common.{◌≡◌, ⊎_elim, ℕ, zero, suc, ◌+◌, ◌-◌, ◌*◌, ◌<◌, ◌≤◌, ◌^◌, refl, sym, ◌∙◌, ap, subst, Bool, true, false, cond, List, [], ◌∷◌, ◌++◌, length, take, drop, Some, None, arith, append_assoc}
use Rattle.std.proofs.Math.Nat.{mul-le-mul_right}
use Rattle.std.specs.Prelude.{◌==◌, ◌&&◌, ◌||◌, not, nat_le}
use Rattle.std.specs.List.{All, count_by, flat_map, list_any, sum_by}
use Rattle.std.proofs.lemmas.Bool.{cases_lt, eq-eqb}
use Rattle.std.proofs.lemmas.Bool.Decides.{nat_tests}
use Rattle.std.proofs.lemmas.List.{length-append, length-drop, take-append-drop, take-append-le, take_at, drop-append-le, drop_at}
use Rattle.std.proofs.lemmas.List.Sums.{sum_by-append, sum_by-cons, sum_by_push, sum_by-take-le, sum_by-le-sum_by}
use Rattle.rb_history.specs.declared.entries.Entry.{Entry}
use Rattle.rb_history.specs.declared.entries.Entry.TheVariants.{Res, Full, Sub, Dis, Take}
use Rattle.rb_history.specs.Span.{span}
use Rattle.rb_history.specs.History.{Shown, granted_span, is_taken_at, producer_of, consumer_of, status_of, untaken}
use Rattle.rb_history.specs.Legal.{IsLegal}
use Rattle.rb_history.specs.RoomRule.{Setup}
use Rattle.rb_history.specs.WorkerCounts.{numbers_below}
use Rattle.rb_history.proofs.Laws.{legal-front}
use Rattle.rb_history.proofs.Lists.{opt_sum, sum_by-only}
use Rattle.rb_cost.specs.RingSize.{untaken_bytes}
use Rattle.rb_cost.proofs.RingSizes.{untaken-positions}
use Rattle.rb_admission.specs.Admission.{asked_span, asked_bytes}
use Rattle.rb_admission.specs.Lateness.{JobsCut, ended_by, is_left, late_jobs, IsLateByAtMost, NoneIsRefusedOnTime}
use Rattle.rb_admission.proofs.Admitted.{total, one-among, by-workers, none-refused}

-- ---- the untaken bytes of a worker's records

-- the number of bytes of a worker's record that an entry grants and that are not taken by now
abbrev left_span : List Entry → ℕ → Entry → ℕ
left_span now w (Res v k n p) = cond (v == w) (cond (is_taken_at now p) 0 (span n)) 0
left_span now w e = 0

if_less : (b : Bool) (n : ℕ) → cond b 0 n ≤ n
if_less true n = omega arith
if_less false n = omega arith

-- what is left was requested
left-asked : (now : List Entry) (w : ℕ) (e : Entry) → left_span now w e ≤ asked_span w e
left-asked now w (Res v k n p) = elim (v == w) as (λ b. cond b (cond (is_taken_at now p) 0 (span n)) 0 ≤ cond b (span n) 0) [ true ↦ if_less (is_taken_at now p) (span n) | false ↦ omega arith ]
left-asked now w (Full v n) = omega arith
left-asked now w (Sub p) = omega arith
left-asked now w (Dis p) = omega arith
left-asked now w (Take p) = omega arith

-- if no record of the worker is left, there are no bytes
none-here : (now : List Entry) (w : ℕ) (e : Entry) → is_left w now e ≡ false → left_span now w e ≡ 0
none-here now w (Res v k n p) is = by_tests (v == w) (is_taken_at now p) is
  where
    by_tests : (own taken : Bool) → (own && not taken) ≡ false → cond own (cond taken 0 (span n)) 0 ≡ 0
    by_tests true true is = refl
    by_tests true false is = absurd (cc)
    by_tests false taken is = refl
none-here now w (Full v n) is = refl
none-here now w (Sub p) is = refl
none-here now w (Dis p) is = refl
none-here now w (Take p) is = refl

none-left : (now : List Entry) (w : ℕ) (es : List Entry) → list_any (is_left w now) es ≡ false → sum_by (left_span now w) es ≡ 0
none-left now w [] is = refl
none-left now w (e ∷ es) is =
    let parts = or_parts (is_left w now e) (list_any (is_left w now) es) is in
    let here : left_span now w e ≡ 0 = none-here now w e parts.0 in
    let rest : sum_by (left_span now w) es ≡ 0 = none-left now w es parts.1 in
    let more : sum_by (left_span now w) (e ∷ es) ≡ left_span now w e + sum_by (left_span now w) es = sum_by-cons (left_span now w) e es in
    omega arith
  where
    or_parts : (a b : Bool) → (a || b) ≡ false → (a ≡ false) × (b ≡ false)
    or_parts true b is = absurd (cc)
    or_parts false b is = (refl, is)

-- a job and the others
with-others : (all first second asked one some other both most : ℕ) → second + asked ≤ (some + 1) * most → some ≡ other → first ≤ one * most → all ≡ first + second → both ≡ one + other → all + asked ≤ (both + 1) * most
with-others all first second asked one some other both most more same here split counted =
    let product : (both + 1) * most ≡ one * most + (some + 1) * most = ap (λ n. (n + 1) * most) (counted ∙ ap (λ n. one + n) (sym same)) ∙ spread one some most in
    omega arith
  where
    spread : (a b n : ℕ) → (a + b + 1) * n ≡ a * n + (b + 1) * n
    spread a b n = omega arith

-- ---- one worker's jobs

module _ (most w : ℕ) (now : List Entry) where
  abbrev late : List (List Entry) → ℕ
  late jobs = count_by (λ entries. list_any (is_left w now) entries) jobs

  -- a job that has ended leaves at most what it requested, and nothing if it is not late
  one-job : (job : List Entry) → asked_bytes w job ≤ most → sum_by (left_span now w) job ≤ cond (list_any (is_left w now) job) 1 0 * most
  one-job job asks = by_test (list_any (is_left w now) job) refl
    where
      by_test : (b : Bool) → list_any (is_left w now) job ≡ b → sum_by (left_span now w) job ≤ cond b 1 0 * most
      by_test true is = let left : sum_by (left_span now w) job ≤ asked_bytes w job = sum_by-le-sum_by (left_span now w) (asked_span w) job (left-asked now w) in omega arith
      by_test false is = let none : sum_by (left_span now w) job ≡ 0 = none-left now w job is in omega arith

  -- what is left of the entries before one, and what that one requests, is within the late jobs and one more
  jobs-left : (jobs : List (List Entry)) (x : List Entry) (e : Entry) (after : List Entry) → x ++ e ∷ after ≡ flat_map (λ entries. entries) jobs → All (λ entries. asked_bytes w entries ≤ most) jobs
      → sum_by (left_span now w) x + asked_span w e ≤ (late (ended_by (length x) jobs) + 1) * most
  jobs-left [] x e after is each =
      let long : length (x ++ e ∷ after) ≡ length x + length (e ∷ after) = length-append x (e ∷ after) in
      let none : length (x ++ e ∷ after) ≡ 0 = ap length is in
      absurd (omega arith)
  jobs-left (job ∷ jobs) x e after is each =
      by_test (nat_le (length job) (length x)) refl (λ x2 back. jobs-left jobs x2 e after back (λ k d lt. each (suc k) d (omega arith)))
    where
      own : asked_bytes w job ≤ most
      own = each 0 job (omega arith)

      by_test : (b : Bool) → nat_le (length job) (length x) ≡ b → ((x2 : List Entry) → x2 ++ e ∷ after ≡ flat_map (λ entries. entries) jobs → sum_by (left_span now w) x2 + asked_span w e ≤ (late (ended_by (length x2) jobs) + 1) * most)
          → sum_by (left_span now w) x + asked_span w e ≤ (count_by (λ entries. list_any (is_left w now) entries) (cond b (job ∷ ended_by (length x - length job) jobs) []) + 1) * most
      by_test true is_le others =
          let le : length job ≤ length x = grind (arith, nat_tests) in
          let x2 : List Entry = drop (length job) x in
          let front : take (length job) x ≡ job = sym (take-append-le (length job) x (e ∷ after) le) ∙ (ap (take (length job)) is ∙ take_at job (flat_map (λ entries. entries) jobs) (length job) refl) in
          let x_is : x ≡ job ++ x2 = sym (take-append-drop (length job) x) ∙ ap (λ t. t ++ x2) front in
          let back : x2 ++ e ∷ after ≡ (flat_map (λ entries. entries) jobs) = sym (drop-append-le (length job) x (e ∷ after) le) ∙ (ap (drop (length job)) is ∙ drop_at job (flat_map (λ entries. entries) jobs) (length job) refl) in
          let shorter : length x2 ≡ length x - length job = length-drop (length job) x in
          let more : sum_by (left_span now w) x2 + asked_span w e ≤ (late (ended_by (length x2) jobs) + 1) * most = others x2 back in
          let same : late (ended_by (length x2) jobs) ≡ late (ended_by (length x - length job) jobs) = ap (λ n. late (ended_by n jobs)) shorter in
          let here : sum_by (left_span now w) job ≤ cond (list_any (is_left w now) job) 1 0 * most = one-job job own in
          let split : sum_by (left_span now w) x ≡ sum_by (left_span now w) job + sum_by (left_span now w) x2 = ap (sum_by (left_span now w)) x_is ∙ sum_by-append (left_span now w) job x2 in
          let counted : count_by (λ entries. list_any (is_left w now) entries) (job ∷ ended_by (length x - length job) jobs) ≡ cond (list_any (is_left w now) job) 1 0 + late (ended_by (length x - length job) jobs) =
          sum_by-cons (λ entries. cond (list_any (is_left w now) entries) 1 0) job (ended_by (length x - length job) jobs) in
          with-others (sum_by (left_span now w) x) (sum_by (left_span now w) job) (sum_by (left_span now w) x2) (asked_span w e) (cond (list_any (is_left w now) job) 1 0) (late (ended_by (length x2) jobs)) (late (ended_by (length x - length job) jobs))
          (count_by (λ entries. list_any (is_left w now) entries) (job ∷ ended_by (length x - length job) jobs)) most more same here split counted
      by_test false is_le others =
          let gt : length x < length job = grind (arith, nat_tests) in
          let long : length (x ++ e ∷ []) ≡ length x + 1 = length-append x (e ∷ []) in
          let joined : (x ++ e ∷ []) ++ after ≡ job ++ (flat_map (λ entries. entries) jobs) = append_assoc x (e ∷ []) after ∙ is in
          let front : x ++ e ∷ [] ≡ take (length x + 1) job = sym (take_at (x ++ e ∷ []) after (length x + 1) long) ∙ (ap (take (length x + 1)) joined ∙ take-append-le (length x + 1) job (flat_map (λ entries. entries) jobs) (omega arith)) in
          let asked : asked_bytes w (x ++ e ∷ []) ≡ asked_bytes w x + asked_span w e = sum_by_push (asked_span w) x e in
          let same : asked_bytes w (x ++ e ∷ []) ≡ asked_bytes w (take (length x + 1) job) = ap (asked_bytes w) front in
          let part : asked_bytes w (take (length x + 1) job) ≤ asked_bytes w job = sum_by-take-le (asked_span w) job (length x + 1) in
          let left : sum_by (left_span now w) x ≤ asked_bytes w x = sum_by-le-sum_by (left_span now w) (asked_span w) x (left-asked now w) in
          let most_once : (0 + 1) * most ≡ most = omega arith in
          omega (arith, own)

  -- no entry requests more than its job
  entry-asks : (jobs : List (List Entry)) (x : List Entry) (e : Entry) (after : List Entry) → x ++ e ∷ after ≡ flat_map (λ entries. entries) jobs → All (λ entries. asked_bytes w entries ≤ most) jobs → asked_span w e ≤ most
  entry-asks [] x e after is each =
      let long : length (x ++ e ∷ after) ≡ length x + length (e ∷ after) = length-append x (e ∷ after) in
      let none : length (x ++ e ∷ after) ≡ 0 = ap length is in
      absurd (omega arith)
  entry-asks (job ∷ jobs) x e after is each =
      ⊎_elim
      (λ inside.
      let long : length (x ++ e ∷ []) ≡ length x + 1 = length-append x (e ∷ []) in
      let joined : (x ++ e ∷ []) ++ after ≡ job ++ flat_map (λ entries. entries) jobs = append_assoc x (e ∷ []) after ∙ is in
      let front : x ++ e ∷ [] ≡ take (length x + 1) job = sym (take_at (x ++ e ∷ []) after (length x + 1) long) ∙ (ap (take (length x + 1)) joined ∙ take-append-le (length x + 1) job (flat_map (λ entries. entries) jobs) (omega arith)) in
      let asked : asked_bytes w (x ++ e ∷ []) ≡ asked_bytes w x + asked_span w e = sum_by_push (asked_span w) x e in
      let same : asked_bytes w (x ++ e ∷ []) ≡ asked_bytes w (take (length x + 1) job) = ap (asked_bytes w) front in
      let part : asked_bytes w (take (length x + 1) job) ≤ asked_bytes w job = sum_by-take-le (asked_span w) job (length x + 1) in
      let own : asked_bytes w job ≤ most = each 0 job (omega arith) in
      omega arith)
      (λ beyond.
      let back : drop (length job) x ++ e ∷ after ≡ flat_map (λ entries. entries) jobs =
      sym (drop-append-le (length job) x (e ∷ after) beyond) ∙ (ap (drop (length job)) is ∙ drop_at job (flat_map (λ entries. entries) jobs) (length job) refl) in
      entry-asks jobs (drop (length job) x) e after back (λ k d lt. each (suc k) d (omega arith)))
      (cases_lt (length x) (length job))

-- ---- all workers

total-below : (f g : ℕ → ℕ) (k : ℕ) → ((u : ℕ) → u < k → f u ≤ g u) → total f k ≤ total g k
total-below f g zero each = omega arith
total-below f g (suc k) each = let rest : total f k ≤ total g k = total-below f g k (λ u lt. each u (omega arith)) in let here : f k ≤ g k = each k (omega arith) in omega arith

total-plus : (f g : ℕ → ℕ) (k : ℕ) → total f k + total g k ≡ total (λ u. f u + g u) k
total-plus f g zero = refl
total-plus f g (suc k) = let rest : total f k + total g k ≡ total (λ u. f u + g u) k = total-plus f g k in omega arith

total-jobs : (f : ℕ → ℕ) (most k : ℕ) → total (λ u. (f u + 1) * most) k ≡ (total f k + k) * most
total-jobs f most zero = omega arith
total-jobs f most (suc k) =
    let rest : total (λ u. (f u + 1) * most) k ≡ (total f k + k) * most = total-jobs f most k in
    let parts : (total f k + f k + suc k) * most ≡ (total f k + k) * most + (f k + 1) * most = omega arith in
    omega arith

total-numbers : (f : ℕ → ℕ) (k : ℕ) → sum_by f (numbers_below k) ≡ total f k
total-numbers f zero = refl
total-numbers f (suc k) = let more : sum_by f (numbers_below k ++ k ∷ []) ≡ sum_by f (numbers_below k) + f k = sum_by_push f (numbers_below k) k in let rest : sum_by f (numbers_below k) ≡ total f k = total-numbers f k in omega arith

-- the number of bytes of a record that an entry grants and that are not taken by now
abbrev all_left : List Entry → Entry → ℕ
all_left now (Res v k n p) = cond (is_taken_at now p) 0 (span n)
all_left now e = 0

shown-left : (now : List Entry) (e : Entry) → all_left now e ≡ opt_sum (λ (s : Shown). span s.len) (untaken now e)
shown-left now (Res v k n p) = by_test (is_taken_at now p)
  where
    by_test : (b : Bool) → cond b 0 (span n) ≡ opt_sum (λ (s : Shown). span s.len) (cond b None (Some (record { pos = p; len = n; worker = v; serial = k; status = status_of now p })))
    by_test true = refl
    by_test false = refl
shown-left now (Full v n) = refl
shown-left now (Sub p) = refl
shown-left now (Dis p) = refl
shown-left now (Take p) = refl

module _ (r : Setup) (most behind : ℕ) (h : List Entry) (jobs : ℕ → List (List Entry)) (legal : IsLegal r h) (low : producer_of r.start h + most ≤ 2 ^ 62)
    (cut : (w : ℕ) → w < r.workers → JobsCut most w h (jobs w)) (late_by : IsLateByAtMost r h jobs behind) (large : (behind + r.workers) * most < r.size) where
  entry-left : (now before : List Entry) (e : Entry) (after : List Entry) → h ≡ before ++ e ∷ after → all_left now e ≤ total (λ u. left_span now u e) r.workers
  entry-left now before (Res v k n p) after is = one-among v (cond (is_taken_at now p) 0 (span n)) r.workers (legal.each before (Res v k n p) after is).0
  entry-left now before (Full v n) after is = omega arith
  entry-left now before (Sub p) after is = omega arith
  entry-left now before (Dis p) after is = omega arith
  entry-left now before (Take p) after is = omega arith

  not-full : (before after : List Entry) (w n : ℕ) → h ≡ before ++ Full w n ∷ after → ⊥
  not-full before after w n is =
      let next = legal.each before (Full w n) after is in
      let inside : w < r.workers = next.0 in
      let e : Entry = Full w n in
      let each : (u : ℕ) → u < r.workers → sum_by (left_span before u) before + asked_span u (Full w n) ≤ (late_jobs u before (jobs u) + 1) * most = λ u lt. jobs-left most u before (jobs u) before (Full w n) after (sym is ∙ (cut u lt).whole) (cut u lt).each in
      let some : total (λ u. sum_by (left_span before u) before + asked_span u (Full w n)) r.workers ≤ total (λ u. (late_jobs u before (jobs u) + 1) * most) r.workers =
      total-below (λ u. sum_by (left_span before u) before + asked_span u (Full w n)) (λ u. (late_jobs u before (jobs u) + 1) * most) r.workers each in
      let product : total (λ u. (late_jobs u before (jobs u) + 1) * most) r.workers ≡ (total (λ u. late_jobs u before (jobs u)) r.workers + r.workers) * most = total-jobs (λ u. late_jobs u before (jobs u)) most r.workers in
      let numbers : sum_by (λ u. late_jobs u before (jobs u)) (numbers_below r.workers) ≡ total (λ u. late_jobs u before (jobs u)) r.workers = total-numbers (λ u. late_jobs u before (jobs u)) r.workers in
      let few : sum_by (λ u. late_jobs u before (jobs u)) (numbers_below r.workers) ≤ behind = late_by before (Full w n) after is in
      let at_most : (total (λ u. late_jobs u before (jobs u)) r.workers + r.workers) * most ≤ (behind + r.workers) * most = mul-le-mul_right most (omega (arith, numbers, few)) in
      let parts : total (λ u. sum_by (left_span before u) before) r.workers + total (λ u. asked_span u (Full w n)) r.workers ≡ total (λ u. sum_by (left_span before u) before + asked_span u (Full w n)) r.workers =
      total-plus (λ u. sum_by (left_span before u) before) (λ u. asked_span u (Full w n)) r.workers in
      let asks : span n ≤ total (λ u. asked_span u (Full w n)) r.workers = one-among w (span n) r.workers inside in
      let left : sum_by (all_left before) before ≤ total (λ u. sum_by (left_span before u) before) r.workers = by-workers r.workers h (all_left before) (left_span before) (entry-left before) [] before (Full w n ∷ after) is in
      let shown : sum_by (all_left before) before ≡ untaken_bytes before = sum_by-only (all_left before) (untaken before) (λ (s : Shown). span s.len) (shown-left before) before in
      let front : IsLegal r before = legal-front r before (Full w n ∷ after) (subst (IsLegal r) is legal) in
      let between : consumer_of r.start before + untaken_bytes before ≡ producer_of r.start before = untaken-positions r before front in
      let own : cond (w == w) (span n) 0 ≡ span n = ap (λ b. cond b (span n) 0) (eq-eqb w w refl) in
      let one : asked_span w (Full w n) ≤ most = entry-asks most w before (jobs w) before (Full w n) after (sym is ∙ (cut w inside).whole) (cut w inside).each in
      let granted : sum_by granted_span h ≡ sum_by granted_span before + sum_by granted_span (Full w n ∷ after) = ap (sum_by granted_span) is ∙ sum_by-append granted_span before (Full w n ∷ after) in
      let room : untaken_bytes before + span n < r.size = omega (arith, some, product, at_most, parts, asks, left, shown, large) in
      next.1 (record { space = omega (arith, between, room); limit = omega (arith, granted, low, one, own) })

pub none_refused_on_time : NoneIsRefusedOnTime
none_refused_on_time r most behind h jobs legal low cut late_by large = none-refused h (not-full r most behind h jobs legal low cut late_by large) [] h refl
