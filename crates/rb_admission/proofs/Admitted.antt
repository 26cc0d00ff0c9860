-- If each worker looks before it requests records, there is room for each record.
use Rattle.std.proofs.Common.{◌≡◌, ◌⊎◌, inl, inr, ⊎_elim, ℕ, zero, suc, ◌+◌, ◌-◌, ◌*◌, ◌<◌, ◌≤◌, ◌^◌, refl, sym, ◌∙◌, ap, subst, cond, List, [], ◌∷◌, ◌++◌, length, take, drop, arith, append_assoc, append-nil}
use Rattle.std.specs.Prelude.{◌==◌}
use Rattle.std.specs.List.{count_by, flat_map, sum_by}
use Rattle.std.proofs.lemmas.Bool.{cases_lt, eq-eqb}
use Rattle.std.proofs.lemmas.List.{length-append, take-append-drop, take-take, take_at}
use Rattle.std.proofs.lemmas.List.Sums.{sum_by-append, sum_by-cons, sum_by_push, sum_by-take-drop, sum_by-take-le, sum_by-le-sum_by}
use Rattle.rb_history.specs.declared.entries.Entry.{Entry}
use Rattle.rb_history.specs.declared.entries.Entry.TheVariants.{Res, Full, Sub, Dis, Take}
use Rattle.rb_history.specs.Span.{span}
use Rattle.rb_history.specs.History.{granted_span, granted_span_at, producer_of, consumer_of, records, span_of_record, taken_span}
use Rattle.rb_history.specs.Counting.{is_refusal_entry}
use Rattle.rb_history.specs.Legal.{IsLegal}
use Rattle.rb_history.specs.RoomRule.{Setup}
use Rattle.rb_history.proofs.Laws.{legal-front, kept-from-legal}
use Rattle.rb_history.proofs.Row.{InRow-le}
use Rattle.rb_admission.specs.Admission.{asked_span, asked_bytes, MayBegin, HasTurns, LooksBeforeItAsks, NoneIsRefusedAfterLooks}

-- ---- sums over the numbers below another

abbrev pub total : (ℕ → ℕ) → ℕ → ℕ
total f zero = 0
total f (suc k) = total f k + f k

pub total-add : (f g : ℕ → ℕ) (k : ℕ) → total (λ u. f u + g u) k ≡ total f k + total g k
total-add f g zero = refl
total-add f g (suc k) = let rest : total (λ u. f u + g u) k ≡ total f k + total g k = total-add f g k in omega arith

pub total-same : (f g : ℕ → ℕ) (k : ℕ) → ((u : ℕ) → f u ≡ g u) → total f k ≡ total g k
total-same f g zero same = refl
total-same f g (suc k) same = let rest : total f k ≡ total g k = total-same f g k same in let here : f k ≡ g k = same k in omega arith

pub total-le : (f : ℕ → ℕ) (n k : ℕ) → ((u : ℕ) → u < k → f u ≤ n) → total f k ≤ k * n
total-le f n zero each = omega arith
total-le f n (suc k) each =
    let rest : total f k ≤ k * n = total-le f n k (λ u lt. each u (omega arith)) in
    let here : f k ≤ n = each k (omega arith) in
    let more : suc k * n ≡ k * n + n = omega arith in
    omega arith

one-of-total : (f : ℕ → ℕ) (u k : ℕ) → u < k → f u ≤ total f k
one-of-total f u zero lt = absurd (omega arith)
one-of-total f u (suc k) lt =
    ⊎_elim
    (λ below. let rest : f u ≤ total f k = one-of-total f u k below in omega arith)
    (λ above. let same : u ≡ k = omega arith in let here : f u ≡ f k = ap f same in omega arith)
    (cases_lt u k)

-- ---- what all workers request

-- the number of bytes that an entry requests, for any worker
abbrev all_asked : Entry → ℕ
all_asked (Res w k n p) = span n
all_asked (Full w n) = span n
all_asked e = 0

own_span : (w n : ℕ) → cond (w == w) (span n) 0 ≡ span n
own_span w n = ap (λ b. cond b (span n) 0) (eq-eqb w w refl)

-- one worker's entry is among those of all workers
pub one-among : (w m workers : ℕ) → w < workers → m ≤ total (λ u. cond (w == u) m 0) workers
one-among w m workers lt =
    let among : cond (w == w) m 0 ≤ total (λ u. cond (w == u) m 0) workers = one-of-total (λ u. cond (w == u) m 0) w workers lt in
    let own : cond (w == w) m 0 ≡ m = ap (λ b. cond b m 0) (eq-eqb w w refl) in
    omega arith

-- the sum over the entries of a part of a history is the sum over its workers, if each entry's is
pub by-workers : (workers : ℕ) (h : List Entry) (all : Entry → ℕ) (own : ℕ → Entry → ℕ) → ((before : List Entry) (e : Entry) (after : List Entry) → h ≡ before ++ e ∷ after → all e ≤ total (λ u. own u e) workers)
    → (before part after : List Entry) → h ≡ before ++ (part ++ after) → sum_by all part ≤ total (λ u. sum_by (own u) part) workers
by-workers workers h all own each before [] after is = omega arith
by-workers workers h all own each before (e ∷ part) after is =
    let here : all e ≤ total (λ u. own u e) workers = each before e (part ++ after) is in
    let rest : sum_by all part ≤ total (λ u. sum_by (own u) part) workers = by-workers workers h all own each (before ++ e ∷ []) part after (is ∙ sym (append_assoc before (e ∷ []) (part ++ after))) in
    let whole : sum_by all (e ∷ part) ≡ all e + sum_by all part = sum_by-cons all e part in
    let split : total (λ u. sum_by (own u) (e ∷ part)) workers ≡ total (λ u. own u e + sum_by (own u) part) workers =
    total-same (λ u. sum_by (own u) (e ∷ part)) (λ u. own u e + sum_by (own u) part) workers (λ u. sum_by-cons (own u) e part) in
    let both : total (λ u. own u e + sum_by (own u) part) workers ≡ total (λ u. own u e) workers + total (λ u. sum_by (own u) part) workers =
    total-add (λ u. own u e) (λ u. sum_by (own u) part) workers in
    omega arith

module _ (r : Setup) (h : List Entry) (legal : IsLegal r h) where
  entry-asked : (before : List Entry) (e : Entry) (after : List Entry) → h ≡ before ++ e ∷ after → all_asked e ≤ total (λ u. asked_span u e) r.workers
  entry-asked before (Res w k n p) after is = one-among w (span n) r.workers (legal.each before (Res w k n p) after is).0
  entry-asked before (Full w n) after is = one-among w (span n) r.workers (legal.each before (Full w n) after is).0
  entry-asked before (Sub p) after is = omega arith
  entry-asked before (Dis p) after is = omega arith
  entry-asked before (Take p) after is = omega arith

  -- what a part of the history requests is what its workers request there
  part-asked : (before part after : List Entry) → h ≡ before ++ (part ++ after) → sum_by all_asked part ≤ total (λ u. asked_bytes u part) r.workers
  part-asked = by-workers r.workers h all_asked asked_span entry-asked

-- ---- parts of a history

-- the sum over a longer prefix of a history is not smaller
front-le : (f : Entry → ℕ) (h : List Entry) (i j : ℕ) → i ≤ j → sum_by f (take i h) ≤ sum_by f (take j h)
front-le f h i j le =
    let part : sum_by f (take i (take j h)) ≤ sum_by f (take j h) = sum_by-take-le f (take j h) i in
    let same : sum_by f (take i (take j h)) ≡ sum_by f (take i h) = ap (sum_by f) (take-take i j h le) in
    omega arith

-- a prefix, and the entries between it and a longer one
between : (f : Entry → ℕ) (h : List Entry) (i j : ℕ) → i ≤ j → sum_by f (take i h) + sum_by f (drop i (take j h)) ≡ sum_by f (take j h)
between f h i j le =
    let same : sum_by f (take i (take j h)) ≡ sum_by f (take i h) = ap (sum_by f) (take-take i j h le) in
    let both : sum_by f (take i (take j h)) + sum_by f (drop i (take j h)) ≡ sum_by f (take j h) = sum_by-take-drop f (take j h) i in
    omega arith

-- a later history has no smaller spans, so its consumer is not further back
span-grows : (h t : List Entry) (e : Entry) → taken_span h e ≤ taken_span (h ++ t) e
span-grows h t (Res w k n p) = omega arith
span-grows h t (Full w n) = omega arith
span-grows h t (Sub p) = omega arith
span-grows h t (Dis p) = omega arith
span-grows h t (Take p) = let more : span_of_record (h ++ t) p ≡ span_of_record h p + span_of_record t p = sum_by-append (granted_span_at p) h t in omega arith

spans-grow : (h t es : List Entry) → sum_by (taken_span h) es ≤ sum_by (taken_span (h ++ t)) es
spans-grow h t es = sum_by-le-sum_by (taken_span h) (taken_span (h ++ t)) es (span-grows h t)

consumer-grows : (start : ℕ) (h t : List Entry) → consumer_of start h ≤ consumer_of start (h ++ t)
consumer-grows start h t =
    let more : sum_by (taken_span (h ++ t)) (h ++ t) ≡ sum_by (taken_span (h ++ t)) h + sum_by (taken_span (h ++ t)) t = sum_by-append (taken_span (h ++ t)) h t in
    let own : sum_by (taken_span h) h ≤ sum_by (taken_span (h ++ t)) h = spans-grow h t h in
    omega arith

-- ---- looks

module _ (r : Setup) (turn : ℕ) (h : List Entry) where
  -- a worker requested at most a turn since a look, up to and including the entry at an index
  abbrev pub IsWithin : ℕ → ℕ → ℕ → Type 0
  IsWithin i look w = asked_bytes w (take (i + 1) h) ≤ asked_bytes w (take look h) + turn

  -- a look at or before the index allowed a turn
  abbrev pub IsLook : ℕ → ℕ → Type 0
  IsLook i look = (look ≤ i) × MayBegin r turn (take look h)

  -- the worker did nothing up to the index, or looked before and stayed within its turn
  abbrev pub HasLooked : ℕ → ℕ → Type 0
  HasLooked i w = (asked_bytes w (take (i + 1) h) ≡ 0) ⊎ ((look : ℕ) × IsLook i look × IsWithin i look w)

  -- the look of the turn that contains the index
  in-turn : (w : ℕ) (seen : List Entry) (turns : List (List Entry)) → h ≡ seen ++ flat_map (λ entries. entries) turns → HasTurns r turn w seen turns
      → (i : ℕ) → length seen ≤ i → i < length h → (look : ℕ) × IsLook i look × IsWithin i look w
  in-turn w seen [] is takes i le lt =
      let same : length h ≡ length seen = ap length (is ∙ append-nil seen) in
      absurd (omega arith)
  in-turn w seen (entries ∷ more) is takes i le lt =
      let further : h ≡ (seen ++ entries) ++ flat_map (λ entries. entries) more = is ∙ sym (append_assoc seen entries (flat_map (λ entries. entries) more)) in
      let long : length (seen ++ entries) ≡ length seen + length entries = length-append seen entries in
      ⊎_elim
      (λ inside.
      let seen_is : take (length seen) h ≡ seen = ap (take (length seen)) is ∙ take_at seen (entries ++ flat_map (λ entries. entries) more) (length seen) refl in
      let turn_is : take (length (seen ++ entries)) h ≡ seen ++ entries = ap (take (length (seen ++ entries))) further ∙ take_at (seen ++ entries) (flat_map (λ entries. entries) more) (length (seen ++ entries)) refl in
      let upto : asked_bytes w (take (i + 1) h) ≤ asked_bytes w (take (length (seen ++ entries)) h) = front-le (asked_span w) h (i + 1) (length (seen ++ entries)) (omega arith) in
      let whole : asked_bytes w (take (length (seen ++ entries)) h) ≡ asked_bytes w (seen ++ entries) = ap (asked_bytes w) turn_is in
      let parts : asked_bytes w (seen ++ entries) ≡ asked_bytes w seen + asked_bytes w entries = sum_by-append (asked_span w) seen entries in
      let start : asked_bytes w (take (length seen) h) ≡ asked_bytes w seen = ap (asked_bytes w) seen_is in
      let few : asked_bytes w entries ≤ turn = takes.1 in
      (length seen, (le, subst (MayBegin r turn) (sym seen_is) takes.0), omega arith))
      (λ beyond. in-turn w (seen ++ entries) more further takes.2 i (omega arith) lt)
      (cases_lt i (length (seen ++ entries)))

  pub has-looked : (w : ℕ) → LooksBeforeItAsks r turn w h → (i : ℕ) → i < length h → HasLooked i w
  has-looked w looks i lt =
      ⊎_elim
      (λ early.
      let first_is : take (length looks.first) h ≡ looks.first = ap (take (length looks.first)) looks.whole ∙ take_at looks.first (flat_map (λ entries. entries) looks.turns) (length looks.first) refl in
      let upto : asked_bytes w (take (i + 1) h) ≤ asked_bytes w (take (length looks.first) h) = front-le (asked_span w) h (i + 1) (length looks.first) (omega arith) in
      let none : asked_bytes w (take (length looks.first) h) ≡ asked_bytes w looks.first = ap (asked_bytes w) first_is in
      let idle : asked_bytes w looks.first ≡ 0 = looks.idle in
      inl (omega arith))
      (λ later. inr (in-turn w looks.first looks.turns looks.whole looks.in_turns i later lt))
      (cases_lt i (length looks.first))

  -- the last of some workers' looks serves all of these workers
  Common : ℕ → ℕ → Type 0
  Common i k = (look : ℕ) × IsLook i look × ((u : ℕ) → u < k → IsWithin i look u)

  later-within : (i look later w : ℕ) → look ≤ later → IsWithin i look w → IsWithin i later w
  later-within i look later w le within =
      let more : asked_bytes w (take look h) ≤ asked_bytes w (take later h) = front-le (asked_span w) h look later le in
      omega arith

  with-worker : (i k look : ℕ) → IsLook i look → ((u : ℕ) → u < k → IsWithin i look u) → IsWithin i look k → (u : ℕ) → u < suc k → IsWithin i look u
  with-worker i k look is each last u lt =
      ⊎_elim (λ below. each u below) (λ above. let same : u ≡ k = omega arith in subst (IsWithin i look) (sym same) last) (cases_lt u k)

  common : (i look : ℕ) → IsLook i look → (k : ℕ) → ((u : ℕ) → u < k → HasLooked i u) → Common i k
  unfolding Common
  common i look is zero each = (look, is, λ u lt. absurd (omega arith))
  common i look is (suc k) each =
      let before = common i look is k (λ u lt. each u (omega arith)) in
      ⊎_elim
      (λ idle. (before.0, before.1, with-worker i k before.0 before.1 before.2 (omega arith)))
      (λ own.
      ⊎_elim
      (λ older. (before.0, before.1, with-worker i k before.0 before.1 before.2 (later-within i own.0 before.0 k (omega arith) own.2)))
      (λ newer. (own.0, own.1, with-worker i k own.0 own.1 (λ u lt. later-within i before.0 own.0 u newer (before.2 u lt)) own.2))
      (cases_lt own.0 before.0))
      (each k (omega arith))

  -- what a record requests, and what was granted since a common look, is within a turn of each worker
  granted-asked : (e : Entry) → granted_span e ≤ all_asked e
  granted-asked (Res w k n p) = omega arith
  granted-asked (Full w n) = omega arith
  granted-asked (Sub p) = omega arith
  granted-asked (Dis p) = omega arith
  granted-asked (Take p) = omega arith

  module _ (legal : IsLegal r h) (low : producer_of r.start h + turn ≤ 2 ^ 62) (looks : (w : ℕ) → w < r.workers → LooksBeforeItAsks r turn w h) where
    not-full : (before after : List Entry) (w n : ℕ) → h ≡ before ++ Full w n ∷ after → ⊥
    unfolding Common
    not-full before after w n is =
        let i : ℕ = length before in
        let next = legal.each before (Full w n) after is in
        let long : length h ≡ length before + length (Full w n ∷ after) = ap length is ∙ length-append before (Full w n ∷ after) in
        let front : take i h ≡ before = ap (take i) is ∙ take_at before (Full w n ∷ after) i refl in
        let push : h ≡ (before ++ Full w n ∷ []) ++ after = is ∙ sym (append_assoc before (Full w n ∷ []) after) in
        let longer : length (before ++ Full w n ∷ []) ≡ i + 1 = length-append before (Full w n ∷ []) in
        let with_it : take (i + 1) h ≡ before ++ Full w n ∷ [] = ap (take (i + 1)) push ∙ take_at (before ++ Full w n ∷ []) after (i + 1) longer in
        let self : cond (w == w) (span n) 0 ≡ span n = own_span w n in
        let own_asked : asked_bytes w (take (i + 1) h) ≡ asked_bytes w before + cond (w == w) (span n) 0 = ap (asked_bytes w) with_it ∙ sum_by_push (asked_span w) before (Full w n) in
        ⊎_elim
        (λ idle. absurd (omega arith))
        (λ own.
        let c : Common i r.workers = common i own.0 own.1 r.workers (λ u lt. has-looked u (looks u lt) i (omega arith)) in
        let look : ℕ = c.0 in
        let le : look ≤ i = c.1.0 in
        let seen : List Entry = take look h in
        let part : List Entry = drop look (take (i + 1) h) in
        let each : (u : ℕ) → u < r.workers → asked_bytes u part ≤ turn = λ u lt.
        let within : asked_bytes u (take (i + 1) h) ≤ asked_bytes u seen + turn = c.2 u lt in
        let parts : asked_bytes u seen + asked_bytes u part ≡ asked_bytes u (take (i + 1) h) = between (asked_span u) h look (i + 1) (omega arith) in
        omega arith
        in
        let cut : h ≡ seen ++ (part ++ drop (i + 1) h) =
        sym (take-append-drop (i + 1) h) ∙ (ap (λ t. t ++ drop (i + 1) h) (sym (take-append-drop look (take (i + 1) h)) ∙ ap (λ t. t ++ part) (take-take look (i + 1) h (omega arith))) ∙ append_assoc seen part (drop (i + 1) h)) in
        let by_workers : sum_by all_asked part ≤ total (λ u. asked_bytes u part) r.workers = part-asked r h legal seen part (drop (i + 1) h) cut in
        let few : total (λ u. asked_bytes u part) r.workers ≤ r.workers * turn = total-le (λ u. asked_bytes u part) turn r.workers each in
        let asked_parts : sum_by all_asked seen + sum_by all_asked part ≡ sum_by all_asked (take (i + 1) h) = between all_asked h look (i + 1) (omega arith) in
        let asked_front : sum_by all_asked seen + sum_by all_asked (drop look (take i h)) ≡ sum_by all_asked (take i h) = between all_asked h look i le in
        let asked_more : sum_by all_asked (take (i + 1) h) ≡ sum_by all_asked before + span n = ap (sum_by all_asked) with_it ∙ sum_by_push all_asked before (Full w n) in
        let asked_same : sum_by all_asked (take i h) ≡ sum_by all_asked before = ap (sum_by all_asked) front in
        let granted_front : sum_by granted_span seen + sum_by granted_span (drop look (take i h)) ≡ sum_by granted_span (take i h) = between granted_span h look i le in
        let granted_same : sum_by granted_span (take i h) ≡ sum_by granted_span before = ap (sum_by granted_span) front in
        let granted_few : sum_by granted_span (drop look (take i h)) ≤ sum_by all_asked (drop look (take i h)) = sum_by-le-sum_by granted_span all_asked (drop look (take i h)) granted-asked in
        let seen_first : before ≡ seen ++ drop look (take i h) = sym front ∙ (sym (take-append-drop look (take i h)) ∙ ap (λ t. t ++ drop look (take i h)) (take-take look i h le)) in
        let took : consumer_of r.start seen ≤ consumer_of r.start before = subst (λ t. consumer_of r.start seen ≤ consumer_of r.start t) (sym seen_first) (consumer-grows r.start seen (drop look (take i h))) in
        let seen_legal : IsLegal r seen = legal-front r seen (part ++ drop (i + 1) h) (subst (IsLegal r) cut legal) in
        let ordered : consumer_of r.start seen ≤ producer_of r.start seen = InRow-le (consumer_of r.start seen) (records seen) (producer_of r.start seen) (kept-from-legal r seen seen_legal).in_row in
        let room : producer_of r.start seen - consumer_of r.start seen + r.workers * turn ≤ r.size - 1 = c.1.1 in
        let own_turn : asked_bytes w (take (i + 1) h) ≤ asked_bytes w (take own.0 h) + turn = own.2 in
        let own_before : asked_bytes w (take own.0 h) ≤ asked_bytes w (take i h) = front-le (asked_span w) h own.0 i own.1.0 in
        let own_same : asked_bytes w (take i h) ≡ asked_bytes w before = ap (asked_bytes w) front in
        let granted_all : sum_by granted_span (take i h) ≤ sum_by granted_span h = sum_by-take-le granted_span h i in
        next.1 (record { space = omega arith; limit = omega arith }))
        (has-looked w (looks w next.0) i (omega arith))

-- if no entry of a history refuses a record, there are no refusals
pub none-refused : (h : List Entry) → ((before after : List Entry) (w n : ℕ) → h ≡ before ++ Full w n ∷ after → ⊥) → (before rest : List Entry) → h ≡ before ++ rest → count_by is_refusal_entry rest ≡ 0
none-refused h none before [] is = refl
none-refused h none before (e ∷ rest) is =
    let further : h ≡ (before ++ e ∷ []) ++ rest = is ∙ sym (append_assoc before (e ∷ []) rest) in
    let others : count_by is_refusal_entry rest ≡ 0 = none-refused h none (before ++ e ∷ []) rest further in
    let more : count_by is_refusal_entry (e ∷ rest) ≡ cond (is_refusal_entry e) 1 0 + count_by is_refusal_entry rest = sum_by-cons (λ x. cond (is_refusal_entry x) 1 0) e rest in
    let here : cond (is_refusal_entry e) 1 0 + 0 ≡ 0 = none-here e is in
    omega arith
  where
    none-here : (e : Entry) → h ≡ before ++ e ∷ rest → cond (is_refusal_entry e) 1 0 + 0 ≡ 0
    none-here (Res w k n p) is = refl
    none-here (Full w n) is = absurd (none before rest w n is)
    none-here (Sub p) is = refl
    none-here (Dis p) is = refl
    none-here (Take p) is = refl

pub none_refused_after_looks : NoneIsRefusedAfterLooks
none_refused_after_looks r turn h legal low looks = none-refused h (not-full r turn h legal low looks) [] h refl
