-- The six counts of an opening are those of the history that it summarizes.
use Rattle.std.proofs.Common.{◌≡◌, ℕ, zero, suc, ◌+◌, ◌<◌, ◌≤◌, ◌==◌, Bool, true, false, cond, ◌||◌, List, [], ◌∷◌, ◌++◌, map, refl, sym, ap, ◌∙◌, inl, inr, arith, subst, append_assoc, append-nil}
use Rattle.std.specs.List.{sum_by, count_by, All, Contains}
use Rattle.std.proofs.lemmas.Bool.{cases_lt, eq-eqb, ne_eqb, true≢false}
use Rattle.std.proofs.lemmas.List.Folds.{fold-map}
use Rattle.std.proofs.lemmas.List.Sums.{sum_by_push}
use Rattle.std.proofs.lemmas.List.Elements.{All-contains, Contains-append_right}
use Rattle.rb_history.specs.declared.entries.Entry.{Entry}
use Rattle.rb_history.specs.declared.entries.Entry.TheVariants.{Res, Full, Sub, Dis, Take}
use Rattle.rb_history.specs.History.{Status, status_by, is_submitted_at, is_discarded_at, is_granted_at, is_grant_of, records}
use Rattle.rb_history.specs.History.Status.{Busy, Waiting, Consumed}
use Rattle.rb_history.specs.Counting.{is_same, is_grant_entry, is_refusal_entry, is_discard_entry, status_count, counts_of}
use Rattle.rb_history.specs.RoomRule.{Setup}
use Rattle.rb_history.specs.Legal.{IsLegal, MayFollow}
use Rattle.rb_history.proofs.Counting.{waiting-shown, busy-shown, made-split}
use Rattle.rb_history.proofs.Laws.{kept-from-legal, legal-front, legal-next}
use Rattle.rb_history.proofs.Lists.{sum_by-cons, sum_by-snoc, sum_by-add, sum_by-agree}
use Rattle.rb_history.proofs.Standing.{grant-stands}
use Rattle.rb_history.specs.declared.tally.Tally.{Tally}
use Rattle.rb_history.specs.WorkerCounts.{is_record_of}
use Rattle.rb_history.specs.WorkerCounts.{tally_of, is_refusal_of, is_discard_of, events_of, numbers_below}
use Rattle.rb_history.proofs.RecordWorkers.{granted-once, grant-tells, discarded-from}
use Rattle.rb_history.proofs.WorkerCounts.{discarded-granted, events-next}
use Rattle.rb_history.proofs.TakenRecords.{never-both}
use Rattle.rb_chapter_ring.specs.Snapshot.{snapshot_of, shown_count, counts_at}
use Rattle.rb_chapter_ring.proofs.ChapterPieces.{each-split}
use Rattle.rb_chapter_ring.proofs.Weights.{weigh-full, weigh-res, weigh-sub, weigh-dis, weigh-take}

abbrev bit : Bool → ℕ
bit b = cond b 1 0

-- ---- sums over the workers

sum-above : (v n : ℕ) → n ≤ v → sum_by (λ w. bit (v == w)) (numbers_below n) ≡ 0
sum-above v zero l = refl
sum-above v (suc n) l =
    let off : bit (v == n) ≡ 0 = ap bit (ne_eqb v n (λ e. omega arith)) in
    omega (arith, sum_by_push (λ w. bit (v == w)) (numbers_below n) n, sum-above v n (omega arith), off)

sum-once : (v n : ℕ) → v < n → sum_by (λ w. bit (v == w)) (numbers_below n) ≡ 1
sum-once v zero l = absurd (omega arith)
sum-once v (suc n) l = elim (cases_lt v n) [
  | inl lt ↦
      let off : bit (v == n) ≡ 0 = ap bit (ne_eqb v n (λ e. omega arith)) in
      omega (arith, sum_by_push (λ w. bit (v == w)) (numbers_below n) n, sum-once v n lt, off)
  | inr le ↦
      let on : bit (v == n) ≡ 1 = ap bit (eq-eqb v n (omega arith)) in
      omega (arith, sum_by_push (λ w. bit (v == w)) (numbers_below n) n, sum-above v n le, on)
]

sum-none : (ws : List ℕ) → sum_by (λ (w : ℕ). 0) ws ≡ 0
sum-none [] = refl
sum-none (w ∷ ws) = omega (arith, sum_by-cons (λ (x : ℕ). 0) w ws, sum-none ws)

-- if each entry that one test passes belongs to exactly one worker by another test, the workers' counts sum up to the
-- count of the first
count-once : (t : ℕ → Entry → Bool) (u : Entry → Bool) (ws : List ℕ) (es : List Entry) → ((x : Entry) → Contains es x → sum_by (λ w. bit (t w x)) ws ≡ bit (u x)) → sum_by (λ w. count_by (t w) es) ws ≡ count_by u es
count-once t u ws [] each = sum-none ws
count-once t u ws (e ∷ es) each =
    let more = count-once t u ws es (λ x is. each x (Contains-append_right (e ∷ []) es x is)) in
    let one = each e (0, omega arith, refl) in
    let add = sum_by-add (λ w. bit (t w e)) (λ w. count_by (t w) es) (λ w. count_by (t w) (e ∷ es)) (λ w. sum_by-cons (λ y. bit (t w y)) e es) ws in
    omega (arith, sum_by-cons (λ y. bit (u y)) e es)

-- the worker that the entry names is one of the ring's
abbrev IsInRing : Setup → Entry → Type 0
IsInRing r (Res w k n p) = w < r.workers
IsInRing r (Full w n) = w < r.workers
IsInRing r _ = Unit {0}

in-ring : (r : Setup) (b : List Entry) (e : Entry) → MayFollow r b e → IsInRing r e
in-ring r b (Res w k n p) m = m.0
in-ring r b (Full w n) m = m.0
in-ring r b (Sub p) m = tt
in-ring r b (Dis p) m = tt
in-ring r b (Take p) m = tt

module _ (r : Setup) (h : List Entry) (l : IsLegal r h) where
  all-in : All (IsInRing r) h
  all-in = each-split (IsInRing r) h (λ before e after is. in-ring r before e (l.each before e after is))

  workers : List ℕ
  workers = numbers_below r.workers

  grant-one : (x : Entry) → Contains h x → sum_by (λ w. bit (is_grant_of w x)) (numbers_below r.workers) ≡ bit (is_grant_entry x)
  grant-one (Res v k n p) is = sum-once v r.workers (All-contains (IsInRing r) h (Res v k n p) all-in is)
  grant-one (Full v n) is = sum-none (numbers_below r.workers)
  grant-one (Sub p) is = sum-none (numbers_below r.workers)
  grant-one (Dis p) is = sum-none (numbers_below r.workers)
  grant-one (Take p) is = sum-none (numbers_below r.workers)

  refusal-one : (x : Entry) → Contains h x → sum_by (λ w. bit (is_refusal_of w x)) (numbers_below r.workers) ≡ bit (is_refusal_entry x)
  refusal-one (Full v n) is = sum-once v r.workers (All-contains (IsInRing r) h (Full v n) all-in is)
  refusal-one (Res v k n p) is = sum-none (numbers_below r.workers)
  refusal-one (Sub p) is = sum-none (numbers_below r.workers)
  refusal-one (Dis p) is = sum-none (numbers_below r.workers)
  refusal-one (Take p) is = sum-none (numbers_below r.workers)

  record-one : (p : ℕ) → is_granted_at h p ≡ true → sum_by (λ w. bit (is_record_of w h p)) (numbers_below r.workers) ≡ 1
  record-one p g =
      let st = grant-stands h p g in
      let is = st.1.1.1 in
      sum_by-agree (λ w. bit (st.0 == w)) (λ w. bit (is_record_of w h p)) (λ w. ap bit (sym (grant-tells h st.0 st.1.0 st.1.1.0 p w is (granted-once r h p l)))) (numbers_below r.workers)
      ∙ sum-once st.0 r.workers (All-contains (IsInRing r) h (Res st.0 st.1.0 st.1.1.0 p) all-in is)

  discard-one : (x : Entry) → Contains h x → sum_by (λ w. bit (is_discard_of w h x)) (numbers_below r.workers) ≡ bit (is_discard_entry x)
  discard-one (Dis p) is = record-one p (discarded-granted r h p l (discarded-from h p is))
  discard-one (Res v k n p) is = sum-none (numbers_below r.workers)
  discard-one (Full v n) is = sum-none (numbers_below r.workers)
  discard-one (Sub p) is = sum-none (numbers_below r.workers)
  discard-one (Take p) is = sum-none (numbers_below r.workers)

  over-workers : (f : Tally → ℕ) → sum_by f (map (λ w. tally_of w h) (numbers_below r.workers)) ≡ sum_by (λ w. f (tally_of w h)) (numbers_below r.workers)
  over-workers f = fold-map (λ a t. a + f t) (λ w. tally_of w h) 0 (numbers_below r.workers)

  made-is : sum_by (λ t. t.made) (snapshot_of r h).tallies ≡ count_by is_grant_entry h
  made-is = over-workers (λ t. t.made) ∙ count-once is_grant_of is_grant_entry (numbers_below r.workers) h grant-one

  refused-is : sum_by (λ t. t.refused) (snapshot_of r h).tallies ≡ count_by is_refusal_entry h
  refused-is = over-workers (λ t. t.refused) ∙ count-once is_refusal_of is_refusal_entry (numbers_below r.workers) h refusal-one

  discarded-is : sum_by (λ t. t.discarded) (snapshot_of r h).tallies ≡ count_by is_discard_entry h
  discarded-is = over-workers (λ t. t.discarded) ∙ count-once (λ w. is_discard_of w h) is_discard_entry (numbers_below r.workers) h discard-one

-- ---- records that were taken as events

-- each record was consumed or discarded, or is busy or waiting
abbrev IsSplit : List Entry → Type 0
IsSplit h = count_by is_grant_entry h ≡ events_of h + shown_count Busy (records h) + shown_count Waiting (records h) + count_by is_discard_entry h

abbrev as_bit : Status → Status → ℕ
as_bit st s = bit (is_same st s)

event-bit : (s d : Bool) → (s || d) ≡ true → (s ≡ true → d ≡ false) → (bit s ≡ as_bit Waiting (status_by s d false)) × (as_bit Busy (status_by s d false) ≡ 0)
event-bit true true o n = absurd (true≢false (n refl))
event-bit true false o n = (refl, refl)
event-bit false true o n = (refl, refl)
event-bit false false o n = absurd (true≢false (sym o))

module _ (r : Setup) (h : List Entry) where
  split-next : (e : Entry) → IsLegal r (h ++ e ∷ []) → IsSplit h → IsSplit (h ++ e ∷ [])
  split-next (Full w n) l old =
      let k = kept-from-legal r h (legal-front r h (Full w n ∷ []) l) in
      omega (
        arith,
        old,
        events-next r h (Full w n) l,
        weigh-full (as_bit Busy) r h k w n,
        weigh-full (as_bit Waiting) r h k w n,
        sum_by-snoc (λ y. bit (is_grant_entry y)) h (Full w n),
        sum_by-snoc (λ y. bit (is_discard_entry y)) h (Full w n),
      )
  split-next (Res w s n p) l old =
      let k = kept-from-legal r h (legal-front r h (Res w s n p ∷ []) l) in
      let m = legal-next r h (Res w s n p) [] l in
      omega (
        arith,
        old,
        events-next r h (Res w s n p) l,
        weigh-res (as_bit Busy) r h k w s n p m,
        weigh-res (as_bit Waiting) r h k w s n p m,
        sum_by-snoc (λ y. bit (is_grant_entry y)) h (Res w s n p),
        sum_by-snoc (λ y. bit (is_discard_entry y)) h (Res w s n p),
      )
  split-next (Sub p) l old =
      let k = kept-from-legal r h (legal-front r h (Sub p ∷ []) l) in
      let m = legal-next r h (Sub p) [] l in
      omega (
        arith,
        old,
        events-next r h (Sub p) l,
        weigh-sub (as_bit Busy) r h k p m,
        weigh-sub (as_bit Waiting) r h k p m,
        sum_by-snoc (λ y. bit (is_grant_entry y)) h (Sub p),
        sum_by-snoc (λ y. bit (is_discard_entry y)) h (Sub p),
      )
  split-next (Dis p) l old =
      let k = kept-from-legal r h (legal-front r h (Dis p ∷ []) l) in
      let m = legal-next r h (Dis p) [] l in
      omega (
        arith,
        old,
        events-next r h (Dis p) l,
        weigh-dis (as_bit Busy) r h k p m,
        weigh-dis (as_bit Waiting) r h k p m,
        sum_by-snoc (λ y. bit (is_grant_entry y)) h (Dis p),
        sum_by-snoc (λ y. bit (is_discard_entry y)) h (Dis p),
      )
  split-next (Take p) l old =
      let lh = legal-front r h (Take p ∷ []) l in
      let k = kept-from-legal r h lh in
      let m = legal-next r h (Take p) [] l in
      let b = event-bit (is_submitted_at h p) (is_discarded_at h p) m.1 (never-both r h lh p) in
      omega (
        arith,
        old,
        events-next r h (Take p) l,
        weigh-take (as_bit Busy) r h k p m,
        weigh-take (as_bit Waiting) r h k p m,
        b.0,
        b.1,
        sum_by-snoc (λ y. bit (is_grant_entry y)) h (Take p),
        sum_by-snoc (λ y. bit (is_discard_entry y)) h (Take p),
      )

split-rest : (r : Setup) (h t : List Entry) → IsSplit h → IsLegal r (h ++ t) → IsSplit (h ++ t)
split-rest r h [] s l = subst IsSplit (sym (append-nil h)) s
split-rest r h (e ∷ t) s l =
    let same : (h ++ e ∷ []) ++ t ≡ h ++ e ∷ t = append_assoc h (e ∷ []) t in
    let l' : IsLegal r ((h ++ e ∷ []) ++ t) = subst (IsLegal r) (sym same) l in
    subst IsSplit same (split-rest r (h ++ e ∷ []) t (split-next r h e (legal-front r (h ++ e ∷ []) t l') s) l')

events-are : (r : Setup) (h : List Entry) → IsLegal r h → events_of h ≡ status_count Consumed h
events-are r h l =
    let k = kept-from-legal r h l in
    omega (arith, split-rest r [] h refl l, made-split h, waiting-shown h, busy-shown h k.closed, k.given_up)

pub counts-are : (r : Setup) (h : List Entry) → IsLegal r h → counts_at (snapshot_of r h) ≡ counts_of h
counts-are r h l =
    let k = kept-from-legal r h l in
    let made = made-is r h l in
    let refused = refused-is r h l in
    let consumed = events-are r h l in
    let discarded = discarded-is r h l ∙ sym k.given_up in
    let waiting = sym (waiting-shown h) in
    let busy = sym (busy-shown h k.closed) in
    λ i. record { made = made i; refused = refused i; consumed = consumed i; discarded = discarded i; waiting = waiting i; busy = busy i }
