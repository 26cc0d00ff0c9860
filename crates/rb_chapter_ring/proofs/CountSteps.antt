-- What each entry changes in the six counts.
use Rattle.std.proofs.Common.{◌≡◌, ℕ, ◌+◌, ◌-◌, ◌*◌, ◌<◌, ◌≤◌, ◌^◌, Bool, true, false, ◌||◌, cond, List, [], ◌∷◌, ◌++◌, refl, sym, ap, arith}
use Rattle.std.specs.List.{sum_by, count_by}
use Rattle.std.proofs.lemmas.Bool.{true≢false}
use Rattle.rb_history.specs.declared.entries.Entry.{Entry}
use Rattle.rb_history.specs.declared.entries.Entry.TheVariants.{Res, Full, Sub, Dis, Take}
use Rattle.rb_history.specs.declared.answers.Counts.{Counts}
use Rattle.rb_history.specs.History.{Status, status_by, granted_span, is_submitted_at, is_discarded_at}
use Rattle.rb_history.specs.History.Status.{Busy, Waiting, Consumed, Discarded}
use Rattle.rb_history.specs.Counting.{is_same, is_grant_entry, is_refusal_entry, is_discard_entry, status_count, counts_of}
use Rattle.rb_history.specs.RoomRule.{Setup}
use Rattle.rb_history.specs.Legal.{IsLegal}
use Rattle.rb_history.proofs.Counting.{waiting-shown, busy-shown, made-split}
use Rattle.rb_history.proofs.Laws.{kept-from-legal, legal-front, legal-next}
use Rattle.rb_history.proofs.Lists.{sum_by-cons, sum_by-snoc}
use Rattle.rb_chapter_ring.proofs.Limits.{spans-low}
use Rattle.rb_chapter_ring.proofs.Weights.{weigh-full, weigh-res, weigh-end, weigh-take}
use Rattle.rb_chapter_ring.specs.OpenedRing.{capped, capped_counts}
use Rattle.rb_chapter_ring.specs.declared.record_end.RecordEnd.{RecordEnd}
use Rattle.rb_chapter_ring.specs.declared.record_end.RecordEnd.TheVariants.{Submit, Discard}
use Rattle.rb_chapter_ring.specs.inner.EndSteps.{discards_by_end}
use Rattle.rb_chapter_ring.specs.RecordEnds.{entry_of_end, status_of_end}

abbrev pub zero_counts : Counts
zero_counts = record { made = 0; refused = 0; consumed = 0; discarded = 0; waiting = 0; busy = 0 }

abbrev pub bit : Bool → ℕ
bit b = cond b 1 0

abbrev as_bit : Status → Status → ℕ
as_bit st x = bit (is_same st x)

abbrev pub counting_grant : Counts → Counts
counting_grant c = record c { made = c.made + 1; busy = c.busy + 1 }

abbrev pub counting_refusal : Counts → Counts
counting_refusal c = record c { refused = capped (c.refused + 1) }

abbrev pub counting_end : RecordEnd → Counts → Counts
counting_end end c = record c { discarded = c.discarded + discards_by_end end; waiting = c.waiting + as_bit Waiting (status_of_end end); busy = c.busy - 1 }

-- a take returns the record, or skips it
abbrev pub counting_take : Bool → Counts → Counts
counting_take true c = record c { consumed = c.consumed + 1; waiting = c.waiting - 1 }
counting_take false c = c

pub made-taken : (waited : Bool) (c : Counts) → (counting_take waited c).made ≡ c.made
made-taken true c = refl
made-taken false c = refl

pub refused-taken : (waited : Bool) (c : Counts) → (counting_take waited c).refused ≡ c.refused
refused-taken true c = refl
refused-taken false c = refl

pub discarded-taken : (waited : Bool) (c : Counts) → (counting_take waited c).discarded ≡ c.discarded
discarded-taken true c = refl
discarded-taken false c = refl

-- counts so low that one more fits
pub record IsCountable (c : Counts) : Type 0 where
  pub made : c.made < 2 ^ 62
  pub consumed : c.consumed < 2 ^ 62
  pub discarded : c.discarded < 2 ^ 62
  pub waiting : c.waiting < 2 ^ 62
  pub busy : c.busy < 2 ^ 62

-- ---- the numbers of records

grants-within : (h : List Entry) → 8 * count_by is_grant_entry h ≤ sum_by granted_span h
grants-within [] = omega arith
grants-within (Res w k n p ∷ h) = omega (arith, grants-within h, sum_by-cons (λ x. bit (is_grant_entry x)) (Res w k n p) h, sum_by-cons granted_span (Res w k n p) h)
grants-within (Full w n ∷ h) = omega (arith, grants-within h, sum_by-cons (λ x. bit (is_grant_entry x)) (Full w n) h, sum_by-cons granted_span (Full w n) h)
grants-within (Sub p ∷ h) = omega (arith, grants-within h, sum_by-cons (λ x. bit (is_grant_entry x)) (Sub p) h, sum_by-cons granted_span (Sub p) h)
grants-within (Dis p ∷ h) = omega (arith, grants-within h, sum_by-cons (λ x. bit (is_grant_entry x)) (Dis p) h, sum_by-cons granted_span (Dis p) h)
grants-within (Take p ∷ h) = omega (arith, grants-within h, sum_by-cons (λ x. bit (is_grant_entry x)) (Take p) h, sum_by-cons granted_span (Take p) h)

pub countable : (r : Setup) (h : List Entry) (c : Counts) → IsLegal r h → c ≡ capped_counts (counts_of h) → IsCountable c
countable r h c l is =
    let low = spans-low r h l in
    let few = grants-within h in
    let split = made-split h in
    record {
      made = omega (arith, ap (λ (x : Counts). x.made) is, low, few);
      consumed = omega (arith, ap (λ (x : Counts). x.consumed) is, low, few, split);
      discarded = omega (arith, ap (λ (x : Counts). x.discarded) is, low, few, split);
      waiting = omega (arith, ap (λ (x : Counts). x.waiting) is, low, few, split);
      busy = omega (arith, ap (λ (x : Counts). x.busy) is, low, few, split);
    }

-- ---- the steps

module _ (r : Setup) (h : List Entry) where
  legal-before : (e : Entry) → IsLegal r (h ++ e ∷ []) → IsLegal r h
  legal-before e l = legal-front r h (e ∷ []) l

  pub counts-refusal : (w n : ℕ) (c : Counts) → IsLegal r (h ++ Full w n ∷ []) → c ≡ capped_counts (counts_of h) → counting_refusal c ≡ capped_counts (counts_of (h ++ Full w n ∷ []))
  counts-refusal w n c l is =
      let e = Full w n in
      let k = kept-from-legal r h (legal-before e l) in
      let j = kept-from-legal r (h ++ e ∷ []) l in
      let made : c.made ≡ count_by is_grant_entry (h ++ e ∷ []) = omega (arith, ap (λ (x : Counts). x.made) is, sum_by-snoc (λ y. bit (is_grant_entry y)) h e) in
      let refused : capped (c.refused + 1) ≡ capped (count_by is_refusal_entry (h ++ e ∷ [])) = omega (arith, ap (λ (x : Counts). x.refused) is, sum_by-snoc (λ y. bit (is_refusal_entry y)) h e) in
      let discards = sum_by-snoc (λ y. bit (is_discard_entry y)) h e in
      let discarded : c.discarded ≡ status_count Discarded (h ++ e ∷ []) = omega (arith, ap (λ (x : Counts). x.discarded) is, discards, k.given_up, j.given_up) in
      let waiting : c.waiting ≡ status_count Waiting (h ++ e ∷ []) = omega (arith, ap (λ (x : Counts). x.waiting) is, waiting-shown h, waiting-shown (h ++ e ∷ []), weigh-full (as_bit Waiting) r h k w n) in
      let busy : c.busy ≡ status_count Busy (h ++ e ∷ []) = omega (arith, ap (λ (x : Counts). x.busy) is, busy-shown h k.closed, busy-shown (h ++ e ∷ []) j.closed, weigh-full (as_bit Busy) r h k w n) in
      let consumed : c.consumed ≡ status_count Consumed (h ++ e ∷ []) = omega (arith, ap (λ (x : Counts). x.consumed) is, ap (λ (x : Counts). x.made) is, ap (λ (x : Counts). x.discarded) is, ap (λ (x : Counts). x.waiting) is, ap (λ (x : Counts). x.busy) is, made-split h, made-split (h ++ e ∷ []), made, discarded, waiting, busy) in
      λ i. record { made = made i; refused = refused i; consumed = consumed i; discarded = discarded i; waiting = waiting i; busy = busy i }

  pub counts-grant : (w s n p : ℕ) (c : Counts) → IsLegal r (h ++ Res w s n p ∷ []) → c ≡ capped_counts (counts_of h) → counting_grant c ≡ capped_counts (counts_of (h ++ Res w s n p ∷ []))
  counts-grant w s n p c l is =
      let e = Res w s n p in
      let k = kept-from-legal r h (legal-before e l) in
      let m = legal-next r h e [] l in
      let j = kept-from-legal r (h ++ e ∷ []) l in
      let made : c.made + 1 ≡ count_by is_grant_entry (h ++ e ∷ []) = omega (arith, ap (λ (x : Counts). x.made) is, sum_by-snoc (λ y. bit (is_grant_entry y)) h e) in
      let refused : c.refused ≡ capped (count_by is_refusal_entry (h ++ e ∷ [])) = omega (arith, ap (λ (x : Counts). x.refused) is, sum_by-snoc (λ y. bit (is_refusal_entry y)) h e) in
      let discards = sum_by-snoc (λ y. bit (is_discard_entry y)) h e in
      let discarded : c.discarded ≡ status_count Discarded (h ++ e ∷ []) = omega (arith, ap (λ (x : Counts). x.discarded) is, discards, k.given_up, j.given_up) in
      let waiting : c.waiting ≡ status_count Waiting (h ++ e ∷ []) = omega (arith, ap (λ (x : Counts). x.waiting) is, waiting-shown h, waiting-shown (h ++ e ∷ []), weigh-res (as_bit Waiting) r h k w s n p m) in
      let busy : c.busy + 1 ≡ status_count Busy (h ++ e ∷ []) = omega (arith, ap (λ (x : Counts). x.busy) is, busy-shown h k.closed, busy-shown (h ++ e ∷ []) j.closed, weigh-res (as_bit Busy) r h k w s n p m) in
      let consumed : c.consumed ≡ status_count Consumed (h ++ e ∷ []) = omega (arith, ap (λ (x : Counts). x.consumed) is, ap (λ (x : Counts). x.made) is, ap (λ (x : Counts). x.discarded) is, ap (λ (x : Counts). x.waiting) is, ap (λ (x : Counts). x.busy) is, made-split h, made-split (h ++ e ∷ []), made, discarded, waiting, busy) in
      λ i. record { made = made i; refused = refused i; consumed = consumed i; discarded = discarded i; waiting = waiting i; busy = busy i }

  -- what a commit adds
  of-end : (end : RecordEnd) (p : ℕ) → (bit (is_grant_entry (entry_of_end end p)) ≡ 0) × (bit (is_refusal_entry (entry_of_end end p)) ≡ 0) × (bit (is_discard_entry (entry_of_end end p)) ≡ discards_by_end end)
      × (as_bit Busy (status_of_end end) ≡ 0) × (discards_by_end end + as_bit Waiting (status_of_end end) ≡ 1)
  of-end Submit p = (refl, refl, refl, refl, refl)
  of-end Discard p = (refl, refl, refl, refl, refl)

  pub counts-end : (end : RecordEnd) (p : ℕ) (c : Counts) → IsLegal r (h ++ entry_of_end end p ∷ []) → c ≡ capped_counts (counts_of h) → counting_end end c ≡ capped_counts (counts_of (h ++ entry_of_end end p ∷ []))
  counts-end end p c l is =
      let e = entry_of_end end p in
      let adds = of-end end p in
      let k = kept-from-legal r h (legal-before e l) in
      let m = legal-next r h e [] l in
      let j = kept-from-legal r (h ++ e ∷ []) l in
      let less = weigh-end (as_bit Busy) r h k end p m in
      let some : 0 < c.busy = omega (arith, ap (λ (x : Counts). x.busy) is, busy-shown h k.closed, less, adds.3) in
      let made : c.made ≡ count_by is_grant_entry (h ++ e ∷ []) = omega (arith, ap (λ (x : Counts). x.made) is, sum_by-snoc (λ y. bit (is_grant_entry y)) h e, adds.0) in
      let refused : c.refused ≡ capped (count_by is_refusal_entry (h ++ e ∷ [])) = omega (arith, ap (λ (x : Counts). x.refused) is, sum_by-snoc (λ y. bit (is_refusal_entry y)) h e, adds.1) in
      let discards = sum_by-snoc (λ y. bit (is_discard_entry y)) h e in
      let discarded : c.discarded + discards_by_end end ≡ status_count Discarded (h ++ e ∷ []) = omega (arith, ap (λ (x : Counts). x.discarded) is, discards, k.given_up, j.given_up, adds.2) in
      let waiting : c.waiting + as_bit Waiting (status_of_end end) ≡ status_count Waiting (h ++ e ∷ []) = omega (arith, ap (λ (x : Counts). x.waiting) is, waiting-shown h, waiting-shown (h ++ e ∷ []), weigh-end (as_bit Waiting) r h k end p m) in
      let busy : c.busy - 1 ≡ status_count Busy (h ++ e ∷ []) = omega (arith, ap (λ (x : Counts). x.busy) is, busy-shown h k.closed, busy-shown (h ++ e ∷ []) j.closed, less, adds.3) in
      let consumed : c.consumed ≡ status_count Consumed (h ++ e ∷ []) = omega (arith, ap (λ (x : Counts). x.consumed) is, ap (λ (x : Counts). x.made) is, ap (λ (x : Counts). x.discarded) is, ap (λ (x : Counts). x.waiting) is, ap (λ (x : Counts). x.busy) is, made-split h, made-split (h ++ e ∷ []), made, discarded, waiting, busy, some, adds.4) in
      λ i. record { made = made i; refused = refused i; consumed = consumed i; discarded = discarded i; waiting = waiting i; busy = busy i }

  -- the record at the position waits, or was discarded
  pub counts-take : (p : ℕ) (c : Counts) (waited : Bool) → IsLegal r (h ++ Take p ∷ []) → bit waited ≡ as_bit Waiting (status_by (is_submitted_at h p) (is_discarded_at h p) false)
      → c ≡ capped_counts (counts_of h) → counting_take waited c ≡ capped_counts (counts_of (h ++ Take p ∷ []))
  counts-take p c waited l waits is =
      let e = Take p in
      let k = kept-from-legal r h (legal-before e l) in
      let m = legal-next r h e [] l in
      let j = kept-from-legal r (h ++ e ∷ []) l in
      let made : c.made ≡ count_by is_grant_entry (h ++ e ∷ []) = omega (arith, ap (λ (x : Counts). x.made) is, sum_by-snoc (λ y. bit (is_grant_entry y)) h e) in
      let refused : c.refused ≡ capped (count_by is_refusal_entry (h ++ e ∷ [])) = omega (arith, ap (λ (x : Counts). x.refused) is, sum_by-snoc (λ y. bit (is_refusal_entry y)) h e) in
      let discards = sum_by-snoc (λ y. bit (is_discard_entry y)) h e in
      let discarded : c.discarded ≡ status_count Discarded (h ++ e ∷ []) = omega (arith, ap (λ (x : Counts). x.discarded) is, discards, k.given_up, j.given_up) in
      let less : status_count Waiting (h ++ e ∷ []) + bit waited ≡ c.waiting = omega (arith, ap (λ (x : Counts). x.waiting) is, waiting-shown h, waiting-shown (h ++ e ∷ []), waits, weigh-take (as_bit Waiting) r h k p m) in
      let free = not-busy (is_submitted_at h p) (is_discarded_at h p) m.1 in
      let busy : c.busy ≡ status_count Busy (h ++ e ∷ []) = omega (arith, ap (λ (x : Counts). x.busy) is, busy-shown h k.closed, busy-shown (h ++ e ∷ []) j.closed, free, weigh-take (as_bit Busy) r h k p m) in
      let more : c.consumed + bit waited ≡ status_count Consumed (h ++ e ∷ []) = omega (arith, ap (λ (x : Counts). x.consumed) is, ap (λ (x : Counts). x.made) is, ap (λ (x : Counts). x.discarded) is, ap (λ (x : Counts). x.waiting) is, ap (λ (x : Counts). x.busy) is, made-split h, made-split (h ++ e ∷ []), made, discarded, less, busy) in
      by-case waited less more made refused discarded busy
    where
      not-busy : (s d : Bool) → (s || d) ≡ true → as_bit Busy (status_by s d false) ≡ 0
      not-busy true true o = refl
      not-busy true false o = refl
      not-busy false true o = refl
      not-busy false false o = absurd (true≢false (sym o))

      by-case : (b : Bool) → status_count Waiting (h ++ Take p ∷ []) + bit b ≡ c.waiting → c.consumed + bit b ≡ status_count Consumed (h ++ Take p ∷ []) → c.made ≡ count_by is_grant_entry (h ++ Take p ∷ []) → c.refused ≡ capped (count_by is_refusal_entry (h ++ Take p ∷ []))
          → c.discarded ≡ status_count Discarded (h ++ Take p ∷ []) → c.busy ≡ status_count Busy (h ++ Take p ∷ []) → counting_take b c ≡ capped_counts (counts_of (h ++ Take p ∷ []))
      by-case true less more made refused discarded busy =
          let waiting : c.waiting - 1 ≡ status_count Waiting (h ++ Take p ∷ []) = omega (arith, less) in
          λ i. record { made = made i; refused = refused i; consumed = more i; discarded = discarded i; waiting = waiting i; busy = busy i }
      by-case false less more made refused discarded busy =
          let waiting : c.waiting ≡ status_count Waiting (h ++ Take p ∷ []) = omega (arith, less) in
          let consumed : c.consumed ≡ status_count Consumed (h ++ Take p ∷ []) = omega (arith, more) in
          λ i. record { made = made i; refused = refused i; consumed = consumed i; discarded = discarded i; waiting = waiting i; busy = busy i }
