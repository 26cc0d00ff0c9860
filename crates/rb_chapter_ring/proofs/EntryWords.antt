-- The entries of a chapter, by the eight bytes that it stores for each.
use Rattle.std.proofs.Common.{◌≡◌, ℕ, Bool, true, false, ◌+◌, ◌≤◌, List, [], ◌∷◌, ◌++◌, length, refl, sym, ap, ◌∙◌, subst, append_assoc, add-zero, arith}
use Rattle.std.proofs.lemmas.List.{length-map}
use Rattle.rb_history.specs.declared.entries.Entry.{Entry}
use Rattle.rb_history.specs.declared.entries.Entry.TheVariants.{Res, Full, Sub, Dis, Take}
use Rattle.rb_history.specs.declared.tally.Tally.{Tally}
use Rattle.rb_history.specs.History.{is_grant_of, granted_span, producer_of, grants}
use Rattle.rb_history.specs.WorkerCounts.{tally_of, numbers_below}
use Rattle.rb_history.proofs.Lists.{sum_by-cons, sum_by-snoc}
use Rattle.rb_history.proofs.RecordWorkers.{bit}
use Rattle.rb_history.proofs.Tallies.{grants-low}
use Rattle.rb_chapter_ring.specs.Snapshot.{Snapshot, tally_at}
use Rattle.rb_chapter_ring.specs.CountedFrom.{producer_from, MayFollowFrom, IsLegalFrom}
use Rattle.rb_chapter_ring.specs.Chapters.{Chapter}
use Rattle.rb_chapter_ring.specs.WholeHistory.{IsKept}
use Rattle.rb_chapter_ring.specs.inner.EntryWords.{made_before, entry_of, entries_of, IsWithin, AreWithin}
use Rattle.rb_chapter_ring.specs.inner.ChapterBody.{entries_in}
use Rattle.rb_chapter_ring.proofs.ChapterNumbers.{length-below, tally-at}
use Rattle.rb_chapter_ring.proofs.Limits.{spans-low}

-- ---- the entries of a chapter

pub length-entries : (ts : List Tally) (p : ℕ) (xs : List ℕ) → length (entries_of ts p xs) ≡ length xs
length-entries ts p [] = refl
length-entries ts p (x ∷ xs) = omega (arith, length-entries ts (p + granted_span (entry_of ts p x)) xs)

entries-snoc : (ts : List Tally) (p : ℕ) (xs : List ℕ) (x : ℕ) → entries_of ts p (xs ++ x ∷ []) ≡ entries_of ts p xs ++ entry_of ts (producer_of p (entries_of ts p xs)) x ∷ []
entries-snoc ts p [] x = ap (λ q. entry_of ts q x ∷ []) (sym (add-zero p))
entries-snoc ts p (y ∷ ys) x =
    let e = entry_of ts p y in
    let q = p + granted_span e in
    let here : producer_of q (entries_of ts q ys) ≡ producer_of p (e ∷ entries_of ts q ys) = omega (arith, sum_by-cons granted_span e (entries_of ts q ys)) in
    ap (λ es. e ∷ es) (entries-snoc ts q ys x) ∙ ap (λ n. e ∷ (entries_of ts q ys ++ entry_of ts n x ∷ [])) here

-- one more word is one more entry
pub logs-one : (ts : List Tally) (p : ℕ) (xs ys : List ℕ) (x : ℕ) (e : Entry) → ys ≡ xs ++ x ∷ [] → entry_of ts (producer_of p (entries_of ts p xs)) x ≡ e → entries_of ts p ys ≡ entries_of ts p xs ++ e ∷ []
logs-one ts p xs ys x e longer is = ap (entries_of ts p) longer ∙ entries-snoc ts p xs x ∙ ap (λ y. entries_of ts p xs ++ y ∷ []) is

-- by the word alone
pub logs-in : (o : Snapshot) (xs ys : List ℕ) (x : ℕ) (e : Entry) → ys ≡ xs ++ x ∷ [] → ((ts : List Tally) (p : ℕ) → entry_of ts p x ≡ e) → entries_in o ys ≡ entries_in o xs ++ e ∷ []
logs-in o xs ys x e longer is = logs-one o.tallies o.producer xs ys x e longer (is o.tallies (producer_of o.producer (entries_in o xs)))

-- a grant, whose serial is counted from the opening on
pub logs-grant : (o : Snapshot) (xs ys : List ℕ) (x w later n k : ℕ) → ys ≡ xs ++ x ∷ [] → ((ts : List Tally) (p : ℕ) → entry_of ts p x ≡ Res w (made_before ts w + later) n p) → (tally_at o w).made + later ≡ k
    → entries_in o ys ≡ entries_in o xs ++ Res w k n (producer_from o (entries_in o xs)) ∷ []
logs-grant o xs ys x w later n k longer is serial =
    let p = producer_from o (entries_in o xs) in
    logs-one o.tallies o.producer xs ys x (Res w k n p) longer (is o.tallies p ∙ ap (λ s. Res w s n p) serial)

-- at most every entry is a grant
pub grants-few : (w : ℕ) (h : List Entry) → grants w h ≤ length h
grants-few w [] = omega arith
grants-few w (e ∷ h) = omega (arith, grants-few w h, one (is_grant_of w e), sum_by-cons (λ y. bit (is_grant_of w y)) e h)
  where
    one : (b : Bool) → bit b ≤ 1
    one true = omega arith
    one false = omega arith

-- no entries are no words
pub no-words : (ts : List Tally) (p : ℕ) (xs : List ℕ) → entries_of ts p xs ≡ [] → xs ≡ []
no-words ts p [] e = refl
no-words ts p (x ∷ xs) e = absurd (omega (arith, ap length e))

-- ---- the numbers of the entries of a chapter fit

module _ (earlier : List Entry) (c : Chapter) (kept : IsKept earlier c) where
  abbrev o : Snapshot
  o = c.opening

  workers-are : length o.tallies ≡ o.setup.workers
  workers-are =
      ap (λ (x : Snapshot). length x.tallies) kept.continues.opened
      ∙ (length-map (numbers_below o.setup.workers) (λ w. tally_of w earlier) ∙ length-below o.setup.workers)

  one-within : (before : List Entry) (e : Entry) → MayFollowFrom o before e → IsWithin o.tallies (producer_from o before) e
  one-within before (Res w k n q) m =
      let total : tally_at o w ≡ tally_of w earlier = ap (λ x. tally_at x w) kept.continues.opened ∙ tally-at o.setup earlier w m.0 in
      let made : (tally_at o w).made ≡ grants w earlier = ap (λ (t : Tally). t.made) total in (
        omega (arith, m.0, workers-are),
        omega (arith, m.2, made, grants-low w earlier, spans-low o.setup earlier kept.continues.earlier_legal, grants-low w before, m.3.limit),
        m.3.limit,
      )
  one-within before (Full w n) m = tt
  one-within before (Sub q) m = tt
  one-within before (Dis q) m = tt
  one-within before (Take q) m = tt

  rest-within : (before : List Entry) (p : ℕ) (xs : List ℕ) → p ≡ producer_from o before → IsLegalFrom o (before ++ entries_of o.tallies p xs) → AreWithin o.tallies p xs
  rest-within before p [] here l = tt
  rest-within before p (x ∷ xs) here l =
      let e = entry_of o.tallies p x in
      let q = p + granted_span e in
      let m = l.each before e (entries_of o.tallies q xs) refl in
      let there : q ≡ producer_from o (before ++ e ∷ []) = omega (arith, here, sum_by-snoc granted_span before e) in (
        subst (λ n. IsWithin o.tallies n e) (sym here) (one-within before e m),
        rest-within (before ++ e ∷ []) q xs there (subst (IsLegalFrom o) (sym (append_assoc before (e ∷ []) (entries_of o.tallies q xs))) l),
      )

  pub all-within : (xs : List ℕ) → c.entries ≡ entries_of o.tallies o.producer xs → AreWithin o.tallies o.producer xs
  all-within xs are = rest-within [] o.producer xs (sym (add-zero o.producer)) (subst (IsLegalFrom o) are kept.continues.legal)
