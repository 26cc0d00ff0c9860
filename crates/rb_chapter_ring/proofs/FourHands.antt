-- The initial book is free, and a worker has at most four busy records.
use Rattle.std.proofs.Common.{◌≡◌, ◌≢◌, ℕ, ◌<◌, ◌≤◌, [], Option, Some, None, length, sym, ap, ◌∙◌, subst, inl, inr, ◌⊎◌, arith}
use Rattle.std.proofs.lemmas.Bool.{cases_eq, cases_lt}
use Rattle.std.proofs.lemmas.List.{get_or_past, get_or-replicate, length-replicate}
use Rattle.rb_chapter_ring.specs.declared.out_record.OutRecord.{OutRecord}
use Rattle.rb_chapter_ring.specs.Hands.{out_record, in_hand, hands_of, hand_at, free_hands, free_book}
use Rattle.rb_chapter_ring.specs.HandLaws.{BookBeginsFree, AtMostFourBusy}
use Rattle.rb_chapter_ring.proofs.BusyEntries.{in-ring, below-four, some-out}

-- ---- in the empty history no hand is occupied

free-at : (workers w : ℕ) → w < workers → hands_of (free_book workers) w ≡ free_hands
free-at workers w low = get_or-replicate workers w free_hands [] low

none-free : (workers w h : ℕ) → hand_at (free_book workers) w h ≡ None
none-free workers w h = elim (cases_lt w workers) [
  | inl low ↦ ap (λ hs. in_hand hs h) (free-at workers w low) ∙ each h
  | inr far ↦ ap (λ hs. in_hand hs h) (get_or_past (free_book workers) w [] (subst (λ n. n ≤ w) (sym (length-replicate workers free_hands)) far)) ∙ get_or_past [] h None (omega arith)
]
  where
    each : (h : ℕ) → in_hand free_hands h ≡ None
    each h = elim (cases_lt h 4) [
      | inl low ↦ get_or-replicate 4 h None None low
      | inr far ↦ get_or_past free_hands h None far
    ]

nothing-out : (x : OutRecord) → ◌≡◌ {A = Option OutRecord} None (Some x) → ⊥
nothing-out x e = cc

pub book-begins-free : BookBeginsFree
book-begins-free workers = (
  record { each_worker = length-replicate workers free_hands; four = λ w low. ap length (free-at workers w low) },
  record {
    out_is_busy = λ w h o at. absurd (nothing-out o (sym (none-free workers w h) ∙ at));
    busy_is_out = λ p w k n b. let low : b.granted_is.0 < 0 = b.granted_is.1 in absurd (omega arith);
    each_once = λ v w g h x y at also same. absurd (nothing-out x (sym (none-free workers v g) ∙ at));
  },
)

-- ---- of five hands, two are the same

five-hands : (a b c d e : ℕ) → a < 4 → b < 4 → c < 4 → d < 4 → e < 4 → a ≢ b → a ≢ c → a ≢ d → a ≢ e → b ≢ c → b ≢ d → b ≢ e → c ≢ d → c ≢ e → d ≢ e → ⊥
five-hands a b c d e la lb lc ld le ab ac ad ae bc bd be cd ce de = absurd (omega arith)

abbrev TwoOfFive : (ℕ → ℕ) → Type 0
TwoOfFive f = (i : ℕ) × (j : ℕ) × (i < j) × (j < 5) × (f i ≡ f j)

two-of-five : (f : ℕ → ℕ) → ((i : ℕ) → i < 5 → f i < 4) → TwoOfFive f
two-of-five f low =
    pair 0 1 (omega arith) (omega arith) (λ ab. pair 0 2 (omega arith) (omega arith) (λ ac. pair 0 3 (omega arith) (omega arith) (λ ad. pair 0 4 (omega arith) (omega arith) (λ ae.
    pair 1 2 (omega arith) (omega arith) (λ bc. pair 1 3 (omega arith) (omega arith) (λ bd. pair 1 4 (omega arith) (omega arith) (λ be.
    pair 2 3 (omega arith) (omega arith) (λ cd. pair 2 4 (omega arith) (omega arith) (λ ce.
    pair 3 4 (omega arith) (omega arith) (λ de.
    absurd (five-hands (f 0) (f 1) (f 2) (f 3) (f 4) (low 0 (omega arith)) (low 1 (omega arith)) (low 2 (omega arith)) (low 3 (omega arith)) (low 4 (omega arith)) ab ac ad ae bc bd be cd ce de)))))))))))
  where
    pair : (i j : ℕ) → i < j → j < 5 → (f i ≢ f j → TwoOfFive f) → TwoOfFive f
    pair i j before within later = elim (cases_eq (f i) (f j)) [
      | inl same ↦ (i, j, before, within, same)
      | inr apart ↦ later apart
    ]

pub at-most-four-busy : AtMostFourBusy
at-most-four-busy r h book legal shaped is w p k n busy =
    let t = two-of-five hand hand-low in
    (t.0, t.1, t.2, t.3, same-place t.0 t.1 (omega arith) t.3 t.4)
  where
    -- the hand of each record, and 4 if there is none
    hand : ℕ → ℕ
    hand i = elim (cases_lt i 5) [ inl low ↦ (is.busy_is_out (p i) w (k i) (n i) (busy i low)).0 | inr far ↦ 4 ]

    hand-is : (i : ℕ) → i < 5 → hand_at book w (hand i) ≡ Some (out_record (p i) (k i) (n i))
    hand-is i low = by_case (cases_lt i 5)
      where
        by_case : (d : (i < 5) ⊎ (5 ≤ i)) → hand_at book w (elim d [ inl l ↦ (is.busy_is_out (p i) w (k i) (n i) (busy i l)).0 | inr far ↦ 4 ]) ≡ Some (out_record (p i) (k i) (n i))
        by_case (inl l) = (is.busy_is_out (p i) w (k i) (n i) (busy i l)).1
        by_case (inr far) = absurd (omega arith)

    hand-low : (i : ℕ) → i < 5 → hand i < 4
    hand-low i low = below-four r h book legal shaped is w (hand i) (out_record (p i) (k i) (n i)) (in-ring r h book legal shaped is w (k i) (n i) (p i) (busy i low).granted_is) (hand-is i low)

    same-place : (i j : ℕ) → i < 5 → j < 5 → hand i ≡ hand j → p i ≡ p j
    same-place i j li lj same = ap (λ (o : OutRecord). o.pos) (some-out (out_record (p i) (k i) (n i)) (out_record (p j) (k j) (n j)) (sym (hand-is i li) ∙ ap (λ g. hand_at book w g) same ∙ hand-is j lj))
