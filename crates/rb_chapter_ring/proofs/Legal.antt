-- Entries are legal from an opening if and only if the whole history is legal.
use Rattle.std.proofs.Common.{◌≡◌, ℕ, ◌+◌, ◌<◌, ◌≤◌, ◌==◌, true, false, cond, ◌||◌, List, [], ◌∷◌, ◌++◌, refl, sym, ap, ◌∙◌, inl, inr, arith, subst, append_assoc, append-nil}
use Rattle.std.specs.List.{list_any, All}
use Rattle.std.proofs.lemmas.Bool.{cases_lt, or_cases, or_left, true≢false, false_from_ne_true}
use Rattle.std.proofs.lemmas.List.Folds.{list_any_none, list_any-append}
use Rattle.std.proofs.lemmas.List.Sums.{sum_by-append, sum_by-le-sum_by}
use Rattle.std.proofs.lemmas.List.Elements.{All-weaker}
use Rattle.rb_history.specs.declared.entries.Entry.{Entry}
use Rattle.rb_history.specs.declared.entries.Entry.TheVariants.{Res, Full, Sub, Dis, Take}
use Rattle.rb_history.specs.History.{is_grant_at, is_submit, is_discard, is_grant_of, is_granted_at, is_submitted_at, is_discarded_at, is_taken_at, granted_span, granted_span_at, taken_span, producer_of, consumer_of, grants, records}
use Rattle.rb_history.specs.RoomRule.{Setup, HasRoomFor}
use Rattle.rb_history.specs.Legal.{MayFollow, IsLegal}
use Rattle.rb_history.proofs.Laws.{KeptAs}
use Rattle.rb_history.proofs.Kept.{legal-push}
use Rattle.rb_history.proofs.TakenRecords.{NeverBoth}
use Rattle.rb_history.proofs.Lists.{snoc_cases}
use Rattle.rb_chapter_ring.specs.Snapshot.{Snapshot, snapshot_of}
use Rattle.rb_chapter_ring.specs.CountedFrom.{shows_at, is_granted_from, is_submitted_from, is_discarded_from, producer_from, consumer_from, grants_from, HasRoomFrom, MayFollowFrom, IsLegalFrom}
use Rattle.rb_chapter_ring.proofs.ChapterPieces.{each-split, all-front}
use Rattle.rb_chapter_ring.proofs.Shown.{not-shown}
use Rattle.rb_chapter_ring.proofs.From.{GoesFrom, low}
use Rattle.rb_chapter_ring.proofs.Same.{granted-same, submitted-same, discarded-same, producer-same, consumer-same}
use Rattle.rb_chapter_ring.proofs.ChapterNumbers.{tally-at}

-- a grant at or beyond the producer position
abbrev GrantsFrom : ℕ → Entry → Type 0
GrantsFrom p (Res w k n q) = p ≤ q
GrantsFrom p _ = Unit {0}

module _ (r : Setup) (h : List Entry) (k : KeptAs r h) (never : NeverBoth h) where
  past : (q : ℕ) → consumer_of r.start h ≤ q → is_taken_at h q ≡ false
  past q le = false_from_ne_true (is_taken_at h q) (λ t. omega (arith, le, k.passed q t))

  -- ---- by the definition over the whole history

  more-span : (b : List Entry) (e : Entry) → taken_span h e ≤ taken_span (h ++ b) e
  more-span b (Res w s n q) = omega arith
  more-span b (Full w n) = omega arith
  more-span b (Sub q) = omega arith
  more-span b (Dis q) = omega arith
  more-span b (Take q) = omega (arith, sum_by-append (granted_span_at q) h b)

  consumer-grows : (b : List Entry) → consumer_of r.start h ≤ consumer_of r.start (h ++ b)
  consumer-grows b = omega (arith, sum_by-append (taken_span (h ++ b)) h b, sum_by-le-sum_by (taken_span h) (taken_span (h ++ b)) h (more-span b))

  -- the record at the front was not taken
  pub front-free : (b : List Entry) → is_taken_at h (consumer_of r.start (h ++ b)) ≡ false
  front-free b = past (consumer_of r.start (h ++ b)) (consumer-grows b)

  unsettled : (b : List Entry) (q : ℕ) → is_submitted_at (h ++ b) q ≡ false → is_discarded_at (h ++ b) q ≡ false → is_taken_at h q ≡ false
  unsettled b q s d = false_from_ne_true (is_taken_at h q) (λ t. elim (or_cases (is_submitted_at h q) (is_discarded_at h q) (k.closed q t)) [
    | inl x ↦ true≢false (sym (list_any-append (is_submit q) h b ∙ or_left (is_submitted_at h q) (is_submitted_at b q) x) ∙ s)
    | inr x ↦ true≢false (sym (list_any-append (is_discard q) h b ∙ or_left (is_discarded_at h q) (is_discarded_at b q) x) ∙ d)
  ])

  old-from : (b : List Entry) (e : Entry) → MayFollow r (h ++ b) e → GoesFrom h (producer_of r.start h) e
  old-from b (Res w s n q) m = omega (arith, m.1, sum_by-append granted_span h b)
  old-from b (Full w n) m = tt
  old-from b (Sub q) m = unsettled b q m.1 m.2
  old-from b (Dis q) m = unsettled b q m.1 m.2
  old-from b (Take q) m = past q (omega (arith, m.0, consumer-grows b))

  pub from-old : (t : List Entry) → IsLegal r (h ++ t) → All (GoesFrom h (producer_of r.start h)) t
  from-old t l = each-split (GoesFrom h (producer_of r.start h)) t
      (λ before e after is. old-from before e (l.each (h ++ before) e after (ap (λ x. h ++ x) is ∙ sym (append_assoc h before (e ∷ after)))))

  -- ---- by the definition from the opening

  grant-from : (b : List Entry) (e : Entry) → MayFollowFrom (snapshot_of r h) b e → GrantsFrom (producer_of r.start h) e
  grant-from b (Res w s n q) m = omega (arith, m.1)
  grant-from b (Full w n) m = tt
  grant-from b (Sub q) m = tt
  grant-from b (Dis q) m = tt
  grant-from b (Take q) m = tt

  low-grant : (q : ℕ) → q < producer_of r.start h → (e : Entry) → GrantsFrom (producer_of r.start h) e → is_grant_at q e ≡ false
  low-grant q lt (Res w s n x) g = ne x (omega arith)
    where
      ne : (y : ℕ) → q < y → (y == q) ≡ false
      ne y l = grind arith
  low-grant q lt (Full w n) g = refl
  low-grant q lt (Sub x) g = refl
  low-grant q lt (Dis x) g = refl
  low-grant q lt (Take x) g = refl

  named-from : (b : List Entry) → All (GrantsFrom (producer_of r.start h)) b → (q : ℕ) → is_granted_from (snapshot_of r h) b q ≡ true → is_taken_at h q ≡ false
  named-from b grants q is = elim (or_cases (list_any (shows_at q) (records h)) (is_granted_at b q) is) [
    | inl shown ↦ not-shown h q shown
    | inr more ↦ elim (cases_lt q (producer_of r.start h)) [
      | inl lt ↦ absurd (true≢false (sym more ∙ list_any_none (is_grant_at q) b (All-weaker (GrantsFrom (producer_of r.start h)) (λ e. is_grant_at q e ≡ false) (low-grant q lt) b grants)))
      | inr le ↦ past q (omega (arith, le, low r h k))
    ]
  ]

  new-from : (b : List Entry) → All (GrantsFrom (producer_of r.start h)) b → (e : Entry) → MayFollowFrom (snapshot_of r h) b e → GoesFrom h (producer_of r.start h) e
  new-from b g (Res w s n q) m = omega (arith, m.1)
  new-from b g (Full w n) m = tt
  new-from b g (Sub q) m = named-from b g q m.0
  new-from b g (Dis q) m = named-from b g q m.0
  new-from b g (Take q) m = past q (omega (arith, m.0))

  grants-all : (t : List Entry) → IsLegalFrom (snapshot_of r h) t → All (GrantsFrom (producer_of r.start h)) t
  grants-all t l = each-split (GrantsFrom (producer_of r.start h)) t (λ before e after is. grant-from before e (l.each before e after is))

  pub from-new : (t : List Entry) → IsLegalFrom (snapshot_of r h) t → All (GoesFrom h (producer_of r.start h)) t
  from-new t l = each-split (GoesFrom h (producer_of r.start h)) t
      (λ before e after is. new-from before (all-front (GrantsFrom (producer_of r.start h)) before (e ∷ after) (subst (All (GrantsFrom (producer_of r.start h))) is (grants-all t l))) e (l.each before e after is))

  -- ---- one entry

  module _ (b : List Entry) (from : All (GoesFrom h (producer_of r.start h)) b) where
    producer-is : producer_from (snapshot_of r h) b ≡ producer_of r.start (h ++ b)
    producer-is = producer-same r h k never b

    consumer-is : consumer_from (snapshot_of r h) b ≡ consumer_of r.start (h ++ b)
    consumer-is = consumer-same r h k never b from

    pub fits-from : (n : ℕ) → HasRoomFor r (h ++ b) n → HasRoomFrom (snapshot_of r h) b n
    fits-from n f = record { space = rw (producer-is, consumer-is) f.space; limit = rw producer-is f.limit }

    pub fits-back : (n : ℕ) → HasRoomFrom (snapshot_of r h) b n → HasRoomFor r (h ++ b) n
    fits-back n f = record { space = rw (producer-is, consumer-is) at f.space; limit = rw producer-is at f.limit }

    pub grants-is : (w : ℕ) → w < r.workers → grants_from (snapshot_of r h) w b ≡ grants w (h ++ b)
    grants-is w l = ap (λ t. t.made + grants w b) (tally-at r h w l) ∙ sym (sum_by-append (λ e. cond (is_grant_of w e) 1 0) h b)

    settled-is : (q : ℕ) → is_taken_at h q ≡ false → (is_submitted_from (snapshot_of r h) b q || is_discarded_from (snapshot_of r h) b q) ≡ (is_submitted_at (h ++ b) q || is_discarded_at (h ++ b) q)
    settled-is q free = rw (submitted-same r h k never b q free, discarded-same r h k never b q free) refl

    pub follow-from : (e : Entry) → MayFollow r (h ++ b) e → MayFollowFrom (snapshot_of r h) b e
    follow-from (Res w s n q) m = (m.0, m.1 ∙ sym producer-is, m.2 ∙ sym (grants-is w m.0), fits-from n m.3)
    follow-from (Full w n) m = (m.0, λ f. m.1 (fits-back n f))
    follow-from (Sub q) m =
        let free = unsettled b q m.1 m.2 in
        (granted-same r h k never b q free ∙ m.0, submitted-same r h k never b q free ∙ m.1, discarded-same r h k never b q free ∙ m.2)
    follow-from (Dis q) m =
        let free = unsettled b q m.1 m.2 in
        (granted-same r h k never b q free ∙ m.0, submitted-same r h k never b q free ∙ m.1, discarded-same r h k never b q free ∙ m.2)
    follow-from (Take q) m = (m.0 ∙ sym consumer-is, settled-is q (old-from b (Take q) m) ∙ m.1)

    pub follow-back : (e : Entry) → GoesFrom h (producer_of r.start h) e → MayFollowFrom (snapshot_of r h) b e → MayFollow r (h ++ b) e
    follow-back (Res w s n q) g m = (m.0, m.1 ∙ producer-is, m.2 ∙ grants-is w m.0, fits-back n m.3)
    follow-back (Full w n) g m = (m.0, λ f. m.1 (fits-from n f))
    follow-back (Sub q) g m =
        (sym (granted-same r h k never b q g) ∙ m.0, sym (submitted-same r h k never b q g) ∙ m.1, sym (discarded-same r h k never b q g) ∙ m.2)
    follow-back (Dis q) g m =
        (sym (granted-same r h k never b q g) ∙ m.0, sym (submitted-same r h k never b q g) ∙ m.1, sym (discarded-same r h k never b q g) ∙ m.2)
    follow-back (Take q) g m = (m.0 ∙ consumer-is, sym (settled-is q g) ∙ m.1)

  -- ---- all entries

  pub legal-from : (t : List Entry) → IsLegal r (h ++ t) → IsLegalFrom (snapshot_of r h) t
  legal-from t l = record {
    each = λ before e after is.
        follow-from before (all-front (GoesFrom h (producer_of r.start h)) before (e ∷ after) (subst (All (GoesFrom h (producer_of r.start h))) is (from-old t l))) e
        (l.each (h ++ before) e after (ap (λ x. h ++ x) is ∙ sym (append_assoc h before (e ∷ after))));
  }

  module _ (t : List Entry) (l : IsLegalFrom (snapshot_of r h) t) where
    rest : (b es : List Entry) → t ≡ b ++ es → IsLegal r (h ++ b) → IsLegal r (h ++ t)
    rest b [] is old = subst (λ x. IsLegal r (h ++ x)) (sym (is ∙ append-nil b)) old
    rest b (e ∷ es) is old =
        let all : All (GoesFrom h (producer_of r.start h)) (b ++ e ∷ es) = subst (All (GoesFrom h (producer_of r.start h))) is (from-new t l) in
        let front = all-front (GoesFrom h (producer_of r.start h)) b (e ∷ es) all in
        let goes : GoesFrom h (producer_of r.start h) e = new-from b (all-front (GrantsFrom (producer_of r.start h)) b (e ∷ es) (subst (All (GrantsFrom (producer_of r.start h))) is (grants-all t l))) e (l.each b e es is) in
        let one : IsLegal r ((h ++ b) ++ e ∷ []) = legal-push r (h ++ b) e old (follow-back b front e goes (l.each b e es is)) in
        rest (b ++ e ∷ []) es (is ∙ sym (append_assoc b (e ∷ []) es)) (subst (IsLegal r) (append_assoc h b (e ∷ [])) one)

    pub legal-back : IsLegal r (h ++ t)
    legal-back = rest [] t refl (subst (IsLegal r) (sym (append-nil h)) k.legal)

-- one more entry
pub legal-one : (o : Snapshot) (t : List Entry) (e : Entry) → IsLegalFrom o t → MayFollowFrom o t e → IsLegalFrom o (t ++ e ∷ [])
legal-one o t e l m = record {
  each = λ before x after is. elim (snoc_cases t e before x after is) [
    | inl p ↦ rw (p.0, p.1) m
    | inr p ↦ l.each before x p.0 p.1
  ];
}
