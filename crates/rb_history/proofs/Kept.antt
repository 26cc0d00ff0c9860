-- What each entry preserves.
use Rattle.std.proofs.Common.{◌≡◌, ◌≢◌, ℕ, ◌+◌, ◌<◌, ◌≤◌, Bool, true, false, ◌||◌, List, [], ◌∷◌, ◌++◌, length, map, get_or, set, refl, sym, ap, ◌∙◌, inl, inr, arith, eqb, subst, cond, add-zero}
use Rattle.std.specs.List.{list_any, sum_by, count_by, filter, All}
use Rattle.std.proofs.lemmas.Bool.{eq-eqb, ne_eqb, eqb-true, or_cases, or_left, or_right, or_parts, cases_eq, false_from_ne_true}
use Rattle.std.proofs.lemmas.List.Folds.{list_any_none}
use Rattle.std.proofs.lemmas.List.Elements.{All-push, All-weaker}
use Rattle.rb_history.specs.declared.entries.Entry.{Entry}
use Rattle.rb_history.specs.declared.entries.Entry.TheVariants.{Res, Full, Sub, Dis, Take}
use Rattle.rb_history.specs.Span.{span}
use Rattle.rb_history.specs.History.{Shown, Status, status_by, is_grant_at, is_submit, is_discard, is_take, is_granted_at, is_submitted_at, is_discarded_at, is_taken_at, producer_of, consumer_of, grants, records}
use Rattle.rb_history.specs.Counting.{is_discard_entry, is_same, has_status, status_count}
use Rattle.rb_history.specs.History.Status.{Busy, Waiting, Discarded}
use Rattle.rb_history.specs.RoomRule.{Setup, HasRoomFor}
use Rattle.rb_history.specs.Legal.{MayFollow, IsLegal}
use Rattle.rb_history.specs.inner.RecordRows.{InRow, NamesBelow, HistoryFacts}
use Rattle.rb_history.proofs.Lists.{snoc_cases, list_any-snoc, or-false, sum_by-cons, sum_by-snoc, sum_by-agree, sum_by-add}
use Rattle.rb_history.proofs.Row.{InRow-le, InRow-push, InRow-set, below-end, get_or-default, filter-front, sum-front, map-at}
use Rattle.rb_history.proofs.Steps.{mark, elsewhere, shown_span, Named, named, records-full, producer-full, consumer-full, records-res, producer-res, consumer-res, records-sub, producer-sub, consumer-sub, records-dis, producer-dis, consumer-dis, records-take, producer-take, consumer-take}

pub legal-push : (r : Setup) (h : List Entry) (e : Entry) → IsLegal r h → MayFollow r h e → IsLegal r (h ++ e ∷ [])
legal-push r h e l m = record {
  each = λ before x after is. elim (snoc_cases h e before x after is) [
    | inl p ↦ rw (p.0, p.1) m
    | inr p ↦ l.each before x p.0 p.1
  ];
}

any-kept : (t : Entry → Bool) (h : List Entry) (e : Entry) → list_any t h ≡ true → list_any t (h ++ e ∷ []) ≡ true
any-kept t h e is = list_any-snoc t h e ∙ or_left _ _ is

closed-kept : (h : List Entry) (e : Entry) (q : ℕ) → (is_submitted_at h q || is_discarded_at h q) ≡ true → (is_submitted_at (h ++ e ∷ []) q || is_discarded_at (h ++ e ∷ []) q) ≡ true
closed-kept h e q is = elim (or_cases _ _ is) [
  | inl s ↦ or_left _ _ (any-kept (is_submit q) h e s)
  | inr d ↦ or_right _ _ (any-kept (is_discard q) h e d)
]

take-closed : (r : Setup) (h : List Entry) (e : Entry) → MayFollow r h e → (q : ℕ) → is_take q e ≡ true → (is_submitted_at h q || is_discarded_at h q) ≡ true
take-closed r h (Res w s n p) m q is = cc
take-closed r h (Full w n) m q is = cc
take-closed r h (Sub p) m q is = cc
take-closed r h (Dis p) m q is = cc
take-closed r h (Take p) m q is = subst (λ x. (is_submitted_at h x || is_discarded_at h x) ≡ true) (eqb-true p q is) m.1

settle-named : (r : Setup) (h : List Entry) (e : Entry) → MayFollow r h e → (q : ℕ) → (is_submit q e || is_discard q e) ≡ true → is_granted_at h q ≡ true
settle-named r h (Res w s n p) m q is = cc
settle-named r h (Full w n) m q is = cc
settle-named r h (Sub p) m q is = subst (λ x. is_granted_at h x ≡ true) (eqb-true p q (sym (or-false _) ∙ is)) m.0
settle-named r h (Dis p) m q is = subst (λ x. is_granted_at h x ≡ true) (eqb-true p q is) m.0
settle-named r h (Take p) m q is = cc

closed-push : (r : Setup) (h : List Entry) (e : Entry) → MayFollow r h e → ((q : ℕ) → is_taken_at h q ≡ true → (is_submitted_at h q || is_discarded_at h q) ≡ true) →
    (q : ℕ) → is_taken_at (h ++ e ∷ []) q ≡ true → (is_submitted_at (h ++ e ∷ []) q || is_discarded_at (h ++ e ∷ []) q) ≡ true
closed-push r h e m old q is = elim (or_cases _ _ (sym (list_any-snoc (is_take q) h e) ∙ is)) [
  | inl t ↦ closed-kept h e q (old q t)
  | inr t ↦ closed-kept h e q (take-closed r h e m q t)
]

named-push : (r : Setup) (h : List Entry) (e : Entry) → MayFollow r h e → ((q : ℕ) → (is_submitted_at h q || is_discarded_at h q) ≡ true → is_granted_at h q ≡ true) →
    (q : ℕ) → (is_submitted_at (h ++ e ∷ []) q || is_discarded_at (h ++ e ∷ []) q) ≡ true → is_granted_at (h ++ e ∷ []) q ≡ true
named-push r h e m old q is = any-kept (is_grant_at q) h e (elim (or_cases (is_submitted_at (h ++ e ∷ []) q) (is_discarded_at (h ++ e ∷ []) q) is) [
  | inl s ↦ elim (or_cases (is_submitted_at h q) (is_submit q e) (sym (list_any-snoc (is_submit q) h e) ∙ s)) [
    | inl t ↦ old q (or_left (is_submitted_at h q) (is_discarded_at h q) t)
    | inr t ↦ settle-named r h e m q (or_left (is_submit q e) (is_discard q e) t)
  ]
  | inr d ↦ elim (or_cases (is_discarded_at h q) (is_discard q e) (sym (list_any-snoc (is_discard q) h e) ∙ d)) [
    | inl t ↦ old q (or_right (is_submitted_at h q) (is_discarded_at h q) t)
    | inr t ↦ settle-named r h e m q (or_right (is_submit q e) (is_discard q e) t)
  ]
])

below-more : (p q : ℕ) → p ≤ q → (e : Entry) → NamesBelow p e → NamesBelow q e
below-more p q le (Res w s n x) b = omega arith
below-more p q le (Full w n) b = tt
below-more p q le (Sub x) b = omega arith
below-more p q le (Dis x) b = omega arith
below-more p q le (Take x) b = omega arith

-- ---- no entry names a position that is not granted yet

not-taken : (p : ℕ) (e : Entry) → NamesBelow p e → is_take p e ≡ false
not-taken p (Res w s n x) b = refl
not-taken p (Full w n) b = refl
not-taken p (Sub x) b = refl
not-taken p (Dis x) b = refl
not-taken p (Take x) b = ne_eqb x p (λ e. omega arith)

not-submitted : (p : ℕ) (e : Entry) → NamesBelow p e → is_submit p e ≡ false
not-submitted p (Res w s n x) b = refl
not-submitted p (Full w n) b = refl
not-submitted p (Sub x) b = ne_eqb x p (λ e. omega arith)
not-submitted p (Dis x) b = refl
not-submitted p (Take x) b = refl

not-discarded : (p : ℕ) (e : Entry) → NamesBelow p e → is_discard p e ≡ false
not-discarded p (Res w s n x) b = refl
not-discarded p (Full w n) b = refl
not-discarded p (Sub x) b = refl
not-discarded p (Dis x) b = ne_eqb x p (λ e. omega arith)
not-discarded p (Take x) b = refl

none-at : (t : Entry → Bool) (p : ℕ) (h : List Entry) → ((e : Entry) → NamesBelow p e → t e ≡ false) → All (NamesBelow p) h → list_any t h ≡ false
none-at t p h off b = list_any_none t h (All-weaker (NamesBelow p) (λ e. t e ≡ false) off h b)

not-granted : (p : ℕ) (e : Entry) → NamesBelow p e → is_grant_at p e ≡ false
not-granted p (Res w s n x) b = ne_eqb x p (λ e. omega arith)
not-granted p (Full w n) b = refl
not-granted p (Sub x) b = refl
not-granted p (Dis x) b = refl
not-granted p (Take x) b = refl

-- ---- a position is granted once

abbrev bit : Bool → ℕ
bit b = cond b 1 0

count-none : (t : Entry → Bool) (h : List Entry) → list_any t h ≡ false → count_by t h ≡ 0
count-none t [] e = refl
count-none t (x ∷ h) e =
    let parts = or_parts (t x) (list_any t h) e in
    let none : bit (t x) ≡ 0 = rw parts.0 in
    omega (arith, sum_by-cons (λ y. cond (t y) 1 0) x h, none, count-none t h parts.1)

once-more : (h : List Entry) (e : Entry) (q : ℕ) → is_grant_at q e ≡ false → (is_granted_at h q ≡ true → count_by (is_grant_at q) h ≡ 1) →
    is_granted_at (h ++ e ∷ []) q ≡ true → count_by (is_grant_at q) (h ++ e ∷ []) ≡ 1
once-more h e q off old is =
    let before : is_granted_at h q ≡ true = sym (list_any-snoc (is_grant_at q) h e ∙ ap (λ b. is_granted_at h q || b) off ∙ or-false _) ∙ is in
    let none : bit (is_grant_at q e) ≡ 0 = rw off in
    omega (arith, sum_by-snoc (λ y. cond (is_grant_at q y) 1 0) h e, none, old before)

single-push : (r : Setup) (h : List Entry) (e : Entry) (p : ℕ) → MayFollow r h e → p ≡ producer_of r.start h → All (NamesBelow p) h →
    ((q : ℕ) → is_granted_at h q ≡ true → count_by (is_grant_at q) h ≡ 1) → (q : ℕ) → is_granted_at (h ++ e ∷ []) q ≡ true → count_by (is_grant_at q) (h ++ e ∷ []) ≡ 1
single-push r h (Full w n) p m at b old q is = once-more h (Full w n) q refl (old q) is
single-push r h (Sub x) p m at b old q is = once-more h (Sub x) q refl (old q) is
single-push r h (Dis x) p m at b old q is = once-more h (Dis x) q refl (old q) is
single-push r h (Take x) p m at b old q is = once-more h (Take x) q refl (old q) is
single-push r h (Res w s n x) p m at b old q is = elim (cases_eq x q) [
  | inl same ↦
      let end : p ≡ q = at ∙ sym m.1 ∙ same in
      let fresh : is_granted_at h q ≡ false = subst (λ y. is_granted_at h y ≡ false) end (none-at (is_grant_at p) p h (not-granted p) b) in
      let one : bit (is_grant_at q (Res w s n x)) ≡ 1 = rw (eq-eqb x q same) in
      omega (arith, sum_by-snoc (λ y. cond (is_grant_at q y) 1 0) h (Res w s n x), one, count-none (is_grant_at q) h fresh)
  | inr other ↦ once-more h (Res w s n x) q (ne_eqb x q other) (old q) is
]

-- ---- the number of discarded records is the number of discard entries

-- 1 if the record that the entry grants was discarded
gone : List Entry → Entry → ℕ
gone h (Res w s n q) = cond (is_discarded_at h q) 1 0
gone h _ = 0

gone-status : (s d t : Bool) → bit (is_same Discarded (status_by s d t)) ≡ bit d
gone-status s true t = refl
gone-status true false true = refl
gone-status true false false = refl
gone-status false false t = refl

gone-is : (h : List Entry) (e : Entry) → bit (has_status Discarded h e) ≡ gone h e
unfolding gone
gone-is h (Res w s n q) = gone-status (is_submitted_at h q) (is_discarded_at h q) (is_taken_at h q)
gone-is h (Full w n) = refl
gone-is h (Sub q) = refl
gone-is h (Dis q) = refl
gone-is h (Take q) = refl

number_of-gone : (h : List Entry) → status_count Discarded h ≡ sum_by (gone h) h
number_of-gone h = sum_by-agree (gone h) (λ e. cond (has_status Discarded h e) 1 0) (gone-is h) h

gone-same : (h k : List Entry) → ((q : ℕ) → is_discarded_at k q ≡ is_discarded_at h q) → (e : Entry) → gone k e ≡ gone h e
unfolding gone
gone-same h k a (Res w s n q) = rw (a q)
gone-same h k a (Full w n) = refl
gone-same h k a (Sub q) = refl
gone-same h k a (Dis q) = refl
gone-same h k a (Take q) = refl

gone-more : (h k : List Entry) (p : ℕ) → ((q : ℕ) → is_discarded_at k q ≡ (is_discarded_at h q || eqb p q)) → is_discarded_at h p ≡ false → (e : Entry) → gone k e ≡ gone h e + cond (is_grant_at p e) 1 0
unfolding gone
gone-more h k p a off (Res w s n q) = elim (cases_eq q p) [
  | inl same ↦
      let none : is_discarded_at h q ≡ false = ap (is_discarded_at h) same ∙ off in
      rw (a q, none, eq-eqb p q (sym same), eq-eqb q p same) refl
  | inr other ↦ rw (a q, ne_eqb p q (λ x. other (sym x)), ne_eqb q p other, or-false (is_discarded_at h q)) (sym (add-zero _))
]
gone-more h k p a off (Full w n) = refl
gone-more h k p a off (Sub q) = refl
gone-more h k p a off (Dis q) = refl
gone-more h k p a off (Take q) = refl

quiet : (h : List Entry) (e : Entry) → ((q : ℕ) → is_discard q e ≡ false) → gone (h ++ e ∷ []) e ≡ 0 → is_discard_entry e ≡ false → status_count Discarded h ≡ count_by is_discard_entry h →
    status_count Discarded (h ++ e ∷ []) ≡ count_by is_discard_entry (h ++ e ∷ [])
quiet h e off none still old =
    let k = h ++ e ∷ [] in
    let same = gone-same h k (λ q. list_any-snoc (is_discard q) h e ∙ ap (λ b. is_discarded_at h q || b) (off q) ∙ or-false _) in
    let zero_more : bit (is_discard_entry e) ≡ 0 = rw still in
    omega (arith, number_of-gone k, number_of-gone h, sum_by-snoc (gone k) h e, sum_by-agree (gone h) (gone k) same h, none, old, sum_by-snoc (λ y. cond (is_discard_entry y) 1 0) h e, zero_more)

gone-none : (h : List Entry) (w s n q : ℕ) → is_discarded_at h q ≡ false → gone (h ++ Res w s n q ∷ []) (Res w s n q) ≡ 0
unfolding gone
gone-none h w s n q off = rw (list_any-snoc (is_discard q) h (Res w s n q), off) refl

gone-zero-full : (k : List Entry) (w n : ℕ) → gone k (Full w n) ≡ 0
unfolding gone
gone-zero-full k w n = refl

gone-zero-sub : (k : List Entry) (q : ℕ) → gone k (Sub q) ≡ 0
unfolding gone
gone-zero-sub k q = refl

gone-zero-dis : (k : List Entry) (q : ℕ) → gone k (Dis q) ≡ 0
unfolding gone
gone-zero-dis k q = refl

gone-zero-take : (k : List Entry) (q : ℕ) → gone k (Take q) ≡ 0
unfolding gone
gone-zero-take k q = refl

given_up-push : (r : Setup) (h : List Entry) (e : Entry) (p : ℕ) → MayFollow r h e → p ≡ producer_of r.start h → All (NamesBelow p) h →
    ((q : ℕ) → is_granted_at h q ≡ true → count_by (is_grant_at q) h ≡ 1) → status_count Discarded h ≡ count_by is_discard_entry h →
    status_count Discarded (h ++ e ∷ []) ≡ count_by is_discard_entry (h ++ e ∷ [])
given_up-push r h (Full w n) p m at b one old = quiet h (Full w n) (λ q. refl) (gone-zero-full _ w n) refl old
given_up-push r h (Sub x) p m at b one old = quiet h (Sub x) (λ q. refl) (gone-zero-sub _ x) refl old
given_up-push r h (Take x) p m at b one old = quiet h (Take x) (λ q. refl) (gone-zero-take _ x) refl old
given_up-push r h (Res w s n x) p m at b one old =
    let off : is_discarded_at h x ≡ false = subst (λ y. is_discarded_at h y ≡ false) (at ∙ sym m.1) (none-at (is_discard p) p h (not-discarded p) b) in
    quiet h (Res w s n x) (λ q. refl) (gone-none h w s n x off) refl old
given_up-push r h (Dis x) p m at b one old =
    let k = h ++ Dis x ∷ [] in
    let more = gone-more h k x (λ q. list_any-snoc (is_discard q) h (Dis x)) m.2 in
    omega (arith, number_of-gone k, number_of-gone h, sum_by-snoc (gone k) h (Dis x), gone-zero-dis k x, sum_by-add (gone h) (λ y. cond (is_grant_at x y) 1 0) (gone k) more h, one x m.0, old, sum_by-snoc (λ y. cond (is_discard_entry y) 1 0) h (Dis x))

passed-push : (h : List Entry) (e : Entry) (c d : ℕ) → ((q : ℕ) → is_taken_at h q ≡ true → q < c) → c ≤ d → ((q : ℕ) → is_take q e ≡ true → q < d) → (q : ℕ) → is_taken_at (h ++ e ∷ []) q ≡ true → q < d
passed-push h e c d old on past q is = elim (or_cases (is_taken_at h q) (is_take q e) (sym (list_any-snoc (is_take q) h e) ∙ is)) [
  | inl t ↦ omega (arith, old q t)
  | inr t ↦ past q t
]

kept-push : (r : Setup) (h : List Entry) (e : Entry) (ss ts : List Shown) (p q c d : ℕ) → HistoryFacts r h ss p c → MayFollow r h e →
    ts ≡ records (h ++ e ∷ []) → q ≡ producer_of r.start (h ++ e ∷ []) → d ≡ consumer_of r.start (h ++ e ∷ []) → InRow d ts q → p ≤ q → NamesBelow q e → c ≤ d → ((x : ℕ) → is_take x e ≡ true → x < d) →
    HistoryFacts r (h ++ e ∷ []) ts q d
kept-push r h e ss ts p q c d k m is_ts is_q is_d row le nb on past = record {
  legal = legal-push r h e k.legal m;
  shown = is_ts;
  producer_is = is_q;
  consumer_is = is_d;
  in_row = row;
  below = All-push (NamesBelow q) h e (All-weaker (NamesBelow p) (NamesBelow q) (below-more p q le) h k.below) nb;
  closed = closed-push r h e m k.closed;
  named = named-push r h e m k.named;
  passed = passed-push h e c d k.passed on past;
  single = single-push r h e p m k.producer_is k.below k.single;
  given_up = given_up-push r h e p m k.producer_is k.below k.single k.given_up;
}

-- ---- the five kinds of entries

pub kept-full : (r : Setup) (h : List Entry) (ss : List Shown) (p c w n : ℕ) → HistoryFacts r h ss p c → w < r.workers → ¬ HasRoomFor r h n →
    HistoryFacts r (h ++ Full w n ∷ []) ss p c
kept-full r h ss p c w n k in_workers no_room =
    kept-push r h (Full w n) ss ss p p c c k (in_workers, no_room) (k.shown ∙ sym (records-full h w n)) (k.producer_is ∙ sym (producer-full r.start h w n))
    (k.consumer_is ∙ sym (consumer-full r.start h w n)) k.in_row (omega arith) tt (omega arith) (λ x e. cc)

pub kept-res : (r : Setup) (h : List Entry) (ss : List Shown) (p c w s n : ℕ) → HistoryFacts r h ss p c → w < r.workers → s ≡ grants w h → HasRoomFor r h n →
    HistoryFacts r (h ++ Res w s n p ∷ []) (ss ++ record { pos = p; len = n; worker = w; serial = s; status = Busy } ∷ []) (p + span n) c
kept-res r h ss p c w s n k in_workers serial room =
    let t = none-at (is_take p) p h (not-taken p) k.below in
    let u = none-at (is_submit p) p h (not-submitted p) k.below in
    let d = none-at (is_discard p) p h (not-discarded p) k.below in
    let new : Shown = record { pos = p; len = n; worker = w; serial = s; status = Busy } in
    kept-push r h (Res w s n p) ss (ss ++ new ∷ []) p (p + span n) c c k (in_workers, k.producer_is, serial, room)
    (ap (λ x. x ++ new ∷ []) k.shown ∙ sym (records-res h w s n p t u d))
    (ap (λ x. x + span n) k.producer_is ∙ sym (producer-res r.start h w s n p))
    (k.consumer_is ∙ sym (consumer-res r.start h w s n p t))
    (InRow-push c ss new p k.in_row refl) (omega arith) (omega arith) (omega arith) (λ x e. cc)

status_busy : (s d : Bool) → status_by s d false ≡ Busy → (s ≡ false) × (d ≡ false)
status_busy s true e = cc
status_busy true false e = cc
status_busy false false e = (refl, refl)

pub named-at : (r : Setup) (h : List Entry) (ss : List Shown) (p c i : ℕ) (x : Shown) → HistoryFacts r h ss p c → i < length ss → Named h h (get_or ss i x)
named-at r h ss p c i x k l = rw k.shown (named h h i x (rw k.shown at l))

pub busy-settles : (r : Setup) (h : List Entry) (ss : List Shown) (p c i : ℕ) (x : Shown) → HistoryFacts r h ss p c → i < length ss → (get_or ss i x).status ≡ Busy →
    (is_granted_at h (get_or ss i x).pos ≡ true) × (is_submitted_at h (get_or ss i x).pos ≡ false) × (is_discarded_at h (get_or ss i x).pos ≡ false)
busy-settles r h ss p c i x k l b =
    let n = named-at r h ss p c i x k l in
    let off = status_busy _ _ (n.status_is ∙ b) in
    (n.granted_is, off.0, off.1)

pub kept-sub : (r : Setup) (h : List Entry) (ss : List Shown) (p c i : ℕ) (x : Shown) → HistoryFacts r h ss p c → i < length ss → (get_or ss i x).status ≡ Busy →
    HistoryFacts r (h ++ Sub (get_or ss i x).pos ∷ []) (set ss i (record (get_or ss i x) { status = Waiting })) p c
kept-sub r h ss p c i x k l b =
    let s = get_or ss i x in
    let m = busy-settles r h ss p c i x k l b in
    let there : map (mark s.pos Waiting) ss ≡ set ss i (record s { status = Waiting }) = map-at Waiting c ss p i x k.in_row l in
    let low : s.pos < p = below-end c ss p i x k.in_row l in
    kept-push r h (Sub s.pos) ss (set ss i (record s { status = Waiting })) p p c c k m
    (sym there ∙ ap (map (mark s.pos Waiting)) k.shown ∙ sym (records-sub h s.pos m.2))
    (k.producer_is ∙ sym (producer-sub r.start h s.pos))
    (k.consumer_is ∙ sym (consumer-sub r.start h s.pos))
    (InRow-set c ss p i (record s { status = Waiting }) k.in_row l (ap (λ y. y.pos) (get_or-default ss i x _ l)) (ap (λ y. y.len) (get_or-default ss i x _ l)))
    (omega arith) low (omega arith) (λ x e. cc)

pub kept-dis : (r : Setup) (h : List Entry) (ss : List Shown) (p c i : ℕ) (x : Shown) → HistoryFacts r h ss p c → i < length ss → (get_or ss i x).status ≡ Busy →
    HistoryFacts r (h ++ Dis (get_or ss i x).pos ∷ []) (set ss i (record (get_or ss i x) { status = Discarded })) p c
kept-dis r h ss p c i x k l b =
    let s = get_or ss i x in
    let m = busy-settles r h ss p c i x k l b in
    let there : map (mark s.pos Discarded) ss ≡ set ss i (record s { status = Discarded }) = map-at Discarded c ss p i x k.in_row l in
    let low : s.pos < p = below-end c ss p i x k.in_row l in
    kept-push r h (Dis s.pos) ss (set ss i (record s { status = Discarded })) p p c c k m
    (sym there ∙ ap (map (mark s.pos Discarded)) k.shown ∙ sym (records-dis h s.pos))
    (k.producer_is ∙ sym (producer-dis r.start h s.pos))
    (k.consumer_is ∙ sym (consumer-dis r.start h s.pos))
    (InRow-set c ss p i (record s { status = Discarded }) k.in_row l (ap (λ y. y.pos) (get_or-default ss i x _ l)) (ap (λ y. y.len) (get_or-default ss i x _ l)))
    (omega arith) low (omega arith) (λ x e. cc)

status_settled : (s d : Bool) (st : Status) → status_by s d false ≡ st → st ≢ Busy → (s || d) ≡ true
status_settled true d st e n = refl
status_settled false true st e n = refl
status_settled false false st e n = absurd (n (sym e))

pub kept-take : (r : Setup) (h : List Entry) (s : Shown) (ss : List Shown) (p c : ℕ) → HistoryFacts r h (s ∷ ss) p c → s.status ≢ Busy →
    HistoryFacts r (h ++ Take c ∷ []) ss p (c + span s.len)
kept-take r h s ss p c k b =
    let n : Named h h s = named-at r h (s ∷ ss) p c 0 s k (omega arith) in
    let settled : (is_submitted_at h c || is_discarded_at h c) ≡ true = subst (λ q. (is_submitted_at h q || is_discarded_at h q) ≡ true) k.in_row.0 (status_settled _ _ s.status n.status_is b) in
    kept-push r h (Take c) (s ∷ ss) ss p p c (c + span s.len) k (k.consumer_is, settled)
    (sym (filter-front c s ss p k.in_row) ∙ ap (filter (elsewhere c)) k.shown ∙ sym (records-take h c))
    (k.producer_is ∙ sym (producer-take r.start h c))
    (ap (λ x. x + span s.len) k.consumer_is ∙ ap (λ x. consumer_of r.start h + x) (sym (sum-front c s ss p k.in_row) ∙ ap (sum_by (shown_span c)) k.shown) ∙ sym (consumer-take r.start h c (false_from_ne_true (is_taken_at h c) (λ t. omega (arith, k.passed c t)))))
    k.in_row.1 (omega arith) (omega (arith, InRow-le (c + span s.len) ss p k.in_row.1)) (omega arith)
    (λ x e. omega (arith, eqb-true c x e))
