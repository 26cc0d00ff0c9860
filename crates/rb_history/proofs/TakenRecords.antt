-- What a take changes in the consumer's counts.
use Rattle.std.proofs.Common.{◌≡◌, ℕ, zero, suc, ◌+◌, ◌≤◌, ◌||◌, Bool, true, false, cond, List, [], ◌∷◌, ◌++◌, inl, inr, refl, sym, ap, ◌∙◌, subst, append_assoc, append-nil, arith}
use Rattle.std.specs.List.{count_by, Contains}
use Rattle.std.proofs.lemmas.Bool.{cases_Bool, cases_eq, true≢false, eq-eqb, ne_eqb, or_parts}
use Rattle.std.proofs.lemmas.List.Elements.{Contains-append_cases}
use Rattle.rb_history.specs.Span.{span}
use Rattle.rb_history.specs.declared.entries.Entry.{Entry}
use Rattle.rb_history.specs.declared.entries.Entry.TheVariants.{Res, Full, Sub, Dis, Take}
use Rattle.rb_history.specs.History.{status_by, is_grant_at, is_submit, is_discard, is_granted_at, is_submitted_at, is_discarded_at, granted_span_at, span_of_record, taken_span, consumer_of}
use Rattle.rb_history.specs.History.Status.{Waiting, Discarded}
use Rattle.rb_history.specs.RoomRule.{Setup}
use Rattle.rb_history.specs.Legal.{IsLegal, MayFollow}
use Rattle.rb_history.proofs.Laws.{legal-next}
use Rattle.rb_history.proofs.Lists.{list_any-snoc, or-false, sum_by-cons, sum_by-snoc, sum_by-agree}
use Rattle.rb_history.proofs.Exact.{granted-from}
use Rattle.rb_history.proofs.RecordWorkers.{bit}

-- ---- how far the consumer position advances

span-stays : (h : List Entry) (p : ℕ) (x : Entry) → taken_span (h ++ Take p ∷ []) x ≡ taken_span h x
span-stays h p (Take q) = sum_by-snoc (granted_span_at q) h (Take p) ∙ omega arith
span-stays h p (Res w k n q) = refl
span-stays h p (Full w n) = refl
span-stays h p (Sub q) = refl
span-stays h p (Dis q) = refl

consumer-moves : (start : ℕ) (h : List Entry) (p : ℕ) → consumer_of start (h ++ Take p ∷ []) ≡ consumer_of start h + span_of_record h p
consumer-moves start h p =
    let k = h ++ Take p ∷ [] in
    omega (arith, sum_by-snoc (taken_span k) h (Take p), sum_by-agree (taken_span h) (taken_span k) (span-stays h p) h, sum_by-snoc (granted_span_at p) h (Take p))

no-span : (p : ℕ) (x : Entry) → is_grant_at p x ≡ false → granted_span_at p x ≡ 0
no-span p (Res w k n q) off = ap (λ b. cond b (span n) 0) off
no-span p (Full w n) off = refl
no-span p (Sub q) off = refl
no-span p (Dis q) off = refl
no-span p (Take q) off = refl

no-spans : (p : ℕ) (h : List Entry) → is_granted_at h p ≡ false → span_of_record h p ≡ 0
no-spans p [] off = refl
no-spans p (x ∷ h) off =
    let parts = or_parts (is_grant_at p x) (is_granted_at h p) off in
    omega (arith, sum_by-cons (granted_span_at p) x h, no-span p x parts.0, no-spans p h parts.1)

none-granted : (p : ℕ) (h : List Entry) → count_by (is_grant_at p) h ≡ 0 → is_granted_at h p ≡ false
none-granted p [] e = refl
none-granted p (x ∷ h) e = elim (cases_Bool (is_grant_at p x)) [
  | inl hit ↦ let one : bit (is_grant_at p x) ≡ 1 = ap bit hit in absurd (omega (arith, sum_by-cons (λ y. bit (is_grant_at p y)) x h, one))
  | inr off ↦ let none : bit (is_grant_at p x) ≡ 0 = ap bit off in ap (λ b. b || is_granted_at h p) off ∙ none-granted p h (omega (arith, sum_by-cons (λ y. bit (is_grant_at p y)) x h, none))
]

some-granted : (p : ℕ) (h : List Entry) → is_granted_at h p ≡ true → 1 ≤ count_by (is_grant_at p) h
some-granted p [] e = absurd (true≢false (sym e))
some-granted p (x ∷ h) e = elim (cases_Bool (is_grant_at p x)) [
  | inl hit ↦ let one : bit (is_grant_at p x) ≡ 1 = ap bit hit in omega (arith, sum_by-cons (λ y. bit (is_grant_at p y)) x h, one)
  | inr off ↦
      let none : bit (is_grant_at p x) ≡ 0 = ap bit off in
      let more = some-granted p h (sym (ap (λ b. b || is_granted_at h p) off) ∙ e) in
      omega (arith, sum_by-cons (λ y. bit (is_grant_at p y)) x h, none, more)
]

-- the span of a record is that of the length with which it was granted
pub span-of : (w k n p : ℕ) (h : List Entry) → count_by (is_grant_at p) h ≤ 1 → Contains h (Res w k n p) → span_of_record h p ≡ span n
span-of w k n p [] one is = absurd (omega (arith, is.1))
span-of w k n p (x ∷ h) one is =
    elim (Contains-append_cases (x ∷ []) h (Res w k n p) is) [
      | inl here ↦
          let same : x ≡ Res w k n p = only x here in
          let hit : is_grant_at p x ≡ true = ap (is_grant_at p) same ∙ eq-eqb p p refl in
          let one_here : bit (is_grant_at p x) ≡ 1 = ap bit hit in
          let rest : is_granted_at h p ≡ false = none-granted p h (omega (arith, sum_by-cons (λ y. bit (is_grant_at p y)) x h, one_here)) in
          let mine : granted_span_at p x ≡ span n = ap (granted_span_at p) same ∙ ap (λ b. cond b (span n) 0) (eq-eqb p p refl) in
          omega (arith, sum_by-cons (granted_span_at p) x h, mine, no-spans p h rest)
      | inr there ↦
          let some = some-granted p h (granted-from h w k n p there) in
          let off : is_grant_at p x ≡ false = not-here some in
          let none_here : bit (is_grant_at p x) ≡ 0 = ap bit off in
          omega (arith, sum_by-cons (granted_span_at p) x h, no-span p x off, span-of w k n p h (omega (arith, sum_by-cons (λ y. bit (is_grant_at p y)) x h)) there)
    ]
  where
    only : (y : Entry) → Contains (y ∷ []) (Res w k n p) → y ≡ Res w k n p
    only y (zero, l, e) = e
    only y (suc i, l, e) = absurd (omega arith)

    not-here : 1 ≤ count_by (is_grant_at p) h → is_grant_at p x ≡ false
    not-here some = elim (cases_Bool (is_grant_at p x)) [
      | inl hit ↦ let one_here : bit (is_grant_at p x) ≡ 1 = ap bit hit in absurd (omega (arith, sum_by-cons (λ y. bit (is_grant_at p y)) x h, one_here))
      | inr off ↦ off
    ]

-- a take of a record advances the consumer position by its span
pub position-taken : (start w k n p : ℕ) (h : List Entry) → count_by (is_grant_at p) h ≤ 1 → Contains h (Res w k n p) → consumer_of start (h ++ Take p ∷ []) ≡ consumer_of start h + span n
position-taken start w k n p h one is = consumer-moves start h p ∙ ap (λ x. consumer_of start h + x) (span-of w k n p h one is)

-- ---- no record is both submitted and discarded

abbrev pub NeverBoth : List Entry → Type 0
NeverBoth h = (p : ℕ) → is_submitted_at h p ≡ true → is_discarded_at h p ≡ false

both-next : (r : Setup) (h : List Entry) (e : Entry) → MayFollow r h e → NeverBoth h → NeverBoth (h ++ e ∷ [])
both-next r h (Res w k n q) m never p is = list_any-snoc (is_discard p) h (Res w k n q) ∙ or-false _ ∙ never p (sym (list_any-snoc (is_submit p) h (Res w k n q) ∙ or-false _) ∙ is)
both-next r h (Full w n) m never p is = list_any-snoc (is_discard p) h (Full w n) ∙ or-false _ ∙ never p (sym (list_any-snoc (is_submit p) h (Full w n) ∙ or-false _) ∙ is)
both-next r h (Take q) m never p is = list_any-snoc (is_discard p) h (Take q) ∙ or-false _ ∙ never p (sym (list_any-snoc (is_submit p) h (Take q) ∙ or-false _) ∙ is)
both-next r h (Sub q) m never p is = list_any-snoc (is_discard p) h (Sub q) ∙ or-false _ ∙ elim (cases_eq q p) [
  | inl same ↦ ap (is_discarded_at h) (sym same) ∙ m.2
  | inr other ↦ never p (sym (list_any-snoc (is_submit p) h (Sub q) ∙ ap (λ b. is_submitted_at h p || b) (ne_eqb q p other) ∙ or-false _) ∙ is)
]
both-next r h (Dis q) m never p is = elim (cases_eq q p) [
  | inl same ↦
      let was : is_submitted_at h p ≡ true = sym (list_any-snoc (is_submit p) h (Dis q) ∙ or-false _) ∙ is in
      absurd (true≢false (sym was ∙ ap (is_submitted_at h) (sym same) ∙ m.1))
  | inr other ↦
      list_any-snoc (is_discard p) h (Dis q) ∙ ap (λ b. is_discarded_at h p || b) (ne_eqb q p other) ∙ or-false _
      ∙ never p (sym (list_any-snoc (is_submit p) h (Dis q) ∙ or-false _) ∙ is)
]

both-rest : (r : Setup) (h t : List Entry) → NeverBoth h → IsLegal r (h ++ t) → NeverBoth (h ++ t)
both-rest r h [] never l = subst NeverBoth (sym (append-nil h)) never
both-rest r h (e ∷ t) never l =
    let same : (h ++ e ∷ []) ++ t ≡ h ++ e ∷ t = append_assoc h (e ∷ []) t in
    subst NeverBoth same (both-rest r (h ++ e ∷ []) t (both-next r h e (legal-next r h e t l) never) (subst (IsLegal r) (sym same) l))

pub never-both : (r : Setup) (h : List Entry) → IsLegal r h → NeverBoth h
never-both r h l = both-rest r [] h (λ p is. absurd (true≢false (sym is))) l

-- ---- the meaning of a status

pub waiting-submitted : (s d t : Bool) → status_by s d t ≡ Waiting → (s ≡ true) × (d ≡ false)
waiting-submitted true true t e = absurd (cc)
waiting-submitted true false true e = absurd (cc)
waiting-submitted true false false e = (refl, refl)
waiting-submitted false true t e = absurd (cc)
waiting-submitted false false t e = absurd (cc)

pub discarded-is : (s d t : Bool) → status_by s d t ≡ Discarded → d ≡ true
discarded-is s true t e = refl
discarded-is true false true e = absurd (cc)
discarded-is true false false e = absurd (cc)
discarded-is false false t e = absurd (cc)
