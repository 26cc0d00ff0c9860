-- The worker of a record: exactly one, from its grant on.
use Rattle.std.proofs.Common.{◌≡◌, ℕ, ◌≤◌, ◌==◌, ◌||◌, Bool, true, false, cond, List, [], ◌∷◌, ◌++◌, inl, inr, refl, sym, ap, ◌∙◌, arith}
use Rattle.std.specs.List.{list_any, count_by, Contains}
use Rattle.std.proofs.lemmas.Bool.{cases_Bool, cases_eq, ne_eqb, true≢false, eqb-true, eq-eqb, and_parts, and_from, or_cases, or_left, or_right, or_parts, false_from_ne_true}
use Rattle.std.proofs.lemmas.List.Folds.{list_any-append, list_any_at}
use Rattle.std.proofs.lemmas.List.Sums.{sum_by-append}
use Rattle.rb_history.specs.declared.entries.Entry.{Entry}
use Rattle.rb_history.specs.declared.entries.Entry.TheVariants.{Res, Full, Sub, Dis, Take}
use Rattle.rb_history.specs.History.{is_grant_at, is_submit, is_discard, is_take, is_granted_at, is_submitted_at, is_discarded_at, is_taken_at}
use Rattle.rb_history.specs.RoomRule.{Setup}
use Rattle.rb_history.specs.Legal.{IsLegal}
use Rattle.rb_history.proofs.Laws.{kept-from-legal, legal-front}
use Rattle.rb_history.proofs.Lists.{sum_by-cons}
use Rattle.rb_history.specs.WorkerCounts.{is_grant_to, is_record_of}

abbrev pub bit : Bool → ℕ
bit b = cond b 1 0

-- ---- tests of entries that hold in a part hold in the whole

pub front-any : (t : Entry → Bool) (h es : List Entry) → list_any t h ≡ true → list_any t (h ++ es) ≡ true
front-any t h es is = list_any-append t h es ∙ or_left _ _ is

pub back-any : (t : Entry → Bool) (h es : List Entry) → list_any t es ≡ true → list_any t (h ++ es) ≡ true
back-any t h es is = list_any-append t h es ∙ or_right _ _ is

any-none : (t : Entry → Bool) (h : List Entry) → count_by t h ≡ 0 → list_any t h ≡ false
any-none t [] e = refl
any-none t (x ∷ h) e =
    elim (cases_Bool (t x)) [
      | inl hit ↦ let one : bit (t x) ≡ 1 = ap bit hit in absurd (omega (arith, sum_by-cons (λ y. bit (t y)) x h, one))
      | inr off ↦
          let none : bit (t x) ≡ 0 = ap bit off in
          ap (λ b. b || list_any t h) off ∙ any-none t h (omega (arith, sum_by-cons (λ y. bit (t y)) x h, none))
    ]

-- ---- a record's worker

to-grant : (w p : ℕ) (e : Entry) → is_grant_to w p e ≡ true → is_grant_at p e ≡ true
to-grant w p (Res v k n q) is = (and_parts (v == w) (q == p) is).1
to-grant w p (Full v n) is = is
to-grant w p (Sub q) is = is
to-grant w p (Dis q) is = is
to-grant w p (Take q) is = is

-- a worker's record was granted
pub record-granted : (w p : ℕ) (h : List Entry) → is_record_of w h p ≡ true → is_granted_at h p ≡ true
record-granted w p [] is = is
record-granted w p (e ∷ h) is = elim (or_cases (is_grant_to w p e) (is_record_of w h p) is) [
  | inl here ↦ or_left _ _ (to-grant w p e here)
  | inr there ↦ or_right (is_grant_at p e) (is_granted_at h p) (record-granted w p h there)
]

not-record : (w p : ℕ) (h : List Entry) → is_granted_at h p ≡ false → is_record_of w h p ≡ false
not-record w p h off = false_from_ne_true (is_record_of w h p) (λ is. true≢false (sym (record-granted w p h is) ∙ off))

two-workers : (v w p : ℕ) (e : Entry) → is_grant_to v p e ≡ true → is_grant_to w p e ≡ true → v ≡ w
two-workers v w p (Res x k n q) a b = sym (eqb-true x v (and_parts (x == v) (q == p) a).0) ∙ eqb-true x w (and_parts (x == w) (q == p) b).0
two-workers v w p (Full x n) a b = absurd (true≢false (sym a))
two-workers v w p (Sub q) a b = absurd (true≢false (sym a))
two-workers v w p (Dis q) a b = absurd (true≢false (sym a))
two-workers v w p (Take q) a b = absurd (true≢false (sym a))

pub once-unique : (v w p : ℕ) (h : List Entry) → count_by (is_grant_at p) h ≤ 1 → is_record_of v h p ≡ true → is_record_of w h p ≡ true → v ≡ w
once-unique v w p [] one a b = absurd (true≢false (sym a))
once-unique v w p (e ∷ h) one a b =
    elim (cases_Bool (is_grant_at p e)) [
      | inl here ↦
          let head : bit (is_grant_at p e) ≡ 1 = ap bit here in
          let rest : is_granted_at h p ≡ false = any-none (is_grant_at p) h (omega (arith, sum_by-cons (λ y. bit (is_grant_at p y)) e h, head)) in
          two-workers v w p e (only v rest a) (only w rest b)
      | inr off ↦
          let head : bit (is_grant_at p e) ≡ 0 = ap bit off in
          once-unique v w p h (omega (arith, sum_by-cons (λ y. bit (is_grant_at p y)) e h, head)) (past v off a) (past w off b)
    ]
  where
    only : (x : ℕ) → is_granted_at h p ≡ false → (is_grant_to x p e || is_record_of x h p) ≡ true → is_grant_to x p e ≡ true
    only x rest is = elim (or_cases (is_grant_to x p e) (is_record_of x h p) is) [
      | inl here ↦ here
      | inr there ↦ absurd (true≢false (sym there ∙ not-record x p h rest))
    ]

    past : (x : ℕ) → is_grant_at p e ≡ false → (is_grant_to x p e || is_record_of x h p) ≡ true → is_record_of x h p ≡ true
    past x off is = elim (or_cases (is_grant_to x p e) (is_record_of x h p) is) [
      | inl here ↦ absurd (true≢false (sym (to-grant x p e here) ∙ off))
      | inr there ↦ there
    ]

module _ (r : Setup) where
  pub granted-once : (h : List Entry) (p : ℕ) → IsLegal r h → count_by (is_grant_at p) h ≤ 1
  granted-once h p l = elim (cases_Bool (is_granted_at h p)) [
    | inl hit ↦ omega (arith, (kept-from-legal r h l).single p hit)
    | inr off ↦ omega (arith, count-none h off)
  ]
    where
      count-none : (es : List Entry) → is_granted_at es p ≡ false → count_by (is_grant_at p) es ≡ 0
      count-none [] e = refl
      count-none (x ∷ es) e =
          let parts = or_parts (is_grant_at p x) (is_granted_at es p) e in
          let none : bit (is_grant_at p x) ≡ 0 = ap bit parts.0 in
          omega (arith, sum_by-cons (λ y. bit (is_grant_at p y)) x es, none, count-none es parts.1)

  -- a record has one worker
  pub record-unique : (v w p : ℕ) (h : List Entry) → IsLegal r h → is_record_of v h p ≡ true → is_record_of w h p ≡ true → v ≡ w
  record-unique v w p h l a b = once-unique v w p h (granted-once h p l) a b

  -- a record that was granted keeps its worker
  pub record-stays : (w p : ℕ) (h es : List Entry) → IsLegal r (h ++ es) → is_granted_at h p ≡ true → is_record_of w (h ++ es) p ≡ is_record_of w h p
  record-stays w p h es l g =
      let before = (kept-from-legal r h (legal-front r h es l)).single p g in
      let after = (kept-from-legal r (h ++ es) l).single p (front-any (is_grant_at p) h es g) in
      let none : is_granted_at es p ≡ false = any-none (is_grant_at p) es (omega (arith, sum_by-append (λ y. bit (is_grant_at p y)) h es, before, after)) in
      list_any-append (is_grant_to w p) h es ∙ ap (λ b. is_record_of w h p || b) (not-record w p es none) ∙ or-none (is_record_of w h p)
    where
      or-none : (b : Bool) → (b || false) ≡ b
      or-none true = refl
      or-none false = refl

-- ---- entries of a history

pub submitted-from : (h : List Entry) (p : ℕ) → Contains h (Sub p) → is_submitted_at h p ≡ true
submitted-from h p is = list_any_at (is_submit p) h is.0 (Sub p) is.1 (ap (is_submit p) is.2 ∙ eq-eqb p p refl)

pub discarded-from : (h : List Entry) (p : ℕ) → Contains h (Dis p) → is_discarded_at h p ≡ true
discarded-from h p is = list_any_at (is_discard p) h is.0 (Dis p) is.1 (ap (is_discard p) is.2 ∙ eq-eqb p p refl)

pub taken-from : (h : List Entry) (p : ℕ) → Contains h (Take p) → is_taken_at h p ≡ true
taken-from h p is = list_any_at (is_take p) h is.0 (Take p) is.1 (ap (is_take p) is.2 ∙ eq-eqb p p refl)

pub record-from : (h : List Entry) (w k n p : ℕ) → Contains h (Res w k n p) → is_record_of w h p ≡ true
record-from h w k n p is = list_any_at (is_grant_to w p) h is.0 (Res w k n p) is.1 (ap (is_grant_to w p) is.2 ∙ and_from (w == w) (p == p) (eq-eqb w w refl) (eq-eqb p p refl))

-- the grant in a history determines the record's worker
pub grant-tells : (h : List Entry) (w k n p worker : ℕ) → Contains h (Res w k n p) → count_by (is_grant_at p) h ≤ 1 → (w == worker) ≡ is_record_of worker h p
grant-tells h w k n p worker is one =
    let his = record-from h w k n p is in
    elim (cases_eq w worker) [
      | inl same ↦ eq-eqb w worker same ∙ sym (ap (λ v. is_record_of v h p) (sym same) ∙ his)
      | inr apart ↦ ne_eqb w worker apart ∙ sym (false_from_ne_true (is_record_of worker h p) (λ theirs. apart (once-unique w worker p h one his theirs)))
    ]
