-- Records that lie one after the other.
use Rattle.std.proofs.Common.{◌≡◌, ◌≢◌, map, ℕ, ◌+◌, ◌<◌, ◌≤◌, List, [], ◌∷◌, ◌++◌, length, get_or, set, refl, ap, ◌∙◌, zero, suc, ◌*◌, arith}
use Rattle.std.specs.List.{sum_by, filter}
use Rattle.std.proofs.lemmas.Bool.{eq-eqb, ne_eqb}
use Rattle.rb_history.specs.Span.{span}
use Rattle.rb_history.specs.History.{Shown, Status}
use Rattle.rb_history.proofs.Lists.{sum_by-cons}
use Rattle.rb_history.proofs.Steps.{mark, elsewhere, shown_span}
use Rattle.rb_history.specs.inner.RecordRows.{InRow}

pub InRow-le : (c : ℕ) (ss : List Shown) (p : ℕ) → InRow c ss p → c ≤ p
InRow-le c [] p h = omega arith
InRow-le c (s ∷ ss) p h = omega (arith, InRow-le (c + span s.len) ss p h.1)

pub InRow-push : (c : ℕ) (ss : List Shown) (s : Shown) (p : ℕ) → InRow c ss p → s.pos ≡ p → InRow c (ss ++ s ∷ []) (p + span s.len)
InRow-push c [] s p h e = let there : s.pos ≡ c = omega (arith, h, e) in (there, ap (λ x. x + span s.len) h)
InRow-push c (t ∷ ss) s p h e = (h.0, InRow-push (c + span t.len) ss s p h.1 e)

-- a change of a record that leaves its position and length
pub InRow-set : (c : ℕ) (ss : List Shown) (p i : ℕ) (s : Shown) → InRow c ss p → i < length ss → s.pos ≡ (get_or ss i s).pos → s.len ≡ (get_or ss i s).len → InRow c (set ss i s) p
InRow-set c [] p i s h l e f = absurd (omega arith)
InRow-set c (t ∷ ss) p zero s h l e f = (e ∙ h.0, rw f h.1)
InRow-set c (t ∷ ss) p (suc i) s h l e f = (h.0, InRow-set (c + span t.len) ss p i s h.1 (omega arith) e f)

-- ---- records that lie beyond a position

pub map-beyond : (q : ℕ) (st : Status) (c : ℕ) (ss : List Shown) (p : ℕ) → q < c → InRow c ss p → map (mark q st) ss ≡ ss
map-beyond q st c [] p lt h = refl
map-beyond q st c (s ∷ ss) p lt h =
    let away : s.pos ≢ q = λ e. omega (arith, h.0, e) in
    rw (ne_eqb s.pos q away, map-beyond q st (c + span s.len) ss p (omega arith) h.1)

pub filter-beyond : (q c : ℕ) (ss : List Shown) (p : ℕ) → q < c → InRow c ss p → filter (elsewhere q) ss ≡ ss
filter-beyond q c [] p lt h = refl
filter-beyond q c (s ∷ ss) p lt h =
    let away : s.pos ≢ q = λ e. omega (arith, h.0, e) in
    rw (ne_eqb s.pos q away, filter-beyond q (c + span s.len) ss p (omega arith) h.1)

pub sum-beyond : (q c : ℕ) (ss : List Shown) (p : ℕ) → q < c → InRow c ss p → sum_by (shown_span q) ss ≡ 0
sum-beyond q c [] p lt h = refl
sum-beyond q c (s ∷ ss) p lt h =
    let away : s.pos ≢ q = λ e. omega (arith, h.0, e) in
    let none : shown_span q s ≡ 0 = rw (ne_eqb s.pos q away) in
    omega (arith, sum_by-cons (shown_span q) s ss, none, sum-beyond q (c + span s.len) ss p (omega arith) h.1)

-- ---- the record at the front

pub filter-front : (c : ℕ) (s : Shown) (ss : List Shown) (p : ℕ) → InRow c (s ∷ ss) p → filter (elsewhere c) (s ∷ ss) ≡ ss
filter-front c s ss p h = rw (eq-eqb s.pos c h.0, filter-beyond c (c + span s.len) ss p (omega arith) h.1)

pub sum-front : (c : ℕ) (s : Shown) (ss : List Shown) (p : ℕ) → InRow c (s ∷ ss) p → sum_by (shown_span c) (s ∷ ss) ≡ span s.len
sum-front c s ss p h =
    let here : shown_span c s ≡ span s.len = rw (eq-eqb s.pos c h.0) in
    omega (arith, sum_by-cons (shown_span c) s ss, here, sum-beyond c (c + span s.len) ss p (omega arith) h.1)

-- ---- the record at an index

pub at-least : (c : ℕ) (ss : List Shown) (p i : ℕ) (d : Shown) → InRow c ss p → i < length ss → c ≤ (get_or ss i d).pos
at-least c [] p i d h l = absurd (omega arith)
at-least c (s ∷ ss) p zero d h l = omega (arith, h.0)
at-least c (s ∷ ss) p (suc i) d h l = omega (arith, at-least (c + span s.len) ss p i d h.1 (omega arith))

pub map-at : (st : Status) (c : ℕ) (ss : List Shown) (p i : ℕ) (d : Shown) → InRow c ss p → i < length ss →
    map (mark (get_or ss i d).pos st) ss ≡ set ss i (record (get_or ss i d) { status = st })
map-at st c [] p i d h l = absurd (omega arith)
map-at st c (s ∷ ss) p zero d h l =
    rw (eq-eqb s.pos s.pos refl, map-beyond s.pos st (c + span s.len) ss p (omega (arith, h.0)) h.1)
map-at st c (s ∷ ss) p (suc i) d h l =
    let far : c + span s.len ≤ (get_or ss i d).pos = at-least (c + span s.len) ss p i d h.1 (omega arith) in
    let away : s.pos ≢ (get_or ss i d).pos = λ e. omega (arith, h.0, e, far) in
    rw (ne_eqb s.pos (get_or ss i d).pos away, map-at st (c + span s.len) ss p i d h.1 (omega arith))

-- the last record of a row
pub set-last : {X : Type 0} (xs : List X) (x y : X) → set (xs ++ x ∷ []) (length xs) y ≡ xs ++ y ∷ []
set-last [] x y = refl
set-last (z ∷ xs) x y = ap (λ l. z ∷ l) (set-last xs x y)

pub get-last : {X : Type 0} (xs : List X) (x d : X) → get_or (xs ++ x ∷ []) (length xs) d ≡ x
get-last [] x d = refl
get-last (z ∷ xs) x d = get-last xs x d

pub below-end : (c : ℕ) (ss : List Shown) (p i : ℕ) (d : Shown) → InRow c ss p → i < length ss → (get_or ss i d).pos < p
below-end c [] p i d h l = absurd (omega arith)
below-end c (s ∷ ss) p zero d h l = omega (arith, h.0, InRow-le (c + span s.len) ss p h.1)
below-end c (s ∷ ss) p (suc i) d h l = below-end (c + span s.len) ss p i d h.1 (omega arith)

-- within a list the default does not matter
pub get_or-default : {X : Type 0} (xs : List X) (i : ℕ) (d e : X) → i < length xs → get_or xs i d ≡ get_or xs i e
get_or-default [] i d e l = absurd (omega arith)
get_or-default (x ∷ xs) zero d e l = refl
get_or-default (x ∷ xs) (suc i) d e l = get_or-default xs i d e (omega arith)

-- each record of a row occupies at least eight bytes
pub InRow-few : (c : ℕ) (ss : List Shown) (p : ℕ) → InRow c ss p → c + 8 * length ss ≤ p
InRow-few c [] p h = omega arith
InRow-few c (s ∷ ss) p h = omega (arith, InRow-few (c + span s.len) ss p h.1)
