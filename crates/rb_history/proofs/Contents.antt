-- The contents of a row of records, as a map.
use Rattle.std.proofs.Common.{◌≡◌, ◌≢◌, ℕ, zero, suc, ◌+◌, ◌<◌, ◌≤◌, true, false, cond, List, [], ◌∷◌, ◌++◌, Option, Some, None, map, length, get_or, set, refl, sym, ap, ◌∙◌, inl, inr, arith, append-nil}
use Rattle.std.specs.List.{filter_map, cons_option}
use Rattle.std.specs.Ordering.{nat_cmp, eq_by_cmp}
use Rattle.std.specs.Cmp.{nat_cmp_total, unsigned_tied}
use Rattle.std.specs.FinMap.{get, insert, remove, find, from_entries, get-insert, get-remove, get-from_entries, same_map, nat_cmp-IsAntisymmetric}
use Rattle.std.proofs.lemmas.List.Elements.{filter_map-append}
use Rattle.std.proofs.lemmas.Bool.{cases_eq, eq-eqb, ne_eqb}
use Rattle.rb_history.specs.declared.stored_records.StoredRecord.{StoredRecord}
use Rattle.rb_history.specs.declared.stored_records.RecordState.{RecordState}
use Rattle.rb_history.specs.declared.stored_records.RecordState.TheVariants.{Reserved, Submitted, Discarded as DiscardedState}
use Rattle.rb_history.specs.Span.{span}
use Rattle.rb_history.specs.History.{Shown}
use Rattle.rb_history.specs.inner.RecordRows.{InRow}
use Rattle.rb_history.specs.StoredRecords.{shown_record, state_bytes, record_bytes, contents_of}
use Rattle.rb_history.proofs.Row.{at-least, InRow-le}

abbrev Held_at : Type 0
Held_at = ℕ × List ℕ

pub hit-yes : (q k : ℕ) → q ≡ k → eq_by_cmp nat_cmp q k ≡ true
hit-yes q k e = unsigned_tied q k ∙ eq-eqb q k e

pub hit-no : (q k : ℕ) → q ≢ k → eq_by_cmp nat_cmp q k ≡ false
hit-no q k e = unsigned_tied q k ∙ ne_eqb q k e

look : ℕ → List (ℕ × List ℕ) → Option (List ℕ)
look q es = find nat_cmp q es

-- the entry's key is another one
abbrev NotAt : ℕ → Option (ℕ × List ℕ) → Type 0
NotAt k None = Unit {0}
NotAt k (Some e) = e.0 ≢ k

not-at : (k p : ℕ) (a : RecordState) → p ≢ k → NotAt k (state_bytes p a)
not-at k p Reserved e = tt
not-at k p (Submitted s) e = e
not-at k p DiscardedState e = tt

look-past : (k : ℕ) (o : Option (ℕ × List ℕ)) (es : List (ℕ × List ℕ)) → NotAt k o → find nat_cmp k (cons_option o es) ≡ find nat_cmp k es
look-past k None es n = refl
look-past k (Some e) es n = rw (hit-no k e.0 (λ x. n (sym x)))

look-under : (q k : ℕ) (o : Option (ℕ × List ℕ)) (s : Option (List ℕ)) (xs ys : List (ℕ × List ℕ)) → NotAt k o →
    find nat_cmp q ys ≡ cond (eq_by_cmp nat_cmp q k) s (find nat_cmp q xs) →
    find nat_cmp q (cons_option o ys) ≡ cond (eq_by_cmp nat_cmp q k) s (find nat_cmp q (cons_option o xs))
look-under q k None s xs ys n is = is
look-under q k (Some e) s xs ys n is = elim (cases_eq q e.0) [
  | inl same ↦ rw (hit-yes q e.0 same, hit-no q k (λ x. n (sym same ∙ x)))
  | inr other ↦ rw (hit-no q e.0 other) is
]

pub look-beyond : (q c : ℕ) (stored : List StoredRecord) (p : ℕ) → q < c → InRow c (map shown_record stored) p → find nat_cmp q (filter_map record_bytes stored) ≡ None
look-beyond q c [] p lt h = refl
look-beyond q c (t ∷ stored) p lt h =
    let away : t.pos ≢ q = λ e. omega (arith, h.0, e) in
    look-past q (record_bytes t) (filter_map record_bytes stored) (not-at q t.pos t.state away) ∙ look-beyond q (c + span t.len) stored p (omega arith) h.1

pub look-end : (c : ℕ) (stored : List StoredRecord) (p : ℕ) → InRow c (map shown_record stored) p → (q : ℕ) → p ≤ q → find nat_cmp q (filter_map record_bytes stored) ≡ None
look-end c [] p h q le = refl
look-end c (t ∷ stored) p h q le =
    let low : c + span t.len ≤ p = InRow-le (c + span t.len) (map shown_record stored) p h.1 in
    let away : t.pos ≢ q = λ e. omega (arith, h.0, e, low) in
    look-past q (record_bytes t) (filter_map record_bytes stored) (not-at q t.pos t.state away) ∙ look-end (c + span t.len) stored p h.1 q le

pub get-map : (f : StoredRecord → Shown) (stored : List StoredRecord) (i : ℕ) (y : StoredRecord) → get_or (map f stored) i (f y) ≡ f (get_or stored i y)
get-map f [] i y = refl
get-map f (t ∷ stored) zero y = refl
get-map f (t ∷ stored) (suc i) y = get-map f stored i y

pub length-map : (f : StoredRecord → Shown) (stored : List StoredRecord) → length (map f stored) ≡ length stored
length-map f [] = refl
length-map f (t ∷ stored) = ap suc (length-map f stored)

look-set : (q c : ℕ) (stored : List StoredRecord) (p i : ℕ) (y : StoredRecord) (s : List ℕ) → InRow c (map shown_record stored) p → i < length stored →
    record_bytes y ≡ Some ((get_or stored i y).pos, s) → record_bytes (get_or stored i y) ≡ None →
    find nat_cmp q (filter_map record_bytes (set stored i y)) ≡ cond (eq_by_cmp nat_cmp q (get_or stored i y).pos) (Some s) (find nat_cmp q (filter_map record_bytes stored))
look-set q c [] p i y s h l new old = absurd (omega arith)
look-set q c (t ∷ stored) p zero y s h l new old = rw (new, old)
look-set q c (t ∷ stored) p (suc i) y s h l new old =
    let far : c + span t.len ≤ (get_or (map shown_record stored) i (shown_record y)).pos = at-least (c + span t.len) (map shown_record stored) p i (shown_record y) h.1 (omega (arith, length-map shown_record stored)) in
    let far_too : c + span t.len ≤ (get_or stored i y).pos = rw (get-map shown_record stored i y) at far in
    let away : t.pos ≢ (get_or stored i y).pos = λ e. omega (arith, h.0, e, far_too) in
    look-under q (get_or stored i y).pos (record_bytes t) (Some s) (filter_map record_bytes stored) (filter_map record_bytes (set stored i y)) (not-at (get_or stored i y).pos t.pos t.state away)
    (look-set q (c + span t.len) stored p i y s h.1 (omega arith) new old)

-- the record at an index gets its bytes
pub contents-set : (c : ℕ) (stored : List StoredRecord) (p i : ℕ) (y : StoredRecord) (s : List ℕ) → InRow c (map shown_record stored) p → i < length stored →
    record_bytes y ≡ Some ((get_or stored i y).pos, s) → record_bytes (get_or stored i y) ≡ None →
    contents_of (set stored i y) ≡ insert (contents_of stored) (get_or stored i y).pos s
contents-set c stored p i y s h l new old = same_map nat_cmp_total nat_cmp-IsAntisymmetric _ _ (λ q.
    get-from_entries nat_cmp_total (filter_map record_bytes (set stored i y)) q
    ∙ look-set q c stored p i y s h l new old
    ∙ sym (get-insert nat_cmp_total (contents_of stored) (get_or stored i y).pos s q ∙ ap (cond (eq_by_cmp nat_cmp q (get_or stored i y).pos) (Some s)) (get-from_entries nat_cmp_total (filter_map record_bytes stored) q)))

-- a record without bytes is replaced by another without bytes
bytes-set : (stored : List StoredRecord) (i : ℕ) (y : StoredRecord) → i < length stored → record_bytes y ≡ None → record_bytes (get_or stored i y) ≡ None →
    filter_map record_bytes (set stored i y) ≡ filter_map record_bytes stored
bytes-set [] i y l new old = absurd (omega arith)
bytes-set (t ∷ stored) zero y l new old = rw (new, old)
bytes-set (t ∷ stored) (suc i) y l new old = ap (cons_option (record_bytes t)) (bytes-set stored i y (omega arith) new old)

pub contents-unset : (stored : List StoredRecord) (i : ℕ) (y : StoredRecord) → i < length stored → record_bytes y ≡ None → record_bytes (get_or stored i y) ≡ None →
    contents_of (set stored i y) ≡ contents_of stored
contents-unset stored i y l new old = ap from_entries (bytes-set stored i y l new old)

-- a record without bytes is appended
pub contents-push : (stored : List StoredRecord) (y : StoredRecord) → record_bytes y ≡ None → contents_of (stored ++ y ∷ []) ≡ contents_of stored
contents-push stored y none = ap from_entries (filter_map-append record_bytes stored (y ∷ []) ∙ rw none (append-nil _))

-- the record at the front is removed
pub contents-front : (c : ℕ) (t : StoredRecord) (stored : List StoredRecord) (p : ℕ) (s : List ℕ) → InRow c (map shown_record (t ∷ stored)) p → record_bytes t ≡ Some (t.pos, s) →
    contents_of stored ≡ remove (contents_of (t ∷ stored)) t.pos
contents-front c t stored p s h is = same_map nat_cmp_total nat_cmp-IsAntisymmetric _ _ (λ q.
    get-from_entries nat_cmp_total (filter_map record_bytes stored) q
    ∙ elim (cases_eq q t.pos) [
      | inl same ↦ rw (hit-yes q t.pos same) (look-beyond q (c + span t.len) stored p (omega (arith, h.0, same)) h.1)
      | inr other ↦ rw (hit-no q t.pos other, is) (rw (hit-no q t.pos other) refl)
    ]
    ∙ sym (get-remove nat_cmp_total (contents_of (t ∷ stored)) t.pos q ∙ ap (cond (eq_by_cmp nat_cmp q t.pos) None) (get-from_entries nat_cmp_total (filter_map record_bytes (t ∷ stored)) q)))

pub contents-at-front : (c : ℕ) (t : StoredRecord) (stored : List StoredRecord) (s : List ℕ) → record_bytes t ≡ Some (c, s) → get (contents_of (t ∷ stored)) c ≡ Some s
contents-at-front c t stored s is = get-from_entries nat_cmp_total (filter_map record_bytes (t ∷ stored)) c ∙ rw (is, hit-yes c c refl)
