-- The contents are those of the waiting records.
use Rattle.std.proofs.Common.{◌≡◌, ℕ, zero, suc, Bool, true, false, cond, ◌||◌, List, [], ◌∷◌, Option, Some, None, map, length, refl, sym, ap, ◌∙◌, inl, inr, arith, subst, is_some, ◌↔◌}
use Rattle.std.specs.List.{filter_map, cons_option, All, Contains}
use Rattle.std.specs.Ordering.{nat_cmp, eq_by_cmp}
use Rattle.std.specs.Cmp.{nat_cmp_total}
use Rattle.std.specs.FinMap.{get, find, get-from_entries}
use Rattle.std.proofs.lemmas.List.Elements.{All-head, All-tail, Contains-append_right}
use Rattle.std.proofs.lemmas.Bool.{cases_eq, eqb-true, or_cases, or_left, cases_Bool}
use Rattle.rb_history.specs.declared.entries.Entry.{Entry}
use Rattle.rb_history.specs.declared.entries.Entry.TheVariants.{Res, Full, Sub, Dis, Take}
use Rattle.rb_history.specs.declared.stored_records.StoredRecord.{StoredRecord}
use Rattle.rb_history.specs.declared.stored_records.RecordState.{RecordState}
use Rattle.rb_history.specs.declared.stored_records.RecordState.TheVariants.{Reserved, Submitted, Discarded as DiscardedState}
use Rattle.rb_history.specs.History.{Shown, status_by, status_of, is_grant_at, is_granted_at, is_submitted_at, is_discarded_at, is_taken_at}
use Rattle.rb_history.specs.History.Status.{Busy, Waiting, Discarded}
use Rattle.rb_history.specs.RoomRule.{Setup}
use Rattle.rb_history.specs.inner.RecordRows.{HistoryFacts}
use Rattle.rb_history.specs.RingModel.{HasLength}
use Rattle.rb_history.specs.StoredRecords.{IsSized, SizedAs, shown_record, state_status, record_bytes, contents_of}
use Rattle.rb_history.proofs.Steps.{Named, named, shown-contains}
use Rattle.rb_history.proofs.Contents.{hit-yes, hit-no}

pub head-status : (h : List Entry) (s : Shown) → Named h h s → status_of h s.pos ≡ s.status
head-status h s n = ap (status_by (is_submitted_at h s.pos) (is_discarded_at h s.pos)) n.taken_is ∙ n.status_is

some-waiting : (h : List Entry) (stored : List StoredRecord) (q : ℕ) → All (Named h h) (map shown_record stored) → is_some (find nat_cmp q (filter_map record_bytes stored)) ≡ true → status_of h q ≡ Waiting
some-waiting h [] q a is = cc
some-waiting h (t ∷ stored) q a is = at t.state refl (some-waiting h stored q (All-tail (Named h h) (shown_record t) (map shown_record stored) a))
  where
    at : (b : RecordState) → t.state ≡ b → (is_some (find nat_cmp q (filter_map record_bytes stored)) ≡ true → status_of h q ≡ Waiting) → status_of h q ≡ Waiting
    at Reserved e rest = rest (rw e at is)
    at DiscardedState e rest = rest (rw e at is)
    at (Submitted b) e rest = elim (cases_eq q t.pos) [
      | inl same ↦ ap (status_of h) same ∙ head-status h (shown_record t) (All-head (Named h h) (shown_record t) (map shown_record stored) a) ∙ ap state_status e
      | inr other ↦ rest (rw (e, hit-no q t.pos other) at is)
    ]

waiting-parts : (s d t : Bool) → status_by s d t ≡ Waiting → (s ≡ true) × (d ≡ false) × (t ≡ false)
waiting-parts s true t e = cc
waiting-parts true false true e = cc
waiting-parts true false false e = (refl, refl, refl)
waiting-parts false false t e = cc

-- the grant of the record at a position is an entry of the history
pub grant-stands : (h : List Entry) (q : ℕ) → is_granted_at h q ≡ true → (w : ℕ) × ((s : ℕ) × ((n : ℕ) × Contains h (Res w s n q)))
grant-stands [] q is = cc
grant-stands (e ∷ h) q is = elim (or_cases (is_grant_at q e) (is_granted_at h q) is) [
  | inl here ↦ first e here
  | inr more ↦ let g = grant-stands h q more in (g.0, (g.1.0, (g.1.1.0, Contains-append_right (e ∷ []) h _ g.1.1.1)))
]
  where
    first : (x : Entry) → is_grant_at q x ≡ true → (w : ℕ) × ((s : ℕ) × ((n : ℕ) × Contains (x ∷ h) (Res w s n q)))
    first (Res w s n p) t = (w, (s, (n, (0, omega arith, ap (Res w s n) (eqb-true p q t)))))
    first (Full w n) t = cc
    first (Sub p) t = cc
    first (Dis p) t = cc
    first (Take p) t = cc

waiting-some : (stored : List StoredRecord) (x : Shown) → Contains (map shown_record stored) x → x.status ≡ Waiting → is_some (find nat_cmp x.pos (filter_map record_bytes stored)) ≡ true
waiting-some [] x (k, l, is) w = absurd (omega arith)
waiting-some (t ∷ stored) x (zero, l, is) w = at t.state refl
  where
    at : (b : RecordState) → t.state ≡ b → is_some (find nat_cmp x.pos (filter_map record_bytes (t ∷ stored))) ≡ true
    at Reserved e = let no : Busy ≡ Waiting = sym (ap state_status e) ∙ ap (λ y. y.status) is ∙ w in cc
    at DiscardedState e = let no : Discarded ≡ Waiting = sym (ap state_status e) ∙ ap (λ y. y.status) is ∙ w in cc
    at (Submitted b) e = rw (e, hit-yes x.pos t.pos (sym (ap (λ y. y.pos) is))) refl
waiting-some (t ∷ stored) x (suc k, l, is) w = past (record_bytes t) (waiting-some stored x (k, omega arith, is) w)
  where
    past : (o : Option (ℕ × List ℕ)) → is_some (find nat_cmp x.pos (filter_map record_bytes stored)) ≡ true → is_some (find nat_cmp x.pos (cons_option o (filter_map record_bytes stored))) ≡ true
    past None r = r
    past (Some e) r = elim (eq_by_cmp nat_cmp x.pos e.0) as (λ b. is_some (cond b (Some e.1) (find nat_cmp x.pos (filter_map record_bytes stored))) ≡ true) [ true ↦ refl | false ↦ r ]

module _ (r : Setup) (h : List Entry) (stored : List StoredRecord) (p c : ℕ) (k : HistoryFacts r h (map shown_record stored) p c) where
  pub all-named : All (Named h h) (map shown_record stored)
  all-named = rw k.shown (named h h)

  pub busy-untaken : (q : ℕ) → status_of h q ≡ Busy → is_taken_at h q ≡ false
  busy-untaken q b = elim (cases_Bool (is_taken_at h q)) [
    | inl t ↦ absurd (clash (is_submitted_at h q) (is_discarded_at h q) (is_taken_at h q) b (k.closed q t))
    | inr f ↦ f
  ]
    where
      clash : (s d t : Bool) → status_by s d t ≡ Busy → (s || d) ≡ true → ⊥
      clash s true t e o = cc
      clash true false true e o = cc
      clash true false false e o = cc
      clash false false t e o = cc

  -- a record that was granted and not taken is in the row
  pub in-row : (w s n q : ℕ) → is_taken_at h q ≡ false → Contains h (Res w s n q) →
      Contains (map shown_record stored) (record { pos = q; len = n; worker = w; serial = s; status = status_by (is_submitted_at h q) (is_discarded_at h q) false })
  in-row w s n q t is = rw k.shown (shown-contains h h w s n q t is)

  to-waiting : (q : ℕ) → is_some (get (contents_of stored) q) ≡ true → status_of h q ≡ Waiting
  to-waiting q is = some-waiting h stored q all-named (ap is_some (sym (get-from_entries nat_cmp_total (filter_map record_bytes stored) q)) ∙ is)

  from-waiting : (q : ℕ) → status_of h q ≡ Waiting → is_some (get (contents_of stored) q) ≡ true
  from-waiting q w =
      let parts = waiting-parts (is_submitted_at h q) (is_discarded_at h q) (is_taken_at h q) w in
      let g = grant-stands h q (k.named q (or_left (is_submitted_at h q) (is_discarded_at h q) parts.0)) in
      let there = in-row g.0 g.1.0 g.1.1.0 q parts.2 g.1.1.1 in
      ap is_some (get-from_entries nat_cmp_total (filter_map record_bytes stored) q)
      ∙ waiting-some stored _ there (rw (parts.0, parts.1))

  pub contents-stand : (q : ℕ) → (is_some (get (contents_of stored) q) ≡ true) ↔ (status_of h q ≡ Waiting)
  contents-stand q = (to-waiting q, from-waiting q)

-- the bytes that are found for a position are those of a record that waits there
found-record : (h : List Entry) (stored : List StoredRecord) (q : ℕ) (bytes : List ℕ) → All (Named h h) (map shown_record stored) → All IsSized stored →
    find nat_cmp q (filter_map record_bytes stored) ≡ Some bytes → HasLength h q (length bytes)
found-record h [] q bytes a s is = cc
found-record h (t ∷ stored) q bytes a s is = at t.state refl (found-record h stored q bytes (All-tail (Named h h) (shown_record t) (map shown_record stored) a) (All-tail IsSized t stored s))
  where
    at : (b : RecordState) → t.state ≡ b → (find nat_cmp q (filter_map record_bytes stored) ≡ Some bytes → HasLength h q (length bytes)) → HasLength h q (length bytes)
    at Reserved e rest = rest (rw e at is)
    at DiscardedState e rest = rest (rw e at is)
    at (Submitted b) e rest = elim (cases_eq q t.pos) [
      | inl same ↦
          let n : Named h h (shown_record t) = All-head (Named h h) (shown_record t) (map shown_record stored) a in
          let sized : length b ≡ t.len = subst (SizedAs t.len) e (All-head IsSized t stored s) in
          let found : Some b ≡ Some bytes = rw (e, hit-yes q t.pos same) at is in
          let taken_bytes : b ≡ bytes = cc in
          let long : t.len ≡ length bytes = sym sized ∙ ap length taken_bytes in
          (t.worker, (t.serial, subst (λ x. Contains h (Res t.worker t.serial (length bytes) x)) (sym same) (subst (λ x. Contains h (Res t.worker t.serial x t.pos)) long n.stands)))
      | inr other ↦ rest (rw (e, hit-no q t.pos other) at is)
    ]

module _ (r : Setup) (h : List Entry) (stored : List StoredRecord) (p c : ℕ) (k : HistoryFacts r h (map shown_record stored) p c) (s : All IsSized stored) where
  pub contents-sized : (q : ℕ) (bytes : List ℕ) → get (contents_of stored) q ≡ Some bytes → HasLength h q (length bytes)
  contents-sized q bytes is =
      found-record h stored q bytes (all-named r h stored p c k) s (sym (get-from_entries nat_cmp_total (filter_map record_bytes stored) q) ∙ is)
