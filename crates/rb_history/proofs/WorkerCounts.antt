-- What one more entry changes in a worker's counts and in the consumer's.
use Rattle.std.proofs.Common.{◌≡◌, ℕ, ◌+◌, ◌<◌, ◌≤◌, ◌^◌, ◌||◌, Bool, true, false, List, [], ◌∷◌, ◌++◌, length, take, drop, get_or, refl, sym, ap, ◌∙◌, subst, append_assoc, append-nil, add-zero, arith}
use Rattle.std.specs.List.{count_by, Contains}
use Rattle.std.proofs.lemmas.Bool.{true≢false, eq-eqb, ne_eqb, or_left, or_right, false_from_ne_true}
use Rattle.std.proofs.lemmas.List.Elements.{Contains-append_right}
use Rattle.std.proofs.lemmas.List.{take_more, take-append-drop}
use Rattle.std.proofs.lemmas.List.Sums.{count_by-le-length}
use Rattle.rb_history.specs.declared.entries.Entry.{Entry}
use Rattle.rb_history.specs.declared.entries.Entry.TheVariants.{Res, Full, Sub, Dis, Take}
use Rattle.rb_history.specs.History.{is_grant_of, is_grant_at, is_submit, is_discard, is_granted_at, is_submitted_at, is_discarded_at, is_taken_at, grants, consumer_of, producer_of}
use Rattle.rb_history.specs.RoomRule.{Setup}
use Rattle.rb_history.specs.Legal.{IsLegal, MayFollow}
use Rattle.rb_history.proofs.Laws.{kept-from-legal, legal-front, legal-next}
use Rattle.rb_history.proofs.Lists.{list_any-snoc, or-false, sum_by-cons, sum_by-snoc}
use Rattle.rb_history.proofs.Row.{InRow-le}
use Rattle.rb_history.proofs.Steps.{consumer-full, consumer-sub, consumer-dis, consumer-res}
use Rattle.rb_history.specs.declared.tally.Tally.{Tally}
use Rattle.rb_history.specs.WorkerCounts.{is_record_of, is_refusal_of, is_submit_of, is_discard_of, tally_of, is_take_where, events_of, skips_of}
use Rattle.rb_history.specs.inner.TallySteps.{tally_with_entry, IsCountable}
use Rattle.rb_history.proofs.RecordWorkers.{bit, granted-once, record-stays, submitted-from, discarded-from, taken-from}

-- two tests that agree on each entry of a history count alike
pub count-agree : (f g : Entry → Bool) (es : List Entry) → ((x : Entry) → Contains es x → f x ≡ g x) → count_by f es ≡ count_by g es
count-agree f g [] same = refl
count-agree f g (x ∷ es) same =
    let here : bit (f x) ≡ bit (g x) = ap bit (same x (0, omega arith, refl)) in
    let rest = count-agree f g es (λ y is. same y (Contains-append_right (x ∷ []) es y is)) in
    omega (arith, sum_by-cons (λ y. bit (f y)) x es, sum_by-cons (λ y. bit (g y)) x es, here, rest)

module _ (r : Setup) where
  -- a record that was submitted or discarded was granted
  pub submitted-granted : (h : List Entry) (p : ℕ) → IsLegal r h → is_submitted_at h p ≡ true → is_granted_at h p ≡ true
  submitted-granted h p l is = (kept-from-legal r h l).named p (or_left _ _ is)

  pub discarded-granted : (h : List Entry) (p : ℕ) → IsLegal r h → is_discarded_at h p ≡ true → is_granted_at h p ≡ true
  discarded-granted h p l is = (kept-from-legal r h l).named p (or_right _ _ is)

  submits-agree : (w : ℕ) (h es : List Entry) → IsLegal r (h ++ es) → (x : Entry) → Contains h x → is_submit_of w (h ++ es) x ≡ is_submit_of w h x
  submits-agree w h es l (Sub p) is = record-stays r w p h es l (submitted-granted h p (legal-front r h es l) (submitted-from h p is))
  submits-agree w h es l (Res v k n p) is = refl
  submits-agree w h es l (Full v n) is = refl
  submits-agree w h es l (Dis p) is = refl
  submits-agree w h es l (Take p) is = refl

  discards-agree : (w : ℕ) (h es : List Entry) → IsLegal r (h ++ es) → (x : Entry) → Contains h x → is_discard_of w (h ++ es) x ≡ is_discard_of w h x
  discards-agree w h es l (Dis p) is = record-stays r w p h es l (discarded-granted h p (legal-front r h es l) (discarded-from h p is))
  discards-agree w h es l (Res v k n p) is = refl
  discards-agree w h es l (Full v n) is = refl
  discards-agree w h es l (Sub p) is = refl
  discards-agree w h es l (Take p) is = refl

  submit-here : (w : ℕ) (h : List Entry) (e : Entry) → IsLegal r (h ++ e ∷ []) → MayFollow r h e → is_submit_of w (h ++ e ∷ []) e ≡ is_submit_of w h e
  submit-here w h (Sub p) l m = record-stays r w p h (Sub p ∷ []) l m.0
  submit-here w h (Res v k n p) l m = refl
  submit-here w h (Full v n) l m = refl
  submit-here w h (Dis p) l m = refl
  submit-here w h (Take p) l m = refl

  discard-here : (w : ℕ) (h : List Entry) (e : Entry) → IsLegal r (h ++ e ∷ []) → MayFollow r h e → is_discard_of w (h ++ e ∷ []) e ≡ is_discard_of w h e
  discard-here w h (Dis p) l m = record-stays r w p h (Dis p ∷ []) l m.0
  discard-here w h (Res v k n p) l m = refl
  discard-here w h (Full v n) l m = refl
  discard-here w h (Sub p) l m = refl
  discard-here w h (Take p) l m = refl

  pub tally-next : (w : ℕ) (h : List Entry) (e : Entry) → IsLegal r (h ++ e ∷ []) → tally_of w (h ++ e ∷ []) ≡ tally_with_entry w h e (tally_of w h)
  tally-next w h e l =
      let k = h ++ e ∷ [] in
      let m = legal-next r h e [] l in
      let made = sum_by-snoc (λ y. bit (is_grant_of w y)) h e in
      let refused = sum_by-snoc (λ y. bit (is_refusal_of w y)) h e in
      let submits : count_by (is_submit_of w k) k ≡ count_by (is_submit_of w h) h + bit (is_submit_of w h e) =
      sum_by-snoc (λ y. bit (is_submit_of w k y)) h e ∙ (λ i. count-agree (is_submit_of w k) (is_submit_of w h) h (submits-agree w h (e ∷ []) l) i + bit (submit-here w h e l m i)) in
      let discards : count_by (is_discard_of w k) k ≡ count_by (is_discard_of w h) h + bit (is_discard_of w h e) =
      sum_by-snoc (λ y. bit (is_discard_of w k y)) h e ∙ (λ i. count-agree (is_discard_of w k) (is_discard_of w h) h (discards-agree w h (e ∷ []) l) i + bit (discard-here w h e l m i)) in
      λ i. record { made = made i; refused = refused i; submitted = submits i; discarded = discards i }

  -- ---- the worker's own entries

  pub tally-res : (w k n p : ℕ) (h : List Entry) → IsLegal r (h ++ Res w k n p ∷ []) → tally_of w (h ++ Res w k n p ∷ []) ≡ record (tally_of w h) { made = grants w h + 1 }
  tally-res w k n p h l = tally-next w h (Res w k n p) l ∙ (λ i. record {
    made = grants w h + bit (eq-eqb w w refl i);
    refused = add-zero (count_by (is_refusal_of w) h) i;
    submitted = add-zero (count_by (is_submit_of w h) h) i;
    discarded = add-zero (count_by (is_discard_of w h) h) i;
  })

  pub tally-full : (w n : ℕ) (h : List Entry) → IsLegal r (h ++ Full w n ∷ []) → tally_of w (h ++ Full w n ∷ []) ≡ record (tally_of w h) { refused = count_by (is_refusal_of w) h + 1 }
  tally-full w n h l = tally-next w h (Full w n) l ∙ (λ i. record {
    made = add-zero (grants w h) i;
    refused = count_by (is_refusal_of w) h + bit (eq-eqb w w refl i);
    submitted = add-zero (count_by (is_submit_of w h) h) i;
    discarded = add-zero (count_by (is_discard_of w h) h) i;
  })

  pub tally-sub : (w p : ℕ) (h : List Entry) → IsLegal r (h ++ Sub p ∷ []) → is_record_of w h p ≡ true → tally_of w (h ++ Sub p ∷ []) ≡ record (tally_of w h) { submitted = count_by (is_submit_of w h) h + 1 }
  tally-sub w p h l mine = tally-next w h (Sub p) l ∙ (λ i. record {
    made = add-zero (grants w h) i;
    refused = add-zero (count_by (is_refusal_of w) h) i;
    submitted = count_by (is_submit_of w h) h + bit (mine i);
    discarded = add-zero (count_by (is_discard_of w h) h) i;
  })

  pub tally-dis : (w p : ℕ) (h : List Entry) → IsLegal r (h ++ Dis p ∷ []) → is_record_of w h p ≡ true → tally_of w (h ++ Dis p ∷ []) ≡ record (tally_of w h) { discarded = count_by (is_discard_of w h) h + 1 }
  tally-dis w p h l mine = tally-next w h (Dis p) l ∙ (λ i. record {
    made = add-zero (grants w h) i;
    refused = add-zero (count_by (is_refusal_of w) h) i;
    submitted = add-zero (count_by (is_submit_of w h) h) i;
    discarded = count_by (is_discard_of w h) h + bit (mine i);
  })

  -- ---- the consumer's counts

  -- a record that was taken was settled before
  taken-settled : (h : List Entry) (p : ℕ) → IsLegal r h → is_taken_at h p ≡ true → (is_submitted_at h p || is_discarded_at h p) ≡ true
  taken-settled h p l t = (kept-from-legal r h l).closed p t

  unsettled : (s d : Bool) → s ≡ false → d ≡ false → (s || d) ≡ true → ⊥
  unsettled true d s_off d_off is = true≢false s_off
  unsettled false true s_off d_off is = true≢false d_off
  unsettled false false s_off d_off is = true≢false (sym is)

  -- if p is settled, no entry submits it again
  submit-off : (h : List Entry) (e : Entry) (p : ℕ) → MayFollow r h e → (is_submitted_at h p || is_discarded_at h p) ≡ true → is_submit p e ≡ false
  submit-off h (Sub q) p m settled = ne_eqb q p (λ same. unsettled (is_submitted_at h p) (is_discarded_at h p) (ap (is_submitted_at h) (sym same) ∙ m.1) (ap (is_discarded_at h) (sym same) ∙ m.2) settled)
  submit-off h (Res v k n q) p m settled = refl
  submit-off h (Full v n) p m settled = refl
  submit-off h (Dis q) p m settled = refl
  submit-off h (Take q) p m settled = refl

  discard-off : (h : List Entry) (e : Entry) (p : ℕ) → MayFollow r h e → (is_submitted_at h p || is_discarded_at h p) ≡ true → is_discard p e ≡ false
  discard-off h (Dis q) p m settled = ne_eqb q p (λ same. unsettled (is_submitted_at h p) (is_discarded_at h p) (ap (is_submitted_at h) (sym same) ∙ m.1) (ap (is_discarded_at h) (sym same) ∙ m.2) settled)
  discard-off h (Res v k n q) p m settled = refl
  discard-off h (Full v n) p m settled = refl
  discard-off h (Sub q) p m settled = refl
  discard-off h (Take q) p m settled = refl

  -- a settled record remains settled
  pub submitted-stays : (h : List Entry) (e : Entry) (p : ℕ) → MayFollow r h e → (is_submitted_at h p || is_discarded_at h p) ≡ true → is_submitted_at (h ++ e ∷ []) p ≡ is_submitted_at h p
  submitted-stays h e p m settled = list_any-snoc (is_submit p) h e ∙ ap (λ b. is_submitted_at h p || b) (submit-off h e p m settled) ∙ or-false (is_submitted_at h p)

  pub discarded-stays : (h : List Entry) (e : Entry) (p : ℕ) → MayFollow r h e → (is_submitted_at h p || is_discarded_at h p) ≡ true → is_discarded_at (h ++ e ∷ []) p ≡ is_discarded_at h p
  discarded-stays h e p m settled = list_any-snoc (is_discard p) h e ∙ ap (λ b. is_discarded_at h p || b) (discard-off h e p m settled) ∙ or-false (is_discarded_at h p)

  events-agree : (h : List Entry) (e : Entry) → IsLegal r h → MayFollow r h e → (x : Entry) → Contains h x → is_take_where (is_submitted_at (h ++ e ∷ [])) x ≡ is_take_where (is_submitted_at h) x
  events-agree h e l m (Take p) is = submitted-stays h e p m (taken-settled h p l (taken-from h p is))
  events-agree h e l m (Res v k n p) is = refl
  events-agree h e l m (Full v n) is = refl
  events-agree h e l m (Sub p) is = refl
  events-agree h e l m (Dis p) is = refl

  skips-agree : (h : List Entry) (e : Entry) → IsLegal r h → MayFollow r h e → (x : Entry) → Contains h x → is_take_where (is_discarded_at (h ++ e ∷ [])) x ≡ is_take_where (is_discarded_at h) x
  skips-agree h e l m (Take p) is = discarded-stays h e p m (taken-settled h p l (taken-from h p is))
  skips-agree h e l m (Res v k n p) is = refl
  skips-agree h e l m (Full v n) is = refl
  skips-agree h e l m (Sub p) is = refl
  skips-agree h e l m (Dis p) is = refl

  event-here : (h : List Entry) (e : Entry) → MayFollow r h e → is_take_where (is_submitted_at (h ++ e ∷ [])) e ≡ is_take_where (is_submitted_at h) e
  event-here h (Take p) m = submitted-stays h (Take p) p m m.1
  event-here h (Res v k n p) m = refl
  event-here h (Full v n) m = refl
  event-here h (Sub p) m = refl
  event-here h (Dis p) m = refl

  skip-here : (h : List Entry) (e : Entry) → MayFollow r h e → is_take_where (is_discarded_at (h ++ e ∷ [])) e ≡ is_take_where (is_discarded_at h) e
  skip-here h (Take p) m = discarded-stays h (Take p) p m m.1
  skip-here h (Res v k n p) m = refl
  skip-here h (Full v n) m = refl
  skip-here h (Sub p) m = refl
  skip-here h (Dis p) m = refl

  pub events-next : (h : List Entry) (e : Entry) → IsLegal r (h ++ e ∷ []) → events_of (h ++ e ∷ []) ≡ events_of h + bit (is_take_where (is_submitted_at h) e)
  events-next h e l =
      let k = h ++ e ∷ [] in
      let m = legal-next r h e [] l in
      sum_by-snoc (λ y. bit (is_take_where (is_submitted_at k) y)) h e ∙ (λ i. count-agree (is_take_where (is_submitted_at k)) (is_take_where (is_submitted_at h)) h (events-agree h e (legal-front r h (e ∷ []) l) m) i + bit (event-here h e m i))

  pub skips-next : (h : List Entry) (e : Entry) → IsLegal r (h ++ e ∷ []) → skips_of (h ++ e ∷ []) ≡ skips_of h + bit (is_take_where (is_discarded_at h) e)
  skips-next h e l =
      let k = h ++ e ∷ [] in
      let m = legal-next r h e [] l in
      sum_by-snoc (λ y. bit (is_take_where (is_discarded_at k) y)) h e ∙ (λ i. count-agree (is_take_where (is_discarded_at k)) (is_take_where (is_discarded_at h)) h (skips-agree h e (legal-front r h (e ∷ []) l) m) i + bit (skip-here h e m i))

  -- ---- the counts of a part

  pub part-legal : (h : List Entry) (i : ℕ) → IsLegal r h → IsLegal r (take i h)
  part-legal h i l = legal-front r (take i h) (drop i h) (subst (IsLegal r) (sym (take-append-drop i h)) l)

  pub part-once : (h : List Entry) (i p : ℕ) → IsLegal r h → count_by (is_grant_at p) (take i h) ≤ 1
  part-once h i p l = granted-once r (take i h) p (part-legal h i l)

  pub part-next : (w : ℕ) (h : List Entry) (i : ℕ) (e : Entry) → IsLegal r h → i < length h → tally_with_entry w (take i h) (get_or h i e) (tally_of w (take i h)) ≡ tally_of w (take (i + 1) h)
  part-next w h i e l low =
      let more : take (i + 1) h ≡ take i h ++ get_or h i e ∷ [] = take_more h i e low in
      sym (ap (tally_of w) more ∙ tally-next w (take i h) (get_or h i e) (subst (IsLegal r) more (part-legal h (i + 1) l)))

-- each count of a history is at most its length
pub countable : (w : ℕ) (h : List Entry) → length h < 2 ^ 64 → IsCountable (tally_of w h)
countable w h short = record {
  made_fits = omega (arith, count_by-le-length (is_grant_of w) h);
  refused_fits = omega (arith, count_by-le-length (is_refusal_of w) h);
  submitted_fits = omega (arith, count_by-le-length (is_submit_of w h) h);
  discarded_fits = omega (arith, count_by-le-length (is_discard_of w h) h);
}
