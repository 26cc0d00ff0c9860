-- What the records of an opening say about a position that no earlier entry took.
use Rattle.std.proofs.Common.{◌≡◌, ℕ, ◌==◌, Bool, true, false, cond, ◌&&◌, List, Some, None, refl, sym, ap, ◌∙◌, inl, inr}
use Rattle.std.specs.List.{list_any, sum_by}
use Rattle.std.proofs.lemmas.Bool.{cases_eq, ne_eqb, true≢false, cases_Bool}
use Rattle.std.proofs.lemmas.List.Folds.{list_any_none}
use Rattle.std.proofs.lemmas.List.Elements.{All-weaker}
use Rattle.rb_history.specs.declared.entries.Entry.{Entry}
use Rattle.rb_history.specs.declared.entries.Entry.TheVariants.{Res, Full, Sub, Dis, Take}
use Rattle.rb_history.specs.Span.{span}
use Rattle.rb_history.specs.History.{Shown, status_by, is_grant_at, is_granted_at, is_submitted_at, is_discarded_at, is_taken_at, granted_span_at, span_of_record, untaken, records}
use Rattle.rb_history.specs.History.Status.{Waiting, Discarded}
use Rattle.rb_history.specs.Counting.{is_same}
use Rattle.rb_history.proofs.Lists.{sum_by-only, opt_sum}
use Rattle.rb_history.proofs.Steps.{Named, named}
use Rattle.rb_history.specs.WorkerCounts.{is_grant_to, is_record_of}
use Rattle.rb_history.proofs.TakenRecords.{NeverBoth}
use Rattle.rb_chapter_ring.specs.CountedFrom.{shows_at, shows_waiting_at, shows_discarded_at, shows_worker_at, shown_span_at}
use Rattle.rb_chapter_ring.proofs.ChapterPieces.{opt_test, any-filter_map, any-and}

shown : (w s n q : ℕ) (sb db tk : Bool) → Shown
shown w s n q sb db tk = record { pos = q; len = n; worker = w; serial = s; status = status_by sb db tk }

-- a test of a record that is hidden once it is taken
hidden : (tk : Bool) (s : Bool → Shown) (t : Shown → Bool) (u : Bool) → (tk ≡ true → u ≡ false) → t (s false) ≡ u → opt_test t (cond tk None (Some (s tk))) ≡ u
hidden true s t u gone here = sym (gone refl)
hidden false s t u gone here = here

waiting-is : (d s : Bool) → (s ≡ true → d ≡ false) → is_same Waiting (status_by s d false) ≡ s
waiting-is true true n = absurd (true≢false (n refl))
waiting-is true false n = refl
waiting-is false true n = refl
waiting-is false false n = refl

discarded-is : (d s : Bool) → is_same Discarded (status_by s d false) ≡ d
discarded-is true s = refl
discarded-is false true = refl
discarded-is false false = refl

at-and : (q p : ℕ) (f : ℕ → Bool) → ((q == p) && f q) ≡ ((q == p) && f p)
at-and q p f = elim (cases_eq q p) [
  | inl same ↦ rw same refl
  | inr other ↦ rw (ne_eqb q p other) refl
]

module _ (h : List Entry) (p : ℕ) (free : is_taken_at h p ≡ false) where
  apart : (q : ℕ) → is_taken_at h q ≡ true → (q == p) ≡ false
  apart q t = ne_eqb q p (λ e. true≢false (sym t ∙ ap (is_taken_at h) e ∙ free))

  at-entry : (e : Entry) → opt_test (shows_at p) (untaken h e) ≡ is_grant_at p e
  at-entry (Res w s n q) = hidden (is_taken_at h q) (λ t. record { pos = q; len = n; worker = w; serial = s; status = status_by (is_submitted_at h q) (is_discarded_at h q) t }) (shows_at p) (q == p) (apart q) refl
  at-entry (Full w n) = refl
  at-entry (Sub q) = refl
  at-entry (Dis q) = refl
  at-entry (Take q) = refl

  pub at-granted : list_any (shows_at p) (records h) ≡ is_granted_at h p
  at-granted = any-filter_map (untaken h) (shows_at p) (is_grant_at p) at-entry h

  left-none : (a b : Bool) → a ≡ false → (a && b) ≡ false
  left-none a b e = rw e refl

  waiting-entry : NeverBoth h → (e : Entry) → opt_test (shows_waiting_at p) (untaken h e) ≡ (is_grant_at p e && is_submitted_at h p)
  waiting-entry never (Res w s n q) =
      hidden (is_taken_at h q) (λ t. record { pos = q; len = n; worker = w; serial = s; status = status_by (is_submitted_at h q) (is_discarded_at h q) t }) (shows_waiting_at p) ((q == p) && is_submitted_at h p)
      (λ t. left-none (q == p) (is_submitted_at h p) (apart q t))
      (ap (λ b. (q == p) && b) (waiting-is (is_discarded_at h q) (is_submitted_at h q) (never q)) ∙ at-and q p (is_submitted_at h))
  waiting-entry never (Full w n) = refl
  waiting-entry never (Sub q) = refl
  waiting-entry never (Dis q) = refl
  waiting-entry never (Take q) = refl

  pub waiting-submitted : NeverBoth h → (is_submitted_at h p ≡ true → is_granted_at h p ≡ true) → list_any (shows_waiting_at p) (records h) ≡ is_submitted_at h p
  waiting-submitted never named = any-filter_map (untaken h) (shows_waiting_at p) (λ e. is_grant_at p e && is_submitted_at h p) (waiting-entry never) h ∙ any-and (is_grant_at p) (is_submitted_at h p) h named

  discarded-entry : (e : Entry) → opt_test (shows_discarded_at p) (untaken h e) ≡ (is_grant_at p e && is_discarded_at h p)
  discarded-entry (Res w s n q) =
      hidden (is_taken_at h q) (λ t. record { pos = q; len = n; worker = w; serial = s; status = status_by (is_submitted_at h q) (is_discarded_at h q) t }) (shows_discarded_at p) ((q == p) && is_discarded_at h p)
      (λ t. left-none (q == p) (is_discarded_at h p) (apart q t))
      (ap (λ b. (q == p) && b) (discarded-is (is_discarded_at h q) (is_submitted_at h q)) ∙ at-and q p (is_discarded_at h))
  discarded-entry (Full w n) = refl
  discarded-entry (Sub q) = refl
  discarded-entry (Dis q) = refl
  discarded-entry (Take q) = refl

  pub discarded-shown : (is_discarded_at h p ≡ true → is_granted_at h p ≡ true) → list_any (shows_discarded_at p) (records h) ≡ is_discarded_at h p
  discarded-shown named = any-filter_map (untaken h) (shows_discarded_at p) (λ e. is_grant_at p e && is_discarded_at h p) discarded-entry h ∙ any-and (is_grant_at p) (is_discarded_at h p) h named

  right-none : (a b : Bool) → b ≡ false → (a && b) ≡ false
  right-none true b e = e
  right-none false b e = refl

  worker-entry : (w : ℕ) (e : Entry) → opt_test (shows_worker_at w p) (untaken h e) ≡ is_grant_to w p e
  worker-entry w (Res v s n q) = hidden (is_taken_at h q) (λ t. record { pos = q; len = n; worker = v; serial = s; status = status_by (is_submitted_at h q) (is_discarded_at h q) t }) (shows_worker_at w p) ((v == w) && (q == p)) (λ t. right-none (v == w) (q == p) (apart q t)) refl
  worker-entry w (Full v n) = refl
  worker-entry w (Sub q) = refl
  worker-entry w (Dis q) = refl
  worker-entry w (Take q) = refl

  pub worker-shown : (w : ℕ) → list_any (shows_worker_at w p) (records h) ≡ is_record_of w h p
  worker-shown w = any-filter_map (untaken h) (shows_worker_at w p) (is_grant_to w p) (worker-entry w) h

  spans : (tk : Bool) (s : Bool → Shown) (u : ℕ) → (tk ≡ true → u ≡ 0) → shown_span_at p (s false) ≡ u → opt_sum (shown_span_at p) (cond tk None (Some (s tk))) ≡ u
  spans true s u gone here = sym (gone refl)
  spans false s u gone here = here

  span-entry : (e : Entry) → granted_span_at p e ≡ opt_sum (shown_span_at p) (untaken h e)
  span-entry (Res w s n q) =
      sym (spans (is_taken_at h q) (λ t. record { pos = q; len = n; worker = w; serial = s; status = status_by (is_submitted_at h q) (is_discarded_at h q) t }) (cond (q == p) (span n) 0)
      (λ t. rw (apart q t) refl) refl)
  span-entry (Full w n) = refl
  span-entry (Sub q) = refl
  span-entry (Dis q) = refl
  span-entry (Take q) = refl

  pub span-shown : span_of_record h p ≡ sum_by (shown_span_at p) (records h)
  span-shown = sum_by-only (granted_span_at p) (untaken h) (shown_span_at p) span-entry h

-- the opening has no record at a position that was taken
pub not-shown : (h : List Entry) (p : ℕ) → list_any (shows_at p) (records h) ≡ true → is_taken_at h p ≡ false
not-shown h p is = elim (cases_Bool (is_taken_at h p)) [
  | inl t ↦ absurd (true≢false (sym is ∙ list_any_none (shows_at p) (records h) (All-weaker (Named h h) (λ s. shows_at p s ≡ false)
      (λ s n. ne_eqb s.pos p (λ e. true≢false (sym t ∙ ap (is_taken_at h) (sym e) ∙ n.taken_is))) (records h) (named h h))))
  | inr f ↦ f
]
