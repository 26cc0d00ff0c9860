-- Entries that name no record which was taken before, and what they leave unchanged.
use Rattle.std.proofs.Common.{◌≡◌, ℕ, ◌<◌, ◌≤◌, ◌==◌, Bool, true, false, ◌||◌, List, [], ◌∷◌, refl, sym, ap, ◌∙◌, arith}
use Rattle.std.specs.List.{list_any, sum_by, All, Contains}
use Rattle.std.proofs.lemmas.Bool.{ne_eqb, and_right, true≢false, or_left, or_right, false_from_ne_true}
use Rattle.std.proofs.lemmas.List.Folds.{list_any_none}
use Rattle.std.proofs.lemmas.List.Elements.{All-weaker, All-contains_itself}
use Rattle.rb_history.specs.declared.entries.Entry.{Entry}
use Rattle.rb_history.specs.declared.entries.Entry.TheVariants.{Res, Full, Sub, Dis, Take}
use Rattle.rb_history.specs.History.{is_grant_at, is_submit, is_discard, is_granted_at, is_submitted_at, is_discarded_at, is_taken_at, granted_span_at, span_of_record, producer_of, consumer_of, records}
use Rattle.rb_history.specs.RoomRule.{Setup}
use Rattle.rb_history.proofs.Laws.{KeptAs}
use Rattle.rb_history.proofs.Lists.{sum_by-cons}
use Rattle.rb_history.proofs.Row.{InRow-le}
use Rattle.rb_history.proofs.Exact.{granted-below}
use Rattle.rb_history.specs.WorkerCounts.{is_grant_to, is_record_of}
use Rattle.rb_history.proofs.RecordWorkers.{taken-from}
use Rattle.rb_chapter_ring.proofs.ChapterPieces.{sum_by-where}

-- the entry names no record that h took, and grants none below the producer position of h
abbrev pub GoesFrom : List Entry → ℕ → Entry → Type 0
GoesFrom h p (Res w k n q) = p ≤ q
GoesFrom h p (Full w n) = Unit {0}
GoesFrom h p (Sub q) = is_taken_at h q ≡ false
GoesFrom h p (Dis q) = is_taken_at h q ≡ false
GoesFrom h p (Take q) = is_taken_at h q ≡ false

-- the record that the entry takes is one that h took
abbrev pub TakesIn : List Entry → Entry → Type 0
TakesIn h (Take q) = is_taken_at h q ≡ true
TakesIn h _ = Unit {0}

takes-in : (h : List Entry) (e : Entry) → Contains h e → TakesIn h e
takes-in h (Res w k n q) is = tt
takes-in h (Full w n) is = tt
takes-in h (Sub q) is = tt
takes-in h (Dis q) is = tt
takes-in h (Take q) is = taken-from h q is

pub all-takes : (h : List Entry) → All (TakesIn h) h
all-takes h = All-weaker (Contains h) (TakesIn h) (takes-in h) h (All-contains_itself h)

-- ---- entries that name nothing that was taken

module _ (r : Setup) (h : List Entry) (k : KeptAs r h) where
  pub low : consumer_of r.start h ≤ producer_of r.start h
  low = InRow-le (consumer_of r.start h) (records h) (producer_of r.start h) k.in_row

  pub taken-low : (q : ℕ) → is_taken_at h q ≡ true → q < producer_of r.start h
  taken-low q t = omega (arith, low, k.passed q t)

  module _ (b : List Entry) (from : All (GoesFrom h (producer_of r.start h)) b) where
    none : (test : Entry → Bool) → ((e : Entry) → GoesFrom h (producer_of r.start h) e → test e ≡ false) → list_any test b ≡ false
    none test off = list_any_none test b (All-weaker (GoesFrom h (producer_of r.start h)) (λ e. test e ≡ false) off b from)

    module _ (q : ℕ) (t : is_taken_at h q ≡ true) where
      other : (x : ℕ) → is_taken_at h x ≡ false → (x == q) ≡ false
      other x f = ne_eqb x q (λ e. true≢false (sym t ∙ ap (is_taken_at h) (sym e) ∙ f))

      no-submit : (e : Entry) → GoesFrom h (producer_of r.start h) e → is_submit q e ≡ false
      no-submit (Res w s n x) g = refl
      no-submit (Full w n) g = refl
      no-submit (Sub x) g = other x g
      no-submit (Dis x) g = refl
      no-submit (Take x) g = refl

      no-discard : (e : Entry) → GoesFrom h (producer_of r.start h) e → is_discard q e ≡ false
      no-discard (Res w s n x) g = refl
      no-discard (Full w n) g = refl
      no-discard (Sub x) g = refl
      no-discard (Dis x) g = other x g
      no-discard (Take x) g = refl

      pub submitted-none : is_submitted_at b q ≡ false
      submitted-none = none (is_submit q) no-submit

      pub discarded-none : is_discarded_at b q ≡ false
      discarded-none = none (is_discard q) no-discard

    -- no position below the producer position is granted again
    module _ (q : ℕ) (lt : q < producer_of r.start h) where
      beyond : (x : ℕ) → producer_of r.start h ≤ x → (x == q) ≡ false
      beyond x le = ne_eqb x q (λ e. omega (arith, e, le, lt))

      no-grant : (e : Entry) → GoesFrom h (producer_of r.start h) e → is_grant_at q e ≡ false
      no-grant (Res w s n x) g = beyond x g
      no-grant (Full w n) g = refl
      no-grant (Sub x) g = refl
      no-grant (Dis x) g = refl
      no-grant (Take x) g = refl

      pub granted-none : is_granted_at b q ≡ false
      granted-none = none (is_grant_at q) no-grant

      no-worker : (w : ℕ) (e : Entry) → GoesFrom h (producer_of r.start h) e → is_grant_to w q e ≡ false
      no-worker w (Res v s n x) g = and_right (v == w) (x == q) (beyond x g)
      no-worker w (Full v n) g = refl
      no-worker w (Sub x) g = refl
      no-worker w (Dis x) g = refl
      no-worker w (Take x) g = refl

      pub worker-none : (w : ℕ) → is_record_of w b q ≡ false
      worker-none w = none (is_grant_to w q) (no-worker w)

      no-span : (e : Entry) → GoesFrom h (producer_of r.start h) e → granted_span_at q e ≡ 0
      no-span (Res w s n x) g = rw (beyond x g) refl
      no-span (Full w n) g = refl
      no-span (Sub x) g = refl
      no-span (Dis x) g = refl
      no-span (Take x) g = refl

      zeros : (es : List Entry) → sum_by (λ (e : Entry). 0) es ≡ 0
      zeros [] = refl
      zeros (e ∷ es) = omega (arith, zeros es, sum_by-cons (λ (x : Entry). 0) e es)

      pub span-none : span_of_record b q ≡ 0
      span-none = sum_by-where (GoesFrom h (producer_of r.start h)) (λ (e : Entry). 0) (granted_span_at q) no-span b from ∙ zeros b

  -- no earlier record is at a position that is granted from here on
  module _ (q : ℕ) (le : producer_of r.start h ≤ q) where
    pub not-granted : is_granted_at h q ≡ false
    not-granted = false_from_ne_true (is_granted_at h q) (λ g. omega (arith, le, granted-below h (producer_of r.start h) q k.below g))

    settled-none : (is_submitted_at h q || is_discarded_at h q) ≡ true → ⊥
    settled-none s = true≢false (sym (k.named q s) ∙ not-granted)

    pub not-submitted : is_submitted_at h q ≡ false
    not-submitted = false_from_ne_true (is_submitted_at h q) (λ s. settled-none (or_left (is_submitted_at h q) (is_discarded_at h q) s))

    pub not-discarded : is_discarded_at h q ≡ false
    not-discarded = false_from_ne_true (is_discarded_at h q) (λ d. settled-none (or_right (is_submitted_at h q) (is_discarded_at h q) d))

    pub not-taken : is_taken_at h q ≡ false
    not-taken = false_from_ne_true (is_taken_at h q) (λ t. omega (arith, le, taken-low q t))
