-- The worker of a record, and whether it is busy or waiting, counted from an opening.
use Rattle.std.proofs.Common.{◌≡◌, ℕ, ◌↔◌, ◌==◌, Bool, true, false, ◌||◌, List, ◌++◌, sym, ap, ◌∙◌, inl, inr}
use Rattle.std.specs.List.{list_any, All, Contains}
use Rattle.std.proofs.lemmas.Bool.{cases_Bool, or_cases, or_left, or_right, or_from, ne_eqb, and_left, true≢false, false_from_ne_true}
use Rattle.std.proofs.lemmas.List.Folds.{list_any_none, list_any-append}
use Rattle.std.proofs.lemmas.List.Elements.{All-contains, All-weaker, Contains-append_left, Contains-append_right, Contains-append_cases}
use Rattle.rb_history.specs.declared.entries.Entry.{Entry}
use Rattle.rb_history.specs.declared.entries.Entry.TheVariants.{Res}
use Rattle.rb_history.specs.History.{status_by, status_of, is_submit, is_discard, is_take, is_submitted_at, is_discarded_at, is_taken_at, producer_of, records}
use Rattle.rb_history.specs.History.Status.{Busy, Waiting}
use Rattle.rb_history.specs.Calls.{IsBusy}
use Rattle.rb_history.specs.RoomRule.{Setup}
use Rattle.rb_history.proofs.Laws.{KeptAs}
use Rattle.rb_history.proofs.Steps.{Named, named, shown-contains}
use Rattle.rb_history.proofs.TakenRecords.{NeverBoth, waiting-submitted}
use Rattle.rb_chapter_ring.specs.Snapshot.{snapshot_of}
use Rattle.rb_chapter_ring.specs.CountedFrom.{shows_waiting_at, status_from, is_submitted_from}
use Rattle.rb_chapter_ring.specs.ChapterRing.{IsGranted}
use Rattle.rb_chapter_ring.specs.ChapterCalls.{IsBusyFrom}
use Rattle.rb_chapter_ring.proofs.From.{GoesFrom, not-taken, submitted-none}
use Rattle.rb_chapter_ring.proofs.Same.{status-same}

settled-idle : (s d t : Bool) → status_by s d t ≡ Busy → (s || d) ≡ true → ⊥
settled-idle s true t e o = cc
settled-idle true false true e o = cc
settled-idle true false false e o = cc
settled-idle false false t e o = cc

taken-idle : (s d : Bool) → status_by s d true ≡ Waiting → ⊥
taken-idle s true e = cc
taken-idle true false e = cc
taken-idle false false e = cc

-- a waiting record was not taken
pub waiting-free : (h t : List Entry) (p : ℕ) → status_of (h ++ t) p ≡ Waiting → is_taken_at h p ≡ false
waiting-free h t p w = false_from_ne_true (is_taken_at h p) (λ is.
    let more : is_taken_at (h ++ t) p ≡ true = list_any-append (is_take p) h t ∙ or_left (is_taken_at h p) (is_taken_at t p) is in
    taken-idle (is_submitted_at (h ++ t) p) (is_discarded_at (h ++ t) p) (ap (status_by (is_submitted_at (h ++ t) p) (is_discarded_at (h ++ t) p)) (sym more) ∙ w))

module _ (r : Setup) (h : List Entry) (k : KeptAs r h) (never : NeverBoth h) (t : List Entry) (from : All (GoesFrom h (producer_of r.start h)) t) where
  granted-free : (w s n p : ℕ) → IsGranted (snapshot_of r h) t w s n p → is_taken_at h p ≡ false
  granted-free w s n p g = elim g [
    | inl shown ↦ (All-contains (Named h h) (records h) (record { pos = p; len = n; worker = w; serial = s; status = shown.0 }) (named h h) shown.1).taken_is
    | inr more ↦ not-taken r h k p (All-contains (GoesFrom h (producer_of r.start h)) t (Res w s n p) from more)
  ]

  pub granted-alike : (p : ℕ) → is_taken_at h p ≡ false → (w s n : ℕ) → IsGranted (snapshot_of r h) t w s n p ↔ Contains (h ++ t) (Res w s n p)
  granted-alike p free w s n = (to, back)
    where
      to : IsGranted (snapshot_of r h) t w s n p → Contains (h ++ t) (Res w s n p)
      to g = elim g [
        | inl shown ↦ Contains-append_left h t (Res w s n p) (All-contains (Named h h) (records h) (record { pos = p; len = n; worker = w; serial = s; status = shown.0 }) (named h h) shown.1).stands
        | inr more ↦ Contains-append_right h t (Res w s n p) more
      ]

      back : Contains (h ++ t) (Res w s n p) → IsGranted (snapshot_of r h) t w s n p
      back is = elim (Contains-append_cases h t (Res w s n p) is) [
        | inl old ↦ inl (status_by (is_submitted_at h p) (is_discarded_at h p) false, shown-contains h h w s n p free old)
        | inr new ↦ inr new
      ]

  busy-free : (p : ℕ) → status_of (h ++ t) p ≡ Busy → is_taken_at h p ≡ false
  busy-free p b = false_from_ne_true (is_taken_at h p) (λ is. settled-idle (is_submitted_at (h ++ t) p) (is_discarded_at (h ++ t) p) (is_taken_at (h ++ t) p) b (elim (or_cases (is_submitted_at h p) (is_discarded_at h p) (k.closed p is)) [
    | inl s ↦ or_left (is_submitted_at (h ++ t) p) (is_discarded_at (h ++ t) p) (list_any-append (is_submit p) h t ∙ or_left (is_submitted_at h p) (is_submitted_at t p) s)
    | inr d ↦ or_right (is_submitted_at (h ++ t) p) (is_discarded_at (h ++ t) p) (list_any-append (is_discard p) h t ∙ or_left (is_discarded_at h p) (is_discarded_at t p) d)
  ]))

  pub busy-alike : (p w s n : ℕ) → IsBusyFrom (snapshot_of r h) t p w s n ↔ IsBusy (h ++ t) p w s n
  busy-alike p w s n = (
    (λ b. let free = granted-free w s n p b.granted_is in record { granted_is = (granted-alike p free w s n).0 b.granted_is; busy = sym (status-same r h k never t p free) ∙ b.busy }),
    (λ b. let free = busy-free p b.busy in record { granted_is = (granted-alike p free w s n).1 b.granted_is; busy = status-same r h k never t p free ∙ b.busy }),
  )

  none-waits : (p : ℕ) → is_taken_at h p ≡ true → is_submitted_from (snapshot_of r h) t p ≡ false
  none-waits p is =
      or_from (list_any (shows_waiting_at p) (records h)) (is_submitted_at t p)
      (list_any_none (shows_waiting_at p) (records h) (All-weaker (Named h h) (λ s. shows_waiting_at p s ≡ false)
      (λ s n. and_left (s.pos == p) _ (ne_eqb s.pos p (λ e. true≢false (sym is ∙ ap (is_taken_at h) (sym e) ∙ n.taken_is)))) (records h) (named h h)))
      (submitted-none r h k t from p is)

  pub waiting-alike : (p : ℕ) → (status_from (snapshot_of r h) t p ≡ Waiting) ↔ (status_of (h ++ t) p ≡ Waiting)
  waiting-alike p = elim (cases_Bool (is_taken_at h p)) [
    | inl is ↦ (
      (λ w. absurd (true≢false (sym (waiting-submitted _ _ _ w).0 ∙ none-waits p is))),
      (λ w. absurd (true≢false (sym is ∙ waiting-free h t p w))),
    )
    | inr free ↦ ((λ w. sym (status-same r h k never t p free) ∙ w), (λ w. status-same r h k never t p free ∙ w))
  ]
