-- What is counted from an opening agrees with the whole history.
use Rattle.std.proofs.Common.{◌≡◌, ℕ, ◌+◌, Bool, true, false, cond, ◌||◌, List, ◌++◌, Some, None, refl, sym, ap, ◌∙◌, arith}
use Rattle.std.specs.List.{sum_by, count_by, All}
use Rattle.std.proofs.lemmas.Bool.{or_left, or_right}
use Rattle.std.proofs.lemmas.List.Folds.{list_any-append}
use Rattle.std.proofs.lemmas.List.Sums.{sum_by-append}
use Rattle.std.proofs.lemmas.List.Elements.{filter_map-append}
use Rattle.rb_history.specs.declared.entries.Entry.{Entry}
use Rattle.rb_history.specs.declared.entries.Entry.TheVariants.{Res, Full, Sub, Dis, Take}
use Rattle.rb_history.specs.History.{status_by, status_of, is_submit, is_discard, is_take, is_grant_at, is_granted_at, is_submitted_at, is_discarded_at, is_taken_at, granted_span, granted_span_at, span_of_record, taken_span, producer_of, consumer_of, untaken, records}
use Rattle.rb_history.specs.RoomRule.{Setup}
use Rattle.rb_history.specs.inner.RecordRows.{NamesBelow}
use Rattle.rb_history.proofs.Laws.{KeptAs}
use Rattle.rb_history.proofs.Lists.{or-false}
use Rattle.rb_history.specs.WorkerCounts.{is_record_of, is_grant_to}
use Rattle.rb_history.specs.WorkerCounts.{is_submit_of, is_discard_of, is_take_where, events_of, skips_of}
use Rattle.rb_history.proofs.TakenRecords.{NeverBoth}
use Rattle.rb_chapter_ring.specs.Snapshot.{snapshot_of, Snapshot}
use Rattle.rb_chapter_ring.specs.CountedFrom.{is_granted_from, is_submitted_from, is_discarded_from, status_from, is_record_from, span_from, producer_from, taken_span_from, consumer_from, still_untaken, records_from, is_own_submit_from, is_own_discard_from, events_from, skips_from}
use Rattle.rb_chapter_ring.proofs.ChapterPieces.{sum_by-where, filter_map-where, filter_map-twice, then_option}
use Rattle.rb_chapter_ring.proofs.Shown.{at-granted, waiting-submitted, discarded-shown, worker-shown, span-shown}
use Rattle.rb_chapter_ring.proofs.From.{GoesFrom, TakesIn, all-takes, taken-low, submitted-none, discarded-none, worker-none, span-none, not-submitted, not-discarded, not-taken}

abbrev bit : Bool → ℕ
bit b = cond b 1 0

-- ---- h is legal, and the entries b name nothing that h took

module _ (r : Setup) (h : List Entry) (k : KeptAs r h) (never : NeverBoth h) (b : List Entry) where
  o : Snapshot
  o = snapshot_of r h

  -- ---- the record at a position that h did not take

  module _ (p : ℕ) (free : is_taken_at h p ≡ false) where
    pub granted-same : is_granted_from (snapshot_of r h) b p ≡ is_granted_at (h ++ b) p
    granted-same = ap (λ x. x || is_granted_at b p) (at-granted h p free) ∙ sym (list_any-append (is_grant_at p) h b)

    pub submitted-same : is_submitted_from (snapshot_of r h) b p ≡ is_submitted_at (h ++ b) p
    submitted-same = ap (λ x. x || is_submitted_at b p) (waiting-submitted h p free never (λ s. k.named p (or_left (is_submitted_at h p) (is_discarded_at h p) s))) ∙ sym (list_any-append (is_submit p) h b)

    pub discarded-same : is_discarded_from (snapshot_of r h) b p ≡ is_discarded_at (h ++ b) p
    discarded-same = ap (λ x. x || is_discarded_at b p) (discarded-shown h p free (λ d. k.named p (or_right (is_submitted_at h p) (is_discarded_at h p) d))) ∙ sym (list_any-append (is_discard p) h b)

    pub taken-same : is_taken_at b p ≡ is_taken_at (h ++ b) p
    taken-same = sym (list_any-append (is_take p) h b ∙ ap (λ x. x || is_taken_at b p) free)

    pub status-same : status_from (snapshot_of r h) b p ≡ status_of (h ++ b) p
    status-same = rw (submitted-same, discarded-same, taken-same) refl

    pub worker-same : (w : ℕ) → is_record_from (snapshot_of r h) w b p ≡ is_record_of w (h ++ b) p
    worker-same w = ap (λ x. x || is_record_of w b p) (worker-shown h p free w) ∙ sym (list_any-append (is_grant_to w p) h b)

    pub span-same : span_from (snapshot_of r h) b p ≡ span_of_record (h ++ b) p
    span-same = ap (λ x. x + span_of_record b p) (sym (span-shown h p free)) ∙ sym (sum_by-append (granted_span_at p) h b)

  pub producer-same : producer_from (snapshot_of r h) b ≡ producer_of r.start (h ++ b)
  producer-same = omega (arith, sum_by-append granted_span h b)

  -- ---- the consumer position

  module _ (from : All (GoesFrom h (producer_of r.start h)) b) where
    old-take : (e : Entry) → TakesIn h e → taken_span (h ++ b) e ≡ taken_span h e
    old-take (Res w s n q) t = refl
    old-take (Full w n) t = refl
    old-take (Sub q) t = refl
    old-take (Dis q) t = refl
    old-take (Take q) t = omega (arith, sum_by-append (granted_span_at q) h b, span-none r h k b from q (taken-low r h k q t))

    new-take : (e : Entry) → GoesFrom h (producer_of r.start h) e → taken_span_from (snapshot_of r h) b e ≡ taken_span (h ++ b) e
    new-take (Res w s n q) g = refl
    new-take (Full w n) g = refl
    new-take (Sub q) g = refl
    new-take (Dis q) g = refl
    new-take (Take q) g = span-same q g

    pub consumer-same : consumer_from (snapshot_of r h) b ≡ consumer_of r.start (h ++ b)
    consumer-same =
        omega (
          arith,
          sum_by-append (taken_span (h ++ b)) h b,
          sum_by-where (TakesIn h) (taken_span h) (taken_span (h ++ b)) old-take h (all-takes h),
          sum_by-where (GoesFrom h (producer_of r.start h)) (taken_span (h ++ b)) (taken_span_from (snapshot_of r h) b) new-take b from,
        )

    -- ---- the records

    old-record : (w s n q : ℕ) (t : Bool) → is_taken_at h q ≡ t →
        untaken (h ++ b) (Res w s n q) ≡ then_option (still_untaken (snapshot_of r h) b) (cond t None (Some (record { pos = q; len = n; worker = w; serial = s; status = status_by (is_submitted_at h q) (is_discarded_at h q) t })))
    old-record w s n q true t = rw (list_any-append (is_take q) h b, t) refl
    old-record w s n q false t = rw (status-same q t, sym (taken-same q t)) refl

    old-entry : (e : Entry) → untaken (h ++ b) e ≡ then_option (still_untaken (snapshot_of r h) b) (untaken h e)
    old-entry (Res w s n q) = old-record w s n q (is_taken_at h q) refl
    old-entry (Full w n) = refl
    old-entry (Sub q) = refl
    old-entry (Dis q) = refl
    old-entry (Take q) = refl

    new-entry : (e : Entry) → GoesFrom h (producer_of r.start h) e → untaken (h ++ b) e ≡ untaken b e
    new-entry (Res w s n q) g = rw (
      list_any-append (is_take q) h b,
      list_any-append (is_submit q) h b,
      list_any-append (is_discard q) h b,
      not-taken r h k q g,
      not-submitted r h k q g,
      not-discarded r h k q g,
    ) refl
    new-entry (Full w n) g = refl
    new-entry (Sub q) g = refl
    new-entry (Dis q) g = refl
    new-entry (Take q) g = refl

    pub records-same : records_from (snapshot_of r h) b ≡ records (h ++ b)
    records-same =
        let old = filter_map-twice (untaken h) (still_untaken (snapshot_of r h) b) (untaken (h ++ b)) old-entry h in
        let new = filter_map-where (GoesFrom h (producer_of r.start h)) (untaken b) (untaken (h ++ b)) new-entry b from in
        sym (filter_map-append (untaken (h ++ b)) h b ∙ (λ i. old i ++ new i))

    -- ---- totals

    -- a committed record of h is granted there
    old-submit : (w : ℕ) (e : Entry) → NamesBelow (producer_of r.start h) e → bit (is_submit_of w (h ++ b) e) ≡ bit (is_submit_of w h e)
    old-submit w (Sub q) lt = ap bit (list_any-append (is_grant_to w q) h b ∙ ap (λ x. is_record_of w h q || x) (worker-none r h k b from q lt w) ∙ or-false _)
    old-submit w (Res v s n q) lt = refl
    old-submit w (Full v n) lt = refl
    old-submit w (Dis q) lt = refl
    old-submit w (Take q) lt = refl

    new-submit : (w : ℕ) (e : Entry) → GoesFrom h (producer_of r.start h) e → bit (is_own_submit_from (snapshot_of r h) w b e) ≡ bit (is_submit_of w (h ++ b) e)
    new-submit w (Sub q) g = ap bit (worker-same q g w)
    new-submit w (Res v s n q) g = refl
    new-submit w (Full v n) g = refl
    new-submit w (Dis q) g = refl
    new-submit w (Take q) g = refl

    old-discard : (w : ℕ) (e : Entry) → NamesBelow (producer_of r.start h) e → bit (is_discard_of w (h ++ b) e) ≡ bit (is_discard_of w h e)
    old-discard w (Dis q) lt = ap bit (list_any-append (is_grant_to w q) h b ∙ ap (λ x. is_record_of w h q || x) (worker-none r h k b from q lt w) ∙ or-false _)
    old-discard w (Res v s n q) lt = refl
    old-discard w (Full v n) lt = refl
    old-discard w (Sub q) lt = refl
    old-discard w (Take q) lt = refl

    new-discard : (w : ℕ) (e : Entry) → GoesFrom h (producer_of r.start h) e → bit (is_own_discard_from (snapshot_of r h) w b e) ≡ bit (is_discard_of w (h ++ b) e)
    new-discard w (Dis q) g = ap bit (worker-same q g w)
    new-discard w (Res v s n q) g = refl
    new-discard w (Full v n) g = refl
    new-discard w (Sub q) g = refl
    new-discard w (Take q) g = refl

    old-event : (e : Entry) → TakesIn h e → bit (is_take_where (is_submitted_at (h ++ b)) e) ≡ bit (is_take_where (is_submitted_at h) e)
    old-event (Take q) t = ap bit (list_any-append (is_submit q) h b ∙ ap (λ x. is_submitted_at h q || x) (submitted-none r h k b from q t) ∙ or-false _)
    old-event (Res v s n q) t = refl
    old-event (Full v n) t = refl
    old-event (Sub q) t = refl
    old-event (Dis q) t = refl

    new-event : (e : Entry) → GoesFrom h (producer_of r.start h) e → bit (is_take_where (is_submitted_from (snapshot_of r h) b) e) ≡ bit (is_take_where (is_submitted_at (h ++ b)) e)
    new-event (Take q) g = ap bit (submitted-same q g)
    new-event (Res v s n q) g = refl
    new-event (Full v n) g = refl
    new-event (Sub q) g = refl
    new-event (Dis q) g = refl

    old-skip : (e : Entry) → TakesIn h e → bit (is_take_where (is_discarded_at (h ++ b)) e) ≡ bit (is_take_where (is_discarded_at h) e)
    old-skip (Take q) t = ap bit (list_any-append (is_discard q) h b ∙ ap (λ x. is_discarded_at h q || x) (discarded-none r h k b from q t) ∙ or-false _)
    old-skip (Res v s n q) t = refl
    old-skip (Full v n) t = refl
    old-skip (Sub q) t = refl
    old-skip (Dis q) t = refl

    new-skip : (e : Entry) → GoesFrom h (producer_of r.start h) e → bit (is_take_where (is_discarded_from (snapshot_of r h) b) e) ≡ bit (is_take_where (is_discarded_at (h ++ b)) e)
    new-skip (Take q) g = ap bit (discarded-same q g)
    new-skip (Res v s n q) g = refl
    new-skip (Full v n) g = refl
    new-skip (Sub q) g = refl
    new-skip (Dis q) g = refl

    -- a count over both parts
    parts : (P : Entry → Type 0) (f g t : Entry → ℕ) → All P h → ((e : Entry) → P e → g e ≡ f e) → ((e : Entry) → GoesFrom h (producer_of r.start h) e → t e ≡ g e) →
        sum_by f h + sum_by t b ≡ sum_by g (h ++ b)
    parts P f g t all old new = omega (arith, sum_by-append g h b, sum_by-where P f g old h all, sum_by-where (GoesFrom h (producer_of r.start h)) g t new b from)

    pub submits-same : (w : ℕ) → count_by (is_submit_of w h) h + count_by (is_own_submit_from (snapshot_of r h) w b) b ≡ count_by (is_submit_of w (h ++ b)) (h ++ b)
    submits-same w = parts (NamesBelow (producer_of r.start h)) (λ e. bit (is_submit_of w h e)) (λ e. bit (is_submit_of w (h ++ b) e)) (λ e. bit (is_own_submit_from (snapshot_of r h) w b e)) k.below (old-submit w) (new-submit w)

    pub discards-same : (w : ℕ) → count_by (is_discard_of w h) h + count_by (is_own_discard_from (snapshot_of r h) w b) b ≡ count_by (is_discard_of w (h ++ b)) (h ++ b)
    discards-same w = parts (NamesBelow (producer_of r.start h)) (λ e. bit (is_discard_of w h e)) (λ e. bit (is_discard_of w (h ++ b) e)) (λ e. bit (is_own_discard_from (snapshot_of r h) w b e)) k.below (old-discard w) (new-discard w)

    pub events-same : events_from (snapshot_of r h) b ≡ events_of (h ++ b)
    events-same = parts (TakesIn h) (λ e. bit (is_take_where (is_submitted_at h) e)) (λ e. bit (is_take_where (is_submitted_at (h ++ b)) e)) (λ e. bit (is_take_where (is_submitted_from (snapshot_of r h) b) e)) (all-takes h) old-event new-event

    pub skips-same : skips_from (snapshot_of r h) b ≡ skips_of (h ++ b)
    skips-same = parts (TakesIn h) (λ e. bit (is_take_where (is_discarded_at h) e)) (λ e. bit (is_take_where (is_discarded_at (h ++ b)) e)) (λ e. bit (is_take_where (is_discarded_from (snapshot_of r h) b) e)) (all-takes h) old-skip new-skip
