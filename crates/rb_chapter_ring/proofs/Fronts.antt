-- The record at the front is taken, with the bytes of its slot.
use Rattle.std.proofs.Common.{◌≡◌, ◌≢◌, ℕ, ◌%◌, ◌<◌, ◌≤◌, true, false, List, [], length, get_or, set, sym, ap, ◌∙◌, subst, arith, ◌+◌}
use Rattle.rb_history.specs.declared.entries.Entry.{Entry}
use Rattle.rb_history.specs.declared.entries.Entry.TheVariants.{Take}
use Rattle.rb_history.specs.declared.answers.Counts.{Counts}
use Rattle.rb_history.specs.declared.answers.Taken.TheVariants.{Event, Skipped, BusyFront, Empty}
use Rattle.rb_history.specs.declared.stored_records.RecordState.TheVariants.{Reserved, Submitted, Discarded as DiscardedState}
use Rattle.rb_history.specs.History.{Shown, Status}
use Rattle.rb_history.specs.History.Status.{Busy, Waiting, Discarded}
use Rattle.rb_history.specs.StoredRecords.{is_submitted_state, taken_of}
use Rattle.rb_chapter_ring.specs.Snapshot.{record_in}
use Rattle.rb_chapter_ring.specs.inner.SnapshotSteps.{events_by, skips_by}
use Rattle.rb_chapter_ring.specs.Chapters.{Chapter, closing_of}
use Rattle.rb_chapter_ring.specs.CountedFrom.{consumer_from}
use Rattle.rb_chapter_ring.specs.ChapterRoom.{HasSettledFront, with_entry}
use Rattle.rb_chapter_ring.specs.inner.Ordinals.{KeepsNumbers, KeepsOrdinals, taken_before}
use Rattle.rb_chapter_ring.proofs.Numbers.{ordinals-take}
use Rattle.rb_chapter_ring.specs.inner.RingBody.{state_with, stored_of, ring_of, IsRingOf}
use Rattle.rb_chapter_ring.proofs.CountSteps.{counting_take}
use Rattle.rb_chapter_ring.proofs.Slotted.{many-now, front, behind, split-now, take-stored, empty-stored}
use Rattle.rb_chapter_ring.proofs.TakesOne.{TakesAs, takes-none, takes-busy, takes-it, take-keeps, take-closing}

module _ (earlier : List Entry) (c : Chapter) (sheets : List (List ℕ)) (counts : Counts) (g : IsRingOf earlier c (stored_of c sheets) counts) where
  -- the chapter with the take appended
  abbrev pub took : Chapter
  took = with_entry c (Take (consumer_from c.opening c.entries))

  abbrev bytes : List ℕ
  bytes = get_or sheets (taken_before (closing_of c) % length sheets) []

  pub none-front : length (closing_of c).records ≡ 0 → TakesAs (ring_of c (stored_of c sheets)) (ring_of c (stored_of c sheets)) Empty
  none-front none = takes-none earlier c (stored_of c sheets) counts g (omega (arith, none, many-now earlier c sheets counts g))

  module _ (some : 0 < length (closing_of c).records) where
    abbrev x : Shown
    x = record_in (closing_of c) 0

    pub busy-front : x.status ≡ Busy → TakesAs (ring_of c (stored_of c sheets)) (ring_of c (stored_of c sheets)) BusyFront
    busy-front b =
        let t = front earlier c sheets counts g some in
        takes-busy earlier c (stored_of c sheets) counts g t (omega (arith, some, many-now earlier c sheets counts g))
        (sym (ap (λ ss. get_or ss 0 t) (split-now earlier c sheets counts g some))) (ap (λ st. state_with st bytes) b)

    -- ---- it waits

    module _ (waits : x.status ≡ Waiting) where
      pub waiting-settled : HasSettledFront c
      waiting-settled = (some, λ b. apart (sym waits ∙ b))
        where
          apart : ◌≡◌ {A = Status} Waiting Busy → ⊥
          apart e = cc

      waiting-state : (front earlier c sheets counts g some).state ≡ Submitted bytes
      waiting-state = ap (λ st. state_with st bytes) waits

      waiting-free : (front earlier c sheets counts g some).state ≢ Reserved
      waiting-free e = apart (sym waiting-state ∙ e)
        where
          apart : Submitted bytes ≡ Reserved → ⊥
          apart e = cc

      pub waiting-numbers : KeepsNumbers c took
      waiting-numbers = subst (KeepsOrdinals (closing_of c)) (take-closing earlier c (stored_of c sheets) counts g (front earlier c sheets counts g some) (behind earlier c sheets counts g some) (split-now earlier c sheets counts g some) waiting-free) (ordinals-take (closing_of c) some (ap (λ st. events_by st + skips_by st) waits))

      module _ (k : ℕ) (left : List ℕ) (slot : k ≡ taken_before (closing_of c) % length sheets) (few : length (stored_of c sheets) ≤ length sheets) where
        stored : behind earlier c sheets counts g some ≡ stored_of took (set sheets k left)
        stored = empty-stored earlier c sheets counts g some waiting-free k left slot few

        pub waiting-keeps : IsRingOf earlier took (stored_of took (set sheets k left)) (counting_take true counts)
        waiting-keeps =
            let kept = take-keeps earlier c (stored_of c sheets) counts g (front earlier c sheets counts g some) (behind earlier c sheets counts g some) (split-now earlier c sheets counts g some) waiting-free in
            subst (λ ss. IsRingOf earlier took ss (counting_take true counts)) stored
            (subst (λ a. IsRingOf earlier took (behind earlier c sheets counts g some) (counting_take (is_submitted_state a) counts)) waiting-state kept)

        pub waiting-takes : TakesAs (ring_of c (stored_of c sheets)) (ring_of took (stored_of took (set sheets k left))) (Event x.pos x.worker x.serial (get_or sheets k []))
        waiting-takes =
            let t = front earlier c sheets counts g some in
            let done = takes-it earlier c (stored_of c sheets) counts g t (behind earlier c sheets counts g some) (split-now earlier c sheets counts g some) waiting-free in
            subst (λ j. TakesAs (ring_of c (stored_of c sheets)) (ring_of took (stored_of took (set sheets k left))) (Event x.pos x.worker x.serial (get_or sheets j []))) (sym slot)
            (subst (λ ss. TakesAs (ring_of c (stored_of c sheets)) (ring_of took ss) (Event x.pos x.worker x.serial bytes)) stored
            (subst (λ a. TakesAs (ring_of c (stored_of c sheets)) (ring_of took (behind earlier c sheets counts g some)) (taken_of t a)) waiting-state done))

    -- ---- it was discarded

    module _ (given : x.status ≡ Discarded) where
      pub discarded-settled : HasSettledFront c
      discarded-settled = (some, λ b. apart (sym given ∙ b))
        where
          apart : ◌≡◌ {A = Status} Discarded Busy → ⊥
          apart e = cc

      discarded-state : (front earlier c sheets counts g some).state ≡ DiscardedState
      discarded-state = ap (λ st. state_with st bytes) given

      discarded-free : (front earlier c sheets counts g some).state ≢ Reserved
      discarded-free e = apart (sym discarded-state ∙ e)
        where
          apart : DiscardedState ≡ Reserved → ⊥
          apart e = cc

      stored-left : behind earlier c sheets counts g some ≡ stored_of took sheets
      stored-left = take-stored earlier c sheets counts g some discarded-free

      pub discarded-numbers : KeepsNumbers c took
      discarded-numbers = subst (KeepsOrdinals (closing_of c)) (take-closing earlier c (stored_of c sheets) counts g (front earlier c sheets counts g some) (behind earlier c sheets counts g some) (split-now earlier c sheets counts g some) discarded-free) (ordinals-take (closing_of c) some (ap (λ st. events_by st + skips_by st) given))

      pub discarded-keeps : IsRingOf earlier took (stored_of took sheets) (counting_take false counts)
      discarded-keeps =
          let kept = take-keeps earlier c (stored_of c sheets) counts g (front earlier c sheets counts g some) (behind earlier c sheets counts g some) (split-now earlier c sheets counts g some) discarded-free in
          subst (λ ss. IsRingOf earlier took ss (counting_take false counts)) stored-left
          (subst (λ a. IsRingOf earlier took (behind earlier c sheets counts g some) (counting_take (is_submitted_state a) counts)) discarded-state kept)

      pub discarded-takes : TakesAs (ring_of c (stored_of c sheets)) (ring_of took (stored_of took sheets)) (Skipped x.pos x.len)
      discarded-takes =
          let t = front earlier c sheets counts g some in
          let done = takes-it earlier c (stored_of c sheets) counts g t (behind earlier c sheets counts g some) (split-now earlier c sheets counts g some) discarded-free in
          subst (λ ss. TakesAs (ring_of c (stored_of c sheets)) (ring_of took ss) (Skipped x.pos x.len)) stored-left
          (subst (λ a. TakesAs (ring_of c (stored_of c sheets)) (ring_of took (behind earlier c sheets counts g some)) (taken_of t a)) discarded-state done)
