-- What a call preserves of the ordinals of a ring's records.
use Rattle.std.proofs.Common.{◌≡◌, ℕ, zero, suc, ◌+◌, ◌<◌, List, [], ◌∷◌, ◌++◌, drop, length, length-append, length-set, get_or, set, refl, sym, ap, ◌∙◌, inl, inr, arith}
use Rattle.std.proofs.lemmas.Bool.{cases_lt}
use Rattle.std.proofs.lemmas.List.{get_or_append_left, get_or_push}
use Rattle.rb_history.specs.History.{Shown, Status}
use Rattle.rb_chapter_ring.specs.Snapshot.{Snapshot, no_record, record_in}
use Rattle.rb_chapter_ring.specs.inner.SnapshotSteps.{with_refusal, next_record, with_grant, with_end, with_take, events_by, skips_by}
use Rattle.rb_chapter_ring.specs.inner.Ordinals.{HasOrdinal, KeepsOrdinals, taken_before}
use Rattle.rb_chapter_ring.specs.declared.record_end.RecordEnd.{RecordEnd}
use Rattle.rb_chapter_ring.specs.RecordEnds.{status_of_end}

-- one call after another
pub ordinals-on : (old mid new : Snapshot) → KeepsOrdinals old mid → KeepsOrdinals mid new → KeepsOrdinals old new
ordinals-on old mid new a b = record {
  grown = omega (arith, a.grown, b.grown);
  numbers = λ p n num low. a.numbers p n (b.numbers p n num (omega (arith, low, a.grown))) low;
}

pub ordinals-same : (o : Snapshot) → KeepsOrdinals o o
ordinals-same o = record { grown = omega arith; numbers = λ p n num low. num }

pub ordinals-refusal : (w : ℕ) (o : Snapshot) → KeepsOrdinals o (with_refusal w o)
ordinals-refusal w o = record { grown = omega arith; numbers = λ p n num low. record { index = num.index; within = num.within; here = num.here; ordinal = num.ordinal } }

-- ---- one more record

module _ (w n : ℕ) (o : Snapshot) where
  abbrev x : Shown
  x = next_record w n o

  long : length (o.records ++ x ∷ []) ≡ length o.records + 1
  long = length-append o.records (x ∷ [])

  pub ordinals-grant : KeepsOrdinals o (with_grant w n o)
  ordinals-grant = record {
    grown = omega arith;
    numbers = λ p m num low. elim (cases_lt num.index (length o.records)) [
      | inl before ↦
          let same : record_in (with_grant w n o) num.index ≡ record_in o num.index = get_or_append_left o.records (x ∷ []) no_record num.index before in
          record { index = num.index; within = before; here = sym (ap (λ (s : Shown). s.pos) same) ∙ num.here; ordinal = num.ordinal }
      | inr past ↦
          let last : num.index ≡ length o.records = omega (arith, past, num.within, long) in
          let same : record_in (with_grant w n o) num.index ≡ x = get_or_push o.records x no_record num.index (sym last) in
          let there : p ≡ o.producer = sym num.here ∙ ap (λ (s : Shown). s.pos) same in
          absurd (omega (arith, low, there))
    ];
  }

  pub ordinal-of-grant : HasOrdinal (with_grant w n o) o.producer (taken_before o + length o.records)
  ordinal-of-grant = record {
    index = length o.records;
    within = omega (arith, long);
    here = ap (λ (s : Shown). s.pos) (get_or_push o.records x no_record (length o.records) refl);
    ordinal = refl;
  }

-- ---- a record with another status

place-stays : (ss : List Shown) (i j : ℕ) (st : Status) → j < length ss → (get_or (set ss i (record (get_or ss i no_record) { status = st })) j no_record).pos ≡ (get_or ss j no_record).pos
place-stays [] i j st low = absurd (omega (arith, low))
place-stays (s ∷ ss) zero zero st low = refl
place-stays (s ∷ ss) zero (suc j) st low = refl
place-stays (s ∷ ss) (suc i) zero st low = refl
place-stays (s ∷ ss) (suc i) (suc j) st low = place-stays ss i j st (omega (arith, low))

settled : (o now : Snapshot) (i : ℕ) (st : Status) → now.records ≡ set o.records i (record (record_in o i) { status = st }) → taken_before now ≡ taken_before o → now.producer ≡ o.producer → KeepsOrdinals o now
settled o now i st records taken producer = record {
  grown = omega (arith, producer);
  numbers = λ p n num low.
      let within : num.index < length o.records = omega (arith, num.within, ap length records, length-set o.records i (record (record_in o i) { status = st })) in
      let same : (record_in now num.index).pos ≡ (record_in o num.index).pos = ap (λ ss. (get_or ss num.index no_record).pos) records ∙ place-stays o.records i num.index st within in
      record { index = num.index; within = within; here = sym same ∙ num.here; ordinal = num.ordinal ∙ ap (λ t. t + num.index) taken };
}

pub ordinals-end : (end : RecordEnd) (i : ℕ) (o : Snapshot) → KeepsOrdinals o (with_end end i o)
ordinals-end end i o = settled o (with_end end i o) i (status_of_end end) refl refl refl

-- ---- the record at the front was taken

behind : (ss : List Shown) (i : ℕ) → 0 < length ss → i < length (drop 1 ss) → (suc i < length ss) × (get_or (drop 1 ss) i no_record ≡ get_or ss (suc i) no_record)
behind [] i some low = absurd (omega (arith, some))
behind (s ∷ ss) i some low = (omega (arith, low), refl)

pub ordinals-take : (o : Snapshot) → 0 < length o.records → events_by (record_in o 0).status + skips_by (record_in o 0).status ≡ 1 → KeepsOrdinals o (with_take o)
ordinals-take o some one = record {
  grown = omega arith;
  numbers = λ p n num low.
      let there = behind o.records num.index some num.within in
      record { index = suc num.index; within = there.0; here = sym (ap (λ (s : Shown). s.pos) there.1) ∙ num.here; ordinal = omega (arith, num.ordinal, one) };
}
