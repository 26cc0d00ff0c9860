-- The records of a ring with their bytes, after each of its steps.
use Rattle.std.proofs.Common.{◌≡◌, ◌≢◌, ℕ, ◌+◌, ◌/◌, ◌%◌, ◌<◌, ◌≤◌, List, [], ◌∷◌, ◌++◌, length, length-set, drop, get_or, set, refl, sym, ap, ◌∙◌, arith}
use Rattle.rb_history.specs.declared.entries.Entry.{Entry}
use Rattle.rb_history.specs.declared.entries.Entry.TheVariants.{Full}
use Rattle.rb_history.specs.declared.answers.Counts.{Counts}
use Rattle.rb_history.specs.declared.stored_records.StoredRecord.{StoredRecord}
use Rattle.rb_history.specs.declared.stored_records.RecordState.TheVariants.{Reserved}
use Rattle.rb_history.specs.History.{Shown}
use Rattle.rb_history.specs.StoredRecords.{shown_record}
use Rattle.rb_history.specs.inner.RecordRows.{IsBusyAt}
use Rattle.rb_history.proofs.Contents.{length-map}
use Rattle.rb_chapter_ring.specs.Snapshot.{no_record, record_in}
use Rattle.rb_chapter_ring.specs.Chapters.{Chapter, closing_of}
use Rattle.rb_chapter_ring.specs.CountedFrom.{HasRoomFrom}
use Rattle.rb_chapter_ring.specs.ChapterRoom.{MayGrant, MayRefuse, record_now, with_entry}
use Rattle.rb_chapter_ring.specs.inner.SnapshotSteps.{next_record, with_end}
use Rattle.rb_chapter_ring.specs.declared.record_end.RecordEnd.{RecordEnd}
use Rattle.rb_chapter_ring.specs.declared.record_end.RecordEnd.TheVariants.{Submit, Discard}
use Rattle.rb_chapter_ring.specs.RecordEnds.{entry_of_end}
use Rattle.rb_chapter_ring.specs.inner.EndSteps.{slots_with_end}
use Rattle.rb_chapter_ring.proofs.Running.{closing-fits}
use Rattle.rb_chapter_ring.specs.inner.Ordinals.{taken_before}
use Rattle.rb_chapter_ring.specs.inner.RingBody.{stored_at, stored_from, stored_in, stored_of, ring_of, IsRingOf}
use Rattle.rb_chapter_ring.proofs.Slots.{stored-here, stored-push, stored-behind, stored-submit, stored-discard}
use Rattle.rb_chapter_ring.proofs.Grants.{newest, grant, few, refusal-closing, grant-closing}
use Rattle.rb_chapter_ring.proofs.Settles.{state_of_end, within-now, end-closing}
use Rattle.rb_chapter_ring.proofs.TakesOne.{next, take-closing, one-more}

-- the number of slots does not change
pub slots-long : (end : RecordEnd) (k : ℕ) (bytes : List ℕ) (sheets : List (List ℕ)) → length (slots_with_end end k bytes sheets) ≡ length sheets
slots-long Submit k bytes sheets = length-set sheets k bytes
slots-long Discard k bytes sheets = refl

-- a record before the others
pub in-front : (ss : List Shown) → 0 < length ss → ss ≡ get_or ss 0 no_record ∷ drop 1 ss
in-front [] l = absurd (omega arith)
in-front (s ∷ ss) l = refl

module _ (earlier : List Entry) (c : Chapter) (sheets : List (List ℕ)) (counts : Counts) (g : IsRingOf earlier c (stored_of c sheets) counts) where
  pub many-now : length (closing_of c).records ≡ length (stored_of c sheets)
  many-now = sym (ap length g.stands.shown) ∙ length-map shown_record (stored_of c sheets)

  pub refusal-stored : (w n : ℕ) → w < c.opening.setup.workers → ¬ HasRoomFrom c.opening c.entries n → MayRefuse c w → stored_of c sheets ≡ stored_of (with_entry c (Full w n)) sheets
  refusal-stored w n low none room = ap (λ o. stored_in o sheets) (refusal-closing earlier c (stored_of c sheets) counts g w n low none room)

  pub grant-stored : (w n : ℕ) → w < c.opening.setup.workers → HasRoomFrom c.opening c.entries n → MayGrant c → stored_of c sheets ++ newest earlier c (stored_of c sheets) counts g w n ∷ [] ≡ stored_of (with_entry c (grant earlier c (stored_of c sheets) counts g w n)) sheets
  grant-stored w n low fits room =
      let o = closing_of c in
      sym (stored-push (length sheets) sheets (taken_before o) o.records (next_record w n o)) ∙ ap (λ o. stored_in o sheets) (grant-closing earlier c (stored_of c sheets) counts g w n low fits room)

  module _ (i pos n : ℕ) (at : IsBusyAt (ring_of c (stored_of c sheets)).shown i pos n) where
    -- the record at the index, with the bytes of its slot
    abbrev pub busy_now : StoredRecord
    busy_now = stored_at (get_or (closing_of c).records i no_record) (get_or sheets ((taken_before (closing_of c) + i) % length sheets) [])

    index-low : i < length (closing_of c).records
    index-low = omega (arith, within-now earlier c (stored_of c sheets) counts g i pos n at, many-now)

    pub busy-there : busy_now ≡ get_or (stored_of c sheets) i busy_now
    busy-there = sym (stored-here (length sheets) sheets (taken_before (closing_of c)) (closing_of c).records i busy_now index-low)

    pub end-stored : (end : RecordEnd) (bytes : List ℕ) (k : ℕ) → k ≡ (taken_before (closing_of c) + i) % length sheets → k < length sheets → length (stored_of c sheets) ≤ length sheets
        → set (stored_of c sheets) i (record busy_now { state = state_of_end end bytes }) ≡ stored_of (with_entry c (entry_of_end end (record_now c i).pos)) (slots_with_end end k bytes sheets)
    end-stored Submit bytes k slot low few =
        let o = closing_of c in
        let here = stored-submit (length sheets) sheets bytes (taken_before o) o.records i k slot low index-low (omega (arith, few, many-now)) in
        let long : length sheets ≡ length (set sheets k bytes) = sym (length-set sheets k bytes) in
        sym here ∙ ap (λ m. stored_from m (set sheets k bytes) (taken_before o) (with_end Submit i o).records) long ∙ ap (λ o. stored_in o (set sheets k bytes)) (end-closing earlier c (stored_of c sheets) counts g i pos n at busy_now busy-there Submit)
    end-stored Discard bytes k slot low few =
        let o = closing_of c in
        sym (stored-discard (length sheets) sheets (get_or sheets ((taken_before o + i) % length sheets) []) (taken_before o) o.records i index-low)
        ∙ ap (λ o. stored_in o sheets) (end-closing earlier c (stored_of c sheets) counts g i pos n at busy_now busy-there Discard)

  module _ (some : 0 < length (closing_of c).records) where
    -- the record at the front, and those after it
    abbrev pub front : StoredRecord
    front = stored_at (record_in (closing_of c) 0) (get_or sheets (taken_before (closing_of c) % length sheets) [])

    abbrev pub behind : List StoredRecord
    behind = stored_from (length sheets) sheets (taken_before (closing_of c) + 1) (drop 1 (closing_of c).records)

    pub split-now : stored_of c sheets ≡ front ∷ behind
    split-now = ap (stored_from (length sheets) sheets (taken_before (closing_of c))) (in-front (closing_of c).records some)

    module _ (free : front.state ≢ Reserved) where
      pub take-stored : behind ≡ stored_of (next earlier c (stored_of c sheets) counts g front behind split-now free) sheets
      take-stored =
          let o = closing_of c in
          ap (λ n. stored_from (length sheets) sheets n (drop 1 o.records)) (sym (one-more earlier c (stored_of c sheets) counts g front behind split-now free))
          ∙ ap (λ o. stored_in o sheets) (take-closing earlier c (stored_of c sheets) counts g front behind split-now free)

      pub empty-stored : (k : ℕ) (bytes : List ℕ) → k ≡ taken_before (closing_of c) % length sheets → length (stored_of c sheets) ≤ length sheets
          → behind ≡ stored_of (next earlier c (stored_of c sheets) counts g front behind split-now free) (set sheets k bytes)
      empty-stored k bytes slot few =
          let o = closing_of c in
          let n = taken_before o in
          let fewer : length (drop 1 o.records) < length sheets = omega (arith, ap length (in-front o.records some), few, many-now) in
          let long : length sheets ≡ length (set sheets k bytes) = sym (length-set sheets k bytes) in
          sym (stored-behind (length sheets) sheets bytes n (drop 1 o.records) fewer)
          ∙ ap (λ j. stored_from (length sheets) (set sheets j bytes) (n + 1) (drop 1 o.records)) (sym slot)
          ∙ ap (λ m. stored_from m (set sheets k bytes) (n + 1) (drop 1 o.records)) long
          ∙ ap (λ n. stored_from (length (set sheets k bytes)) (set sheets k bytes) n (drop 1 o.records)) (sym (one-more earlier c (stored_of c sheets) counts g front behind split-now free))
          ∙ ap (λ o. stored_in o (set sheets k bytes)) (take-closing earlier c (stored_of c sheets) counts g front behind split-now free)

  -- there is a slot for each record
  pub slots-enough : ((n : ℕ) → n ≤ c.opening.setup.size / 8 → n ≤ c.room → n ≤ length sheets) → length (stored_of c sheets) ≤ length sheets
  slots-enough slots = slots (length (stored_of c sheets)) (omega (arith, (few earlier c (stored_of c sheets) counts g).0)) (omega (arith, many-now, closing-fits earlier c (closing_of c) g.kept refl))
