-- A busy record is committed.
use Rattle.std.proofs.Common.{◌≡◌, ℕ, zero, suc, ◌-◌, ◌%◌, ◌<◌, List, [], ◌∷◌, ◌++◌, length, map, get_or, set, length-set, refl, sym, ap, ◌∙◌, subst, arith}
use Rattle.std.specs.FinMap.{insert}
use Rattle.std.proofs.lemmas.List.Elements.{All-set}
use Rattle.rb_history.specs.declared.entries.Entry.{Entry}
use Rattle.rb_history.specs.declared.entries.Entry.TheVariants.{Sub, Dis}
use Rattle.rb_history.specs.declared.answers.Counts.{Counts}
use Rattle.rb_history.specs.declared.stored_records.StoredRecord.{StoredRecord}
use Rattle.rb_history.specs.declared.stored_records.RecordState.{RecordState}
use Rattle.rb_history.specs.declared.stored_records.RecordState.TheVariants.{Submitted, Discarded as DiscardedState}
use Rattle.rb_history.specs.History.{Shown, Status}
use Rattle.rb_history.specs.StoredRecords.{shown_record, state_status, IsSized, contents_of}
use Rattle.rb_history.specs.ReservationModel.{Granted}
use Rattle.rb_history.specs.inner.RecordRows.{IsBusyAt}
use Rattle.rb_history.proofs.Row.{get_or-default}
use Rattle.rb_history.proofs.Contents.{length-map}
use Rattle.rb_history.proofs.Settling.{BusyRecord, busy-record, contents-send, contents-drop}
use Rattle.rb_chapter_ring.specs.Snapshot.{Snapshot, no_record, record_in}
use Rattle.rb_chapter_ring.specs.Chapters.{Chapter, closing_of}
use Rattle.rb_chapter_ring.specs.ChapterRing.{ChapterRing}
use Rattle.rb_chapter_ring.specs.ChapterCalls.{HoldsReservationFrom, LogsByChapter}
use Rattle.rb_chapter_ring.specs.RecordEnds.{Ends, entry_of_end, status_of_end}
use Rattle.rb_chapter_ring.specs.ChapterRoom.{owed, record_now, IsBusyNow, with_entry}
use Rattle.rb_chapter_ring.specs.declared.record_end.RecordEnd.{RecordEnd}
use Rattle.rb_chapter_ring.specs.declared.record_end.RecordEnd.TheVariants.{Submit, Discard}
use Rattle.rb_chapter_ring.specs.inner.EndSteps.{contents_with_end}
use Rattle.rb_chapter_ring.specs.inner.SnapshotSteps.{with_end}
use Rattle.rb_chapter_ring.proofs.Settling.{ended}
use Rattle.rb_chapter_ring.specs.inner.RingBody.{ring_of, IsStored, IsRingOf}
use Rattle.rb_chapter_ring.proofs.CountSteps.{counting_end, counts-end}
use Rattle.rb_chapter_ring.proofs.Keeps.{longer-legal, keeps}
use Rattle.rb_chapter_ring.proofs.Rows.{rows}

-- its state afterwards
abbrev pub state_of_end : RecordEnd → List ℕ → RecordState
state_of_end Submit bytes = Submitted bytes
state_of_end Discard bytes = DiscardedState

map-set : (ss : List StoredRecord) (i : ℕ) (y : StoredRecord) → map shown_record (set ss i y) ≡ set (map shown_record ss) i (shown_record y)
map-set [] i y = refl
map-set (x ∷ ss) zero y = refl
map-set (x ∷ ss) (suc i) y = ap (λ l. shown_record x ∷ l) (map-set ss i y)

pub within-now : (earlier : List Entry) (c : Chapter) (stored : List StoredRecord) (counts : Counts) (g : IsRingOf earlier c stored counts) (i pos n : ℕ) → IsBusyAt (ring_of c stored).shown i pos n → i < length stored
within-now earlier c stored counts g i pos n at = omega (arith, at.within, length-map shown_record stored)

module _ (earlier : List Entry) (c : Chapter) (stored : List StoredRecord) (counts : Counts) (g : IsRingOf earlier c stored counts) (i pos n : ℕ) (at : IsBusyAt (ring_of c stored).shown i pos n) (t : StoredRecord) (there : t ≡ get_or stored i t) where
  pub busy : BusyRecord stored i t pos n
  busy = busy-record stored i t pos n at there

  -- the same record, as the chapter has it
  same-record : record_in (closing_of c) i ≡ shown_record t
  same-record =
      ap (λ ss. get_or ss i no_record) (sym g.stands.shown)
      ∙ get_or-default (map shown_record stored) i no_record (shown_record t) at.within
      ∙ shown-at stored i
      ∙ ap shown_record (sym there)
    where
      shown-at : (ss : List StoredRecord) (i : ℕ) → get_or (map shown_record ss) i (shown_record t) ≡ shown_record (get_or ss i t)
      shown-at [] i = refl
      shown-at (x ∷ ss) zero = refl
      shown-at (x ∷ ss) (suc i) = shown-at ss i

  pub is-busy : IsBusyNow c i
  is-busy = (subst (λ (ss : List Shown). i < length ss) g.stands.shown at.within, ap (λ (s : Shown). s.status) same-record ∙ ap state_status busy.held)

  pub pos-now : (record_now c i).pos ≡ pos
  pos-now = ap (λ (s : Shown). s.pos) same-record ∙ busy.at

  settled-stands : (now : Snapshot) (y : StoredRecord) (st : Status) → shown_record y ≡ record (shown_record t) { status = st } → now.producer ≡ (closing_of c).producer → now.consumer ≡ (closing_of c).consumer
      → now.consumed ≡ (closing_of c).consumed → now.skipped ≡ (closing_of c).skipped → now.records ≡ set (closing_of c).records i (record (record_in (closing_of c) i) { status = st }) → IsStored c.opening.setup.size now (set stored i y)
  settled-stands now y st shows p q e k rs =
      let s = g.stands in
      record {
        limit = omega (arith, p, s.limit);
        space = omega (arith, p, q, s.space);
        aligned = ap (λ x. x % 8) q ∙ s.aligned;
        behind = omega (arith, e, k, q, s.behind);
        shown = map-set stored i y ∙ (λ j. set (s.shown j) i (shows j)) ∙ ap (λ (x : Shown). set (closing_of c).records i (record x { status = st })) (sym same-record) ∙ sym rs;
      }

  pub end-closing : (end : RecordEnd) → with_end end i (closing_of c) ≡ closing_of (with_entry c (entry_of_end end (record_now c i).pos))
  end-closing end = (ended earlier c g.kept (closing_of c) refl i is-busy end (with_end end i (closing_of c)) (owed c) (with_entry c (entry_of_end end (record_now c i).pos)) refl refl refl).closing_is

  shown-ended : (end : RecordEnd) (bytes : List ℕ) → shown_record (record t { state = state_of_end end bytes }) ≡ record (shown_record t) { status = status_of_end end }
  shown-ended Submit bytes = refl
  shown-ended Discard bytes = refl

  sized-ended : (end : RecordEnd) (bytes : List ℕ) → length bytes ≡ n → IsSized (record t { state = state_of_end end bytes })
  sized-ended Submit bytes long = long ∙ sym busy.sized
  sized-ended Discard bytes long = tt

  pub end-keeps : (end : RecordEnd) (bytes : List ℕ) → length bytes ≡ n → IsRingOf earlier (with_entry c (entry_of_end end (record_now c i).pos)) (set stored i (record t { state = state_of_end end bytes })) (counting_end end counts)
  end-keeps end bytes long =
      let e = entry_of_end end (record_now c i).pos in
      let y : StoredRecord = record t { state = state_of_end end bytes } in
      let now = with_end end i (closing_of c) in
      let runs = ended earlier c g.kept (closing_of c) refl i is-busy end now (owed c) (with_entry c e) refl refl refl in
      let stands = settled-stands now y (status_of_end end) (shown-ended end bytes) refl refl refl refl refl in
      let counted = counts-end c.opening.setup (earlier ++ c.entries) end (record_now c i).pos counts (longer-legal earlier c stored counts g e runs.kept) g.counted in
      keeps earlier c stored counts g e now (owed c - 1) (set stored i y) (counting_end end counts) runs stands (All-set IsSized stored i y (sized-ended end bytes long) g.sized) counted (omega (arith, g.granted, length-set stored i y))

  pub contents-end : (end : RecordEnd) (bytes : List ℕ) → contents_of (set stored i (record t { state = state_of_end end bytes })) ≡ contents_with_end end pos bytes (contents_of stored)
  contents-end Submit bytes = contents-send c.opening.setup (earlier ++ c.entries) stored i t pos n (closing_of c).producer (closing_of c).consumer busy (rows earlier c stored counts g) bytes
  contents-end Discard bytes = contents-drop c.opening.setup (earlier ++ c.entries) stored i t pos n (closing_of c).producer (closing_of c).consumer busy (rows earlier c stored counts g)

-- the call, from the entry that was logged and the bytes that were stored
pub ends-by : (end : RecordEnd) (old new : ChapterRing) (r : Granted) (pos : ℕ) (bytes : List ℕ) → pos ≡ r.pos → bytes ≡ r.bytes → HoldsReservationFrom old r → LogsByChapter old new (entry_of_end end pos ∷ []) → new.contents ≡ contents_with_end end pos bytes old.contents → Ends end r old new
ends-by Submit old new r pos bytes at is busy logged contents = record { was_busy = busy; logged = subst (λ p. LogsByChapter old new (Sub p ∷ [])) at logged; contents_are = contents ∙ (λ i. insert old.contents (at i) (is i)) }
ends-by Discard old new r pos bytes at is busy logged contents = record { was_busy = busy; logged = subst (λ p. LogsByChapter old new (Dis p ∷ [])) at logged; contents_same = contents }
