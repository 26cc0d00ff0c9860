-- The ordinals of the records in occupied hands.
use Rattle.std.proofs.Common.{◌≡◌, ◌≢◌, Bool, true, false, ℕ, zero, suc, ◌+◌, ◌-◌, ◌<◌, ◌≤◌, List, [], ◌∷◌, ◌++◌, Some, length, map, replicate, get_or, set, length-set, refl, sym, ap, subst, ◌∙◌, inl, inr, get_or-set_same, get_or-set_other, arith}
use Rattle.std.proofs.lemmas.Bool.{cases_eq, cases_lt}
use Rattle.std.proofs.lemmas.List.{get_or-replicate, length-replicate}
use Rattle.rb_history.specs.Span.{span}
use Rattle.rb_history.specs.declared.entries.Entry.{Entry}
use Rattle.rb_history.specs.declared.stored_records.StoredRecord.{StoredRecord}
use Rattle.rb_history.specs.History.{Shown, Status, is_discarded_at, is_submitted_at, status_by}
use Rattle.rb_history.specs.History.Status.{Busy, Consumed, Discarded, Waiting}
use Rattle.rb_history.specs.ReservationModel.{Granted}
use Rattle.rb_history.specs.StoredRecords.{shown_record}
use Rattle.rb_history.specs.inner.RecordRows.{HistoryFacts, InRow, IsBusyAt}
use Rattle.rb_history.proofs.Finding.{busy-there, found-at}
use Rattle.rb_history.proofs.Kept.{named-at}
use Rattle.rb_history.proofs.Laws.{kept-from-legal}
use Rattle.rb_history.proofs.Row.{at-least, below-end}
use Rattle.rb_chapter_ring.specs.Snapshot.{Snapshot, no_record, record_in}
use Rattle.rb_chapter_ring.specs.Chapters.{Chapter, closing_of}
use Rattle.rb_chapter_ring.specs.ChapterCalls.{IsBusyFrom}
use Rattle.rb_chapter_ring.specs.WholeHistory.{IsKept}
use Rattle.rb_chapter_ring.proofs.Logging.{ends}
use Rattle.rb_chapter_ring.proofs.Settling.{whole-legal}
use Rattle.rb_chapter_ring.specs.inner.RingBody.{stored_at}
use Rattle.rb_chapter_ring.specs.inner.Ordinals.{HasOrdinals, HasOrdinal, KeepsNumbers, ordinal_at, taken_before}
use Rattle.rb_chapter_ring.specs.declared.out_record.OutRecord.{OutRecord}
use Rattle.rb_chapter_ring.specs.Hands.{hand_at, with_hand, IsShaped}
use Rattle.rb_chapter_ring.specs.HandRing.{HandRing, HasHands}
use Rattle.rb_chapter_ring.proofs.BusyEntries.{some-out}
use Rattle.rb_chapter_ring.proofs.ChangedHands.{hand-here, hand-there}
use Rattle.rb_chapter_ring.proofs.HandCalls.{busy-alike}

-- ---- a row of records

-- two records of a row have different positions
row-apart : (c : ℕ) (ss : List Shown) (p i j : ℕ) (d : Shown) → InRow c ss p → i < j → j < length ss → (get_or ss i d).pos < (get_or ss j d).pos
row-apart c [] p i j d row lt low = absurd (omega (arith, low))
row-apart c (s ∷ ss) p zero zero d row lt low = absurd (omega (arith, lt))
row-apart c (s ∷ ss) p zero (suc j) d row lt low = omega (arith, row.0, at-least (c + span s.len) ss p j d row.1 (omega (arith, low)))
row-apart c (s ∷ ss) p (suc i) zero d row lt low = absurd (omega (arith, lt))
row-apart c (s ∷ ss) p (suc i) (suc j) d row lt low = row-apart (c + span s.len) ss p i j d row.1 (omega (arith, lt)) (omega (arith, low))

one-index : (c : ℕ) (ss : List Shown) (p i j : ℕ) (d : Shown) → InRow c ss p → i < length ss → j < length ss → (get_or ss i d).pos ≡ (get_or ss j d).pos → i ≡ j
one-index c ss p i j d row here there same = elim (cases_lt i j) [
  | inl lt ↦ absurd (omega (arith, same, row-apart c ss p i j d row lt there))
  | inr le ↦ elim (cases_lt j i) [
    | inl gt ↦ absurd (omega (arith, same, row-apart c ss p j i d row gt here))
    | inr ge ↦ omega (arith, le, ge)
  ]
]

-- what is shown, as stored records
abbrev stored_as : List Shown → List StoredRecord
stored_as ss = map (λ s. stored_at s []) ss

by-status : (s : Shown) (st : Status) → st ≢ Consumed → shown_record (stored_at (record s { status = st }) []) ≡ record s { status = st }
by-status s Busy free = refl
by-status s Waiting free = refl
by-status s Discarded free = refl
by-status s Consumed free = absurd (free refl)

shown-again : (ss : List Shown) → ((i : ℕ) → i < length ss → (get_or ss i no_record).status ≢ Consumed) → map shown_record (stored_as ss) ≡ ss
shown-again [] free = refl
shown-again (s ∷ ss) free = λ i. by-status s s.status (free zero (omega arith)) i ∷ shown-again ss (λ j low. free (suc j) (omega (arith, low))) i

not-consumed : (a b : Bool) (st : Status) → status_by a b false ≡ st → st ≢ Consumed
not-consumed a b st is consumed = by-both a b (is ∙ consumed)
  where
    by-both : (a b : Bool) → status_by a b false ≡ Consumed → ⊥
    by-both true true e = cc
    by-both false true e = cc
    by-both true false e = cc
    by-both false false e = cc

-- ---- a chapter

module _ (earlier : List Entry) (c : Chapter) (kept : IsKept earlier c) where
  row-facts : HistoryFacts c.opening.setup (earlier ++ c.entries) (closing_of c).records (closing_of c).producer (closing_of c).consumer
  row-facts =
      let r = c.opening.setup in
      let h = earlier ++ c.entries in
      subst (λ (o : Snapshot). HistoryFacts r h o.records o.producer o.consumer) (sym (ends earlier c kept.continues)) (kept-from-legal r h (whole-legal earlier c kept (closing_of c) refl))

  -- a busy record is in the list
  busy-index : (g : Granted) → IsBusyFrom c.opening c.entries g.pos g.worker g.serial (length g.bytes) → (i : ℕ) × IsBusyAt (closing_of c).records i g.pos (length g.bytes)
  busy-index g busy =
      let r = c.opening.setup in
      let h = earlier ++ c.entries in
      let o = closing_of c in
      let stored = stored_as o.records in
      let again = shown-again o.records (λ i low. not-consumed (is_submitted_at h (record_in o i).pos) (is_discarded_at h (record_in o i).pos) (record_in o i).status (named-at r h o.records o.producer o.consumer i no_record row-facts low).status_is) in
      let facts = subst (λ ss. HistoryFacts r h ss o.producer o.consumer) (sym again) row-facts in
      let whole = (busy-alike earlier c kept.continues g.pos g.worker g.serial (length g.bytes)).0 busy in
      let there = busy-there r h stored o.producer o.consumer facts g whole in
      (there.1.0.0, subst (λ ss. IsBusyAt ss there.1.0.0 g.pos (length g.bytes)) again (found-at r h stored o.producer o.consumer facts g there.1.0.0 there.0 there.1.0.1 (sym there.1.0.2) there.1.1))

  one-number : (p a b : ℕ) → HasOrdinal (closing_of c) p a → HasOrdinal (closing_of c) p b → a ≡ b
  one-number p a b x y =
      let o = closing_of c in
      let same = one-index o.consumer o.records o.producer x.index y.index no_record row-facts.in_row x.within y.within (x.here ∙ sym y.here) in
      x.ordinal ∙ ap (λ i. taken_before o + i) same ∙ sym y.ordinal

  -- the index of a busy record is its ordinal minus the number of records that were taken
  pub busy-at-ordinal : (g : Granted) (n : ℕ) → IsBusyFrom c.opening c.entries g.pos g.worker g.serial (length g.bytes) → HasOrdinal (closing_of c) g.pos n → (taken_before (closing_of c) ≤ n) × IsBusyAt (closing_of c).records (n - taken_before (closing_of c)) g.pos (length g.bytes)
  busy-at-ordinal g n busy num =
      let o = closing_of c in
      let there = busy-index g busy in
      let own : HasOrdinal o g.pos (taken_before o + there.0) = record { index = there.0; within = there.1.within; here = (there.1.here no_record).0; ordinal = refl } in
      let same : n ≡ taken_before o + there.0 = one-number g.pos n (taken_before o + there.0) num own in
      let index : there.0 ≡ n - taken_before o = omega (arith, same) in
      (omega (arith, same), subst (λ i. IsBusyAt o.records i g.pos (length g.bytes)) index there.1)

-- ---- hands

abbrev zeros : ℕ → List ℕ
zeros n = replicate n zero

zeros-long : (n : ℕ) → length (zeros n) ≡ n
zeros-long n = length-replicate n zero

-- a record with the numbers of an out record
abbrev granted_as : ℕ → OutRecord → Granted
granted_as w o = record { pos = o.pos; worker = w; serial = o.serial; bytes = zeros o.len }

module _ (earlier : List Entry) (old new : HandRing) (ordinals : List (List ℕ)) (was_kept : IsKept earlier old.ring.chapter) (counted : HasOrdinals old ordinals) (later : List Entry) (kept : IsKept later new.ring.chapter) (has : HasHands new) (keeps : KeepsNumbers old.ring.chapter new.ring.chapter) where
  -- a record that was and still is in a hand has its ordinal
  still-numbered : (w h : ℕ) (o : OutRecord) → hand_at old.hands w h ≡ Some o → hand_at new.hands w h ≡ Some o → HasOrdinal (closing_of new.ring.chapter) o.pos (ordinal_at ordinals w h)
  still-numbered w h o was is =
      let before = closing_of old.ring.chapter in
      let now = closing_of new.ring.chapter in
      let number = counted.numbered w h o was in
      let busy : IsBusyFrom new.ring.chapter.opening new.ring.chapter.entries o.pos w o.serial (length (granted_as w o).bytes) = subst (λ n. IsBusyFrom new.ring.chapter.opening new.ring.chapter.entries o.pos w o.serial n) (sym (zeros-long o.len)) (has.holds.out_is_busy w h o is) in
      let there = busy-index later new.ring.chapter kept (granted_as w o) busy in
      let found : HasOrdinal now o.pos (taken_before now + there.0) = record { index = there.0; within = there.1.within; here = (there.1.here no_record).0; ordinal = refl } in
      let low : o.pos < before.producer = subst (λ p. p < before.producer) number.here (below-end before.consumer before.records before.producer number.index no_record (row-facts earlier old.ring.chapter was_kept).in_row number.within) in
      let same = one-number earlier old.ring.chapter was_kept o.pos (taken_before now + there.0) (ordinal_at ordinals w h) (keeps.numbers o.pos (taken_before now + there.0) found low) number in
      subst (HasOrdinal now o.pos) same found

  pub ordinals-stay : new.ring.chapter.opening.setup.workers ≡ old.ring.chapter.opening.setup.workers → ((w h : ℕ) (o : OutRecord) → hand_at new.hands w h ≡ Some o → hand_at old.hands w h ≡ Some o) → HasOrdinals new ordinals
  ordinals-stay workers out = record {
    workers = counted.workers ∙ sym workers;
    four = counted.four;
    numbered = λ w h o is. still-numbered w h o (out w h o is) is;
  }

  -- a record was granted into a hand, and its ordinal is stored for the hand
  pub ordinals-granted : (w h n : ℕ) (x : OutRecord) → w < old.ring.chapter.opening.setup.workers → h < 4 → new.ring.chapter.opening.setup.workers ≡ old.ring.chapter.opening.setup.workers → IsShaped old.ring.chapter.opening.setup.workers old.hands
      → new.hands ≡ with_hand old.hands w h (Some x) → HasOrdinal (closing_of new.ring.chapter) x.pos n → HasOrdinals new (set ordinals w (set (get_or ordinals w []) h n))
  ordinals-granted w h n x low four workers shaped marked number = record {
    workers = length-set ordinals w row ∙ counted.workers ∙ sym workers;
    four = λ v below. elim (cases_eq v w) [
      | inl same ↦ ap (λ u. length (get_or table u [])) same ∙ ap length own_row ∙ length-set (get_or ordinals w []) h n ∙ counted.four w here
      | inr other ↦ ap length (get_or-set_other ordinals w v row [] other) ∙ counted.four v (subst (λ m. v < m) (length-set ordinals w row) below)
    ];
    numbered = λ v g o is. elim (cases_eq v w) [
      | inl mine ↦ elim (cases_eq g h) [
        | inl same ↦
            let there : ordinal_at table v g ≡ n = (λ i. ordinal_at table (mine i) (same i)) ∙ ap (λ r. get_or r h 0) own_row ∙ get_or-set_same (get_or ordinals w []) h n 0 in_row in
            let put : hand_at new.hands v g ≡ Some x = ap (λ b. hand_at b v g) marked ∙ (λ i. hand_at (with_hand old.hands w h (Some x)) (mine i) (same i)) ∙ hand-here old.ring.chapter.opening.setup.workers old.hands shaped w h low four (Some x) in
            let is_x : x ≡ o = some-out x o (sym put ∙ is) in
            subst (λ (y : OutRecord). HasOrdinal (closing_of new.ring.chapter) y.pos (ordinal_at table v g)) is_x (subst (HasOrdinal (closing_of new.ring.chapter) x.pos) (sym there) number)
        | inr other ↦
            let there : ordinal_at table v g ≡ ordinal_at ordinals v g = ap (λ u. ordinal_at table u g) mine ∙ ap (λ r. get_or r g 0) own_row ∙ get_or-set_other (get_or ordinals w []) h g n 0 other ∙ ap (λ u. ordinal_at ordinals u g) (sym mine) in
            let was : hand_at old.hands v g ≡ Some o = sym (ap (λ b. hand_at b v g) marked ∙ hand-there old.ring.chapter.opening.setup.workers old.hands shaped w h low (Some x) v g (λ _ e. other e)) ∙ is in
            subst (HasOrdinal (closing_of new.ring.chapter) o.pos) (sym there) (still-numbered v g o was is)
      ]
      | inr apart ↦
          let there : ordinal_at table v g ≡ ordinal_at ordinals v g = ap (λ r. get_or r g 0) (get_or-set_other ordinals w v row [] apart) in
          let was : hand_at old.hands v g ≡ Some o = sym (ap (λ b. hand_at b v g) marked ∙ hand-there old.ring.chapter.opening.setup.workers old.hands shaped w h low (Some x) v g (λ e _. apart e)) ∙ is in
          subst (HasOrdinal (closing_of new.ring.chapter) o.pos) (sym there) (still-numbered v g o was is)
    ];
  }
    where
      row : List ℕ
      row = set (get_or ordinals w []) h n

      table : List (List ℕ)
      table = set ordinals w row

      here : w < length ordinals
      here = subst (λ m. w < m) (sym counted.workers) low

      in_row : h < length (get_or ordinals w [])
      in_row = subst (λ m. h < m) (sym (counted.four w here)) four

      own_row : get_or table w [] ≡ row
      own_row = get_or-set_same ordinals w row [] here

-- a new ring has free hands, and any ordinals
pub opened-ordinals : (v : HandRing) (ordinals : List (List ℕ)) (workers : ℕ) → ordinals ≡ replicate workers (replicate 4 0) → v.ring.chapter.opening.setup.workers ≡ workers → ((w h : ℕ) (o : OutRecord) → hand_at v.hands w h ≡ Some o → ⊥) → HasOrdinals v ordinals
opened-ordinals v ordinals workers are ring none = record {
  workers = ap length are ∙ length-replicate workers (zeros 4) ∙ sym ring;
  four = λ w low.
      let within : w < workers = subst (λ m. w < m) (ap length are ∙ length-replicate workers (zeros 4)) low in
      ap (λ t. length (get_or t w [])) are ∙ ap length (get_or-replicate workers w (zeros 4) [] within) ∙ zeros-long 4;
  numbered = λ w h o is. absurd (none w h o is);
}
