-- What the commit of a record, and its take, change in the summary at a chapter's end.
use Rattle.std.proofs.Common.{◌≡◌, ◌≢◌, ℕ, ◌+◌, ◌-◌, ◌<◌, ◌≤◌, ◌^◌, Bool, true, false, ◌||◌, cond, List, [], ◌∷◌, ◌++◌, length, get_or, set, drop, refl, sym, ap, ◌∙◌, subst, append_assoc, add-zero, arith}
use Rattle.std.proofs.lemmas.Bool.{false_from_ne_true, true≢false}
use Rattle.rb_history.specs.Span.{span}
use Rattle.rb_history.specs.declared.entries.Entry.{Entry}
use Rattle.rb_history.specs.declared.entries.Entry.TheVariants.{Sub, Dis, Take}
use Rattle.rb_history.specs.declared.tally.Tally.{Tally}
use Rattle.rb_history.specs.History.{Shown, Status, status_by, is_granted_at, is_submitted_at, is_discarded_at, producer_of, consumer_of, records, grants}
use Rattle.rb_history.specs.History.Status.{Busy, Waiting, Consumed, Discarded}
use Rattle.rb_history.specs.WorkerCounts.{tally_of, is_record_of, events_of, skips_of}
use Rattle.rb_history.specs.RoomRule.{Setup}
use Rattle.rb_history.specs.Legal.{IsLegal}
use Rattle.rb_history.specs.StoredRecords.{entries_owed}
use Rattle.rb_history.specs.inner.RecordRows.{HistoryFacts}
use Rattle.rb_history.specs.inner.TallySteps.{tally_with_entry as tally_with}
use Rattle.rb_history.proofs.Laws.{KeptAs, kept-from-legal}
use Rattle.rb_history.proofs.Row.{InRow-le, at-least, below-end}
use Rattle.rb_history.proofs.Steps.{Named}
use Rattle.rb_history.proofs.Kept.{legal-push, kept-sub, kept-dis, kept-take, named-at, busy-settles}
use Rattle.rb_history.proofs.RecordWorkers.{record-from, record-unique}
use Rattle.rb_history.proofs.Serials.{worker-in}
use Rattle.rb_history.proofs.Settled.{settled-most}
use Rattle.rb_history.proofs.Tallies.{grants-low}
use Rattle.rb_history.proofs.TakenRecords.{never-both}
use Rattle.rb_history.proofs.WorkerCounts.{tally-next, tally-sub, tally-dis, events-next, skips-next}
use Rattle.rb_chapter_ring.specs.Snapshot.{Snapshot, snapshot_of, tally_at, no_record, record_in}
use Rattle.rb_chapter_ring.specs.Chapters.{Chapter, closing_of}
use Rattle.rb_chapter_ring.specs.CountedFrom.{records_from, consumer_from, IsLegalFrom, MayFollowFrom}
use Rattle.rb_chapter_ring.specs.ChapterRoom.{owed_for, owed, with_entry, record_now, IsBusyNow, HasSettledFront, HasRoomForEntry}
use Rattle.rb_chapter_ring.specs.WholeHistory.{IsKept}
use Rattle.rb_chapter_ring.specs.inner.ChapterBody.{IsBehindTakes}
use Rattle.rb_chapter_ring.specs.declared.record_end.RecordEnd.{RecordEnd}
use Rattle.rb_chapter_ring.specs.declared.record_end.RecordEnd.TheVariants.{Submit, Discard}
use Rattle.rb_chapter_ring.specs.RecordEnds.{entry_of_end, status_of_end, tally_with_end}
use Rattle.rb_chapter_ring.specs.inner.SnapshotSteps.{with_end, with_take, events_by, skips_by}
use Rattle.rb_chapter_ring.proofs.ChapterNumbers.{map-below, tally-at}
use Rattle.rb_chapter_ring.proofs.Keeping.{one-kept}
use Rattle.rb_chapter_ring.proofs.Limits.{limited, spans-low}
use Rattle.rb_chapter_ring.proofs.Logging.{ends, tallies-next, runs-behind, KeepsRunning}
use Rattle.rb_chapter_ring.proofs.Stands.{goes-on}
use Rattle.rb_chapter_ring.proofs.Weights.{weigh-end, weigh-take}

-- ---- over a whole history

module _ (r : Setup) (h : List Entry) (l : IsLegal r h) (i : ℕ) (within : i < length (records h)) (busy : (get_or (records h) i no_record).status ≡ Busy) where
  kept : KeptAs r h
  kept = kept-from-legal r h l

  -- the record at the index
  abbrev at_index : Shown
  at_index = get_or (records h) i no_record

  stands : Named h h at_index
  stands = named-at r h (records h) (producer_of r.start h) (consumer_of r.start h) i no_record kept within

  mine : is_record_of at_index.worker h at_index.pos ≡ true
  mine = record-from h at_index.worker at_index.serial at_index.len at_index.pos stands.stands

  pub worker-low : at_index.worker < r.workers
  worker-low = worker-in r at_index.worker at_index.serial at_index.len at_index.pos h l stands.stands

  theirs : (v : ℕ) → v ≢ at_index.worker → is_record_of v h at_index.pos ≡ false
  theirs v other = false_from_ne_true (is_record_of v h at_index.pos) (λ is. other (record-unique r v at_index.worker at_index.pos h l is mine))

  may-end : (is_granted_at h at_index.pos ≡ true) × (is_submitted_at h at_index.pos ≡ false) × (is_discarded_at h at_index.pos ≡ false)
  may-end = busy-settles r h (records h) (producer_of r.start h) (consumer_of r.start h) i no_record kept within busy

  pub end-legal : (end : RecordEnd) → IsLegal r (h ++ entry_of_end end at_index.pos ∷ [])
  end-legal Submit = legal-push r h (Sub at_index.pos) l may-end
  end-legal Discard = legal-push r h (Dis at_index.pos) l may-end

  -- the records and both positions
  end-facts : (end : RecordEnd) → HistoryFacts r (h ++ entry_of_end end at_index.pos ∷ []) (set (records h) i (record at_index { status = status_of_end end })) (producer_of r.start h) (consumer_of r.start h)
  end-facts Submit = kept-sub r h (records h) (producer_of r.start h) (consumer_of r.start h) i no_record kept within busy
  end-facts Discard = kept-dis r h (records h) (producer_of r.start h) (consumer_of r.start h) i no_record kept within busy

  -- the totals of its worker, and of all others
  own-tally : (end : RecordEnd) → tally_of at_index.worker (h ++ entry_of_end end at_index.pos ∷ []) ≡ tally_with_end end (tally_of at_index.worker h)
  own-tally Submit = tally-sub r at_index.worker at_index.pos h (end-legal Submit) mine
  own-tally Discard = tally-dis r at_index.worker at_index.pos h (end-legal Discard) mine

  other-tally : (end : RecordEnd) (v : ℕ) → v ≢ at_index.worker → tally_with v h (entry_of_end end at_index.pos) (tally_of v h) ≡ tally_of v h
  other-tally Submit v other j = record {
    made = add-zero (grants v h) j;
    refused = add-zero (tally_of v h).refused j;
    submitted = (ap (λ b. (tally_of v h).submitted + cond b 1 0) (theirs v other) ∙ add-zero (tally_of v h).submitted) j;
    discarded = add-zero (tally_of v h).discarded j;
  }
  other-tally Discard v other j = record {
    made = add-zero (grants v h) j;
    refused = add-zero (tally_of v h).refused j;
    submitted = add-zero (tally_of v h).submitted j;
    discarded = (ap (λ b. (tally_of v h).discarded + cond b 1 0) (theirs v other) ∙ add-zero (tally_of v h).discarded) j;
  }

  -- nothing is taken
  end-takes : (end : RecordEnd) → (events_of (h ++ entry_of_end end at_index.pos ∷ []) ≡ events_of h) × (skips_of (h ++ entry_of_end end at_index.pos ∷ []) ≡ skips_of h)
  end-takes Submit = (events-next r h (Sub at_index.pos) (end-legal Submit) ∙ add-zero (events_of h), skips-next r h (Sub at_index.pos) (end-legal Submit) ∙ add-zero (skips_of h))
  end-takes Discard = (events-next r h (Dis at_index.pos) (end-legal Discard) ∙ add-zero (events_of h), skips-next r h (Dis at_index.pos) (end-legal Discard) ∙ add-zero (skips_of h))

  pub end-next : (end : RecordEnd) → snapshot_of r (h ++ entry_of_end end at_index.pos ∷ []) ≡ with_end end i (snapshot_of r h)
  end-next end =
      let o = snapshot_of r h in
      let w = at_index.worker in
      let facts = end-facts end in
      let own = own-tally end ∙ ap (tally_with_end end) (sym (tally-at r h w worker-low)) in
      let tallies = tallies-next r h (entry_of_end end at_index.pos) w (end-legal end) worker-low (other-tally end) ∙ ap (λ t. set o.tallies w t) own in
      let producer = sym facts.producer_is in
      let consumer = sym facts.consumer_is in
      let rows = sym facts.shown in
      let takes = end-takes end in
      λ j. record { setup = r; producer = producer j; consumer = consumer j; records = rows j; tallies = tallies j; consumed = takes.0 j; skipped = takes.1 j }

-- what a status determines about the take of its record
take-bits : (s d : Bool) → (s ≡ true → d ≡ false) → (status_by s d false ≡ Busy → ⊥) → (cond s 1 0 ≡ events_by (status_by s d false)) × (cond d 1 0 ≡ skips_by (status_by s d false))
take-bits true true never free = absurd (true≢false (never refl))
take-bits true false never free = (refl, refl)
take-bits false true never free = (refl, refl)
take-bits false false never free = absurd (free refl)

settled-by : (s d : Bool) → (status_by s d false ≡ Busy → ⊥) → (s || d) ≡ true
settled-by true d free = refl
settled-by false true free = refl
settled-by false false free = absurd (free refl)

-- the opening after a take, if the records are known
pub record TakesFront (r : Setup) (h : List Entry) (ss : List Shown) : Type 0 where
  pub legal : IsLegal r (h ++ Take (consumer_of r.start h) ∷ [])
  pub next : snapshot_of r (h ++ Take (consumer_of r.start h) ∷ []) ≡ with_take (record (snapshot_of r h) { records = ss })
  pub low : consumer_of r.start h + span (get_or ss 0 no_record).len ≤ producer_of r.start h

module _ (r : Setup) (h : List Entry) (l : IsLegal r h) where
  takes-from : (ss : List Shown) → HistoryFacts r h ss (producer_of r.start h) (consumer_of r.start h) → 0 < length ss → (get_or ss 0 no_record).status ≢ Busy → TakesFront r h ss
  takes-from [] k some free = absurd (omega arith)
  takes-from (s ∷ ss) k some free =
      let c = consumer_of r.start h in
      let e = Take c in
      let n : Named h h s = named-at r h (s ∷ ss) (producer_of r.start h) c 0 no_record k (omega arith) in
      let status : status_by (is_submitted_at h c) (is_discarded_at h c) false ≡ s.status = subst (λ q. status_by (is_submitted_at h q) (is_discarded_at h q) false ≡ s.status) k.in_row.0 n.status_is in
      let free_by : status_by (is_submitted_at h c) (is_discarded_at h c) false ≡ Busy → ⊥ = λ is. free (sym status ∙ is) in
      let facts = kept-take r h s ss (producer_of r.start h) c k free in
      let legal = legal-push r h e l (refl, settled-by (is_submitted_at h c) (is_discarded_at h c) free_by) in
      let bits = take-bits (is_submitted_at h c) (is_discarded_at h c) (never-both r h l c) free_by in
      let producer = sym facts.producer_is in
      let consumer = sym facts.consumer_is in
      let rows = sym facts.shown in
      let tallies = map-below (λ v. tally_of v (h ++ e ∷ [])) (λ v. tally_of v h) r.workers (λ v _. tally-next r v h e legal ∙ (λ i. record {
        made = add-zero (grants v h) i;
        refused = add-zero (tally_of v h).refused i;
        submitted = add-zero (tally_of v h).submitted i;
        discarded = add-zero (tally_of v h).discarded i;
      })) in
      let consumed = events-next r h e legal ∙ ap (λ x. events_of h + x) (bits.0 ∙ ap events_by status) in
      let skipped = skips-next r h e legal ∙ ap (λ x. skips_of h + x) (bits.1 ∙ ap skips_by status) in
      record {
        legal = legal;
        next = λ j. record { setup = r; producer = producer j; consumer = consumer j; records = rows j; tallies = tallies j; consumed = consumed j; skipped = skipped j };
        low = InRow-le (c + span s.len) ss (producer_of r.start h) k.in_row.1;
      }

  pub take-front : 0 < length (records h) → (get_or (records h) 0 no_record).status ≢ Busy → TakesFront r h (records h)
  take-front some free = takes-from (records h) (kept-from-legal r h l) some free

-- ---- the numbers after a take

by-most : (st : Status) → events_by st + skips_by st ≤ 1
by-most Busy = omega arith
by-most Waiting = omega arith
by-most Consumed = omega arith
by-most Discarded = omega arith

pub takes-behind : (o : Snapshot) → IsBehindTakes o → IsBehindTakes (with_take o)
takes-behind o low = omega (arith, low, by-most (record_in o 0).status)

pub one-less : (ss : List Shown) → 0 < length ss → length (drop 1 ss) + 1 ≡ length ss
one-less [] some = absurd (omega arith)
one-less (s ∷ ss) some = omega arith

-- ---- in a chapter

module _ (earlier : List Entry) (c : Chapter) (kept : IsKept earlier c) (closing : Snapshot) (is : closing ≡ closing_of c) where
  abbrev whole : List Entry
  whole = earlier ++ c.entries

  pub at-end : closing ≡ snapshot_of c.opening.setup whole
  at-end = is ∙ ends earlier c kept.continues

  pub whole-legal : IsLegal c.opening.setup whole
  whole-legal = (goes-on c.opening.setup earlier c.opening kept.continues.earlier_legal kept.continues.opened c.entries).0.0 kept.continues.legal

  rows-same : records_from c.opening c.entries ≡ records whole
  rows-same = ap (λ (o : Snapshot). o.records) (ends earlier c kept.continues)

  follows : (e : Entry) → IsLegal c.opening.setup (whole ++ e ∷ []) → MayFollowFrom c.opening c.entries e
  follows e l =
      let r = c.opening.setup in
      let cut : whole ++ e ∷ [] ≡ earlier ++ (c.entries ++ e ∷ []) = append_assoc earlier c.entries (e ∷ []) in
      let from : IsLegalFrom c.opening (c.entries ++ e ∷ []) =
      (goes-on r earlier c.opening kept.continues.earlier_legal kept.continues.opened (c.entries ++ e ∷ [])).0.1 (subst (IsLegal r) cut l) in
      from.each c.entries e [] refl

  -- an entry for which there was room
  settles : (e : Entry) (f : Snapshot → Snapshot) (now : Snapshot) (owing : ℕ) (d : Chapter) → IsLegal c.opening.setup (whole ++ e ∷ []) → HasRoomForEntry c e → snapshot_of c.opening.setup (whole ++ e ∷ []) ≡ f (snapshot_of c.opening.setup whole)
      → owing ≡ owed c → now ≡ f closing → owed_for (records (whole ++ e ∷ [])) + 1 ≡ owed_for (records whole) → d ≡ with_entry c e → KeepsRunning earlier d now (owing - 1)
  settles e f now owing d l room step owes made less logged =
      let r = c.opening.setup in
      let longer = one-kept earlier c e kept (follows e l) room in
      let runs = runs-behind earlier c e closing now f kept longer is made (λ _. step) in
      let before : owed c ≡ owed_for (records whole) = ap owed_for rows-same in
      let behind : now ≡ snapshot_of r (whole ++ e ∷ []) = made ∙ ap f at-end ∙ sym step in
      let after : owed_for now.records ≡ owed_for (records (whole ++ e ∷ [])) = ap (λ (o : Snapshot). owed_for o.records) behind in
      subst (λ x. KeepsRunning earlier x now (owing - 1)) (sym logged) (record { kept = longer; closing_is = runs.closing_is; owed_is = omega (arith, owes, before, after, less) ∙ runs.owed_is })

  module _ (i : ℕ) (busy : IsBusyNow c i) where
    within : i < length (records whole)
    within = subst (λ (ss : List Shown). i < length ss) rows-same busy.0

    held : (get_or (records whole) i no_record).status ≡ Busy
    held = subst (λ (ss : List Shown). (get_or ss i no_record).status ≡ Busy) rows-same busy.1

    same-at : record_in closing i ≡ get_or (records whole) i no_record
    same-at = ap (λ (o : Snapshot). record_in o i) at-end

    pub same-now : record_in closing i ≡ record_now c i
    same-now = ap (λ (o : Snapshot). record_in o i) is

    pub index-fits : i < length closing.records
    index-fits = subst (λ (o : Snapshot). i < length o.records) (sym is) busy.0

    pub worker-fits : (record_in closing i).worker < closing.setup.workers
    worker-fits = subst (λ (o : Snapshot). (record_in o i).worker < o.setup.workers) (sym at-end) (worker-low c.opening.setup whole whole-legal i within held)

    -- its position is below the limit
    pub position-low : (record_in closing i).pos < 2 ^ 62
    position-low =
        let r = c.opening.setup in
        let k = kept-from-legal r whole whole-legal in
        let below = below-end (consumer_of r.start whole) (records whole) (producer_of r.start whole) i no_record k.in_row within in
        let above = at-least (consumer_of r.start whole) (records whole) (producer_of r.start whole) i no_record k.in_row within in
        let limit = limited r whole whole-legal (omega (arith, below, above)) in
        omega (arith, below, limit, ap (λ (s : Shown). s.pos) same-at)

    -- the worker committed at most as many records as it was granted, so few that the totals fit
    pub few : (tally_at closing (record_in closing i).worker).submitted + (tally_at closing (record_in closing i).worker).discarded < 2 ^ 62
    few =
        let r = c.opening.setup in
        let w = (record_in closing i).worker in
        let in_ring : w < r.workers = subst (λ (o : Snapshot). (record_in closing i).worker < o.setup.workers) at-end worker-fits in
        let tally : tally_at closing w ≡ tally_of w whole = ap (λ (o : Snapshot). tally_at o w) at-end ∙ tally-at r whole w in_ring in
        let submitted = ap (λ (t : Tally). t.submitted) tally in
        let discarded = ap (λ (t : Tally). t.discarded) tally in
        let most = settled-most r whole whole-legal w in
        let granted = grants-low w whole in
        let low = spans-low r whole whole-legal in
        omega (arith, submitted, discarded, most, granted, low)

    -- its take is still owed, and there is room for its commit
    owes-one : (end : RecordEnd) → entries_owed (status_of_end end) ≡ 1
    owes-one Submit = refl
    owes-one Discard = refl

    room-for : (end : RecordEnd) (p : ℕ) → HasRoomForEntry c (entry_of_end end p)
    room-for Submit p = kept.room
    room-for Discard p = kept.room

    pub ended : (end : RecordEnd) (now : Snapshot) (owing : ℕ) (d : Chapter) → owing ≡ owed c → now ≡ with_end end i closing → d ≡ with_entry c (entry_of_end end (record_now c i).pos) → KeepsRunning earlier d now (owing - 1)
    ended end now owing d owes made logged =
        let r = c.opening.setup in
        let l = end-legal r whole whole-legal i within held end in
        let p = (get_or (records whole) i no_record).pos in
        let less = weigh-end entries_owed r whole (kept-from-legal r whole whole-legal) end p (l.each whole (entry_of_end end p) [] refl) in
        let here : (record_now c i).pos ≡ p = ap (λ (s : Shown). s.pos) (sym same-now ∙ same-at) in
        settles (entry_of_end end p) (with_end end i) now owing d l (room-for end p) (end-next r whole whole-legal i within held end) owes made (omega (arith, less, owes-one end)) (logged ∙ ap (λ q. with_entry c (entry_of_end end q)) here)

  module _ (front : HasSettledFront c) where
    front-takes : TakesFront c.opening.setup whole (records whole)
    front-takes = take-front c.opening.setup whole whole-legal
        (subst (λ (ss : List Shown). 0 < length ss) rows-same front.0)
        (subst (λ (ss : List Shown). (get_or ss 0 no_record).status ≢ Busy) rows-same front.1)

    pub some-there : 0 < length closing.records
    some-there = subst (λ (o : Snapshot). 0 < length o.records) (sym is) front.0

    -- the consumer position stays within the limit
    pub take-low : closing.consumer + span (record_in closing 0).len ≤ 2 ^ 62
    take-low =
        let r = c.opening.setup in
        let limit : consumer_of r.start whole + span (get_or (records whole) 0 no_record).len ≤ 2 ^ 62 =
        omega (arith, front-takes.low, limited r whole whole-legal (omega (arith, front-takes.low))) in
        subst (λ (o : Snapshot). o.consumer + span (record_in o 0).len ≤ 2 ^ 62) (sym at-end) limit

    pub taken : (now : Snapshot) (owing : ℕ) (d : Chapter) → owing ≡ owed c → now ≡ with_take closing → d ≡ with_entry c (Take (consumer_from c.opening c.entries)) → KeepsRunning earlier d now (owing - 1)
    taken now owing d owes made logged =
        let r = c.opening.setup in
        let p = consumer_of r.start whole in
        let k = kept-from-legal r whole whole-legal in
        let l = front-takes.legal in
        let weighed = weigh-take entries_owed r whole k p (l.each whole (Take p) [] refl) in
        let one : entries_owed (status_by (is_submitted_at whole p) (is_discarded_at whole p) false) ≡ 1 = one-owed (is_submitted_at whole p) (is_discarded_at whole p) (l.each whole (Take p) [] refl).1 in
        let here : consumer_from c.opening c.entries ≡ p = ap (λ (o : Snapshot). o.consumer) (ends earlier c kept.continues) in
        settles (Take p) with_take now owing d l kept.room front-takes.next owes made (omega (arith, weighed, one)) (logged ∙ ap (λ q. with_entry c (Take q)) here)
      where
        one-owed : (s d : Bool) → (s || d) ≡ true → entries_owed (status_by s d false) ≡ 1
        one-owed true true o = refl
        one-owed true false o = refl
        one-owed false true o = refl
        one-owed false false o = absurd (true≢false (sym o))
