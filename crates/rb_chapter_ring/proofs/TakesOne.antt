-- The record at the front is taken.
use Rattle.std.proofs.Common.{◌≡◌, ◌≢◌, ℕ, ◌+◌, ◌-◌, ◌<◌, ◌↔◌, false, cond, List, [], ◌∷◌, ◌++◌, drop, length, map, get_or, refl, sym, ap, ◌∙◌, subst, append_assoc, arith}
use Rattle.std.specs.List.{All}
use Rattle.std.proofs.lemmas.List.Elements.{All-tail}
use Rattle.rb_history.specs.Span.{span}
use Rattle.rb_history.specs.declared.entries.Entry.{Entry}
use Rattle.rb_history.specs.declared.entries.Entry.TheVariants.{Take}
use Rattle.rb_history.specs.declared.answers.Counts.{Counts}
use Rattle.rb_history.specs.declared.answers.Taken.{Taken}
use Rattle.rb_history.specs.declared.answers.Taken.TheVariants.{BusyFront, Empty}
use Rattle.rb_history.specs.declared.stored_records.StoredRecord.{StoredRecord}
use Rattle.rb_history.specs.declared.stored_records.RecordState.{RecordState}
use Rattle.rb_history.specs.declared.stored_records.RecordState.TheVariants.{Reserved, Submitted, Discarded as DiscardedState}
use Rattle.rb_history.specs.History.{Shown, Status, status_by, is_submitted_at, is_discarded_at}
use Rattle.rb_history.specs.History.Status.{Waiting}
use Rattle.rb_history.specs.Counting.{is_same, counts_of}
use Rattle.rb_history.specs.Calls.{Takes as WholeTakes}
use Rattle.rb_history.specs.StoredRecords.{shown_record, state_status, is_submitted_state, taken_of, IsSized}
use Rattle.rb_history.specs.inner.RecordRows.{InRow, HistoryFacts}
use Rattle.rb_history.proofs.Exact.{exact-busy, exact-empty, none-there}
use Rattle.rb_history.proofs.Steps.{Named}
use Rattle.rb_history.proofs.Kept.{named-at}
use Rattle.rb_history.proofs.Taking.{Taking, ring_with, state-held, takes-front, front-busy}
use Rattle.rb_chapter_ring.specs.Snapshot.{no_record, record_in}
use Rattle.rb_chapter_ring.specs.Chapters.{Chapter, closing_of}
use Rattle.rb_chapter_ring.specs.ChapterRing.{ChapterRing, whole_ring}
use Rattle.rb_chapter_ring.specs.ChapterRoom.{owed, HasSettledFront, with_entry}
use Rattle.rb_chapter_ring.specs.ChapterCalls.{TakesByChapter, HasBusyFrontByChapter, AllTakenByChapter, IsSameChapter}
use Rattle.rb_chapter_ring.specs.CountedFrom.{consumer_from}
use Rattle.rb_chapter_ring.specs.inner.SnapshotSteps.{with_take, events_by, skips_by}
use Rattle.rb_chapter_ring.proofs.Alike.{calls-alike}
use Rattle.rb_chapter_ring.proofs.Settling.{taken, takes-behind}
use Rattle.rb_chapter_ring.specs.OpenedRing.{capped_counts}
use Rattle.rb_chapter_ring.specs.inner.Ordinals.{taken_before}
use Rattle.rb_chapter_ring.specs.inner.RingBody.{ring_of, IsStored, IsRingOf}
use Rattle.rb_chapter_ring.proofs.CountSteps.{counting_take, counts-take, made-taken}
use Rattle.rb_chapter_ring.proofs.Keeps.{longer-legal, keeps}
use Rattle.rb_chapter_ring.proofs.Rows.{rows}

one-of-two : (a : RecordState) → a ≢ Reserved → events_by (state_status a) + skips_by (state_status a) ≡ 1
one-of-two Reserved free = absurd (free refl)
one-of-two (Submitted b) free = refl
one-of-two DiscardedState free = refl

waits-by : (a : RecordState) (st : Status) → st ≡ state_status a → ◌≡◌ {A = ℕ} (cond (is_submitted_state a) 1 0) (cond (is_same Waiting st) 1 0)
waits-by Reserved st e = rw e refl
waits-by (Submitted b) st e = rw e refl
waits-by DiscardedState st e = rw e refl

-- a take over the whole history is the take by the chapter
by-chapter : (earlier : List Entry) (c : Chapter) (stored : List StoredRecord) (counts : Counts) (g : IsRingOf earlier c stored counts) (new : ChapterRing) (t : Taken) → IsSameChapter (ring_of c stored) new
    → WholeTakes (whole_ring earlier (ring_of c stored)) (whole_ring earlier new) t → TakesByChapter (ring_of c stored) new t
by-chapter earlier c stored counts g new t same whole = ((calls-alike earlier (ring_of c stored) new g.kept.continues).takes t).1 (same, whole)

-- which result it is
exact-front : (earlier : List Entry) (c : Chapter) (stored : List StoredRecord) (counts : Counts) (g : IsRingOf earlier c stored counts) (new : ChapterRing) (t : Taken)
    → WholeTakes (whole_ring earlier (ring_of c stored)) (whole_ring earlier new) t → ((t ≡ BusyFront) ↔ HasBusyFrontByChapter (ring_of c stored)) × ((t ≡ Empty) ↔ AllTakenByChapter (ring_of c stored))
exact-front earlier c stored counts g new t whole =
    let r = c.opening.setup in
    let h = earlier ++ c.entries in
    let k = rows earlier c stored counts g in
    let alike = calls-alike earlier (ring_of c stored) new g.kept.continues in
    let busy = exact-busy r h stored (closing_of c).producer (closing_of c).consumer k (whole_ring earlier new) t whole in
    let empty = exact-empty r h stored (closing_of c).producer (closing_of c).consumer k (whole_ring earlier new) t whole in
    (((λ e. alike.busy_front.1 (busy.0 e)), (λ b. busy.1 (alike.busy_front.0 b))), ((λ e. alike.all_taken.1 (empty.0 e)), (λ b. empty.1 (alike.all_taken.0 b))))

-- the result, and which one it is
pub record TakesAs (old new : ChapterRing) (t : Taken) : Type 0 where
  pub takes : TakesByChapter old new t
  pub busy_front : (t ≡ BusyFront) ↔ HasBusyFrontByChapter old
  pub empty : (t ≡ Empty) ↔ AllTakenByChapter old

module _ (earlier : List Entry) (c : Chapter) (stored : List StoredRecord) (counts : Counts) (g : IsRingOf earlier c stored counts) where
  as-taken : (new : ChapterRing) (t : Taken) → IsSameChapter (ring_of c stored) new → WholeTakes (whole_ring earlier (ring_of c stored)) (whole_ring earlier new) t → TakesAs (ring_of c stored) new t
  as-taken new t same whole =
      let exact = exact-front earlier c stored counts g new t whole in
      record { takes = by-chapter earlier c stored counts g new t same whole; busy_front = exact.0; empty = exact.1 }

  pub takes-none : length stored ≡ 0 → TakesAs (ring_of c stored) (ring_of c stored) Empty
  takes-none none =
      as-taken (ring_of c stored) Empty refl
      (none-there c.opening.setup (earlier ++ c.entries) stored (closing_of c).producer (closing_of c).consumer (rows earlier c stored counts g) (whole_ring earlier (ring_of c stored)) none)

  pub takes-busy : (x : StoredRecord) → 0 < length stored → x ≡ get_or stored 0 x → x.state ≡ Reserved → TakesAs (ring_of c stored) (ring_of c stored) BusyFront
  takes-busy x some is held =
      as-taken (ring_of c stored) BusyFront refl
      (front-busy c.opening.setup (earlier ++ c.entries) stored x (closing_of c).producer (closing_of c).consumer some is held (rows earlier c stored counts g))

  module _ (t : StoredRecord) (after : List StoredRecord) (split : stored ≡ t ∷ after) (free : t.state ≢ Reserved) where
    same-front : record_in (closing_of c) 0 ≡ shown_record t
    same-front = ap (λ ss. get_or ss 0 no_record) (sym g.stands.shown) ∙ ap (λ ss. get_or (map shown_record ss) 0 no_record) split

    pub is-settled : HasSettledFront c
    is-settled = (
      subst (λ (ss : List Shown). 0 < length ss) (ap (map shown_record) (sym split) ∙ g.stands.shown) (omega arith),
      λ busy. free (state-held t.state (ap (λ (s : Shown). s.status) (sym same-front) ∙ busy)),
    )

    abbrev pub entry : Entry
    entry = Take (consumer_from c.opening c.entries)

    abbrev pub next : Chapter
    next = with_entry c entry

    pub take-closing : with_take (closing_of c) ≡ closing_of next
    take-closing = (taken earlier c g.kept (closing_of c) refl is-settled (with_take (closing_of c)) (owed c) next refl refl refl).closing_is

    pub one-more : (with_take (closing_of c)).consumed + (with_take (closing_of c)).skipped ≡ taken_before (closing_of c) + 1
    one-more = let status : (record_in (closing_of c) 0).status ≡ state_status t.state = ap (λ (x : Shown). x.status) same-front in omega (arith, ap events_by status, ap skips_by status, one-of-two t.state free)

    front-pos : t.pos ≡ (closing_of c).consumer
    front-pos =
        let row : InRow (closing_of c).consumer (map shown_record (t ∷ after)) (closing_of c).producer = subst (λ ss. InRow (closing_of c).consumer (map shown_record ss) (closing_of c).producer) split (rows earlier c stored counts g).in_row in
        row.0

    -- the take, in terms of the whole history
    taking : Taking (earlier ++ c.entries) stored after t (closing_of c).consumer ((earlier ++ c.entries) ++ entry ∷ []) ((closing_of c).consumer + span t.len)
    taking = record { split = split; history_is = ap (λ p. (earlier ++ c.entries) ++ Take p ∷ []) (sym front-pos); consumer_is = refl; free = free }

    status-there : status_by (is_submitted_at (earlier ++ c.entries) (closing_of c).consumer) (is_discarded_at (earlier ++ c.entries) (closing_of c).consumer) false ≡ state_status t.state
    status-there =
        let h = earlier ++ c.entries in
        let k = subst (λ ss. HistoryFacts c.opening.setup h (map shown_record ss) (closing_of c).producer (closing_of c).consumer) split (rows earlier c stored counts g) in
        let n : Named h h (shown_record t) = named-at c.opening.setup h (map shown_record (t ∷ after)) (closing_of c).producer (closing_of c).consumer 0 (shown_record t) k (omega arith) in
        subst (λ p. status_by (is_submitted_at h p) (is_discarded_at h p) false ≡ state_status t.state) front-pos n.status_is

    counted-take : counting_take (is_submitted_state t.state) counts ≡ capped_counts (counts_of ((earlier ++ c.entries) ++ entry ∷ []))
    counted-take =
        let runs = taken earlier c g.kept (closing_of c) refl is-settled (with_take (closing_of c)) (owed c) next refl refl refl in
        counts-take c.opening.setup (earlier ++ c.entries) (closing_of c).consumer counts (is_submitted_state t.state) (longer-legal earlier c stored counts g entry runs.kept) (waits-by t.state _ status-there) g.counted

    pub take-keeps : IsRingOf earlier next after (counting_take (is_submitted_state t.state) counts)
    take-keeps =
        let o = closing_of c in
        let now = with_take o in
        let runs = taken earlier c g.kept o refl is-settled now (owed c) next refl refl refl in
        let s = g.stands in
        let len : (record_in o 0).len ≡ t.len = ap (λ (x : Shown). x.len) same-front in
        let one : now.consumed + now.skipped ≡ taken_before o + 1 = one-more in
        let stands : IsStored c.opening.setup.size now after = record {
          limit = s.limit;
          space = omega (arith, s.space);
          aligned = omega (arith, s.aligned);
          behind = takes-behind o s.behind;
          shown = ap (drop 1) (ap (map shown_record) (sym split) ∙ s.shown);
        } in
        keeps earlier c stored counts g entry now (owed c - 1) after (counting_take (is_submitted_state t.state) counts) runs stands (All-tail IsSized t after (subst (All IsSized) split g.sized)) counted-take
        (omega (arith, made-taken (is_submitted_state t.state) counts, g.granted, one, ap length split))

    pub takes-it : TakesAs (ring_of c stored) (ring_of next after) (taken_of t t.state)
    takes-it =
        let r = c.opening.setup in
        let h = earlier ++ c.entries in
        let whole = takes-front r h stored after t (closing_of c).producer (closing_of c).consumer ((earlier ++ c.entries) ++ entry ∷ []) ((closing_of c).consumer + span t.len) taking g.sized (rows earlier c stored counts g) in
        as-taken (ring_of next after) (taken_of t t.state) refl (settled-whole t.state whole)
      where
        -- only the history and the contents matter
        settled-whole : (a : RecordState) → WholeTakes (whole_ring earlier (ring_of c stored)) (ring_with c.opening.setup ((earlier ++ c.entries) ++ entry ∷ []) after (closing_of c).producer ((closing_of c).consumer + span t.len)) (taken_of t a)
            → WholeTakes (whole_ring earlier (ring_of c stored)) (whole_ring earlier (ring_of next after)) (taken_of t a)
        settled-whole Reserved w = record { front = w.front; granted_is = w.granted_is; discarded = w.discarded; logged = record { setup_same = refl; history_is = sym (append_assoc earlier c.entries (entry ∷ [])) ∙ w.logged.history_is }; contents_same = w.contents_same }
        settled-whole (Submitted b) w = record { front = w.front; granted_is = w.granted_is; waiting = w.waiting; bytes_are = w.bytes_are; logged = record { setup_same = refl; history_is = sym (append_assoc earlier c.entries (entry ∷ [])) ∙ w.logged.history_is }; contents_are = w.contents_are }
        settled-whole DiscardedState w = record { front = w.front; granted_is = w.granted_is; discarded = w.discarded; logged = record { setup_same = refl; history_is = sym (append_assoc earlier c.entries (entry ∷ [])) ∙ w.logged.history_is }; contents_same = w.contents_same }
