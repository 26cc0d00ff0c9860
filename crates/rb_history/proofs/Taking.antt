-- The record at the front is taken.
use Rattle.std.proofs.Common.{◌≡◌, ◌≢◌, ℕ, ◌+◌, ◌<◌, ◌≤◌, Bool, true, false, List, [], ◌∷◌, ◌++◌, map, length, get_or, refl, sym, ap, ◌∙◌, arith, subst, eqb}
use Rattle.std.specs.List.{sum_by, Contains, All}
use Rattle.std.proofs.lemmas.List.Elements.{All-head, All-tail}
use Rattle.std.proofs.lemmas.Bool.{eqb-false, false≢true}
use Rattle.rb_history.specs.declared.entries.Entry.{Entry}
use Rattle.rb_history.specs.declared.entries.Entry.TheVariants.{Res, Take}
use Rattle.rb_history.specs.declared.stored_records.StoredRecord.{StoredRecord}
use Rattle.rb_history.specs.declared.stored_records.RecordState.{RecordState}
use Rattle.rb_history.specs.declared.stored_records.RecordState.TheVariants.{Reserved, Submitted, Discarded as DiscardedState}
use Rattle.rb_history.specs.Span.{span}
use Rattle.rb_history.specs.History.{status_by, status_of, is_granted_at, is_submitted_at, is_discarded_at, consumer_of}
use Rattle.rb_history.specs.History.Status.{Busy}
use Rattle.rb_history.specs.RoomRule.{Setup}
use Rattle.rb_history.specs.RingModel.{Ring}
use Rattle.rb_history.specs.inner.RecordRows.{InRow, HistoryFacts}
use Rattle.rb_history.specs.StoredRecords.{shown_record, state_status, contents_of, entries_owed, SizedAs, IsSized}
use Rattle.rb_history.specs.Calls.{Takes, FindsBusyFront}
use Rattle.rb_history.specs.StoredRecords.{taken_of, is_reserved_state}
use Rattle.rb_history.proofs.Lists.{sum_by-cons}
use Rattle.rb_history.proofs.Row.{InRow-le}
use Rattle.rb_history.proofs.Steps.{Named}
use Rattle.rb_history.proofs.Kept.{named-at, kept-take}
use Rattle.rb_history.proofs.Contents.{contents-front, contents-at-front}

pub state-held : (a : RecordState) → state_status a ≡ Busy → a ≡ Reserved
state-held Reserved e = refl
state-held (Submitted s) e = cc
state-held DiscardedState e = cc

pub held-state : (a : RecordState) (b : Bool) → b ≡ true → b ≡ is_reserved_state a → a ≡ Reserved
held-state Reserved b t e = refl
held-state (Submitted s) b t e = cc
held-state DiscardedState b t e = cc

abbrev pub ring_with : Setup → List Entry → List StoredRecord → ℕ → ℕ → Ring
ring_with r h stored p c = record { setup = r; history = h; contents = contents_of stored; shown = map shown_record stored; producer = p; consumer = c }

module _ (r : Setup) (h : List Entry) (after : List StoredRecord) (p c : ℕ) where
  pub front-status : (t : StoredRecord) → HistoryFacts r h (map shown_record (t ∷ after)) p c → status_of h t.pos ≡ state_status t.state
  front-status t k =
      let n : Named h h (shown_record t) = named-at r h (map shown_record (t ∷ after)) p c 0 (shown_record t) k (omega arith) in
      ap (status_by (is_submitted_at h t.pos) (is_discarded_at h t.pos)) n.taken_is ∙ n.status_is

  pub front-stands : (t : StoredRecord) → HistoryFacts r h (map shown_record (t ∷ after)) p c → Contains h (Res t.worker t.serial t.len t.pos)
  front-stands t k =
      let n : Named h h (shown_record t) = named-at r h (map shown_record (t ∷ after)) p c 0 (shown_record t) k (omega arith) in
      n.stands

  pub kept-front : (t : StoredRecord) → HistoryFacts r h (map shown_record (t ∷ after)) p c → t.state ≢ Reserved → HistoryFacts r (h ++ Take t.pos ∷ []) (map shown_record after) p (c + span t.len)
  kept-front t k free =
      let at : c ≡ t.pos = sym k.in_row.0 in
      subst (λ x. HistoryFacts r (h ++ Take x ∷ []) (map shown_record after) p (c + span t.len)) at
      (kept-take r h (shown_record t) (map shown_record after) p c k (λ b. free (state-held t.state b)))

  takes-at : (pos len worker serial : ℕ) (state : RecordState) → state ≢ Reserved → SizedAs len state →
      HistoryFacts r h (map shown_record ((record { pos = pos; len = len; worker = worker; serial = serial; state = state }) ∷ after)) p c →
      Takes (ring_with r h (record { pos = pos; len = len; worker = worker; serial = serial; state = state } ∷ after) p c)
      (ring_with r (h ++ Take pos ∷ []) after p (c + span len))
      (taken_of (record { pos = pos; len = len; worker = worker; serial = serial; state = state }) state)
  takes-at pos len worker serial Reserved free sized k = absurd (free refl)
  takes-at pos len worker serial (Submitted b) free sized k =
      let t : StoredRecord = record { pos = pos; len = len; worker = worker; serial = serial; state = Submitted b } in
      record {
        front = k.in_row.0 ∙ k.consumer_is;
        granted_is = rw sized (front-stands t k);
        waiting = front-status t k;
        bytes_are = contents-at-front pos t after b refl;
        logged = record { setup_same = refl; history_is = refl };
        contents_are = contents-front c t after p b k.in_row refl;
      }
  takes-at pos len worker serial DiscardedState free sized k =
      let t : StoredRecord = record { pos = pos; len = len; worker = worker; serial = serial; state = DiscardedState } in
      record {
        front = k.in_row.0 ∙ k.consumer_is;
        granted_is = (worker, (serial, front-stands t k));
        discarded = front-status t k;
        logged = record { setup_same = refl; history_is = refl };
        contents_same = refl;
      }

-- the fields after the call
pub record Taking (h : List Entry) (stored after : List StoredRecord) (t : StoredRecord) (c : ℕ) (h' : List Entry) (c' : ℕ) : Type 0 where
  pub split : stored ≡ t ∷ after
  pub history_is : h' ≡ h ++ Take t.pos ∷ []
  pub consumer_is : c' ≡ c + span t.len
  pub free : t.state ≢ Reserved

module _ (r : Setup) (h : List Entry) (stored after : List StoredRecord) (t : StoredRecord) (p c : ℕ) (h' : List Entry) (c' : ℕ) (a : Taking h stored after t c h' c') where
  pub takes-front : All IsSized stored → HistoryFacts r h (map shown_record stored) p c → Takes (ring_with r h stored p c) (ring_with r h' after p c') (taken_of t t.state)
  takes-front sized k =
      rw (a.split, a.history_is, a.consumer_is)
      (takes-at r h after p c t.pos t.len t.worker t.serial t.state a.free (All-head IsSized t after (rw a.split at sized)) (rw a.split at k))

  pub keeps-front : HistoryFacts r h (map shown_record stored) p c → HistoryFacts r h' (map shown_record after) p c'
  keeps-front k = rw (a.history_is, a.consumer_is) (kept-front r h after p c t (rw a.split at k) a.free)

  pub low-front : HistoryFacts r h (map shown_record stored) p c → c + span t.len ≤ p
  low-front k = let row : InRow c (map shown_record (t ∷ after)) p = rw a.split at k.in_row in InRow-le (c + span t.len) (map shown_record after) p row.1

  pub sized-front : All IsSized stored → All IsSized after
  sized-front sized = All-tail IsSized t after (rw a.split at sized)

  -- a record that is no longer busy owed only its take
  pub owed-front : sum_by (λ s. entries_owed (state_status s.state)) after + 1 ≡ sum_by (λ s. entries_owed (state_status s.state)) stored
  owed-front = rw a.split (omega (arith, sum_by-cons (λ s. entries_owed (state_status s.state)) t after, one t.state a.free))
    where
      one : (x : RecordState) → x ≢ Reserved → entries_owed (state_status x) ≡ 1
      one Reserved free = absurd (free refl)
      one (Submitted b) free = refl
      one DiscardedState free = refl

pub not-empty : (n m : ℕ) (b : Bool) → b ≡ false → b ≡ eqb n 0 → m ≡ n → 0 < m
not-empty n m b f e is = let no : n ≡ 0 → ⊥ = eqb-false n 0 (sym e ∙ f) in omega arith

-- the front is busy
pub front-busy : (r : Setup) (h : List Entry) (stored : List StoredRecord) (t : StoredRecord) (p c : ℕ) → 0 < length stored → t ≡ get_or stored 0 t → t.state ≡ Reserved →
    HistoryFacts r h (map shown_record stored) p c → FindsBusyFront (ring_with r h stored p c) (ring_with r h stored p c)
front-busy r h [] t p c l is held k = absurd (omega arith)
front-busy r h (x ∷ stored) t p c l is held k =
    let at : x.pos ≡ consumer_of r.start h = k.in_row.0 ∙ k.consumer_is in
    let n : Named h h (shown_record x) = named-at r h (map shown_record (x ∷ stored)) p c 0 (shown_record x) k (omega arith) in
    record {
      front = record {
        granted_is = subst (λ q. is_granted_at h q ≡ true) at n.granted_is;
        busy = subst (λ q. status_of h q ≡ Busy) at (front-status r h stored p c x k ∙ ap state_status (ap (λ s. s.state) (sym is) ∙ held));
      };
      same = refl;
    }

same-front : (stored after : List StoredRecord) (x t : StoredRecord) → stored ≡ t ∷ after → x ≡ get_or stored 0 x → x ≡ t
same-front [] after x t split is = cc
same-front (y ∷ stored) after x t split is = let first : y ≡ t = cc in is ∙ first

pub takes-free : (stored after : List StoredRecord) (x t : StoredRecord) (h h' : List Entry) (c c' : ℕ) (b : Bool) → stored ≡ t ∷ after → x ≡ get_or stored 0 x →
    b ≡ false → (x.state ≡ Reserved → b ≡ true) → h' ≡ h ++ Take t.pos ∷ [] → c' ≡ c + span t.len → Taking h stored after t c h' c'
takes-free stored after x t h h' c c' b split is f held logged moved = record {
  split = split;
  history_is = logged;
  consumer_is = moved;
  free = λ e. false≢true (sym f ∙ held (ap (λ s. s.state) (same-front stored after x t split is) ∙ e));
}
