-- The search for the record of a reservation.
use Rattle.std.proofs.Common.{◌≡◌, ℕ, ◌<◌, true, false, List, map, length, get_or, refl, sym, ap, ◌∙◌, arith, subst}
use Rattle.std.specs.List.{Contains}
use Rattle.std.proofs.lemmas.Bool.{and_parts, eqb-true, eq-eqb}
use Rattle.rb_history.specs.declared.entries.Entry.{Entry}
use Rattle.rb_history.specs.declared.stored_records.StoredRecord.{StoredRecord}
use Rattle.rb_history.specs.declared.stored_records.RecordState.TheVariants.{Reserved}
use Rattle.rb_history.specs.History.{Shown, status_by, status_of, is_submitted_at, is_discarded_at}
use Rattle.rb_history.specs.History.Status.{Busy}
use Rattle.rb_history.specs.ReservationModel.{Granted}
use Rattle.rb_history.specs.RoomRule.{Setup}
use Rattle.rb_history.specs.inner.RecordRows.{HistoryFacts}
use Rattle.rb_history.specs.StoredRecords.{shown_record, state_status}
use Rattle.rb_history.specs.StoredRecords.{is_reserved_by}
use Rattle.rb_history.specs.Calls.{IsBusy}
use Rattle.rb_history.specs.inner.RecordRows.{IsBusyAt}
use Rattle.rb_history.proofs.Steps.{Named}
use Rattle.rb_history.proofs.Row.{get_or-default}
use Rattle.rb_history.proofs.Taking.{held-state, state-held}
use Rattle.rb_history.proofs.Contents.{get-map, length-map}
use Rattle.rb_history.proofs.Standing.{all-named, busy-untaken, in-row, head-status}

-- a slot that is busy and has the four numbers
record HasNumbers (v : Granted) (s : StoredRecord) : Type 0 where
  held : s.state ≡ Reserved
  pos_is : s.pos ≡ v.pos
  worker_is : s.worker ≡ v.worker
  serial_is : s.serial ≡ v.serial
  len_is : s.len ≡ length v.bytes

reserved : (v : Granted) (s : StoredRecord) → is_reserved_by v s ≡ true → HasNumbers v s
reserved v s is =
    let a = and_parts _ _ is in
    let b = and_parts _ _ a.0 in
    let d = and_parts _ _ b.0 in
    let e = and_parts _ _ d.0 in
    record {
      held = held-state s.state _ e.0 refl;
      pos_is = eqb-true _ _ e.1;
      worker_is = eqb-true _ _ d.1;
      serial_is = eqb-true _ _ b.1;
      len_is = eqb-true _ _ a.1;
    }

is-reserved : (v : Granted) (s : StoredRecord) → HasNumbers v s → is_reserved_by v s ≡ true
is-reserved v s r = rw (r.held, eq-eqb _ _ r.pos_is, eq-eqb _ _ r.worker_is, eq-eqb _ _ r.serial_is, eq-eqb _ _ r.len_is) refl

module _ (r : Setup) (h : List Entry) (stored : List StoredRecord) (p c : ℕ) (k : HistoryFacts r h (map shown_record stored) p c) (v : Granted) where
  pub found-at : (i : ℕ) (s : StoredRecord) → i < length stored → s ≡ get_or stored i s → is_reserved_by v s ≡ true → IsBusyAt (map shown_record stored) i v.pos (length v.bytes)
  found-at i s low at on =
      let z = reserved v s on in
      let inside : i < length (map shown_record stored) = omega (arith, low, length-map shown_record stored) in
      record {
        within = inside;
        here = λ d.
            let same : get_or (map shown_record stored) i d ≡ shown_record s = get_or-default (map shown_record stored) i d (shown_record s) inside ∙ get-map shown_record stored i s ∙ ap shown_record (sym at) in
            (ap (λ x. x.pos) same ∙ z.pos_is, ap (λ x. x.len) same ∙ z.len_is, ap (λ x. x.status) same ∙ ap state_status z.held);
      }

  pub found-busy : (i : ℕ) (s : StoredRecord) → i < length stored → s ≡ get_or stored i s → is_reserved_by v s ≡ true → IsBusy h v.pos v.worker v.serial (length v.bytes)
  found-busy i s low at on =
      let z = reserved v s on in
      let inside : i < length (map shown_record stored) = omega (arith, low, length-map shown_record stored) in
      let same : get_or (map shown_record stored) i (shown_record s) ≡ shown_record s = get-map shown_record stored i s ∙ ap shown_record (sym at) in
      let n : Named h h (shown_record s) = subst (Named h h) same (all-named r h stored p c k i (shown_record s) inside) in
      record {
        granted_is = rw (z.pos_is, z.worker_is, z.serial_is, z.len_is) at n.stands;
        busy = subst (λ x. status_of h x ≡ Busy) z.pos_is (head-status h (shown_record s) n ∙ ap state_status z.held);
      }

  -- a busy record with these numbers is in the list
  pub busy-there : IsBusy h v.pos v.worker v.serial (length v.bytes) → (s : StoredRecord) × (Contains stored s × (is_reserved_by v s ≡ true) × (s.pos ≡ v.pos))
  busy-there b =
      let t = busy-untaken r h stored p c k v.pos b.busy in
      let there = in-row r h stored p c k v.worker v.serial (length v.bytes) v.pos t b.granted_is in
      let st : status_by (is_submitted_at h v.pos) (is_discarded_at h v.pos) false ≡ Busy = ap (status_by (is_submitted_at h v.pos) (is_discarded_at h v.pos)) (sym t) ∙ b.busy in
      let x : Shown = record { pos = v.pos; len = length v.bytes; worker = v.worker; serial = v.serial; status = status_by (is_submitted_at h v.pos) (is_discarded_at h v.pos) false } in
      let d : StoredRecord = record { pos = 0; len = 0; worker = 0; serial = 0; state = Reserved } in
      let i = there.0 in
      let s = get_or stored i d in
      let inside : i < length stored = omega (arith, there.1, length-map shown_record stored) in
      let same : shown_record s ≡ x = sym (get-map shown_record stored i d) ∙ get_or-default (map shown_record stored) i (shown_record d) x there.1 ∙ there.2 in
      let found : is_reserved_by v s ≡ true = is-reserved v s (record {
        held = state-held s.state (ap (λ y. y.status) same ∙ st);
        pos_is = ap (λ y. y.pos) same;
        worker_is = ap (λ y. y.worker) same;
        serial_is = ap (λ y. y.serial) same;
        len_is = ap (λ y. y.len) same;
      }) in
      (s, ((i, inside, get_or-default stored i s d inside), found, ap (λ y. y.pos) same))
