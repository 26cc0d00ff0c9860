-- A record of the list is granted, submitted or discarded.
use Rattle.std.proofs.Common.{◌≡◌, ℕ, zero, suc, ◌+◌, ◌*◌, ◌<◌, ◌≤◌, Bool, false, List, [], ◌∷◌, ◌++◌, Some, None, map, length, get_or, set, refl, sym, ap, ◌∙◌, arith, subst}
use Rattle.std.specs.List.{sum_by}
use Rattle.std.specs.FinMap.{insert}
use Rattle.std.proofs.lemmas.Bool.{true≢false}
use Rattle.std.specs.Prelude.{Result, Ok, Err, is_err, OnOk}
use Rattle.std.proofs.lemmas.List.{map-append}
use Rattle.rb_history.specs.declared.entries.Entry.{Entry}
use Rattle.rb_history.specs.declared.entries.Entry.TheVariants.{Res, Sub, Dis}
use Rattle.rb_history.specs.declared.stored_records.StoredRecord.{StoredRecord}
use Rattle.rb_history.specs.declared.stored_records.RecordState.{RecordState}
use Rattle.rb_history.specs.declared.stored_records.RecordState.TheVariants.{Reserved, Submitted, Discarded as DiscardedState}
use Rattle.rb_history.specs.Span.{span}
use Rattle.rb_history.specs.History.{Shown, grants}
use Rattle.rb_history.specs.History.Status.{Busy, Waiting, Discarded}
use Rattle.rb_history.specs.RoomRule.{Setup, HasRoomFor}
use Rattle.rb_history.specs.inner.RecordRows.{HistoryFacts}
use Rattle.rb_history.specs.StoredRecords.{shown_record, state_status, record_bytes, contents_of, entries_owed}
use Rattle.rb_history.specs.inner.RecordRows.{IsBusyAt}
use Rattle.rb_history.proofs.Lists.{sum_by-cons, sum_by-snoc}
use Rattle.rb_history.proofs.Row.{get_or-default}
use Rattle.rb_history.proofs.Taking.{state-held}
use Rattle.rb_history.proofs.Kept.{kept-res, kept-sub, kept-dis}
use Rattle.rb_history.proofs.Contents.{contents-set, contents-unset, get-map, length-map}

-- the number of entries that the records of a list will still log
abbrev pub owed_by : List StoredRecord → ℕ
owed_by stored = sum_by (λ s. entries_owed (state_status s.state)) stored

owes : (a : RecordState) → entries_owed (state_status a) ≤ 2
owes Reserved = omega arith
owes (Submitted b) = omega arith
owes DiscardedState = omega arith

pub owed-most : (stored : List StoredRecord) → owed_by stored ≤ 2 * length stored
owed-most [] = omega arith
owed-most (t ∷ stored) = omega (arith, sum_by-cons (λ (s : StoredRecord). entries_owed (state_status s.state)) t stored, owes t.state, owed-most stored)

pub owed-push : (stored : List StoredRecord) (t : StoredRecord) → t.state ≡ Reserved → owed_by (stored ++ t ∷ []) ≡ owed_by stored + 2
owed-push stored t e = sum_by-snoc (λ (s : StoredRecord). entries_owed (state_status s.state)) stored t ∙ ap (λ a. owed_by stored + entries_owed (state_status a)) e

-- a record that is no longer busy owes one entry less
pub owed-set : (stored : List StoredRecord) (i : ℕ) (t y : StoredRecord) → i < length stored → t ≡ get_or stored i t → t.state ≡ Reserved → entries_owed (state_status y.state) ≡ 1 → owed_by (set stored i y) + 1 ≡ owed_by stored
owed-set [] i t y l is e f = absurd (omega arith)
owed-set (x ∷ stored) zero t y l is e f =
    let two : entries_owed (state_status x.state) ≡ 2 = ap (λ s. entries_owed (state_status s.state)) (sym is) ∙ ap (λ a. entries_owed (state_status a)) e in
    omega (arith, two, f, sum_by-cons (λ (s : StoredRecord). entries_owed (state_status s.state)) x stored, sum_by-cons (λ (s : StoredRecord). entries_owed (state_status s.state)) y stored)
owed-set (x ∷ stored) (suc i) t y l is e f =
    omega (arith, owed-set stored i t y (omega arith) is e f, sum_by-cons (λ (s : StoredRecord). entries_owed (state_status s.state)) x stored, sum_by-cons (λ (s : StoredRecord). entries_owed (state_status s.state)) x (set stored i y))

map-set : (f : StoredRecord → Shown) (stored : List StoredRecord) (i : ℕ) (y : StoredRecord) → set (map f stored) i (f y) ≡ map f (set stored i y)
map-set f [] i y = refl
map-set f (t ∷ stored) zero y = refl
map-set f (t ∷ stored) (suc i) y = ap (λ l. f t ∷ l) (map-set f stored i y)

pub kept-grant : (r : Setup) (h : List Entry) (stored : List StoredRecord) (p c w s n : ℕ) → HistoryFacts r h (map shown_record stored) p c → w < r.workers → s ≡ grants w h → HasRoomFor r h n →
    HistoryFacts r (h ++ Res w s n p ∷ []) (map shown_record (stored ++ record { pos = p; len = n; worker = w; serial = s; state = Reserved } ∷ [])) (p + span n) c
kept-grant r h stored p c w s n k in_workers serial room =
    rw (map-append shown_record stored (record { pos = p; len = n; worker = w; serial = s; state = Reserved } ∷ []))
    (kept-res r h (map shown_record stored) p c w s n k in_workers serial room)

-- the record at an index is the busy one at pos
pub record BusyRecord (stored : List StoredRecord) (i : ℕ) (t : StoredRecord) (pos n : ℕ) : Type 0 where
  pub within : i < length stored
  pub there : t ≡ get_or stored i t
  pub at : t.pos ≡ pos
  pub sized : t.len ≡ n
  pub held : t.state ≡ Reserved

pub busy-record : (stored : List StoredRecord) (i : ℕ) (t : StoredRecord) (pos n : ℕ) → IsBusyAt (map shown_record stored) i pos n → t ≡ get_or stored i t → BusyRecord stored i t pos n
busy-record stored i t pos n b is =
    let here = b.here (shown_record t) in
    let same : get_or (map shown_record stored) i (shown_record t) ≡ shown_record t = get-map shown_record stored i t ∙ ap shown_record (sym is) in
    record {
      within = omega (arith, b.within, length-map shown_record stored);
      there = is;
      at = ap (λ x. x.pos) (sym same) ∙ here.0;
      sized = ap (λ x. x.len) (sym same) ∙ here.1;
      held = state-held t.state (ap (λ x. x.status) (sym same) ∙ here.2);
    }

module _ (r : Setup) (h : List Entry) (stored : List StoredRecord) (i : ℕ) (t : StoredRecord) (pos n p c : ℕ) (b : BusyRecord stored i t pos n) (k : HistoryFacts r h (map shown_record stored) p c) where
  seen : get_or (map shown_record stored) i (shown_record t) ≡ shown_record t
  seen = get-map shown_record stored i t ∙ ap shown_record (sym b.there)

  inside : i < length (map shown_record stored)
  inside = omega (arith, b.within, length-map shown_record stored)

  busy : (get_or (map shown_record stored) i (shown_record t)).status ≡ Busy
  busy = ap (λ x. x.status) seen ∙ ap state_status b.held

  pub kept-send : (bytes : List ℕ) → HistoryFacts r (h ++ Sub pos ∷ []) (map shown_record (set stored i (record t { state = Submitted bytes }))) p c
  kept-send bytes =
      let step = kept-sub r h (map shown_record stored) p c i (shown_record t) k inside busy in
      let same = subst (λ x. HistoryFacts r (h ++ Sub x.pos ∷ []) (set (map shown_record stored) i (record x { status = Waiting })) p c) seen step in
      let listed = subst (λ ss. HistoryFacts r (h ++ Sub t.pos ∷ []) ss p c) (map-set shown_record stored i (record t { state = Submitted bytes })) same in
      subst (λ q. HistoryFacts r (h ++ Sub q ∷ []) (map shown_record (set stored i (record t { state = Submitted bytes }))) p c) b.at listed

  pub kept-drop : HistoryFacts r (h ++ Dis pos ∷ []) (map shown_record (set stored i (record t { state = DiscardedState }))) p c
  kept-drop =
      let step = kept-dis r h (map shown_record stored) p c i (shown_record t) k inside busy in
      let same = subst (λ x. HistoryFacts r (h ++ Dis x.pos ∷ []) (set (map shown_record stored) i (record x { status = Discarded })) p c) seen step in
      let listed = subst (λ ss. HistoryFacts r (h ++ Dis t.pos ∷ []) ss p c) (map-set shown_record stored i (record t { state = DiscardedState })) same in
      subst (λ q. HistoryFacts r (h ++ Dis q ∷ []) (map shown_record (set stored i (record t { state = DiscardedState }))) p c) b.at listed

  found : (y : StoredRecord) → get_or stored i y ≡ t
  found y = get_or-default stored i y t b.within ∙ sym b.there

  old-bytes : (y : StoredRecord) → record_bytes (get_or stored i y) ≡ None
  old-bytes y = rw (found y, b.held) refl

  pub contents-send : (bytes : List ℕ) → contents_of (set stored i (record t { state = Submitted bytes })) ≡ insert (contents_of stored) pos bytes
  contents-send bytes =
      let y : StoredRecord = record t { state = Submitted bytes } in
      contents-set c stored p i y bytes k.in_row b.within (ap (λ (s : StoredRecord). Some (s.pos, bytes)) (sym (found y))) (old-bytes y)
      ∙ ap (λ q. insert (contents_of stored) q bytes) (ap (λ s. s.pos) (found y) ∙ b.at)

  pub contents-drop : contents_of (set stored i (record t { state = DiscardedState })) ≡ contents_of stored
  contents-drop = contents-unset stored i (record t { state = DiscardedState }) b.within refl (old-bytes (record t { state = DiscardedState }))

-- what a call ensures if it did not fail
pub on-ok : {T E : Type 0} (r : Result T E) (P : Type 0) (b : Bool) → b ≡ false → b ≡ is_err r → OnOk r P → P
on-ok (Ok x) P b f e p = p
on-ok (Err x) P b f e p = absurd (true≢false (sym e ∙ f))

-- if there is a record, it owes an entry
pub owed-some : (stored : List StoredRecord) → 0 < length stored → 1 ≤ owed_by stored
owed-some [] l = absurd (omega arith)
owed-some (t ∷ stored) l = omega (arith, sum_by-cons (λ (s : StoredRecord). entries_owed (state_status s.state)) t stored, some t.state)
  where
    some : (a : RecordState) → 1 ≤ entries_owed (state_status a)
    some Reserved = omega arith
    some (Submitted b) = omega arith
    some DiscardedState = omega arith
