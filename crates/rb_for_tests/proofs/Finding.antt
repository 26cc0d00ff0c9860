-- The index of a reservation's record in the list.
use Rattle.std.proofs.Common.{◌≡◌, ℕ, ◌<◌, Bool, true, false, List, Option, Some, None, map, length, get_or, sym, ap, ◌∙◌, inl, inr, arith}
use Rattle.std.specs.List.{position, position_or_len}
use Rattle.std.specs.Prelude.{IfSome, IfNone, OnSome}
use Rattle.std.proofs.lemmas.Bool.{cases_lt, lt-ltb, true≢false}
use Rattle.std.proofs.lemmas.List.Quantifiers.{position-Some}
use Rattle.std.proofs.lemmas.List.Sums.{fails_before_first}
use Rattle.rb_history.specs.declared.entries.Entry.{Entry}
use Rattle.rb_history.specs.declared.stored_records.StoredRecord.{StoredRecord}
use Rattle.rb_history.specs.declared.stored_records.RecordState.TheVariants.{Reserved}
use Rattle.rb_history.specs.ReservationModel.{Granted}
use Rattle.rb_history.specs.RoomRule.{Setup}
use Rattle.rb_history.specs.inner.RecordRows.{HistoryFacts, IsBusyAt}
use Rattle.rb_history.specs.StoredRecords.{shown_record, is_reserved_by}
use Rattle.rb_history.specs.Calls.{IsBusy}
use Rattle.rb_history.proofs.Row.{get_or-default}
use Rattle.rb_history.proofs.Finding.{found-at, found-busy, busy-there}

position-None : {X : Type 0} (p : X → Bool) (xs : List X) (k : ℕ) (d : X) → position p xs ≡ None → k < length xs → p (get_or xs k d) ≡ false
position-None p xs k d none l = elim (cases_lt (position_or_len p xs) (length xs)) [
  | inl lt ↦ let some : position p xs ≡ Some (position_or_len p xs) = rw (lt-ltb (position_or_len p xs) (length xs) lt) in cc
  | inr le ↦ fails_before_first p xs k d (omega arith)
]

blank : StoredRecord
blank = record { pos = 0; len = 0; worker = 0; serial = 0; state = Reserved }

module _ (r : Setup) (h : List Entry) (stored : List StoredRecord) (p c : ℕ) (k : HistoryFacts r h (map shown_record stored) p c) (v : Granted) where
  here : ℕ → StoredRecord
  here i = get_or stored i blank

  same : (i : ℕ) → position (is_reserved_by v) stored ≡ Some i → here i ≡ get_or stored i (here i)
  unfolding here
  same i is = get_or-default stored i blank (get_or stored i blank) (position-Some (is_reserved_by v) stored i blank is).0

  found : (i : ℕ) → position (is_reserved_by v) stored ≡ Some i → is_reserved_by v (here i) ≡ true
  unfolding here
  found i is = (position-Some (is_reserved_by v) stored i blank is).1

  not-found : position (is_reserved_by v) stored ≡ None → ¬ IsBusy h v.pos v.worker v.serial (length v.bytes)
  not-found none b =
      let there = busy-there r h stored p c k v b in
      let i = there.1.0.0 in
      let off : is_reserved_by v (get_or stored i there.0) ≡ false = position-None (is_reserved_by v) stored i there.0 none there.1.0.1 in
      true≢false (sym there.1.1 ∙ ap (is_reserved_by v) (sym there.1.0.2) ∙ off)

  pub finds-at : (o : Option ℕ) → o ≡ position (is_reserved_by v) stored → IfSome o (λ i. IsBusyAt (map shown_record stored) i v.pos (length v.bytes))
  finds-at None e = tt
  finds-at (Some i) e = found-at r h stored p c k v i (here i) (position-Some (is_reserved_by v) stored i blank (sym e)).0 (same i (sym e)) (found i (sym e))

  pub finds-busy : (o : Option ℕ) → o ≡ position (is_reserved_by v) stored → OnSome o (IsBusy h v.pos v.worker v.serial (length v.bytes))
  finds-busy None e = tt
  finds-busy (Some i) e = found-busy r h stored p c k v i (here i) (position-Some (is_reserved_by v) stored i blank (sym e)).0 (same i (sym e)) (found i (sym e))

  pub finds-none : (o : Option ℕ) → o ≡ position (is_reserved_by v) stored → IfNone o (¬ IsBusy h v.pos v.worker v.serial (length v.bytes))
  finds-none None e = not-found (sym e)
  finds-none (Some i) e = tt
