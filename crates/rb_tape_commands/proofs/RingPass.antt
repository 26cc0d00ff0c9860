-- A record that is output to a ring in which all records were taken is the next one taken; then all are taken again.
use Rattle.std.proofs.Common.{◌≡◌, ℕ, ◌+◌, ◌≤◌, ◌^◌, true, false, not, cond, List, [], ◌∷◌, ◌++◌, length, Some, refl, sym, ap, ◌∙◌, arith, subst, append_assoc}
use Rattle.std.proofs.lemmas.Bool.{false_from_ne_true, eq-eqb}
use Rattle.std.specs.Cmp.{nat_cmp_total}
use Rattle.std.specs.FinMap.{get, get-insert}
use Rattle.rb_history.specs.Span.{span}
use Rattle.rb_history.specs.declared.entries.Entry.{Entry}
use Rattle.rb_history.specs.declared.entries.Entry.TheVariants.{Res, Sub, Take}
use Rattle.rb_history.specs.declared.answers.Taken.{Taken}
use Rattle.rb_history.specs.declared.answers.Taken.TheVariants.{Event, Skipped, BusyFront, Empty}
use Rattle.rb_history.specs.History.{Shown, status_of, is_submitted_at, is_discarded_at, is_taken_at, producer_of, consumer_of, grants, records, is_submit, is_discard, is_take}
use Rattle.rb_history.specs.History.Status.{Busy, Waiting, Discarded}
use Rattle.rb_history.specs.RoomRule.{Setup}
use Rattle.rb_history.specs.Legal.{IsLegal}
use Rattle.rb_history.specs.inner.RecordRows.{InRow}
use Rattle.rb_history.specs.RingModel.{Ring}
use Rattle.rb_history.specs.Calls.{Takes, TakesEvent, Outputs, AllTaken, producer_now, consumer_now}
use Rattle.rb_history.proofs.Lists.{list_any-snoc, or-false}
use Rattle.rb_history.proofs.Steps.{producer-res, producer-sub, producer-take, consumer-res, consumer-sub, records-res, records-sub, records-take}
use Rattle.rb_history.proofs.Laws.{legal-front, legal-next, kept-from-legal}
use Rattle.rb_history.proofs.Contents.{hit-yes}

-- consecutive records from a position to itself are none
pub empty_row : (p : ℕ) (ss : List Shown) → InRow p ss p → ss ≡ []
empty_row p [] row = refl
empty_row p (s ∷ ss) row = absurd (omega (arith, row_grows (p + span s.len) ss p row.1))
  where
    row_grows : (a : ℕ) (rs : List Shown) (b : ℕ) → InRow a rs b → a ≤ b
    row_grows a [] b r = omega arith
    row_grows a (t ∷ ts) b r = let more = row_grows (a + span t.len) ts b r.1 in omega arith

-- ---- the history, step by step: h, then the grant of n bytes at x, its submit, and its take

module _ (r : Setup) (h : List Entry) (k n : ℕ) (at : producer_of r.start h ≡ consumer_of r.start h) where
  x : ℕ
  x = producer_of r.start h

  one : List Entry
  one = h ++ Res 0 k n (producer_of r.start h) ∷ []

  two : List Entry
  two = (h ++ Res 0 k n (producer_of r.start h) ∷ []) ++ Sub (producer_of r.start h) ∷ []

  module _ (legal : IsLegal r ((h ++ Res 0 k n (producer_of r.start h) ∷ []) ++ Sub (producer_of r.start h) ∷ [])) where
    may_submit : (is_submitted_at (h ++ Res 0 k n (producer_of r.start h) ∷ []) (producer_of r.start h) ≡ false) × (is_discarded_at (h ++ Res 0 k n (producer_of r.start h) ∷ []) (producer_of r.start h) ≡ false)
    may_submit = let m = legal-next r (h ++ Res 0 k n (producer_of r.start h) ∷ []) (Sub (producer_of r.start h)) [] legal in (m.1, m.2)

    legal_h : IsLegal r h
    legal_h = legal-front r h _ (legal-front r (h ++ Res 0 k n (producer_of r.start h) ∷ []) _ legal)

    untaken : is_taken_at h (producer_of r.start h) ≡ false
    untaken = let kept = kept-from-legal r h legal_h in false_from_ne_true _ (λ t. omega (arith, kept.passed (producer_of r.start h) t, at))

    not_submitted : is_submitted_at h (producer_of r.start h) ≡ false
    not_submitted = sym (or-false _) ∙ sym (list_any-snoc (is_submit (producer_of r.start h)) h (Res 0 k n (producer_of r.start h))) ∙ may_submit.0

    not_discarded : is_discarded_at h (producer_of r.start h) ≡ false
    not_discarded = sym (or-false _) ∙ sym (list_any-snoc (is_discard (producer_of r.start h)) h (Res 0 k n (producer_of r.start h))) ∙ may_submit.1

    pub waits : status_of ((h ++ Res 0 k n (producer_of r.start h) ∷ []) ++ Sub (producer_of r.start h) ∷ []) (producer_of r.start h) ≡ Waiting
    waits =
        let x = producer_of r.start h in
        let b = h ++ Res 0 k n x ∷ [] in
        let s : is_submitted_at (b ++ Sub x ∷ []) x ≡ true = list_any-snoc (is_submit x) b (Sub x) ∙ rw (may_submit.0, eq-eqb x x refl) refl in
        let d : is_discarded_at (b ++ Sub x ∷ []) x ≡ false = list_any-snoc (is_discard x) b (Sub x) ∙ rw may_submit.1 refl in
        let t : is_taken_at (b ++ Sub x ∷ []) x ≡ false = list_any-snoc (is_take x) b (Sub x) ∙ or-false _ ∙ list_any-snoc (is_take x) h (Res 0 k n x) ∙ or-false _ ∙ untaken in
        rw (s, d, t) refl

    pub front_here : consumer_of r.start ((h ++ Res 0 k n (producer_of r.start h) ∷ []) ++ Sub (producer_of r.start h) ∷ []) ≡ producer_of r.start h
    front_here =
        let x = producer_of r.start h in
        consumer-sub r.start (h ++ Res 0 k n x ∷ []) x ∙ consumer-res r.start h 0 k n x untaken ∙ sym at

    pub ahead : producer_of r.start ((h ++ Res 0 k n (producer_of r.start h) ∷ []) ++ Sub (producer_of r.start h) ∷ []) ≡ producer_of r.start h + span n
    ahead =
        let x = producer_of r.start h in
        producer-sub r.start (h ++ Res 0 k n x ∷ []) x ∙ producer-res r.start h 0 k n x

    no_records : records h ≡ []
    no_records = let kept = kept-from-legal r h legal_h in empty_row (consumer_of r.start h) (records h) (subst (InRow (consumer_of r.start h) (records h)) at kept.in_row)

    none_left : records (((h ++ Res 0 k n (producer_of r.start h) ∷ []) ++ Sub (producer_of r.start h) ∷ []) ++ Take (producer_of r.start h) ∷ []) ≡ []
    none_left =
        let x = producer_of r.start h in
        let first = records-res h 0 k n x untaken not_submitted not_discarded in
        let second = records-sub (h ++ Res 0 k n x ∷ []) x may_submit.1 in
        let third = records-take ((h ++ Res 0 k n x ∷ []) ++ Sub x ∷ []) x in
        let same = eq-eqb x x refl in
        let left : List Shown = record { pos = x; len = n; worker = 0; serial = k; status = Waiting } ∷ [] in
        third ∙ rw (second, first, no_records, same) (ap (λ b. cond {A = List Shown} (not b) left []) same)

    -- the take leaves no record, so both positions are equal
    pub emptied : IsLegal r (((h ++ Res 0 k n (producer_of r.start h) ∷ []) ++ Sub (producer_of r.start h) ∷ []) ++ Take (producer_of r.start h) ∷ []) → producer_of r.start (((h ++ Res 0 k n (producer_of r.start h) ∷ []) ++ Sub (producer_of r.start h) ∷ []) ++ Take (producer_of r.start h) ∷ []) ≡ consumer_of r.start (((h ++ Res 0 k n (producer_of r.start h) ∷ []) ++ Sub (producer_of r.start h) ∷ []) ++ Take (producer_of r.start h) ∷ [])
    emptied l =
        let kept = kept-from-legal r _ l in
        sym (subst (λ ss. InRow (consumer_of r.start (((h ++ Res 0 k n (producer_of r.start h) ∷ []) ++ Sub (producer_of r.start h) ∷ []) ++ Take (producer_of r.start h) ∷ [])) ss (producer_of r.start (((h ++ Res 0 k n (producer_of r.start h) ∷ []) ++ Sub (producer_of r.start h) ∷ []) ++ Take (producer_of r.start h) ∷ []))) none_left kept.in_row)

-- ---- the calls

-- the ring is the same ring, has again only records that were taken, and has advanced by a record of n bytes
pub record PassesBy (old new : Ring) (n : ℕ) : Type 0 where
  pub setup_same : new.setup ≡ old.setup
  pub all_taken : AllTaken new
  pub producer_is : producer_now new ≡ producer_now old + span n
  pub bounded : producer_now old + span n ≤ 2 ^ 62

-- the take returned these bytes, as the record at the earlier producer position
abbrev pub IsPassed : Ring → List ℕ → Taken → Type 0
IsPassed old bytes (Event p w k s) = (p ≡ producer_now old) × (s ≡ bytes)
IsPassed old bytes (Skipped p n) = ⊥
IsPassed old bytes BusyFront = ⊥
IsPassed old bytes Empty = ⊥

module _ (old mid : Ring) (bytes : List ℕ) (at : AllTaken old) (o : Outputs old mid 0 bytes) where
  two_more : mid.history ≡ (old.history ++ Res 0 (grants 0 old.history) (length bytes) (producer_now old) ∷ []) ++ Sub (producer_now old) ∷ []
  two_more = o.logged.history_is ∙ sym (append_assoc old.history (Res 0 (grants 0 old.history) (length bytes) (producer_now old) ∷ []) (Sub (producer_now old) ∷ []))

  module _ (legal : IsLegal mid.setup mid.history) where
    legal_two : IsLegal old.setup ((old.history ++ Res 0 (grants 0 old.history) (length bytes) (producer_now old) ∷ []) ++ Sub (producer_now old) ∷ [])
    legal_two = subst (IsLegal old.setup) two_more (subst (λ s. IsLegal s mid.history) o.logged.setup_same legal)

    front_is : consumer_now mid ≡ producer_now old
    front_is = rw (two_more, o.logged.setup_same) (front_here old.setup old.history (grants 0 old.history) (length bytes) at legal_two)

    producer_is : producer_now mid ≡ producer_now old + span (length bytes)
    producer_is = rw (two_more, o.logged.setup_same) (ahead old.setup old.history (grants 0 old.history) (length bytes) at legal_two)

    waiting : status_of mid.history (producer_now old) ≡ Waiting
    waiting = rw two_more (waits old.setup old.history (grants 0 old.history) (length bytes) at legal_two)

  -- what is taken is what was output
  passed : (new : Ring) (t : Taken) → IsLegal new.setup new.history → Takes mid new t → IsPassed old bytes t
  passed new (Event p w k s) l a =
      let legal = legal-front mid.setup mid.history _ (subst (IsLegal mid.setup) a.logged.history_is (subst (λ r. IsLegal r new.history) a.logged.setup_same l)) in
      let here : p ≡ producer_now old = a.front ∙ front_is legal in
      let got : get mid.contents (producer_now old) ≡ Some bytes = ap (λ m. get m (producer_now old)) o.contents_are ∙ get-insert nat_cmp_total old.contents (producer_now old) bytes (producer_now old) ∙ rw (hit-yes (producer_now old) (producer_now old) refl) refl in
      let told : get mid.contents (producer_now old) ≡ Some s = ap (get mid.contents) (sym here) ∙ a.bytes_are in
      (here, cc)
  passed new (Skipped p n) l a =
      let legal = legal-front mid.setup mid.history _ (subst (IsLegal mid.setup) a.logged.history_is (subst (λ r. IsLegal r new.history) a.logged.setup_same l)) in
      let no_way : Discarded ≡ Waiting = sym a.discarded ∙ ap (status_of mid.history) (a.front ∙ front_is legal) ∙ waiting legal in
      cc
  passed new BusyFront l a =
      let legal = subst (λ v. IsLegal v.setup v.history) a.same l in
      let no_way : Busy ≡ Waiting = sym a.front.busy ∙ ap (status_of mid.history) (front_is legal) ∙ waiting legal in
      cc
  passed new Empty l a =
      let legal = subst (λ v. IsLegal v.setup v.history) a.same l in
      omega (arith, a.all_taken, front_is legal, producer_is legal)

  -- after the event no record is left
  moved : (new : Ring) (p w k : ℕ) (s : List ℕ) → IsLegal new.setup new.history → TakesEvent mid new p w k s → PassesBy old new (length bytes)
  moved new p w k s l a =
      let setup : new.setup ≡ old.setup = a.logged.setup_same ∙ o.logged.setup_same in
      let legal_mid = legal-front mid.setup mid.history _ (subst (IsLegal mid.setup) a.logged.history_is (subst (λ r. IsLegal r new.history) a.logged.setup_same l)) in
      let here : p ≡ producer_now old = a.front ∙ front_is legal_mid in
      let history : new.history ≡ ((old.history ++ Res 0 (grants 0 old.history) (length bytes) (producer_now old) ∷ []) ++ Sub (producer_now old) ∷ []) ++ Take (producer_now old) ∷ [] =
      a.logged.history_is ∙ ap (λ q. mid.history ++ Take q ∷ []) here ∙ ap (λ h. h ++ Take (producer_now old) ∷ []) two_more in
      let legal = subst (IsLegal old.setup) history (subst (λ r. IsLegal r new.history) setup l) in
      record {
        setup_same = setup;
        all_taken = rw (history, setup) (emptied old.setup old.history (grants 0 old.history) (length bytes) at (legal_two legal_mid) legal);
        producer_is = rw (history, setup) (producer-take old.setup.start ((old.history ++ Res 0 (grants 0 old.history) (length bytes) (producer_now old) ∷ []) ++ Sub (producer_now old) ∷ []) (producer_now old) ∙ ahead old.setup old.history (grants 0 old.history) (length bytes) at (legal_two legal_mid));
        bounded = o.room.limit;
      }

-- the effect of outputting and taking a payload
pub record PassesOn (old new : Ring) (bytes : List ℕ) (t : Taken) : Type 0 where
  pub is_event : IsPassed old bytes t
  pub moves : (p w k : ℕ) (s : List ℕ) → t ≡ Event p w k s → PassesBy old new (length bytes)

pub passes_on : (old mid new : Ring) (bytes : List ℕ) (t : Taken) → AllTaken old → Outputs old mid 0 bytes → IsLegal new.setup new.history → Takes mid new t → PassesOn old new bytes t
passes_on old mid new bytes t at o l a = record {
  is_event = passed old mid bytes at o new t l a;
  moves = λ p w k s e. moved old mid bytes at o new p w k s l (subst (Takes mid new) e a);
}
