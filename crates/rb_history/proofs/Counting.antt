-- The counts of a history, computed from the records that were not taken.
use Rattle.std.proofs.Common.{◌≡◌, ℕ, ◌+◌, ◌-◌, Bool, true, false, cond, ◌||◌, List, [], ◌∷◌, Some, None, map, refl, sym, ap, ◌∙◌, arith}
use Rattle.std.specs.List.{sum_by, count_by}
use Rattle.rb_history.specs.declared.entries.Entry.{Entry}
use Rattle.rb_history.specs.declared.entries.Entry.TheVariants.{Res, Full, Sub, Dis, Take}
use Rattle.rb_history.specs.declared.stored_records.StoredRecord.{StoredRecord}
use Rattle.rb_history.specs.declared.stored_records.RecordState.{RecordState}
use Rattle.rb_history.specs.declared.stored_records.RecordState.TheVariants.{Reserved, Submitted, Discarded as DiscardedState}
use Rattle.rb_history.specs.History.{Shown, Status, status_by, is_submitted_at, is_discarded_at, is_taken_at, untaken, records}
use Rattle.rb_history.specs.Counting.{is_same, is_grant_entry, is_refusal_entry, is_discard_entry, has_status, status_count}
use Rattle.rb_history.specs.History.Status.{Busy, Waiting, Consumed, Discarded}
use Rattle.rb_history.specs.StoredRecords.{is_reserved_state}
use Rattle.rb_history.specs.Counting.{counts_of}
use Rattle.rb_history.specs.StoredRecords.{is_submitted_state}
use Rattle.rb_history.specs.declared.answers.Counts.{Counts}
use Rattle.rb_history.specs.RoomRule.{Setup}
use Rattle.rb_history.specs.inner.RecordRows.{HistoryFacts}
use Rattle.rb_history.specs.StoredRecords.{shown_record, state_status}
use Rattle.rb_history.proofs.Lists.{sum_by-cons, sum_by-only, opt_sum}

abbrev bit : Bool → ℕ
bit b = cond b 1 0

status_bit : Status → Shown → ℕ
status_bit st s = bit (is_same st s.status)

waiting-here : (w n k q : ℕ) (s d t : Bool) → bit (is_same Waiting (status_by s d t)) ≡ opt_sum (status_bit Waiting) (cond t None (Some (record { pos = q; len = n; worker = w; serial = k; status = status_by s d t })))
unfolding status_bit
waiting-here w n k q s true true = refl
waiting-here w n k q s true false = refl
waiting-here w n k q true false true = refl
waiting-here w n k q true false false = refl
waiting-here w n k q false false true = refl
waiting-here w n k q false false false = refl

busy-here : (w n k q : ℕ) (s d t : Bool) → (t ≡ true → (s || d) ≡ true) → bit (is_same Busy (status_by s d t)) ≡ opt_sum (status_bit Busy) (cond t None (Some (record { pos = q; len = n; worker = w; serial = k; status = status_by s d t })))
unfolding status_bit
busy-here w n k q s true true c = refl
busy-here w n k q s true false c = refl
busy-here w n k q true false true c = refl
busy-here w n k q true false false c = refl
busy-here w n k q false false true c = let no_way : false ≡ true = c refl in cc
busy-here w n k q false false false c = refl

waiting-entry : (h : List Entry) (e : Entry) → bit (has_status Waiting h e) ≡ opt_sum (status_bit Waiting) (untaken h e)
waiting-entry h (Res w k n q) = waiting-here w n k q (is_submitted_at h q) (is_discarded_at h q) (is_taken_at h q)
waiting-entry h (Full w n) = refl
waiting-entry h (Sub q) = refl
waiting-entry h (Dis q) = refl
waiting-entry h (Take q) = refl

busy-entry : (h : List Entry) → ((q : ℕ) → is_taken_at h q ≡ true → (is_submitted_at h q || is_discarded_at h q) ≡ true) → (e : Entry) → bit (has_status Busy h e) ≡ opt_sum (status_bit Busy) (untaken h e)
busy-entry h c (Res w k n q) = busy-here w n k q (is_submitted_at h q) (is_discarded_at h q) (is_taken_at h q) (c q)
busy-entry h c (Full w n) = refl
busy-entry h c (Sub q) = refl
busy-entry h c (Dis q) = refl
busy-entry h c (Take q) = refl

-- the waiting records are those that are shown as waiting; likewise the busy ones
pub waiting-shown : (h : List Entry) → status_count Waiting h ≡ count_by (λ s. is_same Waiting s.status) (records h)
unfolding status_bit
waiting-shown h = sum_by-only (λ e. bit (has_status Waiting h e)) (untaken h) (status_bit Waiting) (waiting-entry h) h

pub busy-shown : (h : List Entry) → ((q : ℕ) → is_taken_at h q ≡ true → (is_submitted_at h q || is_discarded_at h q) ≡ true) → status_count Busy h ≡ count_by (λ s. is_same Busy s.status) (records h)
unfolding status_bit
busy-shown h closed = sum_by-only (λ e. bit (has_status Busy h e)) (untaken h) (status_bit Busy) (busy-entry h closed) h

waiting-state : (a : RecordState) → bit (is_same Waiting (state_status a)) ≡ bit (is_submitted_state a)
waiting-state Reserved = refl
waiting-state (Submitted b) = refl
waiting-state DiscardedState = refl

busy-state : (a : RecordState) → bit (is_same Busy (state_status a)) ≡ bit (is_reserved_state a)
busy-state Reserved = refl
busy-state (Submitted b) = refl
busy-state DiscardedState = refl

waiting-stored : (stored : List StoredRecord) → sum_by (status_bit Waiting) (map shown_record stored) ≡ count_by (λ s. is_submitted_state s.state) stored
unfolding status_bit
waiting-stored [] = refl
waiting-stored (t ∷ stored) =
    omega (arith, sum_by-cons (status_bit Waiting) (shown_record t) (map shown_record stored), sum_by-cons (λ (s : StoredRecord). bit (is_submitted_state s.state)) t stored, waiting-state t.state, waiting-stored stored)

busy-stored : (stored : List StoredRecord) → sum_by (status_bit Busy) (map shown_record stored) ≡ count_by (λ s. is_reserved_state s.state) stored
unfolding status_bit
busy-stored [] = refl
busy-stored (t ∷ stored) =
    omega (arith, sum_by-cons (status_bit Busy) (shown_record t) (map shown_record stored), sum_by-cons (λ (s : StoredRecord). bit (is_reserved_state s.state)) t stored, busy-state t.state, busy-stored stored)

one-of : (st : Status) → 1 ≡ bit (is_same Busy st) + bit (is_same Waiting st) + bit (is_same Consumed st) + bit (is_same Discarded st)
one-of Busy = refl
one-of Waiting = refl
one-of Consumed = refl
one-of Discarded = refl

one-each : (h : List Entry) (e : Entry) → bit (is_grant_entry e) ≡ bit (has_status Busy h e) + bit (has_status Waiting h e) + bit (has_status Consumed h e) + bit (has_status Discarded h e)
one-each h (Res w k n q) = one-of (status_by (is_submitted_at h q) (is_discarded_at h q) (is_taken_at h q))
one-each h (Full w n) = refl
one-each h (Sub q) = refl
one-each h (Dis q) = refl
one-each h (Take q) = refl

split : (h es : List Entry) → count_by is_grant_entry es ≡ count_by (has_status Busy h) es + count_by (has_status Waiting h) es + count_by (has_status Consumed h) es + count_by (has_status Discarded h) es
split h [] = refl
split h (e ∷ es) =
    omega (
      arith,
      split h es,
      one-each h e,
      sum_by-cons (λ x. bit (is_grant_entry x)) e es,
      sum_by-cons (λ x. bit (has_status Busy h x)) e es,
      sum_by-cons (λ x. bit (has_status Waiting h x)) e es,
      sum_by-cons (λ x. bit (has_status Consumed h x)) e es,
      sum_by-cons (λ x. bit (has_status Discarded h x)) e es,
    )

-- each record has one of the four statuses
pub made-split : (h : List Entry) → count_by is_grant_entry h ≡ status_count Busy h + status_count Waiting h + status_count Consumed h + status_count Discarded h
made-split h = split h h

module _ (r : Setup) (h : List Entry) (stored : List StoredRecord) (p c : ℕ) (k : HistoryFacts r h (map shown_record stored) p c) where
  pub number_of-waiting : status_count Waiting h ≡ count_by (λ s. is_submitted_state s.state) stored
  number_of-waiting = sum_by-only (λ e. bit (has_status Waiting h e)) (untaken h) (status_bit Waiting) (waiting-entry h) h ∙ ap (sum_by (status_bit Waiting)) (sym k.shown) ∙ waiting-stored stored

  pub number_of-busy : status_count Busy h ≡ count_by (λ s. is_reserved_state s.state) stored
  number_of-busy = sum_by-only (λ e. bit (has_status Busy h e)) (untaken h) (status_bit Busy) (busy-entry h k.closed) h ∙ ap (sum_by (status_bit Busy)) (sym k.shown) ∙ busy-stored stored

  -- what the parts of the call counted
  pub record Counted (m f d w b : ℕ) : Type 0 where
    pub made_is : m ≡ count_by is_grant_entry h
    pub refused_is : f ≡ count_by is_refusal_entry h
    pub discarded_is : d ≡ count_by is_discard_entry h
    pub waiting_is : w ≡ count_by (λ s. is_submitted_state s.state) stored
    pub busy_is : b ≡ count_by (λ s. is_reserved_state s.state) stored

  pub counted-split : (m f d w b : ℕ) → Counted m f d w b → m ≡ b + w + status_count Consumed h + d
  counted-split m f d w b a = omega (arith, made-split h, number_of-waiting, number_of-busy, k.given_up, a.made_is, a.discarded_is, a.waiting_is, a.busy_is)

  pub counted-same : (m f d w b : ℕ) → Counted m f d w b →
      ◌≡◌ {A = Counts} (record { made = m; refused = f; consumed = m - b - w - d; discarded = d; waiting = w; busy = b }) (counts_of h)
  counted-same m f d w b a =
      let rest : m - b - w - d ≡ status_count Consumed h = omega (arith, counted-split m f d w b a) in
      let gone : d ≡ status_count Discarded h = a.discarded_is ∙ sym k.given_up in
      let there : w ≡ status_count Waiting h = a.waiting_is ∙ sym number_of-waiting in
      let held : b ≡ status_count Busy h = a.busy_is ∙ sym number_of-busy in
      λ i. record { made = a.made_is i; refused = a.refused_is i; consumed = rest i; discarded = gone i; waiting = there i; busy = held i }
