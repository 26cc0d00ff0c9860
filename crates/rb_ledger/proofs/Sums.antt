-- Sums over all seats are counts of the history, if each worker has one seat.
use Rattle.std.proofs.Common.{◌≡◌, ℕ, ◌+◌, ◌<◌, ◌≤◌, ◌==◌, ◌||◌, Bool, true, false, List, [], ◌∷◌, refl, sym, ap, ◌∙◌, arith}
use Rattle.std.specs.List.{All, count_by, sum_by, Contains}
use Rattle.std.proofs.lemmas.List.Elements.{Contains-append_right, All-nil, All-cons, All-head, All-tail, All-weaker}
use Rattle.rb_history.specs.declared.entries.Entry.{Entry}
use Rattle.rb_history.specs.declared.entries.Entry.TheVariants.{Res, Full, Sub, Dis, Take}
use Rattle.rb_history.specs.History.{status_by, is_grant_of, is_granted_at, is_submitted_at, is_discarded_at, is_taken_at}
use Rattle.rb_history.specs.History.Status.{Busy}
use Rattle.rb_history.specs.Counting.{is_grant_entry, is_discard_entry, is_same, has_status, status_count}
use Rattle.rb_history.specs.RoomRule.{Setup}
use Rattle.rb_history.specs.Legal.{IsLegal}
use Rattle.rb_history.proofs.Counting.{made-split}
use Rattle.rb_history.proofs.Laws.{kept-from-legal}
use Rattle.rb_history.proofs.Lists.{sum_by-cons, sum_by-add, sum_by-agree}
use Rattle.rb_history.proofs.Standing.{grant-stands}
use Rattle.rb_history.specs.declared.tally.Tally.{Tally}
use Rattle.rb_ledger.specs.Roles.{Book, book_of}
use Rattle.rb_history.specs.WorkerCounts.{is_record_of, is_submit_of, is_discard_of, tally_of}
use Rattle.rb_ledger.specs.Seats.{WorkerSeat, SettlesWithin, HasSettledAll, seats_of, all_made, all_submitted, all_discarded}
use Rattle.rb_ledger.specs.Headline.{Accounts, OnceClosed}
use Rattle.rb_history.proofs.RecordWorkers.{bit, granted-once, grant-tells, submitted-from, discarded-from}
use Rattle.rb_history.proofs.WorkerCounts.{submitted-granted, discarded-granted}
use Rattle.rb_history.proofs.Serials.{worker-in}
use Rattle.rb_history.proofs.Settled.{settles_where, grants_where, settled_where, even, settled-most}

pub eqb-sym : (a b : ℕ) → (a == b) ≡ (b == a)
eqb-sym a b = grind arith

sum-none : (ss : List WorkerSeat) → sum_by (λ s. 0) ss ≡ 0
sum-none [] = refl
sum-none (s ∷ ss) = omega (arith, sum_by-cons (λ (x : WorkerSeat). 0) s ss, sum-none ss)

sum-of : (w : ℕ) (ss : List WorkerSeat) → sum_by (λ s. bit (w == s.worker)) ss ≡ seats_of w ss
sum-of w ss = sum_by-agree (λ s. bit (s.worker == w)) (λ s. bit (w == s.worker)) (λ s. ap bit (eqb-sym w s.worker)) ss

-- if each entry that one test passes belongs to exactly one seat by another test, the seats' counts sum up to the count
-- of the first
count-once : (t : ℕ → Entry → Bool) (u : Entry → Bool) (ss : List WorkerSeat) (es : List Entry) → ((x : Entry) → Contains es x → sum_by (λ s. bit (t s.worker x)) ss ≡ bit (u x)) → sum_by (λ s. count_by (t s.worker) es) ss ≡ count_by u es
count-once t u ss [] each = sum-none ss
count-once t u ss (e ∷ es) each =
    let more = count-once t u ss es (λ x is. each x (Contains-append_right (e ∷ []) es x is)) in
    let one = each e (0, omega arith, refl) in
    let add = sum_by-add (λ s. bit (t s.worker e)) (λ s. count_by (t s.worker) es) (λ s. count_by (t s.worker) (e ∷ es)) (λ s. sum_by-cons (λ y. bit (t s.worker y)) e es) ss in
    omega (arith, sum_by-cons (λ y. bit (u y)) e es)

-- a sum of the seats' counts is one of their workers' counts in the history
tally-sum : (f : Tally → ℕ) (b : Book) (ss : List WorkerSeat) → All (Accounts b) ss → sum_by (λ s. f s.tally) ss ≡ sum_by (λ s. f (tally_of s.worker b.history)) ss
tally-sum f b [] ties = refl
tally-sum f b (s ∷ ss) ties =
    let more = tally-sum f b ss (All-tail (Accounts b) s ss ties) in
    let one : f s.tally ≡ f (tally_of s.worker b.history) = ap f (All-head (Accounts b) s ss ties).ties.counted in
    omega (arith, sum_by-cons (λ (x : WorkerSeat). f x.tally) s ss, sum_by-cons (λ (x : WorkerSeat). f (tally_of x.worker b.history)) s ss)

abbrev is_submitting : Entry → Bool
is_submitting (Sub p) = true
is_submitting _ = false

anywhere : ℕ → Bool
anywhere p = true

-- an entry that submits or discards a record does one or the other
one-way : (e : Entry) → bit (settles_where anywhere e) ≡ bit (is_submitting e) + bit (is_discard_entry e)
unfolding anywhere
one-way (Res w k n p) = refl
one-way (Full w n) = refl
one-way (Sub p) = refl
one-way (Dis p) = refl
one-way (Take p) = refl

settled-or-busy : (s d t : Bool) → 1 ≡ bit (s || d) + bit (is_same Busy (status_by s d t))
settled-or-busy true true t = refl
settled-or-busy true false true = refl
settled-or-busy true false false = refl
settled-or-busy false true t = refl
settled-or-busy false false t = refl

either-status : (h : List Entry) (e : Entry) → bit (is_grant_entry e) ≡ bit (grants_where (settled_where anywhere h) e) + bit (has_status Busy h e)
unfolding anywhere
either-status h (Res w k n p) = settled-or-busy (is_submitted_at h p) (is_discarded_at h p) (is_taken_at h p)
either-status h (Full w n) = refl
either-status h (Sub p) = refl
either-status h (Dis p) = refl
either-status h (Take p) = refl

-- a record that was granted is submitted or discarded by one entry, or busy
made-settled : (r : Setup) (h : List Entry) → IsLegal r h → count_by is_grant_entry h ≡ count_by is_submitting h + count_by is_discard_entry h + status_count Busy h
made-settled r h l =
    let ways = sum_by-add (λ e. bit (is_submitting e)) (λ e. bit (is_discard_entry e)) (λ e. bit (settles_where anywhere e)) one-way h in
    let rest = sum_by-add (λ e. bit (grants_where (settled_where anywhere h) e)) (λ e. bit (has_status Busy h e)) (λ e. bit (is_grant_entry e)) (either-status h) h in
    omega (arith, ways, rest, even r anywhere h l)

module _ (b : Book) (l : IsLegal b.setup b.history) (ss : List WorkerSeat) (once : (w : ℕ) → w < b.setup.workers → seats_of w ss ≡ 1) where
  -- a record that was granted belongs to one seat
  record-once : (p : ℕ) → is_granted_at b.history p ≡ true → sum_by (λ s. bit (is_record_of s.worker b.history p)) ss ≡ 1
  record-once p g =
      let st = grant-stands b.history p g in
      let is = st.1.1.1 in
      let one = granted-once b.setup b.history p l in
      sum_by-agree (λ s. bit (st.0 == s.worker)) (λ s. bit (is_record_of s.worker b.history p)) (λ s. ap bit (sym (grant-tells b.history st.0 st.1.0 st.1.1.0 p s.worker is one))) ss
      ∙ sum-of st.0 ss
      ∙ once st.0 (worker-in b.setup st.0 st.1.0 st.1.1.0 p b.history l is)

  grant-once : (x : Entry) → Contains b.history x → sum_by (λ s. bit (is_grant_of s.worker x)) ss ≡ bit (is_grant_entry x)
  grant-once (Res w k n p) is = sum-of w ss ∙ once w (worker-in b.setup w k n p b.history l is)
  grant-once (Full w n) is = sum-none ss
  grant-once (Sub p) is = sum-none ss
  grant-once (Dis p) is = sum-none ss
  grant-once (Take p) is = sum-none ss

  submit-once : (x : Entry) → Contains b.history x → sum_by (λ s. bit (is_submit_of s.worker b.history x)) ss ≡ bit (is_submitting x)
  submit-once (Sub p) is = record-once p (submitted-granted b.setup b.history p l (submitted-from b.history p is))
  submit-once (Res w k n p) is = sum-none ss
  submit-once (Full w n) is = sum-none ss
  submit-once (Dis p) is = sum-none ss
  submit-once (Take p) is = sum-none ss

  discard-once : (x : Entry) → Contains b.history x → sum_by (λ s. bit (is_discard_of s.worker b.history x)) ss ≡ bit (is_discard_entry x)
  discard-once (Dis p) is = record-once p (discarded-granted b.setup b.history p l (discarded-from b.history p is))
  discard-once (Res w k n p) is = sum-none ss
  discard-once (Full w n) is = sum-none ss
  discard-once (Sub p) is = sum-none ss
  discard-once (Take p) is = sum-none ss

  module _ (ties : All (Accounts b) ss) where
    pub made-is : all_made ss ≡ count_by is_grant_entry b.history
    made-is = tally-sum (λ t. t.made) b ss ties ∙ count-once is_grant_of is_grant_entry ss b.history grant-once

    submitted-is : all_submitted ss ≡ count_by is_submitting b.history
    submitted-is = tally-sum (λ t. t.submitted) b ss ties ∙ count-once (λ w. is_submit_of w b.history) is_submitting ss b.history submit-once

    discarded-is : all_discarded ss ≡ count_by is_discard_entry b.history
    discarded-is = tally-sum (λ t. t.discarded) b ss ties ∙ count-once (λ w. is_discard_of w b.history) is_discard_entry ss b.history discard-once

    settles-within : All SettlesWithin ss
    settles-within = All-weaker (Accounts b) SettlesWithin (λ s a. settled-sub s a) ss ties
      where
        settled-sub : (s : WorkerSeat) → Accounts b s → SettlesWithin s
        settled-sub s a = let most = settled-most b.setup b.history l s.worker in let e = a.ties.counted in
            omega (arith, most, ap (λ (t : Tally). t.made) e, ap (λ (t : Tally). t.submitted) e, ap (λ (t : Tally). t.discarded) e)

-- ---- none is busy if and only if each seat has committed all of its records

sums-within : (ss : List WorkerSeat) → All SettlesWithin ss → all_submitted ss + all_discarded ss ≤ all_made ss
sums-within [] each = omega arith
sums-within (s ∷ ss) each =
    omega (
      arith,
      sums-within ss (All-tail SettlesWithin s ss each),
      All-head SettlesWithin s ss each,
      sum_by-cons (λ (x : WorkerSeat). x.tally.made) s ss,
      sum_by-cons (λ (x : WorkerSeat). x.tally.submitted) s ss,
      sum_by-cons (λ (x : WorkerSeat). x.tally.discarded) s ss,
    )

sums-settled : (ss : List WorkerSeat) → All HasSettledAll ss → all_made ss ≡ all_submitted ss + all_discarded ss
sums-settled [] each = refl
sums-settled (s ∷ ss) each =
    omega (
      arith,
      sums-settled ss (All-tail HasSettledAll s ss each),
      All-head HasSettledAll s ss each,
      sum_by-cons (λ (x : WorkerSeat). x.tally.made) s ss,
      sum_by-cons (λ (x : WorkerSeat). x.tally.submitted) s ss,
      sum_by-cons (λ (x : WorkerSeat). x.tally.discarded) s ss,
    )

settled-each : (ss : List WorkerSeat) → All SettlesWithin ss → all_made ss ≡ all_submitted ss + all_discarded ss → All HasSettledAll ss
settled-each [] each same = All-nil _
settled-each (s ∷ ss) each same =
    let rest = All-tail SettlesWithin s ss each in
    let first : s.tally.submitted + s.tally.discarded ≤ s.tally.made = All-head SettlesWithin s ss each in
    let more = sums-within ss rest in
    let m = sum_by-cons (λ (x : WorkerSeat). x.tally.made) s ss in
    let t = sum_by-cons (λ (x : WorkerSeat). x.tally.submitted) s ss in
    let d = sum_by-cons (λ (x : WorkerSeat). x.tally.discarded) s ss in
    All-cons HasSettledAll s ss (omega (arith, first, more, same, m, t, d)) (settled-each ss rest (omega (arith, first, more, same, m, t, d)))

pub once-closed : OnceClosed
once-closed r ss consumer c =
    let b = book_of r in
    let l = c.is_ring.legal in
    let made = made-is b l ss c.each_once c.seats_tie in
    let sub = submitted-is b l ss c.each_once c.seats_tie in
    let dis = discarded-is b l ss c.each_once c.seats_tie in
    let parts = made-split r.history in
    let ways = made-settled r.setup r.history l in
    let gone = (kept-from-legal r.setup r.history l).given_up in
    let within = settles-within b l ss c.each_once c.seats_tie in
    let rest : all_made ss ≡ all_submitted ss + all_discarded ss + status_count Busy r.history = omega arith in
    record {
      within = within;
      submitted_are = omega arith;
      discarded_are = dis ∙ sym gone;
      rest_is_busy = rest;
      none_busy = (λ each. let all = sums-settled ss each in omega arith, λ none. settled-each ss within (omega (arith, none, rest)));
    }
