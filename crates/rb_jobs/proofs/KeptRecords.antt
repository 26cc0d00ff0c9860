-- What each call does to the records that helpers over seats keep.
use Rattle.std.proofs.Common.{◌≡◌, ◌≢◌, ℕ, zero, suc, ◌<◌, ◌≤◌, ◌⊎◌, inl, inr, ℤ, pos, negsuc, Bool, true, false, List, [], ◌∷◌, length, set, get_or, Option, Some, None, refl, sym, ap, ◌∙◌, subst, arith}
use Rattle.std.specs.Prelude.{slice_get, IfSome}
use Rattle.std.proofs.lemmas.Bool.{cases_eq, cases_lt}
use Rattle.std.proofs.lemmas.List.{get_or-set_other}
use Rattle.rb_ledger.specs.Seats.{WorkerSeat}
use Rattle.rb_chapter_ring.specs.declared.out_record.OutRecord.{OutRecord}
use Rattle.rb_chapter_ring.specs.Hands.{Hands, out_record, in_hand}
use Rattle.rb_chapter_ring.specs.HandGranted.{HandGranted}
use Rattle.rb_chapter_ring.specs.declared.record_end.RecordEnd.{RecordEnd}
use Rattle.rb_interp.specs.AnsweredCalls.{Reserved, SentOut, Queried}
use Rattle.rb_chapter_ring.specs.declared.ring_record.RingRecord.{RingRecord}
use Rattle.rb_jobs.specs.SeatCalls.{AtSeat, IsOutAtSeat, SeatQueries, SeatIsGranted, SeatIsRefused, SeatOutputs, NoHandOrSheet, HasNoSheet, ReserveAnswered, RecordAnswered, OutputAnswered}
use Rattle.rb_jobs.specs.SeatHelpers.{AtSeats, CallsHelpers}
use Rattle.rb_jobs.specs.KeptRecords.{IsStillOut, record_name}
use Rattle.rb_jobs.specs.inner.RecordEnds.{SeatEnds, ended_call}
use Rattle.rb_jobs.proofs.Ends.{ended_of}

-- ---- one seat of many

here : {A : Type 0} (xs : List A) (i : ℕ) (x y : A) → slice_get xs i ≡ Some x → slice_get (set xs i y) i ≡ Some y
here [] i x y at = absurd (cc)
here (z ∷ xs) zero x y at = refl
here (z ∷ xs) (suc i) x y at = here xs i x y at

there : {A : Type 0} (xs : List A) (i j : ℕ) (y : A) → j ≢ i → slice_get (set xs i y) j ≡ slice_get xs j
there [] i j y other = refl
there (x ∷ xs) zero zero y other = absurd (other refl)
there (x ∷ xs) zero (suc j) y other = refl
there (x ∷ xs) (suc i) zero y other = refl
there (x ∷ xs) (suc i) (suc j) y other = there xs i j y (λ e. other (ap suc e))

some-same : {A : Type 0} (x y : A) → ◌≡◌ {A = Option A} (Some x) (Some y) → x ≡ y
some-same x y e = cc

some-below : {A : Type 0} (xs : List A) (i : ℕ) (x : A) → slice_get xs i ≡ Some x → i < length xs
some-below [] i x at = absurd (cc)
some-below (y ∷ xs) zero x at = omega arith
some-below (y ∷ xs) (suc i) x at = let below = some-below xs i x at in omega (arith, below)

-- ---- what a call does to one seat's hands

none-some : (o : OutRecord) → ◌≡◌ {A = Option OutRecord} None (Some o) → ⊥
none-some o e = cc

-- a freed hand is empty
freed : (hands : Hands) (h : ℕ) → get_or (set hands h None) h None ≡ None
freed [] h = refl
freed (x ∷ hands) zero = refl
freed (x ∷ hands) (suc h) = freed hands h

-- the seat of the same worker at the same ring, where each hand of these that is out stays out
record StaysOut (At : ℕ → Type 0) (b a : WorkerSeat) : Type 0 where
  tag_same : a.tag ≡ b.tag
  worker_same : a.worker ≡ b.worker
  still : (h : ℕ) (o : OutRecord) → At h → in_hand b.hands h ≡ Some o → in_hand a.hands h ≡ Some o

abbrev Anywhere : ℕ → Type 0
Anywhere h = Unit {0}

abbrev ButAt : ℕ → ℕ → Type 0
ButAt hand h = h ≢ hand

same-hands : (At : ℕ → Type 0) (b a : WorkerSeat) → a.tag ≡ b.tag → a.worker ≡ b.worker → a.hands ≡ b.hands → StaysOut At b a
same-hands At b a tag worker hands = record { tag_same = tag; worker_same = worker; still = λ h o at out. ap (λ hs. in_hand hs h) hands ∙ out }

nothing-done : (At : ℕ → Type 0) (b a : WorkerSeat) → a ≡ b → StaysOut At b a
nothing-done At b a same = same-hands At b a (ap (λ (s : WorkerSeat). s.tag) same) (ap (λ (s : WorkerSeat). s.worker) same) (ap (λ (s : WorkerSeat). s.hands) same)

queried : (what answer : ℕ) (b a : WorkerSeat) → SeatQueries what answer b a → StaysOut Anywhere b a
queried what answer b a did = same-hands Anywhere b a (ap (λ (s : WorkerSeat). s.tag) did.1) (ap (λ (s : WorkerSeat). s.worker) did.1) (ap (λ (s : WorkerSeat). s.hands) did.1)

refused : (Uncalled : WorkerSeat → Type 0) (n unlogged : ℕ) (b a : WorkerSeat) → SeatIsRefused Uncalled n unlogged b a → StaysOut Anywhere b a
refused Uncalled n unlogged b a (inl full) = same-hands Anywhere b a (ap (λ (s : WorkerSeat). s.tag) full.0.1) (ap (λ (s : WorkerSeat). s.worker) full.0.1) (ap (λ (s : WorkerSeat). s.hands) full.0.1)
refused Uncalled n unlogged b a (inr (inl full)) =
    let is = full.0.at_last.1 in same-hands Anywhere b a (ap (λ (s : WorkerSeat). s.tag) is) (ap (λ (s : WorkerSeat). s.worker) is) (ap (λ (s : WorkerSeat). s.hands) is)
refused Uncalled n unlogged b a (inr (inr none)) = nothing-done Anywhere b a none.1

sent : (bytes : List ℕ) (flags : ℕ) (due : Bool) (b a : WorkerSeat) → SeatOutputs bytes flags due b a → StaysOut Anywhere b a
sent bytes flags due b a did =
    let is = did.called.called.1 in same-hands Anywhere b a (ap (λ (s : WorkerSeat). s.tag) is) (ap (λ (s : WorkerSeat). s.worker) is) (ap (λ (s : WorkerSeat). s.hands) is)

-- a change of one hand does not change the others
one-changed : (b a : WorkerSeat) (hand : ℕ) (x : Option OutRecord) → a.tag ≡ b.tag → a.worker ≡ b.worker → a.hands ≡ set b.hands hand x → StaysOut (ButAt hand) b a
one-changed b a hand x tag worker hands = record {
  tag_same = tag;
  worker_same = worker;
  still = λ h o apart out. ap (λ hs. in_hand hs h) hands ∙ get_or-set_other b.hands hand h x None apart ∙ out;
}

-- a hand that is out is not the one into which a record is granted
granted : (n : ℕ) (r : HandGranted) (b a : WorkerSeat) → SeatIsGranted n r b a → StaysOut Anywhere b a
granted n r b a did =
    let left = one-changed b a r.hand (Some (out_record r.granted.pos r.granted.serial n)) (ap (λ (s : WorkerSeat). s.tag) did.4) (ap (λ (s : WorkerSeat). s.worker) did.4) (ap (λ (s : WorkerSeat). s.hands) did.4) in
    record {
      tag_same = left.tag_same;
      worker_same = left.worker_same;
      still = λ h o at out. left.still h o (λ e. none-some o (sym did.2.is_free.free ∙ ap (λ i. in_hand b.hands i) (sym e) ∙ out)) out;
    }

given-back : (end : RecordEnd) (r : HandGranted) (flags : ℕ) (taken due : Bool) (b a : WorkerSeat) → SeatEnds end r flags taken due b a → StaysOut (ButAt r.hand) b a
given-back end r flags true due b a did =
    let is = (did.takes refl).1 in one-changed b a r.hand None (ap (λ (s : WorkerSeat). s.tag) is) (ap (λ (s : WorkerSeat). s.worker) is) (ap (λ (s : WorkerSeat). s.hands) is)
given-back end r flags false due b a did = nothing-done (ButAt r.hand) b a (did.hands_back refl).1

still-out : (At : ℕ → Type 0) (r : HandGranted) (b a : WorkerSeat) → StaysOut At b a → At r.hand → IsOutAtSeat b r → IsOutAtSeat a r
still-out At r b a left at out = record {
  tag_is = out.tag_is ∙ sym left.tag_same;
  worker_is = out.worker_is ∙ sym left.worker_same;
  out = left.still r.hand (out_record r.granted.pos r.granted.serial (length r.granted.bytes)) at out.out;
}

-- ---- a record that was submitted or discarded is not out

hand-freed : (r : HandGranted) (b a : WorkerSeat) → a.hands ≡ set b.hands r.hand None → IsOutAtSeat a r → ⊥
hand-freed r b a hands out = none-some (out_record r.granted.pos r.granted.serial (length r.granted.bytes)) (sym (ap (λ hs. in_hand hs r.hand) hands ∙ freed b.hands r.hand) ∙ out.out)

true-false : true ≡ false → ⊥
true-false e = cc

let-go : (end : RecordEnd) (r : HandGranted) (flags : ℕ) (taken due : Bool) (b a : WorkerSeat) → SeatEnds end r flags taken due b a → IsOutAtSeat a r → ⊥
let-go end r flags true due b a did out = hand-freed r b a (ap (λ (s : WorkerSeat). s.hands) (did.takes refl).1) out
let-go end r flags false due b a did out = true-false (sym (did.exact.1 (subst (λ (s : WorkerSeat). IsOutAtSeat s r) (did.hands_back refl).1 out)))

-- ---- all seats

module _ (old new : AtSeats) where
  same-seats : new.seats ≡ old.seats → (s : RingRecord) → IsStillOut old s → IsStillOut new s
  same-seats same s kept = record { seat = kept.seat; seat_is = ap (λ l. slice_get l s.ring) same ∙ kept.seat_is; out = kept.out }

  -- the seat of a kept record is the one at its ring
  was : (Did : WorkerSeat → WorkerSeat → Type 0) (ring : ℕ) (at : AtSeat ring Did old.seats new.seats) (s : RingRecord) (kept : IsStillOut old s) → s.ring ≡ ring → kept.seat ≡ at.before
  was Did ring at s kept same = some-same kept.seat at.before (sym kept.seat_is ∙ ap (slice_get old.seats) same ∙ at.before_is)

  now : (Did : WorkerSeat → WorkerSeat → Type 0) (ring : ℕ) (at : AtSeat ring Did old.seats new.seats) (s : RingRecord) (kept : IsStillOut new s) → s.ring ≡ ring → kept.seat ≡ at.after
  now Did ring at s kept same = some-same kept.seat at.after (sym kept.seat_is ∙ ap (slice_get new.seats) same ∙ ap (λ l. slice_get l ring) at.new_is ∙ here old.seats ring at.before at.after at.before_is)

  kept-at : (Did : WorkerSeat → WorkerSeat → Type 0) (At : ℕ → Type 0) (ring : ℕ) → ((b a : WorkerSeat) → Did b a → StaysOut At b a) → AtSeat ring Did old.seats new.seats
      → (s : RingRecord) → (s.ring ≡ ring → At s.reservation.hand) → IsStillOut old s → IsStillOut new s
  kept-at Did At ring stays at s where_at kept = elim (cases_eq s.ring ring) [
    | inl same ↦ record {
      seat = at.after;
      seat_is = ap (λ l. slice_get l s.ring) at.new_is ∙ ap (slice_get (set old.seats ring at.after)) same ∙ here old.seats ring at.before at.after at.before_is;
      out = still-out At s.reservation at.before at.after (stays at.before at.after at.did) (where_at same) (subst (λ (x : WorkerSeat). IsOutAtSeat x s.reservation) (was Did ring at s kept same) kept.out);
    }
    | inr other ↦ record { seat = kept.seat; seat_is = ap (λ l. slice_get l s.ring) at.new_is ∙ there old.seats ring s.ring at.after other ∙ kept.seat_is; out = kept.out }
  ]

  -- ---- reserve

  zero-or : (flags : ℕ) → (flags ≡ 0) ⊎ (flags ≢ 0)
  zero-or flags = cases_eq flags 0

  reserve-keeps : (ring n flags : ℕ) (answer : Option RingRecord) (unlogged : ℕ) → ReserveAnswered ring n flags answer unlogged old.seats new.seats → (s : RingRecord) → IsStillOut old s → IsStillOut new s
  reserve-keeps ring n flags (Some r) unlogged led s = kept-at (SeatIsGranted n r.reservation) Anywhere ring (granted n r.reservation) led.3 s (λ e. tt)
  reserve-keeps ring n flags None unlogged led s = by_flags (zero-or flags)
    where
      by_flags : (flags ≡ 0) ⊎ (flags ≢ 0) → IsStillOut old s → IsStillOut new s
      by_flags (inl none) = kept-at (SeatIsRefused (NoHandOrSheet n) n unlogged) Anywhere ring (refused (NoHandOrSheet n) n unlogged) (led.0 none) s (λ e. tt)
      by_flags (inr some) = same-seats (led.1 some).0 s

  reserve-kept : (ring n flags : ℕ) (answer : Option RingRecord) (unlogged : ℕ) → ReserveAnswered ring n flags answer unlogged old.seats new.seats
      → IfSome answer (λ r. IsStillOut new r × ((s : RingRecord) → IsStillOut old s → record_name s ≢ record_name r))
  reserve-kept ring n flags None unlogged led = tt
  reserve-kept ring n flags (Some r) unlogged led =
      let at = led.3 in (
        record {
          seat = at.after;
          seat_is = ap (λ l. slice_get l r.ring) at.new_is ∙ ap (slice_get (set old.seats ring at.after)) led.2 ∙ here old.seats ring at.before at.after at.before_is;
          out = at.did.3;
        },
        λ s kept same.
            let ring_same : s.ring ≡ ring = ap (λ (x : ℕ × ℕ). x.0) same ∙ led.2 in
            let out = subst (λ (x : WorkerSeat). IsOutAtSeat x s.reservation) (was (SeatIsGranted n r.reservation) ring at s kept ring_same) kept.out in
            none-some (out_record s.reservation.granted.pos s.reservation.granted.serial (length s.reservation.granted.bytes)) (sym at.did.2.is_free.free ∙ ap (λ (x : ℕ × ℕ). in_hand at.before.hands x.1) (sym same) ∙ out.out),
      )

  -- ---- submit and discard

  elsewhere : (s owned : RingRecord) → record_name s ≢ record_name owned → s.ring ≡ owned.ring → ButAt owned.reservation.hand s.reservation.hand
  elsewhere s owned apart ring place = apart (λ i. (ring i, place i))

  end-keeps : (end : RecordEnd) (owned : RingRecord) (flags : ℕ) (taken due : Bool) → RecordAnswered owned.ring taken due (SeatEnds end owned.reservation flags taken due) old.seats new.seats
      → (s : RingRecord) → IsStillOut old s → record_name s ≢ record_name owned → IsStillOut new s
  end-keeps end owned flags taken due led s kept apart = elim (cases_lt owned.ring (length old.seats)) [
    | inl below ↦ kept-at (SeatEnds end owned.reservation flags taken due) (ButAt owned.reservation.hand) owned.ring
        (given-back end owned.reservation flags taken due) (led.at_ring below) s (elsewhere s owned apart) kept
    | inr beyond ↦ same-seats (led.no_ring beyond).2 s kept
  ]

  kept-out : (Did : WorkerSeat → WorkerSeat → Type 0) (owned : RingRecord) (kept : IsStillOut old owned) (at : AtSeat owned.ring Did old.seats new.seats) → IsOutAtSeat at.before owned.reservation
  kept-out Did owned kept at = subst (λ (x : WorkerSeat). IsOutAtSeat x owned.reservation) (was Did owned.ring at owned kept refl) kept.out

  end-never-back : (end : RecordEnd) (owned : RingRecord) (flags : ℕ) (taken due : Bool) → RecordAnswered owned.ring taken due (SeatEnds end owned.reservation flags taken due) old.seats new.seats → IsStillOut old owned → taken ≡ true
  end-never-back end owned flags taken due led kept =
      let at = led.at_ring (some-below old.seats owned.ring kept.seat kept.seat_is) in
      at.did.exact.1 (kept-out (SeatEnds end owned.reservation flags taken due) owned kept at)

  -- a seat that is there after a call was there before it
  ring-there : (owned : RingRecord) → new.seats ≡ old.seats → length old.seats ≤ owned.ring → IsStillOut new owned → ⊥
  ring-there owned same beyond kept = let below : owned.ring < length old.seats = subst (λ (l : List WorkerSeat). owned.ring < length l) same (some-below new.seats owned.ring kept.seat kept.seat_is) in absurd (omega (arith, below, beyond))

  end-frees : (end : RecordEnd) (owned : RingRecord) (flags : ℕ) (taken due : Bool) → RecordAnswered owned.ring taken due (SeatEnds end owned.reservation flags taken due) old.seats new.seats → IsStillOut new owned → ⊥
  end-frees end owned flags taken due led kept = elim (cases_lt owned.ring (length old.seats)) [
    | inl below ↦
        let at = led.at_ring below in
        let-go end owned.reservation flags taken due at.before at.after at.did
        (subst (λ (x : WorkerSeat). IsOutAtSeat x owned.reservation) (now (SeatEnds end owned.reservation flags taken due) owned.ring at owned kept refl) kept.out)
    | inr beyond ↦ ring-there owned (led.no_ring beyond).2 beyond kept
  ]

  -- ---- output and query

  output-keeps : (ring : ℕ) (bytes : List ℕ) (flags : ℕ) (answer : ℤ) (due : Bool) (unlogged : ℕ) → OutputAnswered ring bytes flags answer due unlogged old.seats new.seats → (answer ≡ pos 0) ⊎ (answer ≡ negsuc 10) ⊎ (answer ≡ negsuc 21)
      → (s : RingRecord) → IsStillOut old s → IsStillOut new s
  output-keeps ring bytes flags answer due unlogged led (inl is) s = kept-at (SeatOutputs bytes flags due) Anywhere ring (sent bytes flags due) (led.sent is).0 s (λ e. tt)
  output-keeps ring bytes flags answer due unlogged led (inr (inl is)) s = kept-at (SeatIsRefused (HasNoSheet (length bytes)) (length bytes) unlogged) Anywhere ring (refused (HasNoSheet (length bytes)) (length bytes) unlogged) (led.refused is).0 s (λ e. tt)
  output-keeps ring bytes flags answer due unlogged led (inr (inr is)) s = same-seats (led.no_step is).0 s

  query-keeps : (ring what answer : ℕ) → AtSeat ring (SeatQueries what answer) old.seats new.seats → (s : RingRecord) → IsStillOut old s → IsStillOut new s
  query-keeps ring what answer at s = kept-at (SeatQueries what answer) Anywhere ring (queried what answer) at s (λ e. tt)

-- ---- by the helpers' calls

module _ (old new : AtSeats) where
  pub reserved-keeps : (ring n flags : ℕ) (answer : Option RingRecord) → CallsHelpers (Reserved ring n flags answer) old new → (s : RingRecord) → IsStillOut old s → IsStillOut new s
  reserved-keeps ring n flags answer call = reserve-keeps old new ring n flags answer call.unlogged call.seats.0

  pub reserved-kept : (ring n flags : ℕ) (answer : Option RingRecord) → CallsHelpers (Reserved ring n flags answer) old new
      → IfSome answer (λ r. IsStillOut new r × ((s : RingRecord) → IsStillOut old s → record_name s ≢ record_name r))
  reserved-kept ring n flags answer call = reserve-kept old new ring n flags answer call.unlogged call.seats.0

  pub ended-keeps : (end : RecordEnd) (owned : RingRecord) (flags : ℕ) (taken : Bool) → CallsHelpers (ended_call end owned flags taken) old new → (s : RingRecord) → IsStillOut old s → record_name s ≢ record_name owned → IsStillOut new s
  ended-keeps end owned flags taken call = end-keeps old new end owned flags taken call.due (ended_of owned flags taken call.due call.unlogged old.seats new.seats end call.seats).0

  pub ended-taken : (end : RecordEnd) (owned : RingRecord) (flags : ℕ) (taken : Bool) → CallsHelpers (ended_call end owned flags taken) old new → IsStillOut old owned → taken ≡ true
  ended-taken end owned flags taken call = end-never-back old new end owned flags taken call.due (ended_of owned flags taken call.due call.unlogged old.seats new.seats end call.seats).0

  pub ended-frees : (end : RecordEnd) (owned : RingRecord) (flags : ℕ) (taken : Bool) → CallsHelpers (ended_call end owned flags taken) old new → IsStillOut new owned → ⊥
  ended-frees end owned flags taken call = end-frees old new end owned flags taken call.due (ended_of owned flags taken call.due call.unlogged old.seats new.seats end call.seats).0

  pub sent-keeps : (ring : ℕ) (bytes : List ℕ) (flags : ℕ) (answer : ℤ) → CallsHelpers (SentOut ring bytes flags answer) old new → (s : RingRecord) → IsStillOut old s → IsStillOut new s
  sent-keeps ring bytes flags answer call = output-keeps old new ring bytes flags answer call.due call.unlogged call.seats call.seats.answer_is.1

  pub queried-keeps : (ring what answer : ℕ) → CallsHelpers (Queried ring what answer) old new → (s : RingRecord) → IsStillOut old s → IsStillOut new s
  queried-keeps ring what answer call = query-keeps old new ring what answer call.seats.0
