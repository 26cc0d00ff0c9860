-- How the counts of a worker's seats together grow over a sequence of calls.
use Rattle.std.proofs.Common.{◌≡◌, ◌≢◌, ℕ, zero, suc, ◌+◌, ◌<◌, ◌≤◌, ◌⊎◌, inl, inr, ℤ, pos, negsuc, Bool, true, false, List, [], ◌∷◌, length, set, Option, Some, None, refl, ap, sym, ◌∙◌, subst, arith}
use Rattle.std.proofs.lemmas.Bool.{cases_lt}
use Rattle.std.proofs.lemmas.Option.{none-some}
use Rattle.std.proofs.lemmas.List.Sums.{sum_by-cons}
use Rattle.std.specs.Prelude.{slice_get, unwrap_or}
use Rattle.std.specs.List.{AllZip, sum_by}
use Rattle.rb_ledger.specs.Seats.{WorkerSeat, IsSameSeat}
use Rattle.rb_interp.specs.declared.completed_call.Done.{Done}
use Rattle.rb_interp.specs.declared.completed_call.Done.TheVariants.{Reserve, Submit, Discard, Output, Query}
use Rattle.rb_interp.specs.AnsweredCalls.{AnsweredCall, Reserved, Submitted, Discarded, SentOut, Queried, note_of}
use Rattle.rb_chapter_ring.specs.declared.ring_record.RingRecord.{RingRecord}
use Rattle.rb_jobs.specs.SeatCalls.{AtSeat, CallsSeats, OutputAnswered, RecordAnswered, SeatDiscards, SeatIsRefused, SeatSubmits, NoHandOrSheet, HasNoSheet}
use Rattle.rb_jobs.specs.SeatHelpers.{makes, submits, discards, fails, made_in, refused_in, submitted_in, discarded_in}
use Rattle.rb_jobs.specs.SeatLaws.{SeatsRise, TotalsRise}
use Rattle.rb_jobs.proofs.Lists.{zip_self, zip_through, zip_one}

-- ---- the seats are the same

pub same_seat : (s : WorkerSeat) → IsSameSeat s s
same_seat s = record { tag_same = refl; ring_same = refl; room_same = refl; worker_same = refl }

same_seats : (xs : List WorkerSeat) → AllZip IsSameSeat xs xs
same_seats xs = zip_self IsSameSeat same_seat xs

pub same_through : (x y z : WorkerSeat) → IsSameSeat x y → IsSameSeat y z → IsSameSeat x z
same_through x y z first second =
    record { tag_same = second.tag_same ∙ first.tag_same; ring_same = second.ring_same ∙ first.ring_same; room_same = second.room_same ∙ first.room_same; worker_same = second.worker_same ∙ first.worker_same }

-- ---- one seat's counts

one_set : (f : WorkerSeat → ℕ) (seats : List WorkerSeat) (i : ℕ) (before after : WorkerSeat) → slice_get seats i ≡ Some before → sum_by f (set seats i after) + f before ≡ sum_by f seats + f after
one_set f [] i before after at = absurd (none-some before at)
one_set f (s ∷ ss) zero before after at = let e : f s ≡ f before = ap (λ (o : Option WorkerSeat). f (unwrap_or o before)) at in let a : sum_by f (after ∷ ss) ≡ f after + sum_by f ss = sum_by-cons f after ss in let b : sum_by f (s ∷ ss) ≡ f s + sum_by f ss = sum_by-cons f s ss in omega arith
one_set f (s ∷ ss) (suc i) before after at = let e = one_set f ss i before after at in let a : sum_by f (s ∷ set ss i after) ≡ f s + sum_by f (set ss i after) = sum_by-cons f s (set ss i after) in let b : sum_by f (s ∷ ss) ≡ f s + sum_by f ss = sum_by-cons f s ss in omega arith

one_rises : (f : WorkerSeat → ℕ) (seats : List WorkerSeat) (i : ℕ) (before after : WorkerSeat) (n : ℕ) → slice_get seats i ≡ Some before → f after ≡ f before + n → sum_by f (set seats i after) ≡ sum_by f seats + n
one_rises f seats i before after n at rose = let e = one_set f seats i before after at in omega (arith, e, rose)

-- the same seat, whose counts grew by these numbers
abbrev Adds : ℕ → ℕ → ℕ → ℕ → WorkerSeat → WorkerSeat → Type 0
Adds m r s d b a =
    IsSameSeat b a × (a.tally.made ≡ b.tally.made + m) × (a.tally.refused ≡ b.tally.refused + r) × (a.tally.submitted ≡ b.tally.submitted + s)
    × (a.tally.discarded ≡ b.tally.discarded + d)

-- the seat is equal to this one
adds_as : (m r s d : ℕ) (b a is : WorkerSeat) → a ≡ is → Adds m r s d b is → Adds m r s d b a
adds_as m r s d b a is e adds = subst (λ x. Adds m r s d b x) (sym e) adds

add_zero : (n : ℕ) → n ≡ n + 0
add_zero n = omega arith

none_added : (n : ℕ) → n ≡ 0 → 0 + n ≡ 0
none_added n none = omega (arith, none)

-- ---- the counts of all seats, by one call

record CallRises (d : Done) (unlogged : ℕ) (old new : List WorkerSeat) : Type 0 where
  same : AllZip IsSameSeat old new
  made_is : made_in new ≡ made_in old + makes d
  submitted_is : submitted_in new ≡ submitted_in old + submits d
  discarded_is : discarded_in new ≡ discarded_in old + discards d
  failed_is : refused_in new + unlogged ≡ refused_in old + fails d

rises_at : (d : Done) (unlogged m r s c : ℕ) (ring : ℕ) (Did : WorkerSeat → WorkerSeat → Type 0) (old new : List WorkerSeat) → (at : AtSeat ring Did old new)
    → Adds m r s c at.before at.after → m ≡ makes d → r + unlogged ≡ fails d → s ≡ submits d → c ≡ discards d → CallRises d unlogged old new
rises_at d unlogged m r s c ring Did old new at adds makes_is fails_is submits_is discards_is =
    let made = one_rises (λ x. x.tally.made) old ring at.before at.after m at.before_is adds.1 in
    let refused = one_rises (λ x. x.tally.refused) old ring at.before at.after r at.before_is adds.2 in
    let submitted = one_rises (λ x. x.tally.submitted) old ring at.before at.after s at.before_is adds.3 in
    let discarded = one_rises (λ x. x.tally.discarded) old ring at.before at.after c at.before_is adds.4 in
    subst (λ xs. CallRises d unlogged old xs) (sym at.new_is) (record {
      same = zip_one IsSameSeat same_seat old ring at.before at.after at.before_is adds.0;
      made_is = omega (arith, made, makes_is);
      submitted_is = omega (arith, submitted, submits_is);
      discarded_is = omega (arith, discarded, discards_is);
      failed_is = omega (arith, refused, fails_is);
    })

-- nothing changed
rises_nowhere : (d : Done) (unlogged : ℕ) (old new : List WorkerSeat) → new ≡ old → unlogged ≡ 0 → 0 ≡ makes d → 0 ≡ fails d → 0 ≡ submits d → 0 ≡ discards d → CallRises d unlogged old new
rises_nowhere d unlogged old new is none makes_is fails_is submits_is discards_is =
    subst (λ xs. CallRises d unlogged old xs) (sym is) (record {
      same = same_seats old;
      made_is = omega (arith, makes_is);
      submitted_is = omega (arith, submits_is);
      discarded_is = omega (arith, discards_is);
      failed_is = omega (arith, fails_is, none);
    })

-- ---- the calls

-- what a seat that was refused a record adds
refusal_adds : (Uncalled : WorkerSeat → Type 0) (n unlogged : ℕ) (b a : WorkerSeat) → SeatIsRefused Uncalled n unlogged b a → (r : ℕ) × Adds 0 r 0 0 b a × (r + unlogged ≡ 1)
refusal_adds Uncalled n unlogged b a (inl full) =
    (1, adds_as 0 1 0 0 b a _ full.0.1 (record { tag_same = refl; ring_same = refl; room_same = refl; worker_same = refl }, add_zero _, refl, add_zero _, add_zero _), omega (arith, full.1))
refusal_adds Uncalled n unlogged b a (inr (inl full)) =
    (0, adds_as 0 0 0 0 b a _ full.0.at_last.1 (record { tag_same = refl; ring_same = refl; room_same = refl; worker_same = refl }, add_zero _, add_zero _, add_zero _, add_zero _), omega (arith, full.1))
refusal_adds Uncalled n unlogged b a (inr (inr none)) = (0, adds_as 0 0 0 0 b a _ none.1 (same_seat b, add_zero _, add_zero _, add_zero _, add_zero _), omega (arith, none.2))

refused_rises : (Uncalled : WorkerSeat → Type 0) (d : Done) (ring n unlogged : ℕ) (old new : List WorkerSeat) → AtSeat ring (SeatIsRefused Uncalled n unlogged) old new → 0 ≡ makes d → 1 ≡ fails d → 0 ≡ submits d → 0 ≡ discards d
    → CallRises d unlogged old new
refused_rises Uncalled d ring n unlogged old new at makes_is fails_is submits_is discards_is =
    let added = refusal_adds Uncalled n unlogged at.before at.after at.did in
    rises_at d unlogged 0 added.0 0 0 ring _ old new at added.1 makes_is (added.2 ∙ fails_is) submits_is discards_is

not_zero : (n : ℕ) → suc n ≢ 0
not_zero n e = absurd (omega (arith, e))

submit_adds : (owned : RingRecord) (flags : ℕ) (taken due : Bool) (b a : WorkerSeat) → SeatSubmits owned.reservation flags taken due b a → Adds 0 0 (submits (Submit flags taken)) 0 b a
submit_adds owned flags true due b a did = adds_as 0 0 1 0 b a _ (did.takes refl).1 (record { tag_same = refl; ring_same = refl; room_same = refl; worker_same = refl }, add_zero _, add_zero _, refl, add_zero _)
submit_adds owned flags false due b a did = adds_as 0 0 0 0 b a _ (did.hands_back refl).1 (same_seat b, add_zero _, add_zero _, add_zero _, add_zero _)

discard_adds : (owned : RingRecord) (flags : ℕ) (taken due : Bool) (b a : WorkerSeat) → SeatDiscards owned.reservation flags taken due b a → Adds 0 0 0 (discards (Discard flags taken)) b a
discard_adds owned flags true due b a did = adds_as 0 0 0 1 b a _ (did.takes refl).1 (record { tag_same = refl; ring_same = refl; room_same = refl; worker_same = refl }, add_zero _, add_zero _, add_zero _, refl)
discard_adds owned flags false due b a did = adds_as 0 0 0 0 b a _ (did.hands_back refl).1 (same_seat b, add_zero _, add_zero _, add_zero _, add_zero _)

submit_none : (flags : ℕ) (taken : Bool) → taken ≡ false → 0 ≡ submits (Submit flags taken)
submit_none flags taken is = ap (λ t. submits (Submit flags t)) (sym is)

discard_none : (flags : ℕ) (taken : Bool) → taken ≡ false → 0 ≡ discards (Discard flags taken)
discard_none flags taken is = ap (λ t. discards (Discard flags t)) (sym is)

submit_rises : (owned : RingRecord) (flags : ℕ) (taken due : Bool) (unlogged : ℕ) (old new : List WorkerSeat) → unlogged ≡ 0
    → RecordAnswered owned.ring taken due (SeatSubmits owned.reservation flags taken due) old new → (owned.ring < length old) ⊎ (length old ≤ owned.ring) → CallRises (Submit flags taken) unlogged old new
submit_rises owned flags taken due unlogged old new none led (inl below) =
    let at = led.at_ring below in rises_at (Submit flags taken) unlogged 0 0 _ 0 owned.ring _ old new at (submit_adds owned flags taken due at.before at.after at.did) refl (none_added unlogged none) refl refl
submit_rises owned flags taken due unlogged old new none led (inr beyond) =
    let no = led.no_ring beyond in rises_nowhere (Submit flags taken) unlogged old new no.2 none refl refl (submit_none flags taken no.0) refl

discard_rises : (owned : RingRecord) (flags : ℕ) (taken due : Bool) (unlogged : ℕ) (old new : List WorkerSeat) → unlogged ≡ 0
    → RecordAnswered owned.ring taken due (SeatDiscards owned.reservation flags taken due) old new → (owned.ring < length old) ⊎ (length old ≤ owned.ring) → CallRises (Discard flags taken) unlogged old new
discard_rises owned flags taken due unlogged old new none led (inl below) =
    let at = led.at_ring below in rises_at (Discard flags taken) unlogged 0 0 0 _ owned.ring _ old new at (discard_adds owned flags taken due at.before at.after at.did) refl (none_added unlogged none) refl refl
discard_rises owned flags taken due unlogged old new none led (inr beyond) =
    let no = led.no_ring beyond in rises_nowhere (Discard flags taken) unlogged old new no.2 none refl refl refl (discard_none flags taken no.0)

output_rises : (ring : ℕ) (bytes : List ℕ) (flags : ℕ) (answer : ℤ) (due : Bool) (unlogged : ℕ) (old new : List WorkerSeat) → OutputAnswered ring bytes flags answer due unlogged old new
    → (answer ≡ pos 0) ⊎ (answer ≡ negsuc 10) ⊎ (answer ≡ negsuc 21) → CallRises (Output ring (length bytes) flags answer) unlogged old new
output_rises ring bytes flags answer due unlogged old new led (inl is) =
    let sent = led.sent is in
    subst (λ x. CallRises (Output ring (length bytes) flags x) unlogged old new) (sym is)
    (rises_at (Output ring (length bytes) flags (pos 0)) unlogged 1 0 1 0 ring _ old new sent.0
    (adds_as 1 0 1 0 sent.0.before sent.0.after _ sent.0.did.called.called.1 (record { tag_same = refl; ring_same = refl; room_same = refl; worker_same = refl }, refl, add_zero _, refl, add_zero _)) refl (none_added unlogged sent.1) refl refl)
output_rises ring bytes flags answer due unlogged old new led (inr (inl is)) =
    subst (λ x. CallRises (Output ring (length bytes) flags x) unlogged old new) (sym is)
    (refused_rises (HasNoSheet (length bytes)) (Output ring (length bytes) flags (negsuc 10)) ring (length bytes) unlogged old new (led.refused is).0 refl refl refl refl)
output_rises ring bytes flags answer due unlogged old new led (inr (inr is)) =
    let same = led.no_step is in
    subst (λ x. CallRises (Output ring (length bytes) flags x) unlogged old new) (sym is)
    (rises_nowhere (Output ring (length bytes) flags (negsuc 21)) unlogged old new same.0 same.2 refl refl refl refl)

call_rises : (call : AnsweredCall RingRecord) (due : Bool) (unlogged : ℕ) (old new : List WorkerSeat) → CallsSeats call due unlogged old new → CallRises (note_of call) unlogged old new
call_rises (Reserved ring n zero (Some r)) due unlogged old new led =
    rises_at (Reserve ring n 0 true) unlogged 1 0 0 0 ring _ old new led.0.3
    (adds_as 1 0 0 0 led.0.3.before led.0.3.after _ led.0.3.did.4 (record { tag_same = refl; ring_same = refl; room_same = refl; worker_same = refl }, refl, add_zero _, add_zero _, add_zero _)) refl (none_added unlogged led.0.1) refl refl
call_rises (Reserved ring n (suc f) (Some r)) due unlogged old new led = absurd (not_zero f led.0.0)
call_rises (Reserved ring n zero None) due unlogged old new led = refused_rises (NoHandOrSheet n) (Reserve ring n 0 false) ring n unlogged old new (led.0.0 refl) refl refl refl refl
call_rises (Reserved ring n (suc f) None) due unlogged old new led =
    let same = led.0.1 (not_zero f) in rises_nowhere (Reserve ring n (suc f) false) unlogged old new same.0 same.1 refl refl refl refl
call_rises (Submitted owned flags taken) due unlogged old new led = submit_rises owned flags taken due unlogged old new led.1 led.0 (cases_lt owned.ring (length old))
call_rises (Discarded owned flags taken) due unlogged old new led = discard_rises owned flags taken due unlogged old new led.1 led.0 (cases_lt owned.ring (length old))
call_rises (SentOut ring bytes flags answer) due unlogged old new led = output_rises ring bytes flags answer due unlogged old new led led.answer_is.1
call_rises (Queried ring what answer) due unlogged old new led =
    rises_at (Query ring what answer) unlogged 0 0 0 0 ring _ old new led.0
    (adds_as 0 0 0 0 led.0.before led.0.after _ led.0.did.1 (record { tag_same = refl; ring_same = refl; room_same = refl; worker_same = refl }, add_zero _, add_zero _, add_zero _, add_zero _)) refl (none_added unlogged led.2) refl refl

-- ---- the law

no_call_rises : (unlogged : ℕ) (old new : List WorkerSeat) → new ≡ old → unlogged ≡ 0 → TotalsRise [] unlogged old new
no_call_rises unlogged old new is none = subst (λ xs. TotalsRise [] unlogged old xs) (sym is) (record {
  same = same_seats old;
  made_is = add_zero _;
  submitted_is = add_zero _;
  discarded_is = add_zero _;
  failed_is = omega (arith, none);
})

pub totals_rise : SeatsRise
totals_rise old new [] unlogged led = no_call_rises unlogged old new led.0 led.1
totals_rise old new (call ∷ more) unlogged (due, mid, first, rest, led, later, sum) =
    let one = call_rises call due first old mid led in
    let all = totals_rise mid new more rest later in
    let a = one.made_is in let b = one.submitted_is in let c = one.discarded_is in let e = one.failed_is in
    let a2 = all.made_is in let b2 = all.submitted_is in let c2 = all.discarded_is in let e2 = all.failed_is in
    record {
      same = zip_through IsSameSeat same_through old mid new one.same all.same;
      made_is = omega (arith, a, a2);
      submitted_is = omega (arith, b, b2);
      discarded_is = omega (arith, c, c2);
      failed_is = omega (arith, e, e2, sum);
    }
