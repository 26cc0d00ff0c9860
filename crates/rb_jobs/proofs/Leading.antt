-- Consequences of sequences of calls.
use Rattle.std.proofs.Common.{◌≡◌, ℕ, ◌+◌, ◌-◌, ◌<◌, ◌≤◌, Bool, false, List, [], ◌∷◌, ◌++◌, Some, None, refl, ap, sym, ◌∙◌, arith, append-nil, append_assoc, if◌then◌else◌, ◌==◌}
use Rattle.std.proofs.lemmas.Bool.{ne_eqb}
use Rattle.rb_history.specs.NoticesAndQueries.{query_answer}
use Rattle.rb_history.specs.History.{producer_of, consumer_of}
use Rattle.rb_history.specs.RoomRule.{Setup}
use Rattle.rb_history.specs.declared.entries.Entry.{Entry}
use Rattle.rb_ledger.specs.Seats.{WorkerSeat}
use Rattle.rb_interp.specs.AnsweredCalls.{AnsweredCall, Reserved, Submitted, Discarded, SentOut, Queried, note_of, notes_of, MayAnswer}
use Rattle.rb_chapter_ring.specs.declared.ring_record.RingRecord.{RingRecord}
use Rattle.rb_jobs.specs.SeatCalls.{CallsSeats}
use Rattle.rb_jobs.specs.SeatHelpers.{AtSeats}
use Rattle.rb_jobs.specs.SeatLaws.{HelpersLead, SeatsMayAnswer}

-- ---- answers

not_equal : (what n : ℕ) → n ≤ 3 → 3 < what → what == n ≡ false
not_equal what n few many = ne_eqb what n (λ e. absurd (omega (arith, e, few, many)))

-- there is no query above 3
no_number : (r : Setup) (h : List Entry) (what : ℕ) → 3 < what → query_answer r h what ≡ 0
no_number r h what many =
    let zeroth : what == 0 ≡ false = not_equal what 0 (omega arith) many in
    let first : what == 1 ≡ false = not_equal what 1 (omega arith) many in
    let second : what == 2 ≡ false = not_equal what 2 (omega arith) many in
    let third : what == 3 ≡ false = not_equal what 3 (omega arith) many in
    ap (λ b. if b then producer_of r.start h - consumer_of r.start h else if what == 1 then r.size else if what == 2 then consumer_of r.start h else if what == 3 then producer_of r.start h else 0) zeroth
    ∙ ap (λ b. if b then r.size else if what == 2 then consumer_of r.start h else if what == 3 then producer_of r.start h else 0) first
    ∙ ap (λ b. if b then consumer_of r.start h else if what == 3 then producer_of r.start h else 0) second
    ∙ ap (λ b. if b then producer_of r.start h else 0) third

may_answer : (call : AnsweredCall RingRecord) (due : Bool) (unlogged : ℕ) (old new : List WorkerSeat) → CallsSeats call due unlogged old new → MayAnswer (note_of call)
may_answer (Reserved ring n flags (Some r)) due unlogged old new led = λ granted. led.0.0
may_answer (Reserved ring n flags None) due unlogged old new led = λ granted. absurd (cc)
may_answer (Submitted owned flags taken) due unlogged old new led = tt
may_answer (Discarded owned flags taken) due unlogged old new led = tt
may_answer (SentOut ring bytes flags answer) due unlogged old new led = led.answer_is
may_answer (Queried ring what answer) due unlogged old new led = λ many. let moment = led.0.did.0.point in led.0.did.0.called.called.1 ∙ no_number moment.setup moment.history what many

pub all_may_answer : SeatsMayAnswer
all_may_answer old new [] unlogged led = tt
all_may_answer old new (call ∷ more) unlogged (due, mid, first, rest, led, later, sum) = (may_answer call due first old mid led, all_may_answer mid new more rest later)

-- ---- helpers

pub leads_seats : HelpersLead
leads_seats start now [] is = record {
  rings_same = ap (λ (h : AtSeats). h.rings) is;
  trace_is = ap (λ (h : AtSeats). h.trace) is ∙ sym (append-nil start.trace);
  room_is = let left = ap (λ (h : AtSeats). h.room) is in omega (arith, left);
  unlogged = 0;
  unlogged_is = let count = ap (λ (h : AtSeats). h.unlogged) is in omega (arith, count);
  seats_led = (ap (λ (h : AtSeats). h.seats) is, refl);
}
leads_seats start now (call ∷ more) (mid, made, later) =
    let all = leads_seats mid now more later in
    let room = made.room_is in let left = all.room_is in let count = made.unlogged_is in let counted = all.unlogged_is in
    record {
      rings_same = all.rings_same ∙ made.rings_same;
      trace_is = all.trace_is ∙ ap (λ t. t ++ notes_of more) made.trace_is ∙ append_assoc start.trace (note_of call ∷ []) (notes_of more);
      room_is = omega (arith, room, left);
      unlogged = made.unlogged + all.unlogged;
      unlogged_is = omega (arith, count, counted);
      seats_led = (made.due, mid.seats, made.unlogged, all.unlogged, made.seats, all.seats_led, refl);
    }
