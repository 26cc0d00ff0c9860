-- What each seat has seen begins with what it had seen before.
use Rattle.std.proofs.Common.{◌≡◌, ℕ, ◌<◌, ◌≤◌, ◌⊎◌, inl, inr, ℤ, pos, negsuc, Bool, true, false, List, [], ◌∷◌, length, Option, Some, None, Ok, refl, sym, subst, arith}
use Rattle.std.proofs.lemmas.Bool.{cases_lt}
use Rattle.std.specs.List.{AllZip}
use Rattle.rb_history.specs.declared.answers.Notice.{Notice}
use Rattle.rb_history.specs.ReservationModel.{Granted}
use Rattle.rb_chapter_ring.specs.HandGranted.{HandGranted}
use Rattle.rb_history.specs.RingModel.{Ring}
use Rattle.rb_history.specs.Calls.{producer_now}
use Rattle.rb_chapter_ring.specs.declared.faults.ReserveFault.TheVariants.{Full, ChapterFull}
use Rattle.rb_chapter_ring.specs.declared.record_end.RecordEnd.{RecordEnd}
use Rattle.rb_chapter_ring.specs.declared.record_end.RecordEnd.TheVariants.{Submit, Discard}
use Rattle.rb_ledger.specs.Roles.{BeginsWith, book_of}
use Rattle.rb_ledger.specs.Roles.Role.{Worker}
use Rattle.rb_ledger.specs.Seats.{WorkerSeat}
use Rattle.rb_ledger.specs.LockedCalls.{Queries, output_by, sent_by_output}
use Rattle.rb_ledger.specs.RecordEnds.{EndsAt}
use Rattle.rb_ledger.proofs.Beginnings.{begins_with_all, begins_through, logged_begins, same_begins, call_begins}
use Rattle.rb_shared_ring.specs.SharedCalls.{RefusesInRoom, ReservesInRoom, OutputsInRoom}
use Rattle.rb_interp.specs.AnsweredCalls.{AnsweredCall, Reserved, Submitted, Discarded, SentOut, Queried}
use Rattle.rb_chapter_ring.specs.declared.ring_record.RingRecord.{RingRecord}
use Rattle.rb_jobs.specs.SeatCalls.{AtSeat, CallsSeats, OutputAnswered, RecordAnswered, SeatCallsRing, SeatIsRefused, SeatOutputs, NoHandOrSheet, HasNoSheet, ReserveAnswered, notice_of}
use Rattle.rb_jobs.specs.SeatLaws.{SeatsGoOn, SeatBegins}
use Rattle.rb_jobs.specs.inner.RecordEnds.{SeatEnds, ended_call}
use Rattle.rb_jobs.proofs.Ends.{ended_of}
use Rattle.rb_jobs.proofs.Lists.{zip_self, zip_through, zip_one}
use Rattle.rb_ledger.proofs.EntryRoom.{without-room}

pub begins_itself : (s : WorkerSeat) → SeatBegins s s
begins_itself s = begins_with_all s.seen

pub begins_on : (x y z : WorkerSeat) → SeatBegins x y → SeatBegins y z → SeatBegins x z
begins_on x y z first second = begins_through x.seen y.seen z.seen first second

-- ---- one seat

-- the seat made a call of the ring, whose history grows at its end
seat_begins : (b a : WorkerSeat) (Call : Ring → Ring → Type 0) → SeatCallsRing Call b a → ((old new : Ring) → Call old new → BeginsWith (book_of new) (book_of old)) → SeatBegins b a
seat_begins b a Call call goes_on = call_begins (Worker b.worker) b.seen a.seen Call goes_on (without-room (Worker b.worker) b.seen a.seen b.room a.cut Call Call (λ old new called. called) call)

ring_full : (room cut w n : ℕ) (old new : Ring) → RefusesInRoom room cut old new w n Full → BeginsWith (book_of new) (book_of old)
ring_full room cut w n old new called = logged_begins old new _ called.0.logged

ring_chapter_full : (room cut w n : ℕ) (old new : Ring) → RefusesInRoom room cut old new w n ChapterFull → BeginsWith (book_of new) (book_of old)
ring_chapter_full room cut w n old new called = same_begins old new called.same

ring_grants : (room cut w n : ℕ) (r : Granted) (old new : Ring) → ReservesInRoom room cut w n (Ok r) old new → BeginsWith (book_of new) (book_of old)
ring_grants room cut w n r old new called = logged_begins old new _ called.0.logged

ring_queries : (what answer : ℕ) (old new : Ring) → Queries what answer old new → BeginsWith (book_of new) (book_of old)
ring_queries what answer old new called = same_begins old new called.0

refused_begins : (Uncalled : WorkerSeat → Type 0) (n unlogged : ℕ) (b a : WorkerSeat) → SeatIsRefused Uncalled n unlogged b a → SeatBegins b a
refused_begins Uncalled n unlogged b a (inl full) =
    seat_begins b a _ full.0.0 (ring_full b.room a.cut b.worker n)
refused_begins Uncalled n unlogged b a (inr (inl full)) =
    seat_begins b a _ full.0.at_last.0 (ring_chapter_full b.room a.cut b.worker n)
refused_begins Uncalled n unlogged b a (inr (inr none)) = subst (λ (s : WorkerSeat). SeatBegins b s) (sym none.1) (begins_itself b)

ring_ends : (end : RecordEnd) (r : Granted) (flags : ℕ) (notice : Notice) (old new : Ring) → EndsAt end r flags notice old new → BeginsWith (book_of new) (book_of old)
ring_ends Submit r flags told old new called = logged_begins old new _ called.0.logged
ring_ends Discard r flags told old new called = logged_begins old new _ called.0.logged

same_begun : (b a : WorkerSeat) → a ≡ b → SeatBegins b a
same_begun b a same = subst (λ (s : WorkerSeat). SeatBegins b s) (sym same) (begins_itself b)

end_begins : (end : RecordEnd) (r : HandGranted) (flags : ℕ) (taken due : Bool) (b a : WorkerSeat) → SeatEnds end r flags taken due b a → SeatBegins b a
end_begins end r flags true due b a did = seat_begins b a _ (did.takes refl).0 (ring_ends end r.granted flags (notice_of due))
end_begins end r flags false due b a did = same_begun b a (did.hands_back refl).1

sent_begins : (bytes : List ℕ) (flags : ℕ) (due : Bool) (b a : WorkerSeat) → SeatOutputs bytes flags due b a → SeatBegins b a
sent_begins bytes flags due b a did =
    seat_begins b a (λ old new.
    OutputsInRoom b.room a.cut b.worker bytes flags (Ok (notice_of due)) old new
    × (a ≡ record b { seen = a.seen; cut = a.cut; tally = output_by b.tally (Ok (notice_of due)); sent = sent_by_output b.sent (producer_now old) bytes (Ok (notice_of due)) })) did
    (λ old new called. logged_begins old new _ called.0.0.logged)

-- ---- all seats, after one call

begins_nowhere : (old new : List WorkerSeat) → new ≡ old → AllZip SeatBegins old new
begins_nowhere old new same = subst (λ xs. AllZip SeatBegins old xs) (sym same) (zip_self SeatBegins begins_itself old)

begins_at : (ring : ℕ) (Did : WorkerSeat → WorkerSeat → Type 0) (old new : List WorkerSeat) → ((b a : WorkerSeat) → Did b a → SeatBegins b a) → AtSeat ring Did old new → AllZip SeatBegins old new
begins_at ring Did old new begins at =
    subst (λ xs. AllZip SeatBegins old xs) (sym at.new_is) (zip_one SeatBegins begins_itself old ring at.before at.after at.before_is (begins at.before at.after at.did))

record_begins : (ring : ℕ) (taken due : Bool) (Did : WorkerSeat → WorkerSeat → Type 0) (old new : List WorkerSeat) → ((b a : WorkerSeat) → Did b a → SeatBegins b a)
    → RecordAnswered ring taken due Did old new → (ring < length old) ⊎ (length old ≤ ring) → AllZip SeatBegins old new
record_begins ring taken due Did old new begins answered (inl below) = begins_at ring Did old new begins (answered.at_ring below)
record_begins ring taken due Did old new begins answered (inr beyond) = begins_nowhere old new (answered.no_ring beyond).2

reserve_begins : (ring n flags : ℕ) (answer : Option RingRecord) (unlogged : ℕ) (old new : List WorkerSeat) → ReserveAnswered ring n flags answer unlogged old new → (0 < flags) ⊎ (flags ≤ 0) → AllZip SeatBegins old new
reserve_begins ring n flags (Some r) unlogged old new led flagged =
    begins_at ring _ old new
    (λ b a did. seat_begins b a _ did.0 (ring_grants b.room a.cut b.worker n r.reservation.granted)) led.3
reserve_begins ring n flags None unlogged old new led (inl above) = begins_nowhere old new (led.1 (λ e. absurd (omega (arith, above, e)))).0
reserve_begins ring n flags None unlogged old new led (inr zero) = begins_at ring _ old new (refused_begins (NoHandOrSheet n) n unlogged) (led.0 (omega (arith, zero)))

output_begins : (ring : ℕ) (bytes : List ℕ) (flags : ℕ) (answer : ℤ) (due : Bool) (unlogged : ℕ) (old new : List WorkerSeat) → OutputAnswered ring bytes flags answer due unlogged old new
    → (answer ≡ pos 0) ⊎ (answer ≡ negsuc 10) ⊎ (answer ≡ negsuc 21) → AllZip SeatBegins old new
output_begins ring bytes flags answer due unlogged old new led (inl is) =
    begins_at ring (SeatOutputs bytes flags due) old new (sent_begins bytes flags due) (led.sent is).0
output_begins ring bytes flags answer due unlogged old new led (inr (inl is)) = begins_at ring _ old new (refused_begins (HasNoSheet (length bytes)) (length bytes) unlogged) (led.refused is).0
output_begins ring bytes flags answer due unlogged old new led (inr (inr is)) = begins_nowhere old new (led.no_step is).0

end_goes_on : (end : RecordEnd) (owned : RingRecord) (flags : ℕ) (taken due : Bool) (unlogged : ℕ) (old new : List WorkerSeat) → CallsSeats (ended_call end owned flags taken) due unlogged old new → AllZip SeatBegins old new
end_goes_on end owned flags taken due unlogged old new led =
    record_begins owned.ring taken due (SeatEnds end owned.reservation flags taken due) old new
    (end_begins end owned.reservation flags taken due)
    (ended_of owned flags taken due unlogged old new end led).0 (cases_lt owned.ring (length old))

call_goes_on : (call : AnsweredCall RingRecord) (due : Bool) (unlogged : ℕ) (old new : List WorkerSeat) → CallsSeats call due unlogged old new → AllZip SeatBegins old new
call_goes_on (Reserved ring n flags answer) due unlogged old new led = reserve_begins ring n flags answer unlogged old new led.0 (cases_lt 0 flags)
call_goes_on (Submitted owned flags taken) due unlogged old new led = end_goes_on Submit owned flags taken due unlogged old new led
call_goes_on (Discarded owned flags taken) due unlogged old new led = end_goes_on Discard owned flags taken due unlogged old new led
call_goes_on (SentOut ring bytes flags answer) due unlogged old new led = output_begins ring bytes flags answer due unlogged old new led led.answer_is.1
call_goes_on (Queried ring what answer) due unlogged old new led =
    begins_at ring _ old new (λ b a did. seat_begins b a _ did.0 (ring_queries what answer)) led.0

-- ---- the law

pub seats_go_on : SeatsGoOn
seats_go_on old new [] unlogged led = begins_nowhere old new led.0
seats_go_on old new (call ∷ more) unlogged (due, mid, first, rest, led, later, sum) =
    zip_through SeatBegins begins_on old mid new (call_goes_on call due first old mid led) (seats_go_on mid new more rest later)
