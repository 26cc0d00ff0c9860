-- What the ring's result of one call means for the seat that made it.
use Rattle.std.proofs.Common.{◌≡◌, ◌≢◌, ℕ, zero, suc, ◌+◌, ◌<◌, ◌≤◌, Bool, false, List, [], ◌∷◌, length, get_or, set, Some, Result, Ok, Err, None, IfOk, IfErr, is_ok, ◌↔◌, ◌⊎◌, inr, refl, ap, sym, ◌∙◌, subst, arith}
use Rattle.std.proofs.lemmas.Option.{slice_get_read}
use Rattle.std.proofs.lemmas.List.{length-replicate, get_or-set_same}
use Rattle.std.specs.Prelude.{slice_get, IsOk, OnOk}
use Rattle.rb_history.specs.declared.answers.Notice.{Notice}
use Rattle.rb_history.specs.declared.answers.Notice.TheVariants.{Due, NotDue}
use Rattle.rb_history.specs.declared.tally.Tally.{Tally}
use Rattle.rb_history.specs.RingModel.{Ring, Contents}
use Rattle.rb_history.specs.Calls.{producer_now}
use Rattle.rb_chapter_ring.specs.declared.faults.ReserveFault.{ReserveFault}
use Rattle.rb_chapter_ring.specs.declared.faults.ReserveFault.TheVariants.{Full, Flags, ChapterFull, Foreign, HandsFull}
use Rattle.rb_chapter_ring.specs.declared.record_end.RecordEnd.{RecordEnd}
use Rattle.rb_chapter_ring.specs.RecordEnds.{tally_with_end}
use Rattle.rb_ledger.specs.Seats.{Shared, WorkerSeat, IsSameSeat}
use Rattle.rb_chapter_ring.specs.Hands.{Hands, out_record, in_hand, IsLowestFree, AreAllOut}
use Rattle.rb_chapter_ring.specs.HandGranted.{HandGranted}
use Rattle.rb_ledger.specs.LockedCalls.{Queries, output_by, sent_by_output}
use Rattle.rb_ledger.specs.RecordEnds.{EndsAt, sent_by_end}
use Rattle.rb_shared_ring.specs.SharedCalls.{RefusesInRoom, ReservesInRoom, OutputsInRoom, IsInSeatsHand, IsRefusedInRoomAs, granted_in, hands_after_reserve, reserved_in_room_by, refused_in_room_by, output_in_room_by, sent_by_output_in_room}
use Rattle.rb_jobs.specs.declared.no_record.NoRecord.{NoRecord}
use Rattle.rb_jobs.specs.SeatCalls.{AtSeat, IsOutAtSeat, RecordAnswered, SeatCallsRing, SeatIsGranted, SeatQueries}
use Rattle.rb_jobs.specs.SeatHelpers.{AtSeats, AtRings, IsAt}
use Rattle.rb_jobs.specs.inner.CallAnswers.{SeatFails, SeatFailsOnce, SeatReserves, SeatReservesOnce, SeatSends, SeatSendsOnce, due_in}
use Rattle.rb_jobs.specs.inner.RecordEnds.{SeatEnds}
use Rattle.rb_jobs.proofs.Lists.{zip_at, zip_length, zip_set}
use Rattle.rb_jobs.proofs.RingCalls.{called_as}

-- ---- the seat itself

-- the seat is unchanged except for these fields
pub seat_is : (b a : WorkerSeat) (tally : Tally) (hands : Hands) (sent : Contents) → IsSameSeat b a → (b.out ≡ None) × (a.out ≡ None) → a.tally ≡ tally → a.hands ≡ hands → a.sent ≡ sent
    → a ≡ record b { seen = a.seen; cut = a.cut; tally = tally; hands = hands; sent = sent }
seat_is b a tally hands sent same released tally_is hands_are sent_is =
    ap (λ t. record a { tag = t }) same.tag_same
    ∙ ap (λ r. record a { tag = b.tag; ring = r }) same.ring_same
    ∙ ap (λ r. record a { tag = b.tag; ring = b.ring; room = r }) same.room_same
    ∙ ap (λ w. record a { tag = b.tag; ring = b.ring; room = b.room; worker = w }) same.worker_same
    ∙ ap (λ t. record a { tag = b.tag; ring = b.ring; room = b.room; worker = b.worker; tally = t }) tally_is
    ∙ ap (λ h. record a { tag = b.tag; ring = b.ring; room = b.room; worker = b.worker; tally = tally; hands = h }) hands_are
    ∙ ap (λ s. record a { tag = b.tag; ring = b.ring; room = b.room; worker = b.worker; tally = tally; hands = hands; sent = s }) sent_is
    ∙ ap (λ o. record a { tag = b.tag; ring = b.ring; room = b.room; worker = b.worker; tally = tally; hands = hands; sent = sent; out = o }) (released.1 ∙ sym released.0)

-- ---- reserve

pub granted_at : (n : ℕ) (r : HandGranted) (b a : WorkerSeat) → length b.hands ≡ 4 → IsSameSeat b a → (b.out ≡ None) × (a.out ≡ None) → a.tally ≡ record b.tally { made = b.tally.made + 1 }
    → a.hands ≡ set b.hands r.hand (Some (out_record r.granted.pos r.granted.serial n)) → a.sent ≡ b.sent → r.granted.serial ≡ b.tally.made → r.tag ≡ b.tag → IsLowestFree b.hands r.hand
    → SeatCallsRing (ReservesInRoom b.room a.cut b.worker n (Ok r.granted)) b a → SeatIsGranted n r b a
granted_at n r b a four same released tally hands sent serial tag lowest call =
    let long : n ≡ length r.granted.bytes = sym (ap length call.called.called.3 ∙ length-replicate n 0) in
    let there : r.hand < length b.hands = subst (λ m. r.hand < m) (sym four) lowest.is_free.below in
    let out : IsOutAtSeat a r = record {
      tag_is = tag ∙ sym same.tag_same;
      worker_is = call.called.called.2 ∙ sym same.worker_same;
      out = ap (λ hs. in_hand hs r.hand) hands ∙ get_or-set_same b.hands r.hand (Some (out_record r.granted.pos r.granted.serial n)) None there ∙ ap (λ m. Some (out_record r.granted.pos r.granted.serial m)) long;
    } in
    (call, serial, lowest, out, seat_is b a _ _ b.sent same released tally hands sent)

abbrev Refuses : ℕ → ℕ → ReserveFault → WorkerSeat → WorkerSeat → Type 0
Refuses w n fault b a = SeatCallsRing (λ old new. RefusesInRoom b.room a.cut old new w n fault × (fault ≢ Flags)) b a

pub fails_at : (n : ℕ) (fault : ReserveFault) (b a : WorkerSeat) → IsSameSeat b a → (b.out ≡ None) × (a.out ≡ None) → a.tally ≡ refused_in_room_by b.tally fault → a.hands ≡ b.hands → a.sent ≡ b.sent
    → Refuses b.worker n fault b a → SeatFailsOnce n fault b a
fails_at n Full b a same released tally hands sent call =
    (called_as b a _ _ (λ old new called. called.0) call, seat_is b a _ b.hands b.sent same released tally hands sent)
fails_at n ChapterFull b a same released tally hands sent call =
    (called_as b a _ _ (λ old new called. called.0) call, seat_is b a b.tally b.hands b.sent same released tally hands sent)
fails_at n Flags b a same released tally hands sent call = absurd (call.called.called.1 refl)
fails_at n Foreign b a same released tally hands sent call = absurd call.called.called.0
fails_at n HandsFull b a same released tally hands sent call = absurd call.called.called.0

-- for a reservation: if no hand is free, the ring is not called
pub refused_at : (n : ℕ) (fault : ReserveFault) (b a : WorkerSeat) → IsSameSeat b a → (b.out ≡ None) × (a.out ≡ None) → a.tally ≡ refused_in_room_by b.tally fault → a.hands ≡ b.hands → a.sent ≡ b.sent
    → (fault ≡ HandsFull → AreAllOut b.hands) → (AreAllOut b.hands → fault ≡ HandsFull) → (AreAllOut b.hands → a ≡ b) → (¬ AreAllOut b.hands → Refuses b.worker n fault b a) → SeatFailsOnce n fault b a
refused_at n HandsFull b a same released tally hands sent full all unchanged call = (full refl, unchanged (full refl))
refused_at n Full b a same released tally hands sent full all unchanged call = fails_at n Full b a same released tally hands sent (call (λ out. let no_way : Full ≡ HandsFull = all out in cc))
refused_at n ChapterFull b a same released tally hands sent full all unchanged call =
    fails_at n ChapterFull b a same released tally hands sent (call (λ out. let no_way : ChapterFull ≡ HandsFull = all out in cc))
refused_at n Flags b a same released tally hands sent full all unchanged call = fails_at n Flags b a same released tally hands sent (call (λ out. let no_way : Flags ≡ HandsFull = all out in cc))
refused_at n Foreign b a same released tally hands sent full all unchanged call = fails_at n Foreign b a same released tally hands sent (call (λ out. let no_way : Foreign ≡ HandsFull = all out in cc))

-- for any result
pub reserved_once : (n tag : ℕ) (answer : Result HandGranted (ReserveFault × List ℕ)) (b a : WorkerSeat) → length b.hands ≡ 4 → b.tag ≡ tag → IsSameSeat b a → (b.out ≡ None) × (a.out ≡ None)
    → a.tally ≡ reserved_in_room_by b.tally (granted_in answer) → a.hands ≡ hands_after_reserve b.hands n answer → a.sent ≡ b.sent → IfOk answer (λ r. r.granted.serial ≡ b.tally.made) → IfOk answer (λ r. r.tag ≡ b.tag)
    → IfOk answer (λ r. IsLowestFree b.hands r.hand) → IsRefusedInRoomAs HandsFull answer ↔ ((b.tag ≡ tag) × AreAllOut b.hands) → ((b.tag ≢ tag) ⊎ AreAllOut b.hands → a ≡ b)
    → (b.tag ≡ tag → ¬ AreAllOut b.hands → SeatCallsRing (ReservesInRoom b.room a.cut b.worker n (granted_in answer)) b a) → SeatReservesOnce n answer b a
reserved_once n tag (Ok r) b a four at same released tally hands sent serial tags lowest full unchanged call =
    granted_at n r b a four same released tally hands sent serial tags lowest (call at (λ out. absurd (full.1 (at, out))))
reserved_once n tag (Err e) b a four at same released tally hands sent serial tags lowest full unchanged call =
    refused_at n e.0 b a same released tally hands sent (λ is. (full.0 is).1) (λ out. full.1 (at, out)) (λ out. unchanged (inr out)) (call at)

-- if the chapter is full, the hands are not all out
pub free_once : (tag : ℕ) (answer : Result HandGranted (ReserveFault × List ℕ)) (b : WorkerSeat) → b.tag ≡ tag → IsRefusedInRoomAs HandsFull answer ↔ ((b.tag ≡ tag) × AreAllOut b.hands)
    → IfErr answer (λ e. e.0 ≡ ChapterFull → ¬ AreAllOut b.hands)
free_once tag (Ok r) b at full = tt
free_once tag (Err e) b at full = λ is out. let no_way : ChapterFull ≡ HandsFull = sym is ∙ full.1 (at, out) in cc

-- ---- submit and discard

-- what a refusal leaves unchanged, and what a success adds
pub unchanged : {T E : Type 0} (answer : Result T E) (b a : WorkerSeat) (given : E) → IfErr answer (λ back. (back ≡ given) × (a ≡ b)) → IfErr answer (λ _. a ≡ b)
unchanged (Ok x) b a given back = tt
unchanged (Err e) b a given back = back.1

pub tallied : {E : Type 0} (answer : Result Notice E) (now then : Tally) → IfOk answer (λ _. now ≡ then) → OnOk answer (now ≡ then)
tallied (Ok n) now then is = is
tallied (Err e) now then is = tt

-- at the ring's seat, the reservations that can be submitted or discarded are those that are out there
pub out_at : (ring : Shared) (seat : WorkerSeat) (r : HandGranted) → seat.tag ≡ ring.tag → IsInSeatsHand ring seat r ↔ IsOutAtSeat seat r
out_at ring seat r tag = (
  (λ in_hands. record { tag_is = in_hands.tag_is; worker_is = in_hands.worker_is; out = in_hands.out }),
  (λ out. record { seat_is = tag; tag_is = out.tag_is; worker_is = out.worker_is; out = out.out }),
)

pub ended_at : {E : Type 0} (end : RecordEnd) (ring : Shared) (r : HandGranted) (flags : ℕ) (answer : Result Notice E) (b a : WorkerSeat) → b.tag ≡ ring.tag → IsSameSeat b a → (b.out ≡ None) × (a.out ≡ None)
    → IsOk answer ↔ IsInSeatsHand ring b r → IfErr answer (λ _. a ≡ b) → IfOk answer (λ notice. SeatCallsRing (EndsAt end r.granted flags notice) b a) → OnOk answer (a.tally ≡ tally_with_end end b.tally)
    → OnOk answer (a.hands ≡ set b.hands r.hand None) → OnOk answer (a.sent ≡ sent_by_end end r.granted b.sent) → SeatEnds end r flags (is_ok answer) (due_in answer) b a
ended_at end ring r flags (Ok Due) b a tag same released exact back call tally hands sent = record {
  exact = ((λ e. (out_at ring b r tag).0 (exact.0 refl)), λ out. refl);
  takes = λ e. (call, seat_is b a _ _ _ same released tally hands sent);
  hands_back = λ e. absurd (cc);
}
ended_at end ring r flags (Ok NotDue) b a tag same released exact back call tally hands sent = record {
  exact = ((λ e. (out_at ring b r tag).0 (exact.0 refl)), λ out. refl);
  takes = λ e. (call, seat_is b a _ _ _ same released tally hands sent);
  hands_back = λ e. absurd (cc);
}
ended_at end ring r flags (Err x) b a tag same released exact back call tally hands sent = record {
  exact = ((λ e. (out_at ring b r tag).0 (exact.0 e)), λ out. exact.1 ((out_at ring b r tag).1 out));
  takes = λ e. absurd (cc);
  hands_back = λ e. (refl, back);
}

-- ---- output

-- the bytes are at the former producer position
sends_told : (bytes : List ℕ) (flags : ℕ) (notice : Notice) (b a : WorkerSeat) → IsSameSeat b a → (b.out ≡ None) × (a.out ≡ None) → a.tally ≡ output_in_room_by b.tally (Ok notice) → a.hands ≡ b.hands
    → SeatCallsRing (λ old new. OutputsInRoom b.room a.cut b.worker bytes flags (Ok notice) old new × (a.sent ≡ sent_by_output_in_room b.sent (producer_now old) bytes (Ok notice))) b a
    → SeatCallsRing (λ old new.
    OutputsInRoom b.room a.cut b.worker bytes flags (Ok notice) old new
    × (a ≡ record b { seen = a.seen; cut = a.cut; tally = output_by b.tally (Ok notice); sent = sent_by_output b.sent (producer_now old) bytes (Ok notice) })) b a
sends_told bytes flags notice b a same released tally hands call =
    called_as b a (λ old new. OutputsInRoom b.room a.cut b.worker bytes flags (Ok notice) old new × (a.sent ≡ sent_by_output_in_room b.sent (producer_now old) bytes (Ok notice)))
    (λ old new. OutputsInRoom b.room a.cut b.worker bytes flags (Ok notice) old new × (a ≡ record b { seen = a.seen; cut = a.cut; tally = output_by b.tally (Ok notice); sent = sent_by_output b.sent (producer_now old) bytes (Ok notice) }))
    (λ old new x. (x.0, seat_is b a _ b.hands _ same released tally hands x.1)) call

pub sent_at : (bytes : List ℕ) (flags : ℕ) (notice : Notice) (b a : WorkerSeat) → IsSameSeat b a → (b.out ≡ None) × (a.out ≡ None) → a.tally ≡ output_in_room_by b.tally (Ok notice) → a.hands ≡ b.hands
    → SeatCallsRing (λ old new. OutputsInRoom b.room a.cut b.worker bytes flags (Ok notice) old new × (a.sent ≡ sent_by_output_in_room b.sent (producer_now old) bytes (Ok notice))) b a
    → SeatSends bytes flags (Ok notice) b a
sent_at bytes flags Due b a same released tally hands call = sends_told bytes flags Due b a same released tally hands call
sent_at bytes flags NotDue b a same released tally hands call = sends_told bytes flags NotDue b a same released tally hands call

not_bad_flags : (fault : ReserveFault) (flags : ℕ) → flags ≤ 3 → (fault ≡ Flags → 3 < flags) → fault ≢ Flags
not_bad_flags fault flags few only is = absurd (let many : 3 < flags = only is in omega (arith, few, many))

pub not_sent_at : (bytes : List ℕ) (flags : ℕ) (refused : ReserveFault × List ℕ) (b a : WorkerSeat) → flags ≤ 3 → IsSameSeat b a → (b.out ≡ None) × (a.out ≡ None) → a.tally ≡ refused_in_room_by b.tally refused.0 → a.hands ≡ b.hands
    → SeatCallsRing (λ old new. OutputsInRoom b.room a.cut b.worker bytes flags (Err refused) old new × (a.sent ≡ b.sent)) b a → SeatFailsOnce (length bytes) refused.0 b a
not_sent_at bytes flags refused b a few same released tally hands call =
    fails_at (length bytes) refused.0 b a same released tally hands call.called.called.1
    (called_as b a _ _ (λ old new called. (called.0.0, not_bad_flags refused.0 flags few (λ is. called.0.1.0 is))) call)

called_with_hands : (room cut : ℕ) (old new : Ring) (w n : ℕ) (fault : ReserveFault) → RefusesInRoom room cut old new w n fault → fault ≢ HandsFull
called_with_hands room cut old new w n Full refuses is = cc
called_with_hands room cut old new w n ChapterFull refuses is = cc
called_with_hands room cut old new w n Flags refuses is = cc
called_with_hands room cut old new w n Foreign refuses is = cc
called_with_hands room cut old new w n HandsFull refuses is = refuses

-- for any result
pub sent_once : (bytes : List ℕ) (flags : ℕ) (answer : Result Notice (ReserveFault × List ℕ)) (b a : WorkerSeat) → flags ≤ 3 → IsSameSeat b a → (b.out ≡ None) × (a.out ≡ None)
    → a.tally ≡ output_in_room_by b.tally answer → a.hands ≡ b.hands
    → SeatCallsRing (λ old new. OutputsInRoom b.room a.cut b.worker bytes flags answer old new × (a.sent ≡ sent_by_output_in_room b.sent (producer_now old) bytes answer)) b a → SeatSendsOnce bytes flags answer b a
sent_once bytes flags (Ok notice) b a few same released tally hands call = sent_at bytes flags notice b a same released tally hands call
sent_once bytes flags (Err e) b a few same released tally hands call =
    (not_sent_at bytes flags e b a few same released tally hands call, called_with_hands b.room a.cut call.point call.left b.worker (length bytes) e.0 call.called.called.0.0)

-- ---- query

pub queried_at : (what answer : ℕ) (b a : WorkerSeat) → IsSameSeat b a → (b.out ≡ None) × (a.out ≡ None) → a.tally ≡ b.tally → a.hands ≡ b.hands → a.sent ≡ b.sent
    → SeatCallsRing (Queries what answer) b a → SeatQueries what answer b a
queried_at what answer b a same released tally hands sent call = (call, seat_is b a b.tally b.hands b.sent same released tally hands sent)

-- ---- the seat among the others

-- there is a seat for each ring
pub is_seat : (rings : List Shared) (seats : List WorkerSeat) (i : ℕ) → AtRings rings seats → i < length rings → i < length seats
is_seat rings seats i all below = omega (arith, zip_length IsAt rings seats all, below)

-- the seat has four hands
pub is_four : (seats : List WorkerSeat) (i : ℕ) (read before : WorkerSeat) → i < length seats → read ≡ get_or seats i read → before ≡ get_or seats i before → length read.hands ≡ 4 → length before.hands ≡ 4
is_four [] i read before below there here four = absurd (omega arith)
is_four (s ∷ seats) zero read before below there here four = subst (λ (x : WorkerSeat). length x.hands ≡ 4) (there ∙ sym here) four
is_four (s ∷ seats) (suc i) read before below there here four = is_four seats i read before (omega arith) there here four

-- the seat at an index is at the ring of this index
pub seat_there : (rings : List Shared) (seats : List WorkerSeat) (i : ℕ) (ring : Shared) (seat : WorkerSeat) → AtRings rings seats → i < length rings
    → seat ≡ get_or seats i seat → IsAt (get_or rings i ring) seat
seat_there rings seats i ring seat all below here = subst (λ s. IsAt (get_or rings i ring) s) (sym here) (zip_at IsAt rings seats i ring seat all below)

-- the same seat after a change is still at its ring
pub stays_at : (rings : List Shared) (seats : List WorkerSeat) (i : ℕ) (before after : WorkerSeat) → AtRings rings seats → before ≡ get_or seats i before
    → IsSameSeat before after → AtRings rings (set seats i after)
stays_at rings seats i before after all here same = zip_set IsAt rings seats i before after all
    (λ ring at. (same.tag_same ∙ ap (λ (s : WorkerSeat). s.tag) here ∙ at.0, same.ring_same ∙ ap (λ (s : WorkerSeat). s.ring) here ∙ at.1))

-- the call was made with the helpers' seat at this index
pub at_seat : (Did : WorkerSeat → WorkerSeat → Type 0) (now : AtSeats) (rings : List Shared) (seats : List WorkerSeat) (ring : ℕ) (before after : WorkerSeat)
    → seats ≡ now.seats → AtRings rings seats → ring < length rings → before ≡ get_or seats ring before → Did before after → AtSeat ring Did now.seats (set seats ring after)
at_seat Did now rings seats ring before after are all below here did = record {
  before = before;
  after = after;
  before_is = sym (ap (λ xs. slice_get xs ring) are) ∙ slice_get_read seats (length seats) ring before refl (is_seat rings seats ring all below) here;
  new_is = ap (λ xs. set xs ring after) are;
  did = did;
}

get_below : (seats : List WorkerSeat) (i : ℕ) → i < length seats → (s : WorkerSeat) × (slice_get seats i ≡ Some s) × (seats ≡ set seats i s)
get_below [] i below = absurd (omega arith)
get_below (s ∷ seats) zero below = (s, refl, refl)
get_below (s ∷ seats) (suc i) below = let more = get_below seats i (omega arith) in (more.0, more.1, ap (λ xs. s ∷ xs) more.2)

-- the seat did not change
pub at_same : (Did : WorkerSeat → WorkerSeat → Type 0) (now : AtSeats) (rings : List Shared) (seats : List WorkerSeat) (ring : ℕ)
    → seats ≡ now.seats → AtRings rings seats → ring < length rings → ((s : WorkerSeat) → Did s s) → AtSeat ring Did now.seats now.seats
at_same Did now rings seats ring are all below did =
    let here = get_below now.seats ring (subst (λ xs. ring < length xs) are (is_seat rings seats ring all below)) in
    record { before = here.0; after = here.0; before_is = here.1; new_is = here.2; did = did here.0 }

-- a call that did the first did the second
pub at_seat_as : (First Second : WorkerSeat → WorkerSeat → Type 0) (ring : ℕ) (old new : List WorkerSeat) → ((b a : WorkerSeat) → First b a → Second b a)
    → AtSeat ring First old new → AtSeat ring Second old new
at_seat_as First Second ring old new entails at =
    record { before = at.before; after = at.after; before_is = at.before_is; new_is = at.new_is; did = entails at.before at.after at.did }

-- ---- a record that is submitted or discarded

-- its ring is none of these
pub at_no_ring : (Did : WorkerSeat → WorkerSeat → Type 0) (now : AtSeats) (rings : List Shared) (seats : List WorkerSeat) (ring : ℕ)
    → seats ≡ now.seats → AtRings rings seats → length rings ≤ ring → RecordAnswered ring false false Did now.seats now.seats
at_no_ring Did now rings seats ring are all beyond =
    let same = zip_length IsAt rings seats all in let count : length seats ≡ length now.seats = ap (λ (xs : List WorkerSeat). length xs) are in
    record { at_ring = λ below. absurd (omega (arith, below, beyond, same, count)); no_ring = λ _. (refl, refl, refl) }

-- the call was made at its ring
pub at_own_ring : (taken due : Bool) (Did : WorkerSeat → WorkerSeat → Type 0) (now : AtSeats) (rings : List Shared) (seats new : List WorkerSeat) (ring : ℕ)
    → seats ≡ now.seats → AtRings rings seats → ring < length rings → AtSeat ring Did now.seats new → RecordAnswered ring taken due Did now.seats new
at_own_ring taken due Did now rings seats new ring are all below at =
    let same = zip_length IsAt rings seats all in let count : length seats ≡ length now.seats = ap (λ (xs : List WorkerSeat). length xs) are in
    record { at_ring = λ _. at; no_ring = λ beyond. absurd (omega (arith, below, beyond, same, count)) }

-- ---- by the result

pub granted_as : (n ring : ℕ) (answer : Result HandGranted NoRecord) (r : HandGranted) (old new : List WorkerSeat) → answer ≡ Ok r
    → AtSeat ring (SeatIsGranted n r) old new → AtSeat ring (SeatReserves n answer) old new
granted_as n ring answer r old new is at = subst (λ x. AtSeat ring (SeatReserves n x) old new) (sym is) at

pub fails_as : (n ring : ℕ) (answer : Result HandGranted NoRecord) (fault : NoRecord) (old new : List WorkerSeat) → answer ≡ Err fault
    → AtSeat ring (SeatFails n fault) old new → AtSeat ring (SeatReserves n answer) old new
fails_as n ring answer fault old new is at = subst (λ x. AtSeat ring (SeatReserves n x) old new) (sym is) at

pub sends_as : (bytes copy : List ℕ) (flags ring : ℕ) (answer said : Result Notice NoRecord) (old new : List WorkerSeat) → copy ≡ bytes → answer ≡ said
    → AtSeat ring (SeatSends copy flags said) old new → AtSeat ring (SeatSends bytes flags answer) old new
sends_as bytes copy flags ring answer said old new copied is at =
    subst (λ xs. AtSeat ring (SeatSends xs flags answer) old new) copied (subst (λ x. AtSeat ring (SeatSends copy flags x) old new) (sym is) at)
