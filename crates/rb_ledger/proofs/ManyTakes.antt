-- Many takes under one acquisition of the lock, as a sequence of single takes.
use Rattle.std.proofs.Common.{◌≡◌, ℕ, ◌+◌, Bool, true, false, List, [], ◌∷◌, ◌++◌, length, take, drop, ◌-◌, length-drop, refl, sym, ap, ◌∙◌, subst, append_assoc, arith}
use Rattle.std.specs.FinMap.{get, insert}
use Rattle.std.proofs.lemmas.Bool.{true≢false}
use Rattle.std.proofs.lemmas.List.{take_all}
use Rattle.std.proofs.lemmas.List.Prefix.{front_rest}
use Rattle.rb_history.specs.declared.entries.Entry.{Entry}
use Rattle.rb_history.specs.declared.entries.Entry.TheVariants.{Take}
use Rattle.rb_history.specs.declared.answers.Taken.{Taken}
use Rattle.rb_history.specs.declared.answers.Taken.TheVariants.{Event, Skipped, BusyFront, Empty}
use Rattle.rb_history.specs.History.{status_by, is_submitted_at, is_discarded_at, is_taken_at, is_discard}
use Rattle.rb_history.specs.History.Status.{Discarded}
use Rattle.rb_history.specs.RoomRule.{Setup}
use Rattle.rb_history.specs.Legal.{IsLegal}
use Rattle.rb_history.specs.RingModel.{Ring, Contents, StandsFor}
use Rattle.rb_history.specs.Calls.{Logs, Takes}
use Rattle.rb_history.specs.ManyTakes.{TakesEach, TakesMany, pushed}
use Rattle.rb_history.proofs.Laws.{legal-front}
use Rattle.rb_history.proofs.Lists.{list_any-snoc, or-false, sum_by-cons}
use Rattle.rb_ledger.specs.Roles.{Book, book_of}
use Rattle.rb_ledger.specs.Roles.Role.{Consumer}
use Rattle.rb_ledger.specs.SentBytes.{IsWithin}
use Rattle.rb_ledger.specs.AddedBytes.{bytes_after, got_with, put_at}
use Rattle.rb_ledger.specs.RoleKnowledge.{role_knowledge}
use Rattle.rb_ledger.specs.Ledger.{Ledger, IsRing, FitsLedger}
use Rattle.rb_ledger.specs.Seats.{ConsumerTies}
use Rattle.rb_ledger.specs.LockSteps.{knowledge_after}
use Rattle.rb_ledger.specs.LockedCalls.{LockedCall, events_in, skips_in, span_in}
use Rattle.rb_ledger.specs.ManyTakes.{events_among, skips_among, span_among, AreTakenFrom, got_by_all}
use Rattle.rb_ledger.proofs.Histories.{AllOwn}
use Rattle.rb_history.proofs.TakenRecords.{discarded-is}
use Rattle.rb_ledger.proofs.Steps.{left-out, Done, done, step-from, quiet}
use Rattle.rb_ledger.proofs.Calls.{StepIn, same-contents, same-logs, skipped-none, within-more}
use Rattle.rb_ledger.proofs.Seated.{taker-goes-on, taker-same, taker-taken, taken-place}

-- ---- the entries

-- the entries of takes
abbrev pub takes_of : List Taken → List Entry
takes_of [] = []
takes_of (Event p w k b ∷ ts) = Take p ∷ takes_of ts
takes_of (Skipped p n ∷ ts) = Take p ∷ takes_of ts
takes_of (BusyFront ∷ ts) = takes_of ts
takes_of (Empty ∷ ts) = takes_of ts

logs-more : (old mid new : Ring) (p : ℕ) (es : List Entry) → Logs old mid (Take p ∷ []) → Logs mid new es → Logs old new (Take p ∷ es)
logs-more old mid new p es one rest = record {
  setup_same = rest.setup_same ∙ one.setup_same;
  history_is = rest.history_is ∙ ap (λ h. h ++ es) one.history_is ∙ append_assoc old.history (Take p ∷ []) es;
}

pub logs-each : (old new : Ring) (ts : List Taken) → TakesEach old ts new → Logs old new (takes_of ts)
logs-each old new [] same = same-logs old new same
logs-each old new (Event p w k b ∷ ts) each = logs-more old each.0 new p (takes_of ts) each.1.logged (logs-each each.0 new ts each.3)
logs-each old new (Skipped p n ∷ ts) each = logs-more old each.0 new p (takes_of ts) each.1.logged (logs-each each.0 new ts each.3)
logs-each old new (BusyFront ∷ ts) each = absurd each.2
logs-each old new (Empty ∷ ts) each = absurd each.2

own-each : (ts : List Taken) (h : List Entry) → AllOwn Consumer h (takes_of ts)
own-each [] h = tt
own-each (Event p w k b ∷ ts) h = (refl, own-each ts (h ++ Take p ∷ []))
own-each (Skipped p n ∷ ts) h = (refl, own-each ts (h ++ Take p ∷ []))
own-each (BusyFront ∷ ts) h = own-each ts h
own-each (Empty ∷ ts) h = own-each ts h

-- ---- the contents

fewer-one : (old new : Ring) (t : Taken) → Takes old new t → IsWithin new.contents old.contents
fewer-one old new (Event p w k b) call = λ q c is. left-out old.contents p q c (ap (λ (m : Contents). get m q) (sym call.contents_are) ∙ is)
fewer-one old new (Skipped p n) call = same-contents old.contents new.contents call.contents_same
fewer-one old new BusyFront call = same-contents old.contents new.contents (ap (λ (r : Ring). r.contents) call.same)
fewer-one old new Empty call = same-contents old.contents new.contents (ap (λ (r : Ring). r.contents) call.same)

fewer-each : (old new : Ring) (ts : List Taken) → TakesEach old ts new → IsWithin new.contents old.contents
fewer-each old new [] same = same-contents old.contents new.contents (ap (λ (r : Ring). r.contents) same)
fewer-each old new (t ∷ ts) each = λ q c is. fewer-one old each.0 t each.1 q c (fewer-each each.0 new ts each.3 q c is)

-- a take discards nothing
discarded-before : (old new : Ring) (p q : ℕ) → Logs old new (Take p ∷ []) → is_discarded_at new.history q ≡ true → is_discarded_at old.history q ≡ true
discarded-before old new p q logs is = sym (ap (λ h. is_discarded_at h q) logs.history_is ∙ list_any-snoc (is_discard q) old.history (Take p) ∙ or-false _) ∙ is

discarded-status : (s d t : Bool) → d ≡ true → status_by s d t ≡ Discarded
discarded-status true true t e = refl
discarded-status false true t e = refl
discarded-status s false t e = absurd (true≢false (sym e))

-- the bytes that the takes return are those that the ring had initially
module _ (first : Ring) (stands : StandsFor first) where
  got-each : (old new : Ring) (ts : List Taken) (m : Contents) → IsWithin old.contents first.contents → ((q : ℕ) → is_discarded_at old.history q ≡ true → is_discarded_at first.history q ≡ true) → TakesEach old ts new → got_with first.contents (takes_of ts) m ≡ got_by_all m ts
  got-each old new [] m within gone each = refl
  got-each old new (Event p w k b ∷ ts) m within gone each =
      ap (λ o. got_with first.contents (takes_of ts) (put_at p o m)) (within p b each.1.bytes_are)
      ∙ got-each each.0 new ts (insert m p b) (λ q c is. within q c (fewer-one old each.0 (Event p w k b) each.1 q c is)) (λ q is. gone q (discarded-before old each.0 p q each.1.logged is)) each.3
  got-each old new (Skipped p n ∷ ts) m within gone each =
      let was = gone p (discarded-is (is_submitted_at old.history p) (is_discarded_at old.history p) (is_taken_at old.history p) each.1.discarded) in
      let none = skipped-none first p stands (discarded-status (is_submitted_at first.history p) (is_discarded_at first.history p) (is_taken_at first.history p) was) in
      ap (λ o. got_with first.contents (takes_of ts) (put_at p o m)) none
      ∙ got-each each.0 new ts m (λ q c is. within q c (fewer-one old each.0 (Skipped p n) each.1 q c is)) (λ q is. gone q (discarded-before old each.0 p q each.1.logged is)) each.3
  got-each old new (BusyFront ∷ ts) m within gone each = absurd each.2
  got-each old new (Empty ∷ ts) m within gone each = absurd each.2

got-within : (all : Contents) (old new : Ring) (ts : List Taken) (got : Contents) → IsWithin old.contents all → IsWithin got all → TakesEach old ts new → IsWithin (got_by_all got ts) all
got-within all old new [] got there fit each = fit
got-within all old new (Event p w k b ∷ ts) got there fit each =
    got-within all each.0 new ts (insert got p b) (λ q c is. there q c (fewer-one old each.0 (Event p w k b) each.1 q c is)) (within-more got all p b fit (there p b each.1.bytes_are)) each.3
got-within all old new (Skipped p n ∷ ts) got there fit each =
    got-within all each.0 new ts got (λ q c is. there q c (fewer-one old each.0 (Skipped p n) each.1 q c is)) fit each.3
got-within all old new (BusyFront ∷ ts) got there fit each = absurd each.2
got-within all old new (Empty ∷ ts) got there fit each = absurd each.2

-- ---- the state may be put back

each-done : (s : Ledger) (new : Ring) (seen : Book) (got : Contents) (ts : List Taken) → TakesEach s.ring ts new → IsRing new → FitsLedger s (role_knowledge Consumer seen got) → Done s new (role_knowledge Consumer seen got)
each-done s new seen got ts each is_ring fit =
    let logs = logs-each s.ring new ts each in
    done s (record { ring = new; sent = s.sent }) (role_knowledge Consumer seen got) (got_by_all got ts) (takes_of ts)
    (quiet s new (takes_of ts) logs.setup_same logs.history_is fit.sound is_ring Consumer (own-each ts s.ring.history) (fewer-each s.ring new ts each)) fit
    (got-each s.ring fit.sound.is_ring.stands s.ring new ts got (λ q c is. is) (λ q is. is) each)
    (got-within s.sent s.ring new ts got fit.sound.within fit.bytes_fit each)

pub put-many : (seen : Book) (got : Contents) (old new : Ring) (n : ℕ) (ts : List Taken) → TakesMany n ts old new → IsRing new → StepIn (role_knowledge Consumer seen got) old new (knowledge_after old new (role_knowledge Consumer seen got))
put-many seen got old new n ts call is_ring =
    step-from (role_knowledge Consumer seen got) old new (λ x. TakesEach x ts new) call.each (λ s each fit. each-done s new seen got ts each is_ring fit)

pub after-many : (m : Contents) (old new : Ring) (n : ℕ) (ts : List Taken) → IsRing old → TakesMany n ts old new → bytes_after Consumer old new (drop (length old.history) new.history) m ≡ got_by_all m ts
after-many m old new n ts is_ring call =
    ap (λ es. bytes_after Consumer old new es m) (front_rest new.history old.history (takes_of ts) (logs-each old new ts call.each).history_is)
    ∙ got-each old is_ring.stands old new ts m (λ q c is. is) (λ q is. is) call.each

-- ---- the consumer's counts

module _ (old new : Ring) (es : List Entry) (logs : Logs old new es) where
  legal-before : IsLegal new.setup new.history → IsLegal old.setup old.history
  legal-before legal = legal-front old.setup old.history es (subst (IsLegal old.setup) logs.history_is (subst (λ (x : Setup). IsLegal x new.history) logs.setup_same legal))

numbers-join : (c s p : ℕ) (t : Taken) (ts : List Taken) (new : Ring) → ConsumerTies (c + events_in t + events_among ts) (s + skips_in t + skips_among ts) (p + span_in t + span_among ts) (book_of new)
    → ConsumerTies (c + events_among (t ∷ ts)) (s + skips_among (t ∷ ts)) (p + span_among (t ∷ ts)) (book_of new)
numbers-join c s p t ts new ties = record {
  consumed_is = let e = ties.consumed_is in omega (arith, e, sum_by-cons events_in t ts);
  skipped_is = let e = ties.skipped_is in omega (arith, e, sum_by-cons skips_in t ts);
  position_is = let e = ties.position_is in omega (arith, e, sum_by-cons span_in t ts);
}

ties-each : (c s p : ℕ) (old new : Ring) (ts : List Taken) → IsLegal new.setup new.history → ConsumerTies c s p (book_of old) → TakesEach old ts new → ConsumerTies (c + events_among ts) (s + skips_among ts) (p + span_among ts) (book_of new)
ties-each c s p old new [] legal ties same = taker-same c s p old new (legal-before old new [] (same-logs old new same) legal) legal ties same
ties-each c s p old new (t ∷ ts) legal ties each =
    let mid = each.0 in
    let was = legal-before old new (takes_of (t ∷ ts)) (logs-each old new (t ∷ ts) each) legal in
    let is = legal-before mid new (takes_of ts) (logs-each mid new ts each.3) legal in
    let one = taker-taken c s p old mid was is ties t each.1 in
    numbers-join c s p t ts new (ties-each (c + events_in t) (s + skips_in t) (p + span_in t) mid new ts legal one each.3)

places-each : (c s p : ℕ) (old new : Ring) (ts : List Taken) → IsLegal new.setup new.history → ConsumerTies c s p (book_of old) → TakesEach old ts new → AreTakenFrom p ts
places-each c s p old new [] legal ties same = tt
places-each c s p old new (t ∷ ts) legal ties each =
    let mid = each.0 in
    let was = legal-before old new (takes_of (t ∷ ts)) (logs-each old new (t ∷ ts) each) legal in
    let is = legal-before mid new (takes_of ts) (logs-each mid new ts each.3) legal in
    let one = taker-taken c s p old mid was is ties t each.1 in
    (taken-place c s p old mid was is ties t each.1, places-each (c + events_in t) (s + skips_in t) (p + span_in t) mid new ts legal one each.3)

module _ (c s p : ℕ) (b a : Book) (n : ℕ) (ts : List Taken) (turn : LockedCall Consumer b a (TakesMany n ts)) (ties : ConsumerTies c s p b) where
  point-ties : ConsumerTies c s p (book_of turn.point)
  point-ties = taker-goes-on c s p b (book_of turn.point) turn.goes_on turn.was_ring.legal ties

  pub many-ties : ConsumerTies (c + events_among ts) (s + skips_among ts) (p + span_among ts) a
  many-ties = subst (ConsumerTies (c + events_among ts) (s + skips_among ts) (p + span_among ts)) (sym turn.seen) (ties-each c s p turn.point turn.left ts turn.is_ring.legal point-ties turn.called.each)

  pub many-places : AreTakenFrom p ts
  many-places = places-each c s p turn.point turn.left ts turn.is_ring.legal point-ties turn.called.each

  -- it remains the same ring
  pub many-setup : a.setup ≡ b.setup
  many-setup = ap (λ (x : Book). x.setup) turn.seen ∙ (logs-each turn.point turn.left ts turn.called.each).setup_same ∙ turn.goes_on.setup_same

-- what was pushed, as the slice after the earlier elements
pub slice-pushed : (before after whole : List Taken) (k : ℕ) → whole ≡ after → k ≡ length before → take (length whole - k) (drop k whole) ≡ pushed before after
slice-pushed before after whole k same is = take_all (length whole - k) (drop k whole) (omega (arith, length-drop k whole)) ∙ ap (drop k) same ∙ ap (λ n. drop n after) is
