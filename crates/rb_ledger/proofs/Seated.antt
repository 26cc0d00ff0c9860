-- A seat's counts after each call.
use Rattle.std.proofs.Common.{◌≡◌, ℕ, ◌+◌, ◌<◌, true, false, List, [], ◌∷◌, ◌++◌, length, sym, ap, ◌∙◌, subst, append_assoc, add-zero, Result, Ok, Err, IfOk}
use Rattle.std.specs.List.{Contains}
use Rattle.std.proofs.lemmas.Bool.{true≢false, false_from_ne_true}
use Rattle.std.proofs.lemmas.List.Elements.{Contains-push}
use Rattle.rb_history.specs.Span.{span}
use Rattle.rb_history.specs.declared.entries.Entry.{Entry}
use Rattle.rb_history.specs.declared.entries.Entry.TheVariants.{Res, Full, Sub, Dis, Take}
use Rattle.rb_history.specs.declared.answers.Notice.{Notice}
use Rattle.rb_history.specs.declared.answers.Taken.{Taken}
use Rattle.rb_history.specs.declared.answers.Taken.TheVariants.{Event, Skipped, BusyFront, Empty}
use Rattle.rb_history.specs.declared.answers.NoGrant.{NoGrant}
use Rattle.rb_history.specs.declared.answers.NoGrant.TheVariants.{Full as FaultFull, Memory, Flags}
use Rattle.rb_history.specs.ReservationModel.{Granted}
use Rattle.rb_history.specs.History.{grants, is_submitted_at, is_discarded_at, is_taken_at, consumer_of}
use Rattle.rb_history.specs.RoomRule.{Setup}
use Rattle.rb_history.specs.Legal.{IsLegal}
use Rattle.rb_history.specs.RingModel.{Ring}
use Rattle.rb_history.specs.Calls.{Refuses, Takes, producer_now}
use Rattle.rb_history.proofs.Laws.{legal-front}
use Rattle.rb_history.specs.declared.tally.Tally.{Tally}
use Rattle.rb_chapter_ring.specs.declared.record_end.RecordEnd.{RecordEnd}
use Rattle.rb_chapter_ring.specs.declared.record_end.RecordEnd.TheVariants.{Submit, Discard}
use Rattle.rb_chapter_ring.specs.RecordEnds.{tally_with_end}
use Rattle.rb_ledger.specs.Roles.{Book, book_of, ExtendsSeen}
use Rattle.rb_history.specs.WorkerCounts.{is_record_of, tally_of, events_of, skips_of}
use Rattle.rb_ledger.specs.Roles.Role.{Consumer, Worker}
use Rattle.rb_ledger.specs.Ledger.{IsRing}
use Rattle.rb_ledger.specs.Seats.{IsBook, Ties, ConsumerTies}
use Rattle.rb_ledger.specs.LockedCalls.{LockedCall, Reserves, OutputsAt, TakesAt, Queries, refused_by, reserved_by, output_by, submitted_by, events_in, skips_in, span_in, IsTakenAt}
use Rattle.rb_ledger.specs.RecordEnds.{EndsAt}
use Rattle.rb_history.proofs.RecordWorkers.{bit, granted-once, record-from}
use Rattle.rb_history.proofs.WorkerCounts.{tally-res, tally-full, tally-sub, tally-dis, events-next, skips-next}
use Rattle.rb_ledger.proofs.Tallies.{tally-goes, taker-goes}
use Rattle.rb_history.proofs.TakenRecords.{position-taken, never-both, waiting-submitted, discarded-is}

-- a ring's book is that of a ring that was opened
pub ring-book : (r : Ring) → IsRing r → IsBook (book_of r)
ring-book r i = record { size = i.bounded.size; start = i.bounded.start; workers = i.bounded.workers; legal = i.legal }

-- if others continue the history, a worker's counts agree with the continued one
pub ties-goes : (w : ℕ) (t : Tally) (b p : Book) → ExtendsSeen (Worker w) b p → IsLegal p.setup p.history → Ties w t b → Ties w t p
ties-goes w t b p goes legal ties = record {
  in_ring = subst (λ (x : Setup). w < x.workers) (sym goes.setup_same) ties.in_ring;
  counted =
      let l : IsLegal p.setup (b.history ++ goes.behind) = subst (IsLegal p.setup) goes.history_is legal in
      ties.counted ∙ sym (ap (tally_of w) goes.history_is ∙ tally-goes p.setup w b.history goes.behind l goes.none_own);
}

module _ (w : ℕ) (t : Tally) (old new : Ring) (is_ring : IsRing new) (ties : Ties w t (book_of old)) where
  -- new entries whose counts are known
  ties-by : (added : List Entry) (u : Tally) → new.setup ≡ old.setup → new.history ≡ old.history ++ added → (IsLegal old.setup (old.history ++ added) → tally_of w (old.history ++ added) ≡ u) → Ties w u (book_of new)
  ties-by added u setup history numbers = record {
    in_ring = subst (λ (x : Setup). w < x.workers) (sym setup) ties.in_ring;
    counted =
        let l : IsLegal old.setup (old.history ++ added) = subst (IsLegal old.setup) history (subst (λ x. IsLegal x new.history) setup is_ring.legal) in
        sym (ap (tally_of w) history ∙ numbers l);
  }

  ties-same : new ≡ old → Ties w t (book_of new)
  ties-same e = subst (λ r. Ties w t (book_of r)) (sym e) ties

  ties-refused : (n : ℕ) (f : NoGrant) → Refuses old new w n f → Ties w (refused_by t f) (book_of new)
  ties-refused n FaultFull c = ties-by (Full w n ∷ []) (refused_by t FaultFull) c.logged.setup_same c.logged.history_is (λ l. tally-full old.setup w n old.history l ∙ ap (λ u. refused_by u FaultFull) (sym ties.counted))
  ties-refused n Memory c = ties-same c
  ties-refused n Flags c = ties-same c

  ties-reserved : (n : ℕ) (a : Result Granted (NoGrant × List ℕ)) → Reserves w n a old new → Ties w (reserved_by t a) (book_of new)
  ties-reserved n (Ok r) c = ties-by (Res w r.serial n r.pos ∷ []) (reserved_by t (Ok r)) c.0.logged.setup_same c.0.logged.history_is (λ l. tally-res old.setup w r.serial n r.pos old.history l ∙ ap (λ u. reserved_by u (Ok r)) (sym ties.counted))
  ties-reserved n (Err e) c = ties-refused n e.0 c.0

  -- a record that was granted to the worker is its own
  own-record : (r : Granted) → r.worker ≡ w → Contains old.history (Res r.worker r.serial (length r.bytes) r.pos) → is_record_of w old.history r.pos ≡ true
  own-record r mine granted = subst (λ v. is_record_of v old.history r.pos ≡ true) mine (record-from old.history r.worker r.serial (length r.bytes) r.pos granted)

  ties-ended : (end : RecordEnd) (r : Granted) (flags : ℕ) (n : Notice) → r.worker ≡ w → EndsAt end r flags n old new → Ties w (tally_with_end end t) (book_of new)
  ties-ended Submit r flags n mine c =
      ties-by (Sub r.pos ∷ []) (tally_with_end Submit t) c.0.logged.setup_same c.0.logged.history_is (λ l. tally-sub old.setup w r.pos old.history l (own-record r mine c.0.was_busy.granted_is) ∙ ap (λ u. tally_with_end Submit u) (sym ties.counted))
  ties-ended Discard r flags n mine c =
      ties-by (Dis r.pos ∷ []) (tally_with_end Discard t) c.0.logged.setup_same c.0.logged.history_is (λ l. tally-dis old.setup w r.pos old.history l (own-record r mine c.0.was_busy.granted_is) ∙ ap (λ u. tally_with_end Discard u) (sym ties.counted))

  ties-output : (b : List ℕ) (flags : ℕ) (a : Result Notice (NoGrant × List ℕ)) → OutputsAt w b flags a old new → Ties w (output_by t a) (book_of new)
  ties-output b flags (Ok n) c =
      let h = old.history in
      let p = producer_now old in
      let grant = Res w (grants w h) (length b) p in
      let cut = append_assoc h (grant ∷ []) (Sub p ∷ []) in
      let his : is_record_of w (h ++ grant ∷ []) p ≡ true = record-from (h ++ grant ∷ []) w (grants w h) (length b) p (Contains-push h grant) in
      ties-by (grant ∷ Sub p ∷ []) (output_by t (Ok n)) c.0.logged.setup_same c.0.logged.history_is
      (λ l.
      let l' : IsLegal old.setup ((h ++ grant ∷ []) ++ Sub p ∷ []) = subst (IsLegal old.setup) (sym cut) l in
      ap (tally_of w) (sym cut) ∙ tally-sub old.setup w p (h ++ grant ∷ []) l' his
      ∙ ap (λ u. submitted_by u (Ok n)) (tally-res old.setup w (grants w h) (length b) p h (legal-front old.setup (h ++ grant ∷ []) (Sub p ∷ []) l'))
      ∙ ap (λ u. output_by u (Ok n)) (sym ties.counted))
  ties-output b flags (Err e) c = ties-refused (length b) e.0 c.0

-- ---- for a seat, from what it had seen to what it has seen

module _ (w : ℕ) (t : Tally) (b a : Book) where
  at-point : (Call : Ring → Ring → Type 0) → LockedCall (Worker w) b a Call → Ties w t b → (u : Tally) → ((old new : Ring) → IsRing new → Ties w t (book_of old) → Call old new → Ties w u (book_of new)) → Ties w u a
  at-point Call turn ties u call = subst (Ties w u) (sym turn.seen) (call turn.point turn.left turn.is_ring (ties-goes w t b (book_of turn.point) turn.goes_on turn.was_ring.legal ties) turn.called)

  pub reserve-ties : (n : ℕ) (r : Result Granted (NoGrant × List ℕ)) → LockedCall (Worker w) b a (Reserves w n r) → Ties w t b → Ties w (reserved_by t r) a
  reserve-ties n r turn ties = at-point (Reserves w n r) turn ties (reserved_by t r) (λ old new i k c. ties-reserved w t old new i k n r c)

  pub end-ties : (end : RecordEnd) (g : Granted) (flags : ℕ) (n : Notice) → g.worker ≡ w → LockedCall (Worker w) b a (EndsAt end g flags n) → Ties w t b → Ties w (tally_with_end end t) a
  end-ties end g flags n mine turn ties = at-point (EndsAt end g flags n) turn ties (tally_with_end end t) (λ old new i k c. ties-ended w t old new i k end g flags n mine c)

  pub output-ties : (bytes : List ℕ) (flags : ℕ) (r : Result Notice (NoGrant × List ℕ)) (More : Ring → Type 0) → LockedCall (Worker w) b a (λ old new. OutputsAt w bytes flags r old new × More old) → Ties w t b → Ties w (output_by t r) a
  output-ties bytes flags r More turn ties = at-point (λ old new. OutputsAt w bytes flags r old new × More old) turn ties (output_by t r) (λ old new i k c. ties-output w t old new i k bytes flags r c.0)

  pub query-ties : (what n : ℕ) → LockedCall (Worker w) b a (Queries what n) → Ties w t b → Ties w t a
  query-ties what n turn ties = at-point (Queries what n) turn ties t (λ old new i k c. ties-same w t old new i k c.0)

  -- the serial of a new reservation is the number that the seat had made
  serial-at : (n : ℕ) (r : Result Granted (NoGrant × List ℕ)) (old new : Ring) → Ties w t (book_of old) → Reserves w n r old new → IfOk r (λ g. g.serial ≡ t.made)
  serial-at n (Ok g) old new ties c = c.0.serial ∙ ap (λ (u : Tally). u.made) (sym ties.counted)
  serial-at n (Err e) old new ties c = tt

  pub serial-is : (n : ℕ) (r : Result Granted (NoGrant × List ℕ)) → LockedCall (Worker w) b a (Reserves w n r) → Ties w t b → IfOk r (λ g. g.serial ≡ t.made)
  serial-is n r turn ties = serial-at n r turn.point turn.left (ties-goes w t b (book_of turn.point) turn.goes_on turn.was_ring.legal ties) turn.called

-- ---- the consumer's

pub taker-goes-on : (c s p : ℕ) (b k : Book) → ExtendsSeen Consumer b k → IsLegal k.setup k.history → ConsumerTies c s p b → ConsumerTies c s p k
taker-goes-on c s p b k goes legal ties =
    let l : IsLegal k.setup (b.history ++ goes.behind) = subst (IsLegal k.setup) goes.history_is legal in
    let same = taker-goes k.setup b.history goes.behind l goes.none_own in
    record {
      consumed_is = ties.consumed_is ∙ sym (ap events_of goes.history_is ∙ same.events_same);
      skipped_is = ties.skipped_is ∙ sym (ap skips_of goes.history_is ∙ same.skips_same);
      position_is = ties.position_is ∙ ap (λ (x : Setup). consumer_of x.start b.history) (sym goes.setup_same) ∙ sym (ap (consumer_of k.setup.start) goes.history_is ∙ same.position_same);
    }

module _ (c s p : ℕ) (old new : Ring) (was_legal : IsLegal old.setup old.history) (is_legal : IsLegal new.setup new.history) (ties : ConsumerTies c s p (book_of old)) where
  pub taker-same : new ≡ old → ConsumerTies (c + 0) (s + 0) (p + 0) (book_of new)
  taker-same e =
      let k = subst (λ r. ConsumerTies c s p (book_of r)) (sym e) ties in
      record { consumed_is = add-zero c ∙ k.consumed_is; skipped_is = add-zero s ∙ k.skipped_is; position_is = add-zero p ∙ k.position_is }

  taker-take : (w k n q : ℕ) (event skip : ℕ) → new.setup ≡ old.setup → new.history ≡ old.history ++ Take q ∷ [] → Contains old.history (Res w k n q) → bit (is_submitted_at old.history q) ≡ event → bit (is_discarded_at old.history q) ≡ skip →
      ConsumerTies (c + event) (s + skip) (p + span n) (book_of new)
  taker-take w k n q event skip setup history is e d =
      let h = old.history in
      let l : IsLegal old.setup (h ++ Take q ∷ []) = subst (IsLegal old.setup) history (subst (λ x. IsLegal x new.history) setup is_legal) in
      let t₀ = ties.consumed_is in
      let t₁ = ties.skipped_is in
      let t₂ = ties.position_is in
      record {
        consumed_is = (λ i. t₀ i + sym e i) ∙ sym (events-next old.setup h (Take q) l) ∙ ap events_of (sym history);
        skipped_is = (λ i. t₁ i + sym d i) ∙ sym (skips-next old.setup h (Take q) l) ∙ ap skips_of (sym history);
        position_is = ap (λ x. x + span n) t₂ ∙ sym (position-taken old.setup.start w k n q h (granted-once old.setup h q was_legal) is) ∙ ap (consumer_of old.setup.start) (sym history) ∙ ap (λ (x : Setup). consumer_of x.start new.history) (sym setup);
      }

  pub taker-taken : (t : Taken) → Takes old new t → ConsumerTies (c + events_in t) (s + skips_in t) (p + span_in t) (book_of new)
  taker-taken (Event q w k bytes) call =
      let parts = waiting-submitted (is_submitted_at old.history q) (is_discarded_at old.history q) (is_taken_at old.history q) call.waiting in
      taker-take w k (length bytes) q 1 0 call.logged.setup_same call.logged.history_is call.granted_is (ap bit parts.0) (ap bit parts.1)
  taker-taken (Skipped q n) call =
      let gone = discarded-is (is_submitted_at old.history q) (is_discarded_at old.history q) (is_taken_at old.history q) call.discarded in
      let kept : is_submitted_at old.history q ≡ false = false_from_ne_true (is_submitted_at old.history q) (λ is. true≢false (sym gone ∙ never-both old.setup old.history was_legal q is)) in
      taker-take call.granted_is.0 call.granted_is.1.0 n q 0 1 call.logged.setup_same call.logged.history_is call.granted_is.1.1 (ap bit kept) (ap bit gone)
  taker-taken BusyFront call = taker-same call.same
  taker-taken Empty call = taker-same call.same

  pub taken-place : (t : Taken) → Takes old new t → IsTakenAt p t
  taken-place (Event q w k bytes) call = call.front ∙ sym ties.position_is
  taken-place (Skipped q n) call = call.front ∙ sym ties.position_is
  taken-place BusyFront call = tt
  taken-place Empty call = tt

module _ (c s p : ℕ) (b a : Book) (t : Taken) (turn : LockedCall Consumer b a (TakesAt t)) (ties : ConsumerTies c s p b) where
  point-ties : ConsumerTies c s p (book_of turn.point)
  point-ties = taker-goes-on c s p b (book_of turn.point) turn.goes_on turn.was_ring.legal ties

  pub take-ties : ConsumerTies (c + events_in t) (s + skips_in t) (p + span_in t) a
  take-ties = subst (ConsumerTies (c + events_in t) (s + skips_in t) (p + span_in t)) (sym turn.seen) (taker-taken c s p turn.point turn.left turn.was_ring.legal turn.is_ring.legal point-ties t turn.called.0)

  pub take-place : IsTakenAt p t
  take-place = taken-place c s p turn.point turn.left turn.was_ring.legal turn.is_ring.legal point-ties t turn.called.0

  taken-setup : (old new : Ring) (x : Taken) → Takes old new x → new.setup ≡ old.setup
  taken-setup old new (Event q w k bytes) call = call.logged.setup_same
  taken-setup old new (Skipped q n) call = call.logged.setup_same
  taken-setup old new BusyFront call = ap (λ (r : Ring). r.setup) call.same
  taken-setup old new Empty call = ap (λ (r : Ring). r.setup) call.same

  -- it remains the same ring
  pub take-setup : a.setup ≡ b.setup
  take-setup = ap (λ (x : Book). x.setup) turn.seen ∙ taken-setup turn.point turn.left t turn.called.0 ∙ turn.goes_on.setup_same
