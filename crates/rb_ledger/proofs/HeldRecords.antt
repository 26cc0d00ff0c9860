-- What each call of a seat leaves of the records that its worker holds.
use Rattle.std.proofs.Common.{◌≡◌, ◌≢◌, ℕ, true, false, List, [], ◌∷◌, ◌++◌, length, Result, Ok, Err, refl, sym, ◌∙◌, subst, append_assoc}
use Rattle.std.specs.Prelude.{is_ok}
use Rattle.std.proofs.lemmas.Bool.{ne_eqb}
use Rattle.rb_history.specs.declared.entries.Entry.{Entry}
use Rattle.rb_history.specs.declared.entries.Entry.TheVariants.{Res, Full, Sub, Dis}
use Rattle.rb_history.specs.declared.answers.Notice.{Notice}
use Rattle.rb_history.specs.History.{is_submit, is_discard}
use Rattle.rb_history.specs.Legal.{IsLegal}
use Rattle.rb_history.specs.Calls.{IsBusy, Logs, HoldsReservation, Grants, Outputs}
use Rattle.rb_history.specs.ReservationModel.{Granted}
use Rattle.rb_history.specs.RingModel.{Ring}
use Rattle.rb_history.proofs.Laws.{legal-front}
use Rattle.rb_ledger.specs.Roles.{Book, book_of}
use Rattle.rb_ledger.specs.Roles.Role.{Worker}
use Rattle.rb_ledger.specs.LockedCalls.{LockedCall, SubmitsAt, DiscardsAt}
use Rattle.rb_chapter_ring.proofs.BusyEntries.{busy-after, other-place, new-busy}
use Rattle.rb_ledger.specs.NoStranger.{IsHeld, SeatCall, LeavesHeld, LeavesHeldElsewhere, HeldUntilGivenBack}
use Rattle.rb_ledger.proofs.NoStranger.{own-busy-is-seen}

-- ---- one call under the lock

module _ (w : ℕ) (before after : Book) (Call : Ring → Ring → Type 0) (call : LockedCall (Worker w) before after Call) where
  -- what is busy in the history that the seat has seen is busy at the point of the call
  pub busy-there : (v p k n : ℕ) → v ≡ w → IsBusy before.history p v k n → IsBusy call.point.history p v k n
  busy-there v p k n own busy =
      subst (λ x. IsBusy call.point.history p x k n) (sym own)
      ((own-busy-is-seen w before (book_of call.point) call.goes_on p k n).0 (subst (λ x. IsBusy before.history p x k n) own busy))

  -- what is busy after the call is busy in the history that the seat has then seen
  pub seen-then : (v p k n : ℕ) → IsBusy call.left.history p v k n → IsBusy after.history p v k n
  seen-then v p k n = subst (λ (s : Book). IsBusy s.history p v k n) (sym call.seen)

  pub left-then : (v p k n : ℕ) → IsBusy after.history p v k n → IsBusy call.left.history p v k n
  left-then v p k n = subst (λ (s : Book). IsBusy s.history p v k n) call.seen

  -- the call added one entry
  pub after-entry : (e : Entry) → Logs call.point call.left (e ∷ []) → (v p k n : ℕ) → v ≡ w → is_submit p e ≡ false → is_discard p e ≡ false → IsBusy before.history p v k n → IsBusy after.history p v k n
  after-entry e logged v p k n own s d busy =
      seen-then v p k n (subst (λ h. IsBusy h p v k n) (sym logged.history_is) (busy-after call.point.history e p v k n s d (busy-there v p k n own busy)))

  pub after-none : call.left ≡ call.point → (v p k n : ℕ) → v ≡ w → IsBusy before.history p v k n → IsBusy after.history p v k n
  after-none same v p k n own busy = seen-then v p k n (subst (λ (r : Ring). IsBusy r.history p v k n) (sym same) (busy-there v p k n own busy))

  pub point-legal : IsLegal call.point.setup call.point.history
  point-legal = call.was_ring.legal

  pub left-legal : (es : List Entry) → Logs call.point call.left es → IsLegal call.point.setup (call.point.history ++ es)
  left-legal es logged = subst (λ s. IsLegal s (call.point.history ++ es)) logged.setup_same (subst (IsLegal call.left.setup) logged.history_is call.is_ring.legal)

  -- a record that was granted and submitted in one call is another one
  pub after-output : (v j l p : ℕ) → Logs call.point call.left (Res v j l p ∷ Sub p ∷ []) → (u q k m : ℕ) → u ≡ w → IsBusy before.history q u k m → IsBusy after.history q u k m
  after-output v j l p logged u q k m own busy =
      let h = call.point.history in
      let setup = call.point.setup in
      let mid = h ++ Res v j l p ∷ [] in
      let was = busy-there u q k m own busy in
      let same : mid ++ Sub p ∷ [] ≡ h ++ Res v j l p ∷ Sub p ∷ [] = append_assoc h (Res v j l p ∷ []) (Sub p ∷ []) in
      let mid_legal = legal-front setup mid (Sub p ∷ []) (subst (IsLegal setup) (sym same) (left-legal (Res v j l p ∷ Sub p ∷ []) logged)) in
      let apart = other-place setup h point-legal v j l p mid_legal q u k m was in
      let still = busy-after mid (Sub p) q u k m (ne_eqb p q (λ e. apart (sym e))) refl (busy-after h (Res v j l p) q u k m refl refl was) in
      seen-then u q k m (subst (λ x. IsBusy x q u k m) (same ∙ sym logged.history_is) still)

-- ---- by call

module _ (w : ℕ) (before after : Book) where
  leaves-by-entry : (Call : Ring → Ring → Type 0) (e : Entry) (call : SeatCall w before after Call) → Logs call.point call.left (e ∷ [])
      → ((p : ℕ) → is_submit p e ≡ false) → ((p : ℕ) → is_discard p e ≡ false) → LeavesHeld w before after
  leaves-by-entry Call e call logged s d r held = record {
    worker_is = held.worker_is;
    busy = after-entry w before after Call call e logged r.worker r.pos r.serial (length r.bytes) held.worker_is (s r.pos) (d r.pos) held.busy;
  }

  leaves-same : (Call : Ring → Ring → Type 0) (call : SeatCall w before after Call) → call.left ≡ call.point → LeavesHeld w before after
  leaves-same Call call same r held = record {
    worker_is = held.worker_is;
    busy = after-none w before after Call call same r.worker r.pos r.serial (length r.bytes) held.worker_is held.busy;
  }

  -- what is held is busy at the point of the call
  held-there : (Call : Ring → Ring → Type 0) (call : SeatCall w before after Call) (r : Granted) → IsHeld w before r → HoldsReservation call.point r
  held-there Call call r held = busy-there w before after Call call r.worker r.pos r.serial (length r.bytes) held.worker_is held.busy

  is-granted : (r : Granted) → r.worker ≡ w → SeatCall w before after (λ old new. Grants old new w (length r.bytes) r.pos r.serial) → IsHeld w after r
  is-granted r own call =
      let logged = call.called.logged in
      let busy = new-busy call.point.setup call.point.history (point-legal w before after _ call) w r.serial (length r.bytes) r.pos (left-legal w before after _ call (Res w r.serial (length r.bytes) r.pos ∷ []) logged) in
      record {
        worker_is = own;
        busy = seen-then w before after _ call r.worker r.pos r.serial (length r.bytes)
            (subst (λ h. IsBusy h r.pos r.worker r.serial (length r.bytes)) (sym logged.history_is)
            (subst (λ v. IsBusy (call.point.history ++ Res w r.serial (length r.bytes) r.pos ∷ []) r.pos v r.serial (length r.bytes)) (sym own) busy));
      }

  is-elsewhere : (n p k : ℕ) → SeatCall w before after (λ old new. Grants old new w n p k) → (s : Granted) → IsHeld w before s → s.pos ≢ p
  is-elsewhere n p k call s held =
      let logged = call.called.logged in
      other-place call.point.setup call.point.history (point-legal w before after _ call) w k n p (left-legal w before after _ call (Res w k n p ∷ []) logged)
      s.pos s.worker s.serial (length s.bytes) (busy-there w before after _ call s.worker s.pos s.serial (length s.bytes) held.worker_is held.busy)

  leaves-outputs : (bytes : List ℕ) → SeatCall w before after (λ old new. Outputs old new w bytes) → LeavesHeld w before after
  leaves-outputs bytes call r held = record {
    worker_is = held.worker_is;
    busy = after-output w before after _ call _ _ _ _ call.called.logged r.worker r.pos r.serial (length r.bytes) held.worker_is held.busy;
  }

  submit-taken : (r : Granted) (flags : ℕ) (answer : Result Notice Granted) → SeatCall w before after (SubmitsAt r flags answer) → IsHeld w before r → is_ok answer ≡ true
  submit-taken r flags (Ok _) call held = refl
  submit-taken r flags (Err s) call held = absurd (call.called.not_busy (held-there _ call r held))

  discard-taken : (r : Granted) (flags : ℕ) (answer : Result Notice Granted) → SeatCall w before after (DiscardsAt r flags answer) → IsHeld w before r → is_ok answer ≡ true
  discard-taken r flags (Ok _) call held = refl
  discard-taken r flags (Err s) call held = absurd (call.called.not_busy (held-there _ call r held))

  leaves-submits : (r : Granted) (flags : ℕ) (answer : Result Notice Granted) → SeatCall w before after (SubmitsAt r flags answer) → LeavesHeldElsewhere w before after r.pos
  leaves-submits r flags (Ok _) call s apart held = record {
    worker_is = held.worker_is;
    busy = after-entry w before after _ call (Sub r.pos) call.called.0.logged s.worker s.pos s.serial (length s.bytes) held.worker_is (ne_eqb r.pos s.pos (λ e. apart (sym e))) refl held.busy;
  }
  leaves-submits r flags (Err back) call s apart held = leaves-same _ call call.called.same s held

  leaves-discards : (r : Granted) (flags : ℕ) (answer : Result Notice Granted) → SeatCall w before after (DiscardsAt r flags answer) → LeavesHeldElsewhere w before after r.pos
  leaves-discards r flags (Ok _) call s apart held = record {
    worker_is = held.worker_is;
    busy = after-entry w before after _ call (Dis r.pos) call.called.0.logged s.worker s.pos s.serial (length s.bytes) held.worker_is refl (ne_eqb r.pos s.pos (λ e. apart (sym e))) held.busy;
  }
  leaves-discards r flags (Err back) call s apart held = leaves-same _ call call.called.same s held

pub held-until-given-back : HeldUntilGivenBack
held-until-given-back w before after = record {
  granted = is-granted w before after;
  elsewhere = is-elsewhere w before after;
  grants = λ n p k call. leaves-by-entry w before after _ (Res w k n p) call call.called.logged (λ q. refl) (λ q. refl);
  finds_full = λ n call. leaves-by-entry w before after _ (Full w n) call call.called.logged (λ q. refl) (λ q. refl);
  outputs = leaves-outputs w before after;
  no_change = λ call. leaves-same w before after _ call call.called;
  submit_taken = submit-taken w before after;
  submits = leaves-submits w before after;
  discard_taken = discard-taken w before after;
  discards = leaves-discards w before after;
}
