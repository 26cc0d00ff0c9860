-- The records that an engine's rings keep after each call.
use Rattle.std.proofs.Common.{◌≡◌, ◌≢◌, ℕ, zero, suc, ◌⊎◌, inl, inr, ℤ, pos, negsuc, Bool, true, false, List, [], ◌∷◌, length, set, get_or, Option, Some, None, refl, sym, ap, ◌∙◌, subst}
use Rattle.std.specs.Prelude.{slice_get, IfSome}
use Rattle.std.proofs.lemmas.Bool.{cases_eq}
use Rattle.std.proofs.lemmas.List.{get_or-set_other}
use Rattle.rb_history.specs.declared.answers.Notice.{Notice}
use Rattle.rb_chapter_ring.specs.HandGranted.{HandGranted}
use Rattle.rb_chapter_ring.specs.HandRing.{HandRing, HasInHand}
use Rattle.rb_chapter_ring.specs.Hands.{HandBook, Hands, hand_at, out_record, with_hand}
use Rattle.rb_chapter_ring.specs.RecordEnds.{EndsFromHand}
use Rattle.rb_chapter_ring.specs.declared.out_record.OutRecord.{OutRecord}
use Rattle.rb_chapter_ring.specs.declared.record_end.RecordEnd.{RecordEnd}
use Rattle.rb_chapter_ring.specs.declared.record_end.RecordEnd.TheVariants as end
use Rattle.rb_engine.specs.EngineCalls.{AtRing, EndAnswered, IsStillOut, OutputAnswered, QueryAnswered, ReserveAnswered, record_name}
use Rattle.rb_engine.specs.RingCalls.{Grants, HasNoRoom, IsNotSent, IsRefused, Outputs}
use Rattle.rb_engine.specs.RingTurns.{AfterTurn, MayTurn}
use Rattle.rb_chapter_ring.specs.declared.ring_record.RingRecord.{RingRecord}

-- ---- one of several rings

here : {A : Type 0} (xs : List A) (i : ℕ) (x y : A) → slice_get xs i ≡ Some x → slice_get (set xs i y) i ≡ Some y
here [] i x y at = absurd (cc)
here (z ∷ xs) zero x y at = refl
here (z ∷ xs) (suc i) x y at = here xs i x y at

there : {A : Type 0} (xs : List A) (i j : ℕ) (y : A) → j ≢ i → slice_get (set xs i y) j ≡ slice_get xs j
there [] i j y other = refl
there (x ∷ xs) zero zero y other = absurd (other refl)
there (x ∷ xs) zero (suc j) y other = refl
there (x ∷ xs) (suc i) zero y other = refl
there (x ∷ xs) (suc i) (suc j) y other = there xs i j y (λ e. other (ap suc e))

some-same : {A : Type 0} (x y : A) → ◌≡◌ {A = Option A} (Some x) (Some y) → x ≡ y
some-same x y e = cc

none-some : (o : OutRecord) → ◌≡◌ {A = Option OutRecord} None (Some o) → ⊥
none-some o e = cc

true-false : true ≡ false → ⊥
true-false e = cc

-- ---- the hands of one ring after a call

freed-hand : (hands : Hands) (h : ℕ) → get_or (set hands h None) h None ≡ None
freed-hand [] h = refl
freed-hand (x ∷ hands) zero = refl
freed-hand (x ∷ hands) (suc h) = freed-hand hands h

-- a freed hand is empty
freed : (book : HandBook) (h : ℕ) → hand_at (with_hand book 0 h None) 0 h ≡ None
freed [] h = refl
freed (hands ∷ book) h = freed-hand hands h

-- a change of one hand does not change the others
other-hand : (book : HandBook) (h g : ℕ) (x : Option OutRecord) → g ≢ h → hand_at (with_hand book 0 h x) 0 g ≡ hand_at book 0 g
other-hand [] h g x apart = refl
other-hand (hands ∷ book) h g x apart = get_or-set_other hands h g x None apart

-- each such hand that has a record keeps it
abbrev StaysOut : (ℕ → Type 0) → HandRing → HandRing → Type 0
StaysOut At b a = (h : ℕ) (o : OutRecord) → At h → hand_at b.hands 0 h ≡ Some o → hand_at a.hands 0 h ≡ Some o

abbrev Anywhere : ℕ → Type 0
Anywhere h = Unit {0}

abbrev ButAt : ℕ → ℕ → Type 0
ButAt hand h = h ≢ hand

same-hands : (At : ℕ → Type 0) (b a : HandRing) → a.hands ≡ b.hands → StaysOut At b a
same-hands At b a same h o at out = ap (λ book. hand_at book 0 h) same ∙ out

turned : (b m : HandRing) → MayTurn b m → m.hands ≡ b.hands
turned b m (inl same) = ap (λ (v : HandRing). v.hands) same
turned b m (inr turn) = turn.2

granted : (n : ℕ) (r : HandGranted) (b a : HandRing) → AfterTurn (Grants n r) b a → StaysOut Anywhere b a
granted n r b a did h o at out =
    let mid = did.0 in
    let to_hand = did.2.0 in
    let before : hand_at mid.hands 0 h ≡ Some o = ap (λ book. hand_at book 0 h) (turned b mid did.1) ∙ out in
    let apart : h ≢ r.hand = λ e. none-some o (sym to_hand.was_free.free ∙ ap (λ g. hand_at mid.hands 0 g) (sym e) ∙ before) in
    ap (λ book. hand_at book 0 h) to_hand.marked ∙ other-hand mid.hands r.hand h (Some (out_record r.granted.pos r.granted.serial n)) apart ∙ before

no-room : (n : ℕ) (b a : HandRing) → AfterTurn (HasNoRoom n) b a → StaysOut Anywhere b a
no-room n b a did = same-hands Anywhere b a (did.2.1 ∙ turned b did.0 did.1)

refused : (n : ℕ) (b a : HandRing) → IsRefused n b a → StaysOut Anywhere b a
refused n b a (inl none) = no-room n b a none
refused n b a (inr none) = same-hands Anywhere b a (ap (λ (v : HandRing). v.hands) none.1)

not-sent : (n : ℕ) (b a : HandRing) → IsNotSent n b a → StaysOut Anywhere b a
not-sent n b a (inl none) = no-room n b a none
not-sent n b a (inr none) = same-hands Anywhere b a (ap (λ (v : HandRing). v.hands) none.1)

sent : (bytes : List ℕ) (flags : ℕ) (b a : HandRing) → (notice : Notice) × AfterTurn (Outputs bytes flags notice) b a → StaysOut Anywhere b a
sent bytes flags b a did = let after = did.1 in same-hands Anywhere b a (after.2.same_hands ∙ turned b after.0 after.1)

ended-hands : (how : RecordEnd) (r : HandGranted) (b a : HandRing) → r.granted.worker ≡ 0 → EndsFromHand how r.hand r.granted b a → a.hands ≡ with_hand b.hands 0 r.hand None
ended-hands end.Submit r b a own did = did.freed ∙ ap (λ w. with_hand b.hands w r.hand None) own
ended-hands end.Discard r b a own did = did.freed ∙ ap (λ w. with_hand b.hands w r.hand None) own

ended : (how : RecordEnd) (r : HandGranted) (b a : HandRing) → r.granted.worker ≡ 0 → EndsFromHand how r.hand r.granted b a → StaysOut (ButAt r.hand) b a
ended how r b a own did h o apart out = ap (λ book. hand_at book 0 h) (ended-hands how r b a own did) ∙ other-hand b.hands r.hand h None apart ∙ out

-- the hand of one of the engine's records, which belongs to the ring's only worker
own-hand : (v : HandRing) (r : HandGranted) → r.granted.worker ≡ 0 → HasInHand v r.hand r.granted → hand_at v.hands 0 r.hand ≡ Some (out_record r.granted.pos r.granted.serial (length r.granted.bytes))
own-hand v r own out = subst (λ w. hand_at v.hands w r.hand ≡ Some (out_record r.granted.pos r.granted.serial (length r.granted.bytes))) own out

hand-back : (v : HandRing) (r : HandGranted) → r.granted.worker ≡ 0 → hand_at v.hands 0 r.hand ≡ Some (out_record r.granted.pos r.granted.serial (length r.granted.bytes)) → HasInHand v r.hand r.granted
hand-back v r own out = subst (λ w. hand_at v.hands w r.hand ≡ Some (out_record r.granted.pos r.granted.serial (length r.granted.bytes))) (sym own) out

-- ---- all rings

module _ (old new : List HandRing) where
  same-rings : new ≡ old → (s : RingRecord) → IsStillOut old s → IsStillOut new s
  same-rings same s kept = record { ring = kept.ring; ring_is = ap (λ l. slice_get l s.ring) same ∙ kept.ring_is; worker_is = kept.worker_is; out = kept.out }

  was : (Did : HandRing → HandRing → Type 0) (ring : ℕ) (at : AtRing ring Did old new) (s : RingRecord) (kept : IsStillOut old s) → s.ring ≡ ring → kept.ring ≡ at.before
  was Did ring at s kept same = some-same kept.ring at.before (sym kept.ring_is ∙ ap (slice_get old) same ∙ at.before_is)

  now : (Did : HandRing → HandRing → Type 0) (ring : ℕ) (at : AtRing ring Did old new) (s : RingRecord) (kept : IsStillOut new s) → s.ring ≡ ring → kept.ring ≡ at.after
  now Did ring at s kept same = some-same kept.ring at.after (sym kept.ring_is ∙ ap (slice_get new) same ∙ ap (λ l. slice_get l ring) at.new_is ∙ here old ring at.before at.after at.before_is)

  there-now : (Did : HandRing → HandRing → Type 0) (ring : ℕ) (at : AtRing ring Did old new) (s : RingRecord) → s.ring ≡ ring → slice_get new s.ring ≡ Some at.after
  there-now Did ring at s same = ap (λ l. slice_get l s.ring) at.new_is ∙ ap (slice_get (set old ring at.after)) same ∙ here old ring at.before at.after at.before_is

  kept-at : (Did : HandRing → HandRing → Type 0) (At : ℕ → Type 0) (ring : ℕ) → ((b a : HandRing) → Did b a → StaysOut At b a) → AtRing ring Did old new
      → (s : RingRecord) → (s.ring ≡ ring → At s.reservation.hand) → IsStillOut old s → IsStillOut new s
  kept-at Did At ring stays at s where_at kept = elim (cases_eq s.ring ring) [
    | inl same ↦
        let before = own-hand at.before s.reservation kept.worker_is (subst (λ (v : HandRing). HasInHand v s.reservation.hand s.reservation.granted) (was Did ring at s kept same) kept.out) in
        record {
          ring = at.after;
          ring_is = there-now Did ring at s same;
          worker_is = kept.worker_is;
          out = hand-back at.after s.reservation kept.worker_is (stays at.before at.after at.did s.reservation.hand (out_record s.reservation.granted.pos s.reservation.granted.serial (length s.reservation.granted.bytes)) (where_at same) before);
        }
    | inr other ↦ record { ring = kept.ring; ring_is = ap (λ l. slice_get l s.ring) at.new_is ∙ there old ring s.ring at.after other ∙ kept.ring_is; worker_is = kept.worker_is; out = kept.out }
  ]

  -- ---- reserve

  pub reserve-keeps : (ring n flags : ℕ) (answer : Option RingRecord) → ReserveAnswered ring n flags answer old new → (s : RingRecord) → IsStillOut old s → IsStillOut new s
  reserve-keeps ring n flags (Some r) led s = kept-at (AfterTurn (Grants n r.reservation)) Anywhere ring (granted n r.reservation) led.2 s (λ e. tt)
  reserve-keeps ring n flags None led s = by_flags (cases_eq flags 0)
    where
      by_flags : (flags ≡ 0) ⊎ (flags ≢ 0) → IsStillOut old s → IsStillOut new s
      by_flags (inl none) = kept-at (IsRefused n) Anywhere ring (refused n) (led.0 none) s (λ e. tt)
      by_flags (inr some) = same-rings (led.1 some) s

  pub reserve-kept : (ring n flags : ℕ) (answer : Option RingRecord) → ReserveAnswered ring n flags answer old new
      → IfSome answer (λ r. IsStillOut new r × ((s : RingRecord) → IsStillOut old s → record_name s ≢ record_name r))
  reserve-kept ring n flags None led = tt
  reserve-kept ring n flags (Some r) led =
      let at = led.2 in
      let after = at.did in (
        record { ring = at.after; ring_is = there-now (AfterTurn (Grants n r.reservation)) ring at r led.1; worker_is = after.2.2; out = after.2.1 },
        λ s kept same.
            let ring_same : s.ring ≡ ring = ap (λ (x : ℕ × ℕ). x.0) same ∙ led.1 in
            let out = own-hand at.before s.reservation kept.worker_is (subst (λ (v : HandRing). HasInHand v s.reservation.hand s.reservation.granted) (was (AfterTurn (Grants n r.reservation)) ring at s kept ring_same) kept.out) in
            let mid = after.0 in
            let before = ap (λ book. hand_at book 0 s.reservation.hand) (turned at.before mid after.1) ∙ out in
            none-some (out_record s.reservation.granted.pos s.reservation.granted.serial (length s.reservation.granted.bytes)) (sym after.2.0.was_free.free ∙ ap (λ (x : ℕ × ℕ). hand_at mid.hands 0 x.1) (sym same) ∙ before),
      )

  -- ---- submit and discard

  pub end-keeps : (how : RecordEnd) (owned : RingRecord) (taken : Bool) → EndAnswered how owned taken old new → (s : RingRecord) → IsStillOut old s → record_name s ≢ record_name owned → IsStillOut new s
  end-keeps how owned true led s kept apart =
      let own = (led.exact.0 refl).worker_is in
      kept-at (EndsFromHand how owned.reservation.hand owned.reservation.granted) (ButAt owned.reservation.hand) owned.ring (λ b a did. ended how owned.reservation b a own did) (led.ends refl) s
      (λ ring place. apart (λ i. (ring i, place i))) kept
  end-keeps how owned false led s kept apart = same-rings (led.hands_back refl) s kept

  pub end-frees : (how : RecordEnd) (owned : RingRecord) (taken : Bool) → EndAnswered how owned taken old new → IsStillOut new owned → ⊥
  end-frees how owned true led kept =
      let at = led.ends refl in
      let own = kept.worker_is in
      let out = own-hand at.after owned.reservation own (subst (λ (v : HandRing). HasInHand v owned.reservation.hand owned.reservation.granted) (now (EndsFromHand how owned.reservation.hand owned.reservation.granted) owned.ring at owned kept refl) kept.out) in
      none-some (out_record owned.reservation.granted.pos owned.reservation.granted.serial (length owned.reservation.granted.bytes))
      (sym (ap (λ book. hand_at book 0 owned.reservation.hand) (ended-hands how owned.reservation at.before at.after own at.did) ∙ freed at.before.hands owned.reservation.hand) ∙ out)
  end-frees how owned false led kept = true-false (sym (led.exact.1 (subst (λ l. IsStillOut l owned) (led.hands_back refl) kept)))

  -- ---- output and query

  pub output-keeps : (ring : ℕ) (bytes : List ℕ) (flags : ℕ) (answer : ℤ) → OutputAnswered ring bytes flags answer old new → (s : RingRecord) → IsStillOut old s → IsStillOut new s
  output-keeps ring bytes flags answer led s = by_answer led.answer_is.1
    where
      by_answer : (answer ≡ pos 0) ⊎ (answer ≡ negsuc 10) ⊎ (answer ≡ negsuc 21) → IsStillOut old s → IsStillOut new s
      by_answer (inl is) = kept-at (λ b a. (notice : Notice) × AfterTurn (Outputs bytes flags notice) b a) Anywhere ring (sent bytes flags) (led.sent is) s (λ e. tt)
      by_answer (inr (inl is)) = kept-at (IsNotSent (length bytes)) Anywhere ring (not-sent (length bytes)) (led.refused is) s (λ e. tt)
      by_answer (inr (inr is)) = same-rings (led.no_step is) s

  pub query-keeps : (ring what answer : ℕ) → QueryAnswered ring what answer old new → (s : RingRecord) → IsStillOut old s → IsStillOut new s
  query-keeps ring what answer led s = same-rings led.same s
