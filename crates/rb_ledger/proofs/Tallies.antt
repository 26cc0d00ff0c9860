-- What entries that are not its own leave of a seat's counts.
use Rattle.std.proofs.Common.{◌≡◌, ℕ, ◌+◌, ◌≤◌, Bool, false, List, [], ◌∷◌, ◌++◌, refl, sym, ap, ◌∙◌, subst, append_assoc, append-nil, add-zero, arith}
use Rattle.std.proofs.lemmas.Bool.{true≢false, false_from_ne_true}
use Rattle.rb_history.specs.declared.entries.Entry.{Entry}
use Rattle.rb_history.specs.declared.entries.Entry.TheVariants.{Res, Full, Sub, Dis, Take}
use Rattle.rb_history.specs.History.{is_submitted_at, is_discarded_at, is_taken_at, consumer_of, producer_of}
use Rattle.rb_history.specs.RoomRule.{Setup}
use Rattle.rb_history.specs.Legal.{IsLegal}
use Rattle.rb_history.proofs.Laws.{kept-from-legal, legal-front, legal-next}
use Rattle.rb_history.proofs.Row.{InRow-le}
use Rattle.rb_history.proofs.Steps.{consumer-full, consumer-sub, consumer-dis, consumer-res}
use Rattle.rb_history.specs.declared.tally.Tally.{Tally}
use Rattle.rb_ledger.specs.Roles.{is_own, NoneOwn}
use Rattle.rb_history.specs.WorkerCounts.{tally_of, is_take_where, events_of, skips_of}
use Rattle.rb_ledger.specs.Roles.Role.{Consumer, Worker}
use Rattle.rb_history.specs.inner.TallySteps.{tally_with_entry}
use Rattle.rb_history.proofs.WorkerCounts.{tally-next, events-next, skips-next}
use Rattle.rb_history.proofs.RecordWorkers.{bit}

module _ (r : Setup) where
  add-none : (t : Tally) (a b c d : ℕ) → a ≡ 0 → b ≡ 0 → c ≡ 0 → d ≡ 0 →
      ◌≡◌ {A = Tally} (record { made = t.made + a; refused = t.refused + b; submitted = t.submitted + c; discarded = t.discarded + d }) t
  add-none t a b c d ea eb ec ed =
      λ i. record {
        made = (ap (λ x. t.made + x) ea ∙ add-zero t.made) i;
        refused = (ap (λ x. t.refused + x) eb ∙ add-zero t.refused) i;
        submitted = (ap (λ x. t.submitted + x) ec ∙ add-zero t.submitted) i;
        discarded = (ap (λ x. t.discarded + x) ed ∙ add-zero t.discarded) i;
      }

  others-entry : (w : ℕ) (h : List Entry) (e : Entry) (t : Tally) → is_own (Worker w) h e ≡ false → tally_with_entry w h e t ≡ t
  others-entry w h (Res v k n p) t off = add-none t _ _ _ _ (ap bit off) refl refl refl
  others-entry w h (Full v n) t off = add-none t _ _ _ _ refl (ap bit off) refl refl
  others-entry w h (Sub p) t off = add-none t _ _ _ _ refl refl (ap bit off) refl
  others-entry w h (Dis p) t off = add-none t _ _ _ _ refl refl refl (ap bit off)
  others-entry w h (Take p) t off = add-none t _ _ _ _ refl refl refl refl

  -- a worker's counts do not change if others continue the history
  pub tally-goes : (w : ℕ) (h es : List Entry) → IsLegal r (h ++ es) → NoneOwn (Worker w) h es → tally_of w (h ++ es) ≡ tally_of w h
  tally-goes w h [] l none = ap (tally_of w) (append-nil h)
  tally-goes w h (e ∷ es) l none =
      let cut : (h ++ e ∷ []) ++ es ≡ h ++ e ∷ es = append_assoc h (e ∷ []) es in
      let l' : IsLegal r ((h ++ e ∷ []) ++ es) = subst (IsLegal r) (sym cut) l in
      ap (tally_of w) (sym cut) ∙ tally-goes w (h ++ e ∷ []) es l' none.1 ∙ tally-next r w h e (legal-front r (h ++ e ∷ []) es l') ∙ others-entry w h e (tally_of w h) none.0

  -- without a take, the consumer's counts do not change
  pub record TakerSame (h k : List Entry) : Type 0 where
    pub events_same : events_of k ≡ events_of h
    pub skips_same : skips_of k ≡ skips_of h
    pub position_same : consumer_of r.start k ≡ consumer_of r.start h

  plus : (n a : ℕ) → a ≡ 0 → n + a ≡ n
  plus n a e = omega arith

  not-taking : (test : ℕ → Bool) (h : List Entry) (e : Entry) → is_own Consumer h e ≡ false → is_take_where test e ≡ false
  not-taking test h (Take p) off = absurd (true≢false off)
  not-taking test h (Res v k n p) off = refl
  not-taking test h (Full v n) off = refl
  not-taking test h (Sub p) off = refl
  not-taking test h (Dis p) off = refl

  position-next : (h : List Entry) (e : Entry) → IsLegal r (h ++ e ∷ []) → is_own Consumer h e ≡ false → consumer_of r.start (h ++ e ∷ []) ≡ consumer_of r.start h
  position-next h (Take p) l off = absurd (true≢false off)
  position-next h (Full v n) l off = consumer-full r.start h v n
  position-next h (Sub p) l off = consumer-sub r.start h p
  position-next h (Dis p) l off = consumer-dis r.start h p
  position-next h (Res v k n p) l off =
      let kept = kept-from-legal r h (legal-front r h (Res v k n p ∷ []) l) in
      let m = legal-next r h (Res v k n p) [] l in
      let low : consumer_of r.start h ≤ producer_of r.start h = InRow-le _ _ _ kept.in_row in
      let free : is_taken_at h p ≡ false = false_from_ne_true (is_taken_at h p) (λ t. omega (arith, kept.passed p t, m.1, low)) in
      consumer-res r.start h v k n p free

  pub taker-goes : (h es : List Entry) → IsLegal r (h ++ es) → NoneOwn Consumer h es → TakerSame h (h ++ es)
  taker-goes h [] l none = record { events_same = ap events_of (append-nil h); skips_same = ap skips_of (append-nil h); position_same = ap (consumer_of r.start) (append-nil h) }
  taker-goes h (e ∷ es) l none =
      let cut : (h ++ e ∷ []) ++ es ≡ h ++ e ∷ es = append_assoc h (e ∷ []) es in
      let l' : IsLegal r ((h ++ e ∷ []) ++ es) = subst (IsLegal r) (sym cut) l in
      let one : IsLegal r (h ++ e ∷ []) = legal-front r (h ++ e ∷ []) es l' in
      let rest = taker-goes (h ++ e ∷ []) es l' none.1 in
      record {
        events_same = ap events_of (sym cut) ∙ rest.events_same ∙ events-next r h e one ∙ plus _ _ (ap bit (not-taking (is_submitted_at h) h e none.0));
        skips_same = ap skips_of (sym cut) ∙ rest.skips_same ∙ skips-next r h e one ∙ plus _ _ (ap bit (not-taking (is_discarded_at h) h e none.0));
        position_same = ap (consumer_of r.start) (sym cut) ∙ rest.position_same ∙ position-next h e one none.0;
      }
