-- The history determines what a take returns.
use Rattle.std.proofs.Common.{◌≡◌, ℕ, ◌<◌, ◌≤◌, true, false, List, [], ◌∷◌, length, map, refl, sym, ap, ◌∙◌, inl, inr, arith, subst, ◌↔◌}
use Rattle.std.specs.List.{All, Contains}
use Rattle.std.proofs.lemmas.Bool.{cases_lt, ne_eqb, eq-eqb, true≢false}
use Rattle.std.proofs.lemmas.List.Folds.{list_any_none, list_any_at}
use Rattle.std.proofs.lemmas.List.Elements.{All-weaker}
use Rattle.rb_history.specs.declared.entries.Entry.{Entry}
use Rattle.rb_history.specs.declared.entries.Entry.TheVariants.{Res, Full, Sub, Dis, Take}
use Rattle.rb_history.specs.declared.stored_records.StoredRecord.{StoredRecord}
use Rattle.rb_history.specs.declared.answers.Taken.{Taken}
use Rattle.rb_history.specs.declared.answers.Taken.TheVariants.{Event, Skipped, BusyFront, Empty}
use Rattle.rb_history.specs.History.{is_grant_at, is_granted_at, status_of, producer_of, consumer_of}
use Rattle.rb_history.specs.History.Status.{Busy, Waiting, Discarded}
use Rattle.rb_history.specs.RoomRule.{Setup}
use Rattle.rb_history.specs.RingModel.{Ring}
use Rattle.rb_history.specs.inner.RecordRows.{InRow, NamesBelow, HistoryFacts}
use Rattle.rb_history.specs.StoredRecords.{shown_record}
use Rattle.rb_history.specs.Calls.{Takes, HasBusyFront, AllTaken}
use Rattle.rb_history.proofs.Taking.{ring_with}

no-grant : (p q : ℕ) → p ≤ q → (e : Entry) → NamesBelow p e → is_grant_at q e ≡ false
no-grant p q le (Res w s n x) b = ne_eqb x q (λ e. omega arith)
no-grant p q le (Full w n) b = refl
no-grant p q le (Sub x) b = refl
no-grant p q le (Dis x) b = refl
no-grant p q le (Take x) b = refl

-- a record lies below the producer position
pub granted-below : (h : List Entry) (p q : ℕ) → All (NamesBelow p) h → is_granted_at h q ≡ true → q < p
granted-below h p q b is = elim (cases_lt q p) [
  | inl lt ↦ lt
  | inr le ↦ absurd (true≢false (sym is ∙ list_any_none (is_grant_at q) h (All-weaker (NamesBelow p) (λ e. is_grant_at q e ≡ false) (no-grant p q le) h b)))
]

pub granted-from : (h : List Entry) (w k n q : ℕ) → Contains h (Res w k n q) → is_granted_at h q ≡ true
granted-from h w k n q is = list_any_at (is_grant_at q) h is.0 (Res w k n q) is.1 (ap (is_grant_at q) is.2 ∙ eq-eqb q q refl)

module _ (r : Setup) (h : List Entry) (stored : List StoredRecord) (p c : ℕ) (k : HistoryFacts r h (map shown_record stored) p c) (new : Ring) where
  old : Ring
  old = ring_with r h stored p c

  apart : is_granted_at h (consumer_of r.start h) ≡ true → producer_of r.start h ≡ consumer_of r.start h → ⊥
  apart g e =
      let low : consumer_of r.start h < p = granted-below h p (consumer_of r.start h) k.below g in
      omega (arith, low, k.producer_is, e)

  pub exact-busy : (t : Taken) → Takes (ring_with r h stored p c) new t → (t ≡ BusyFront) ↔ HasBusyFront (ring_with r h stored p c)
  exact-busy (Event x w n s) a = (λ e. cc, λ b. let no_way : Busy ≡ Waiting = sym b.busy ∙ subst (λ q. status_of h q ≡ Waiting) a.front a.waiting in cc)
  exact-busy (Skipped x n) a = (λ e. cc, λ b. let no_way : Busy ≡ Discarded = sym b.busy ∙ subst (λ q. status_of h q ≡ Discarded) a.front a.discarded in cc)
  exact-busy BusyFront a = (λ e. a.front, λ b. refl)
  exact-busy Empty a = (λ e. cc, λ b. absurd (apart b.granted_is a.all_taken))

  pub exact-empty : (t : Taken) → Takes (ring_with r h stored p c) new t → (t ≡ Empty) ↔ AllTaken (ring_with r h stored p c)
  exact-empty (Event x w n s) a = (λ e. cc, λ b. absurd (apart (subst (λ q. is_granted_at h q ≡ true) a.front (granted-from h w n (length s) x a.granted_is)) b))
  exact-empty (Skipped x n) a = (λ e. cc, λ b. absurd (apart (subst (λ q. is_granted_at h q ≡ true) a.front (granted-from h a.granted_is.0 a.granted_is.1.0 n x a.granted_is.1.1)) b))
  exact-empty BusyFront a = (λ e. cc, λ b. absurd (apart a.front.granted_is b))
  exact-empty Empty a = (λ e. a.all_taken, λ b. refl)

  -- there is no record
  pub none-there : length stored ≡ 0 → Takes (ring_with r h stored p c) (ring_with r h stored p c) Empty
  none-there e = record { all_taken = sym k.producer_is ∙ sym (at stored e k.in_row) ∙ k.consumer_is; same = refl }
    where
      at : (ts : List StoredRecord) → length ts ≡ 0 → InRow c (map shown_record ts) p → c ≡ p
      at [] z row = row
      at (t ∷ ts) z row = absurd (omega arith)
