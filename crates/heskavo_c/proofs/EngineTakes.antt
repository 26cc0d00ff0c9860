-- The record that a take finds at the front of an engine's ring.
use Rattle.std.proofs.Common.{◌≡◌, ℕ, ◌≤◌, List, length, set, Option, Some, sym, ap, ◌∙◌, subst, arith}
use Rattle.std.proofs.lemmas.List.{set-get_or}
use Rattle.std.proofs.lemmas.Option.{get_or_from_slice_get}
use Rattle.rb_history.specs.declared.answers.Taken.TheVariants.{Event, BusyFront, Empty}
use Rattle.rb_chapter_ring.specs.HandRing.{HandRing}
use Rattle.rb_engine.specs.EngineCalls.{AtRing, OfRing}
use Rattle.rb_engine.specs.EngineValue.{EngineValue}
use Rattle.rb_engine.specs.RingCalls.{HasWaitingFront, Takes, WasFront}

some-same : (x y : HandRing) → ◌≡◌ {A = Option HandRing} (Some x) (Some y) → x ≡ y
some-same x y e = cc

module _ (ring len : ℕ) (rings : List HandRing) where
  -- the record that waits at the front is not longer than this
  pub fits-some : (n : ℕ) → OfRing ring (λ v. HasWaitingFront v n) rings → n ≤ len → OfRing ring (λ v. (m : ℕ) → HasWaitingFront v m → m ≤ len) rings
  fits-some n at low = record {
    asked = at.asked;
    asked_is = at.asked_is;
    holds = λ m front. let same : m ≡ n = sym front.len_is ∙ at.holds.len_is in omega (arith, same, low);
  }

  pub fits-none : OfRing ring (λ v. (n : ℕ) → ¬ HasWaitingFront v n) rings → OfRing ring (λ v. (m : ℕ) → HasWaitingFront v m → m ≤ len) rings
  fits-none at = record { asked = at.asked; asked_is = at.asked_is; holds = λ m front. absurd (at.holds m front) }

  -- so a record that is taken fits
  pub event-fits : (p w k : ℕ) (bytes : List ℕ) → OfRing ring (λ v. (m : ℕ) → HasWaitingFront v m → m ≤ len) rings → OfRing ring (λ v. WasFront (Event p w k bytes) v) rings → length bytes ≤ len
  event-fits p w k bytes fits front =
      let same : front.asked ≡ fits.asked = some-same front.asked fits.asked (sym front.asked_is ∙ fits.asked_is) in
      fits.holds (length bytes) (subst (λ (v : HandRing). HasWaitingFront v (length bytes)) same front.holds)

module _ (ring : ℕ) (old new : EngineValue) (programs : new.programs ≡ old.programs) (ctx_len : new.ctx_len ≡ old.ctx_len) where
  unmoved : (Did : HandRing → HandRing → Type 0) (at : AtRing ring Did old.rings new.rings) → at.after ≡ at.before → new ≡ old
  unmoved Did at same =
      let rings : new.rings ≡ old.rings = at.new_is ∙ ap (set old.rings ring) (same ∙ sym (get_or_from_slice_get old.rings ring at.before at.before at.before_is)) ∙ set-get_or old.rings ring at.before in
      λ i. record { rings = rings i; programs = programs i; ctx_len = ctx_len i }

  pub busy-same : AtRing ring (Takes BusyFront) old.rings new.rings → new ≡ old
  busy-same at = unmoved (Takes BusyFront) at (λ i. record { ring = at.did.0.same i; hands = at.did.1 i })

  pub empty-same : AtRing ring (Takes Empty) old.rings new.rings → new ≡ old
  empty-same at = unmoved (Takes Empty) at (λ i. record { ring = at.did.0.same i; hands = at.did.1 i })
