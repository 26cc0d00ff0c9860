-- Exactly one of the refusals of a world, or of a list of actors, is the first that applies.
use Rattle.std.proofs.Common.{◌≡◌, ◌↔◌, ℕ, List, [], ◌∷◌, Result, Err, refl, ap, subst}
use Rattle.std.specs.Prelude.{All}
use Rattle.std.proofs.lemmas.List.Elements.{All-head, All-tail}
use Rattle.rb_world.specs.declared.actor.Actor.{Actor}
use Rattle.rb_world.specs.declared.world_setup.RingSetup.{RingSetup}
use Rattle.rb_world.specs.declared.world_setup.WorkerSetup.{WorkerSetup}
use Rattle.rb_world.specs.declared.world_fault.WorldFault.{WorldFault}
use Rattle.rb_world.specs.declared.world_fault.WorldFault.TheVariants.{UnknownActor, Memory}
use Rattle.rb_world.specs.declared.world_fault.WorldOpenFault.{WorldOpenFault}
use Rattle.rb_world.specs.declared.world_fault.WorldOpenFault.TheVariants as fault
use Rattle.rb_world.specs.WorldRuns.{IsFirstUnknown}
use Rattle.rb_world.specs.WorldValue.{WorldValue, IsThere}
use Rattle.rb_world.specs.inner.Refusals.{IsOpenRefusal, IsRefusedRun}

abbrev err : {T E : Type 0} → E → Result T E
err e = Err e

same-err : {T E : Type 0} (e f : E) → err {T = T} e ≡ err f → e ≡ f
same-err e f is = cc

module _ (rings : List RingSetup) (workers : List WorkerSetup) where
  one-refusal : (e f : WorldOpenFault) → IsOpenRefusal rings workers e → IsOpenRefusal rings workers f → e ≡ f
  one-refusal fault.Ring fault.Ring a b = refl
  one-refusal fault.Ring fault.ContextLength a b = absurd (a b.0)
  one-refusal fault.Ring fault.Rings a b = absurd (a b.0)
  one-refusal fault.Ring fault.Workers a b = absurd (a b.0)
  one-refusal fault.Ring fault.Chapter a b = absurd (a b.0)
  one-refusal fault.Ring fault.Memory a b = absurd (a b.are_rings)
  one-refusal fault.ContextLength fault.Ring a b = absurd (b a.0)
  one-refusal fault.ContextLength fault.ContextLength a b = refl
  one-refusal fault.ContextLength fault.Rings a b = absurd (a.1 b.1)
  one-refusal fault.ContextLength fault.Workers a b = absurd (a.1 b.1)
  one-refusal fault.ContextLength fault.Chapter a b = absurd (a.1 b.1)
  one-refusal fault.ContextLength fault.Memory a b = absurd (a.1 b.contexts)
  one-refusal fault.Rings fault.Ring a b = absurd (b a.0)
  one-refusal fault.Rings fault.ContextLength a b = absurd (b.1 a.1)
  one-refusal fault.Rings fault.Rings a b = refl
  one-refusal fault.Rings fault.Workers a b = absurd (a.2 b.2)
  one-refusal fault.Rings fault.Chapter a b = absurd (a.2 b.2)
  one-refusal fault.Rings fault.Memory a b = absurd (a.2 b.ring_count)
  one-refusal fault.Workers fault.Ring a b = absurd (b a.0)
  one-refusal fault.Workers fault.ContextLength a b = absurd (b.1 a.1)
  one-refusal fault.Workers fault.Rings a b = absurd (b.2 a.2)
  one-refusal fault.Workers fault.Workers a b = refl
  one-refusal fault.Workers fault.Chapter a b = absurd (a.3 b.3)
  one-refusal fault.Workers fault.Memory a b = absurd (a.3 b.worker_count)
  one-refusal fault.Chapter fault.Ring a b = absurd (b a.0)
  one-refusal fault.Chapter fault.ContextLength a b = absurd (b.1 a.1)
  one-refusal fault.Chapter fault.Rings a b = absurd (b.2 a.2)
  one-refusal fault.Chapter fault.Workers a b = absurd (b.3 a.3)
  one-refusal fault.Chapter fault.Chapter a b = refl
  one-refusal fault.Chapter fault.Memory a b = absurd (a.4 b.rooms)
  one-refusal fault.Memory fault.Ring a b = absurd (b a.are_rings)
  one-refusal fault.Memory fault.ContextLength a b = absurd (b.1 a.contexts)
  one-refusal fault.Memory fault.Rings a b = absurd (b.2 a.ring_count)
  one-refusal fault.Memory fault.Workers a b = absurd (b.3 a.worker_count)
  one-refusal fault.Memory fault.Chapter a b = absurd (b.4 a.rooms)
  one-refusal fault.Memory fault.Memory a b = refl

  -- the refusal that is returned is the one that applies
  pub refused-exactly : {T : Type 0} (e f : WorldOpenFault) → IsOpenRefusal rings workers e → (err {T = T} e ≡ err f) ↔ IsOpenRefusal rings workers f
  refused-exactly {T = T} e f told = ((λ is. subst (IsOpenRefusal rings workers) (same-err {T = T} e f is) told), λ applies. ap (err {T = T}) (one-refusal e f told applies))

module _ (v : WorldValue) where
  pub none-unknown : (actors : List Actor) (place : ℕ) → All (IsThere v) actors → IsFirstUnknown v actors place → ⊥
  none-unknown [] place all first = first
  none-unknown (a ∷ actors) ℕ.zero all first = first (All-head (IsThere v) a actors all)
  none-unknown (a ∷ actors) (ℕ.suc place) all first = none-unknown actors place (All-tail (IsThere v) a actors all) first.1

  one-unknown : (actors : List Actor) (p q : ℕ) → IsFirstUnknown v actors p → IsFirstUnknown v actors q → p ≡ q
  one-unknown [] p q a b = absurd a
  one-unknown (x ∷ actors) ℕ.zero ℕ.zero a b = refl
  one-unknown (x ∷ actors) ℕ.zero (ℕ.suc q) a b = absurd (a b.0)
  one-unknown (x ∷ actors) (ℕ.suc p) ℕ.zero a b = absurd (b a.0)
  one-unknown (x ∷ actors) (ℕ.suc p) (ℕ.suc q) a b = ap ℕ.suc (one-unknown actors p q a.1 b.1)

  pub unknown-exactly : {T : Type 0} (actors : List Actor) (e : WorldFault) → IsRefusedRun v actors e → (place : ℕ) → (err {T = T} e ≡ err (UnknownActor place)) ↔ IsFirstUnknown v actors place
  unknown-exactly {T = T} actors (UnknownActor p) told place =
      ((λ is. subst (IsFirstUnknown v actors) (let same : UnknownActor p ≡ UnknownActor place = same-err {T = T} (UnknownActor p) (UnknownActor place) is in cc) told), λ first. ap (λ n. err {T = T} (UnknownActor n)) (one-unknown actors p place told first))
  unknown-exactly {T = T} actors Memory told place = ((λ is. absurd (let same : Memory ≡ UnknownActor place = same-err {T = T} Memory (UnknownActor place) is in cc)), λ first. absurd (none-unknown actors place told first))
