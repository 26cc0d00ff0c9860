-- A call at one of several rings.
use Rattle.std.proofs.Common.{◌≡◌, ℕ, ◌<◌, List, get_or, set, length, Option, Some, None, IfSome, Result, Ok, Err, IfOk, IfNone, refl, ap, sym, ◌∙◌}
use Rattle.std.proofs.lemmas.List.{set-get_or}
use Rattle.std.proofs.lemmas.Option.{slice_get_read}
use Rattle.std.specs.Prelude.{slice_get}
use Rattle.rb_chapter_ring.specs.HandRing.{HandRing}
use Rattle.rb_engine.specs.EngineCalls.{AtRing, OfRing}

-- the call was made at the ring with this index
pub at-ring : (Did : HandRing → HandRing → Type 0) (now rings : List HandRing) (ring : ℕ) (before after : HandRing) → rings ≡ now → ring < length rings → before ≡ get_or rings ring before → Did before after
    → AtRing ring Did now (set rings ring after)
at-ring Did now rings ring before after are below here did = record {
  before = before;
  after = after;
  before_is = sym (ap (λ xs. slice_get xs ring) are) ∙ slice_get_read rings (length rings) ring before refl below here;
  new_is = ap (λ xs. set xs ring after) are;
  did = did;
}

-- the ring with this index has this property
pub of-ring : (Holds : HandRing → Type 0) (now rings : List HandRing) (ring : ℕ) (asked : HandRing) → rings ≡ now → ring < length rings → asked ≡ get_or rings ring asked → Holds asked → OfRing ring Holds now
of-ring Holds now rings ring asked are below here holds = record {
  asked = asked;
  asked_is = sym (ap (λ xs. slice_get xs ring) are) ∙ slice_get_read rings (length rings) ring asked refl below here;
  holds = holds;
}

-- the ring with this index was read
pub ring-read : (now rings : List HandRing) (ring : ℕ) (asked : HandRing) → rings ≡ now → ring < length rings → asked ≡ get_or rings ring asked → slice_get now ring ≡ Some asked
ring-read now rings ring asked are below here = sym (ap (λ xs. slice_get xs ring) are) ∙ slice_get_read rings (length rings) ring asked refl below here

-- the call was made at the ring with this index, for any result
pub at-ring-ok : {T E : Type 0} (Did : T → HandRing → HandRing → Type 0) (answer : Result T E) (now rings : List HandRing) (ring : ℕ) (before after : HandRing) → rings ≡ now → ring < length rings → before ≡ get_or rings ring before
    → IfOk answer (λ x. Did x before after) → IfOk answer (λ x. AtRing ring (Did x) now (set rings ring after))
at-ring-ok Did (Ok x) now rings ring before after are below here did = at-ring (Did x) now rings ring before after are below here did
at-ring-ok Did (Err e) now rings ring before after are below here did = tt

-- the ring with this index did not change
pub same-ring : (now rings : List HandRing) (ring : ℕ) (before after : HandRing) → rings ≡ now → before ≡ get_or rings ring before → after ≡ before → set rings ring after ≡ now
same-ring now rings ring before after are here same = ap (set rings ring) (same ∙ here) ∙ set-get_or rings ring before ∙ are

-- the ring with this index has the property, if the result states one
pub of-ring-some : {T : Type 0} (Holds : T → HandRing → Type 0) (answer : Option T) (now rings : List HandRing) (ring : ℕ) (asked : HandRing) → rings ≡ now → ring < length rings → asked ≡ get_or rings ring asked
    → IfSome answer (λ x. Holds x asked) → IfSome answer (λ x. OfRing ring (Holds x) now)
of-ring-some Holds (Some x) now rings ring asked are below here holds = of-ring (Holds x) now rings ring asked are below here holds
of-ring-some Holds None now rings ring asked are below here holds = tt

pub of-ring-none : {T : Type 0} (Holds : HandRing → Type 0) (answer : Option T) (now rings : List HandRing) (ring : ℕ) (asked : HandRing) → rings ≡ now → ring < length rings → asked ≡ get_or rings ring asked
    → IfNone answer (Holds asked) → IfNone answer (OfRing ring Holds now)
of-ring-none Holds (Some x) now rings ring asked are below here holds = tt
of-ring-none Holds None now rings ring asked are below here holds = of-ring Holds now rings ring asked are below here holds
