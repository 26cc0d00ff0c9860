-- Allowed values of a place: no change of a reference and no join produces a known number.
use Rattle.std.proofs.Common.{◌≡◌, ℕ, ◌<◌, ◌≤◌, true, false, List, [], length, get_or, refl, subst, arith, ⊎_elim}
use Rattle.std.specs.Prelude.{◌==◌, pos, if◌then◌else◌}
use Rattle.std.proofs.lemmas.Bool.{cases_lt}
use Rattle.rb_verifier.specs.declared.value.Abs.{Abs}
use Rattle.rb_verifier.specs.declared.value.Abs.TheVariants.{Unreadable, Number, Known, Ctx, Stack, Ring, Perhaps, Record}
use Rattle.rb_verifier.specs.KeptPointers.{IsPlaceValue}
use Rattle.rb_verifier.specs.declared.reference_changes.Change.{Change}
use Rattle.rb_verifier.specs.declared.reference_changes.Change.TheVariants.{IsNull, IsThere, GivenBack}
use Rattle.rb_verifier.specs.inner.ChangedValues.{place_after}
use Rattle.rb_verifier.specs.inner.KeptList.{IsKeptList}
use Rattle.rb_verifier.specs.inner.ValueJoins.{IsJoinValue}

-- a change keeps the value of a place allowed
pub value_after : (change : Change) (v : Abs) → IsPlaceValue v → IsPlaceValue (place_after change v)
value_after change (Known n) h = absurd h
value_after (IsNull id) (Perhaps other) h = elim (other == id) as (λ b. IsPlaceValue (if b then Number else Perhaps other)) [ true ↦ tt | false ↦ tt ]
value_after (IsNull id) Unreadable h = tt
value_after (IsNull id) Number h = tt
value_after (IsNull id) (Ctx offset) h = tt
value_after (IsNull id) (Stack offset) h = tt
value_after (IsNull id) (Ring ring) h = tt
value_after (IsNull id) (Record other offset) h = tt
value_after (IsThere id) (Perhaps other) h = elim (other == id) as (λ b. IsPlaceValue (if b then Record id (pos 0) else Perhaps other)) [ true ↦ tt | false ↦ tt ]
value_after (IsThere id) Unreadable h = tt
value_after (IsThere id) Number h = tt
value_after (IsThere id) (Ctx offset) h = tt
value_after (IsThere id) (Stack offset) h = tt
value_after (IsThere id) (Ring ring) h = tt
value_after (IsThere id) (Record other offset) h = tt
value_after (GivenBack id) (Record other offset) h = elim (other == id) as (λ b. IsPlaceValue (if b then Unreadable else Record other offset)) [ true ↦ tt | false ↦ tt ]
value_after (GivenBack id) Unreadable h = tt
value_after (GivenBack id) Number h = tt
value_after (GivenBack id) (Ctx offset) h = tt
value_after (GivenBack id) (Stack offset) h = tt
value_after (GivenBack id) (Ring ring) h = tt
value_after (GivenBack id) (Perhaps other) h = tt

-- a join of allowed values is allowed: only a known number itself is below it
pub value_joined : (v w join : Abs) → IsJoinValue v w join → IsPlaceValue v → IsPlaceValue join
value_joined v w (Known n) joined h = subst IsPlaceValue joined.left h
value_joined v w Unreadable joined h = tt
value_joined v w Number joined h = tt
value_joined v w (Ctx offset) joined h = tt
value_joined v w (Stack offset) joined h = tt
value_joined v w (Ring ring) joined h = tt
value_joined v w (Perhaps id) joined h = tt
value_joined v w (Record id offset) joined h = tt

-- ---- the list that code stores

pub few_kept : (zs : List Abs) → IsKeptList zs → length zs ≤ 64
unfolding IsKeptList
few_kept zs kept = ⊎_elim (λ lt. let no : 64 < 64 = (kept 64 lt).0 in absurd (omega arith)) (λ le. le) (cases_lt 64 (length zs))

pub value_kept : (zs : List Abs) (k : ℕ) → IsKeptList zs → k < length zs → IsPlaceValue (get_or zs k Number)
unfolding IsKeptList
value_kept zs k kept lt = (kept k lt).1

-- a list that is built from the last place down
pub kept_built : (zs : List Abs) (n : ℕ) → length zs ≡ n → n ≤ 64 → ((j : ℕ) → j < n → IsPlaceValue (get_or zs j Number)) → IsKeptList zs
unfolding IsKeptList
kept_built zs n count few h = λ k lt. (omega arith, h k (omega arith))

pub none_kept : IsKeptList []
none_kept = kept_built [] 0 refl (omega arith) (λ j lt. absurd (omega arith))
