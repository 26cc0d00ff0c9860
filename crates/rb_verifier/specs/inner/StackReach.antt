-- Where on the stack an access lies, and how a store changes the places.
use Rattle.std.specs.Prelude.{◌≡◌, ◌⊎◌, ℕ, ◌+◌, ◌≤◌, List, Option, Some, None, Result, Ok, Err}
use Rattle.rb_verifier.specs.declared.rule.Rule.{Rule}
use Rattle.rb_verifier.specs.declared.rule.StepFault.{StepFault}
use Rattle.rb_verifier.specs.declared.rule.StepFault.TheVariants as fault
use Rattle.rb_verifier.specs.declared.value.Abs.{Abs}
use Rattle.rb_verifier.specs.KeptPointers.{MayKeepPointer}

-- the bytes lie on the stack, or in another part
abbrev pub LiesInside : ℕ → Option ℕ → Type 0
LiesInside len None = Unit {0}
LiesInside len (Some at) = at + len ≤ 512

-- a place of the stack, or none
abbrev pub IsPlaceOrNone : Option ℕ → Type 0
IsPlaceOrNone None = Unit {0}
IsPlaceOrNone (Some place) = place ≤ 63

-- a store leaves these places, or breaks a rule; or an allocation failed, which is possible only if a place may hold a
-- pointer before or after the store
abbrev pub IsPlaced : Result (Unit {0}) StepFault → List Abs → Result (List Abs) Rule → Type 0
IsPlaced (Ok done) places answer = answer ≡ Ok places
IsPlaced (Err (fault.Rule broken)) places answer = answer ≡ Err broken
IsPlaced (Err fault.Memory) places answer = MayKeepPointer places ⊎ ((stored : List Abs) × (answer ≡ Ok stored) × MayKeepPointer stored)
