-- Consequences of checks that pass.
use Rattle.std.proofs.Common.{◌≡◌, ℕ, ◌+◌, ◌≤◌, ◌^◌, ℤ, pos, negsuc, ◌+ℤ◌, Bool, true, false, List, Option, Some, None, ap, subst, refl, arith, Ok, Err}
use Rattle.std.specs.Prelude.{nat_le, if◌then◌else◌}
use Rattle.std.specs.Ordering.{int_eq}
use Rattle.std.proofs.lemmas.Bool.Decides.{nat_tests}
use Rattle.std.proofs.lemmas.Int.{ints}
use Rattle.rb_verifier.specs.declared.rule.Rule.{Rule}
use Rattle.rb_verifier.specs.declared.rule.Rule.TheVariants as rule
use Rattle.rb_verifier.specs.declared.value.Abs.{Abs}
use Rattle.rb_verifier.specs.declared.value.Abs.TheVariants as abs
use Rattle.rb_verifier.specs.AbstractArithmetic.{is_near, check_near}
use Rattle.rb_verifier.specs.ValueChecks.{refused_if, check_readable, check_number, check_ring, check_known_size, check_record_size, check_record_start}
use Rattle.rb_verifier.specs.Extents.{stack_extent, extent_from_zero, contains_range}
use Rattle.rb_verifier.specs.AbstractValues.{IsNumber}
use Rattle.rb_semantics.specs.declared.value.Value.TheVariants.{Nothing, Number}
use Rattle.rb_verifier.specs.StackPlaces.{natural}
use Rattle.rb_semantics.specs.Agreement.{reserved_value, AgreesValue}

-- a test that passes
pub passed : (b : Bool) (rule : Rule) (x : Unit {0}) → refused_if b rule ≡ Ok x → b ≡ false
passed true rule x e = absurd (cc)
passed false rule x e = refl

pub number_passed : (rule : Rule) (v : Abs) (x : Unit {0}) → check_number rule v ≡ Ok x → IsNumber v
number_passed rule abs.Unreadable x e = absurd (cc)
number_passed rule abs.Number x e = tt
number_passed rule (abs.Known n) x e = tt
number_passed rule (abs.Ctx o) x e = absurd (cc)
number_passed rule (abs.Stack o) x e = absurd (cc)
number_passed rule (abs.Ring n) x e = absurd (cc)
number_passed rule (abs.Perhaps n) x e = absurd (cc)
number_passed rule (abs.Record n o) x e = absurd (cc)

pub ring_passed : (v : Abs) (ring : ℕ) → check_ring v ≡ Ok ring → v ≡ abs.Ring ring
ring_passed (abs.Ring n) ring e = let same : n ≡ ring = cc in ap abs.Ring same
ring_passed abs.Unreadable ring e = absurd (cc)
ring_passed abs.Number ring e = absurd (cc)
ring_passed (abs.Known n) ring e = absurd (cc)
ring_passed (abs.Ctx o) ring e = absurd (cc)
ring_passed (abs.Stack o) ring e = absurd (cc)
ring_passed (abs.Perhaps n) ring e = absurd (cc)
ring_passed (abs.Record n o) ring e = absurd (cc)

pub size_passed : (v : Abs) (n : ℕ) → check_known_size v ≡ Ok n → v ≡ abs.Known n
size_passed (abs.Known m) n e = let same : m ≡ n = cc in ap abs.Known same
size_passed abs.Unreadable n e = absurd (cc)
size_passed abs.Number n e = absurd (cc)
size_passed (abs.Ctx o) n e = absurd (cc)
size_passed (abs.Stack o) n e = absurd (cc)
size_passed (abs.Ring m) n e = absurd (cc)
size_passed (abs.Perhaps m) n e = absurd (cc)
size_passed (abs.Record m o) n e = absurd (cc)

bounded_size : (b : Bool) (m n : ℕ) (rule : Rule) → nat_le m (2 ^ 26) ≡ b → (if b then Ok m else Err rule) ≡ Ok n → (m ≡ n) × (n ≤ 2 ^ 26)
bounded_size false m n rule h e = absurd (cc)
bounded_size true m n rule h e =
    let same : m ≡ n = cc in let le : m ≤ 2 ^ 26 = grind (arith, nat_tests) in (same, subst (λ k. k ≤ 2 ^ 26) same le)

pub record_size_passed : (v : Abs) (n : ℕ) → check_record_size v ≡ Ok n → (v ≡ abs.Known n) × (n ≤ 2 ^ 26)
record_size_passed (abs.Known m) n e = let both = bounded_size (nat_le m (2 ^ 26)) m n _ refl e in (ap abs.Known both.0, both.1)
record_size_passed abs.Unreadable n e = absurd (cc)
record_size_passed abs.Number n e = absurd (cc)
record_size_passed (abs.Ctx o) n e = absurd (cc)
record_size_passed (abs.Stack o) n e = absurd (cc)
record_size_passed (abs.Ring m) n e = absurd (cc)
record_size_passed (abs.Perhaps m) n e = absurd (cc)
record_size_passed (abs.Record m o) n e = absurd (cc)

at_start : (b : Bool) (o : ℤ) (m n : ℕ) (rule : Rule) → int_eq o (pos 0) ≡ b → (if b then Ok m else Err rule) ≡ Ok n → (m ≡ n) × (int_eq o (pos 0) ≡ true)
at_start false o m n rule h e = absurd (cc)
at_start true o m n rule h e = (cc, h)

-- a pointer to the first byte of a record
pub record IsStart (v : Abs) (id : ℕ) : Type 0 where
  pub offset : ℤ
  pub points : v ≡ abs.Record id offset
  pub first : int_eq offset (pos 0) ≡ true

pub start_passed : (v : Abs) (id : ℕ) → check_record_start v ≡ Ok id → IsStart v id
start_passed (abs.Record m o) id e = let both = at_start (int_eq o (pos 0)) o m id _ refl e in record { offset = o; points = ap (λ i. abs.Record i o) both.0; first = both.1 }
start_passed abs.Unreadable id e = absurd (cc)
start_passed abs.Number id e = absurd (cc)
start_passed (abs.Known n) id e = absurd (cc)
start_passed (abs.Ctx o) id e = absurd (cc)
start_passed (abs.Stack o) id e = absurd (cc)
start_passed (abs.Ring m) id e = absurd (cc)
start_passed (abs.Perhaps m) id e = absurd (cc)

pub near_passed : (z to : ℤ) → check_near z ≡ Ok to → (z ≡ to) × (is_near z ≡ true)
near_passed z to e = decided (is_near z) refl e
  where
    decided : (b : Bool) → is_near z ≡ b → (if b then Ok z else Err rule.PointerArithmetic) ≡ Ok to → (z ≡ to) × (is_near z ≡ true)
    decided false h k = absurd (cc)
    decided true h k = (cc, h)

-- a register that may be read has a value
not_nothing : (id : ℕ) (o : Option (List ℕ)) → Nothing ≡ reserved_value id o → ⊥
not_nothing id None e = cc
not_nothing id (Some b) e = cc

pub readable_passed : (rs : List (ℕ × List ℕ)) (v : Abs) (x : Unit {0}) → check_readable v ≡ Ok x → AgreesValue rs v Nothing → ⊥
readable_passed rs abs.Unreadable x e a = cc
readable_passed rs abs.Number x e a = let f : Nothing ≡ Number a.0 = a.1 in cc
readable_passed rs (abs.Known n) x e a = cc
readable_passed rs (abs.Ctx o) x e a = cc
readable_passed rs (abs.Stack o) x e a = cc
readable_passed rs (abs.Ring n) x e a = cc
readable_passed rs (abs.Perhaps n) x e a = not_nothing n _ a
readable_passed rs (abs.Record n o) x e a = cc

-- a range that lies in an extent begins at a byte of the part, and ends inside it
pub record IsRange (byte : Option ℕ) (len size : ℕ) : Type 0 where
  pub at : ℕ
  pub byte_at : byte ≡ Some at
  pub fits : at + len ≤ size

pub from_zero : (z : ℤ) (len size : ℕ) → contains_range (extent_from_zero size) z len ≡ true → IsRange (natural z) len size
from_zero (pos n) len size h = record { at = n; byte_at = refl; fits = grind (arith, ints, nat_tests) }
from_zero (negsuc n) len size h = absurd (grind (arith, ints, nat_tests))

below_zero : (z y : ℤ) (len : ℕ) → z +ℤ pos 512 ≡ y → contains_range stack_extent z len ≡ true → IsRange (natural y) len 512
below_zero z (pos n) len e h = record { at = n; byte_at = refl; fits = grind (arith, ints, nat_tests) }
below_zero z (negsuc n) len e h = absurd (grind (arith, ints, nat_tests))

pub in_stack : (z : ℤ) (len : ℕ) → contains_range stack_extent z len ≡ true → IsRange (natural (z +ℤ pos 512)) len 512
in_stack z len h = below_zero z (z +ℤ pos 512) len refl h
