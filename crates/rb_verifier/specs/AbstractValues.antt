-- Abstract values, and their order (own profile).
use Rattle.std.specs.Prelude.{◌≡◌}
use Rattle.rb_verifier.specs.declared.value.Abs.{Abs}
use Rattle.rb_verifier.specs.declared.value.Abs.TheVariants.{Unreadable, Number, Known, Ctx, Stack, Ring, Perhaps, Record}

-- a number, known or not
abbrev pub IsNumber : Abs → Type 0
IsNumber Number = Unit {0}
IsNumber (Known n) = Unit {0}
IsNumber _ = ⊥

-- every concrete value that the first describes, the second describes too: a known number is below Number, every value
-- is below Unreadable, and each value is below itself
abbrev pub BelowValue : Abs → Abs → Type 0
BelowValue v Unreadable = Unit {0}
BelowValue v Number = IsNumber v
BelowValue v (Known n) = v ≡ Known n
BelowValue v (Ctx offset) = v ≡ Ctx offset
BelowValue v (Stack offset) = v ≡ Stack offset
BelowValue v (Ring ring) = v ≡ Ring ring
BelowValue v (Perhaps id) = v ≡ Perhaps id
BelowValue v (Record id offset) = v ≡ Record id offset
