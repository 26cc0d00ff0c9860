-- How a few bytes inside a value are lent.
use Rattle.std.specs.Prelude.{ℕ, List}
use Rattle.std.specs.Borrow.{MutBor, Fml, Lends, Array, u8}
use Rattle.rb_lend.specs.Ranges.{in_place_of, written_at}
use Rattle.rb_lend.specs.contracts.short.Short.{the_row}

-- all bytes are lent
abbrev pub LendsShort : MutBor (List ℕ) → MutBor (List ℕ) → Fml
LendsShort s r = Lends the_row (Array u8 0) s r (in_place_of s.now)

-- a range of the bytes is lent
abbrev pub LendsShortRange : MutBor (List ℕ) → ℕ → MutBor (List ℕ) → Fml
LendsShortRange s at r = Lends the_row (Array u8 0) s r (λ w. in_place_of s.now (written_at at s.now w))
