-- A hex digit by plain arithmetic.
use Rattle.std.specs.Prelude.{ℕ, ◌+◌, nat_lt, if◌then◌else◌}

-- the digit of a number below sixteen, in lower case
abbrev pub digit_code : ℕ → ℕ
digit_code n = if nat_lt n 10 then 48 + n else 87 + n
