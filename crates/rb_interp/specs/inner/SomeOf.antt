-- How an option lends (mutably borrows) its content.
use Rattle.std.specs.Prelude.{Option, Some}
use Rattle.std.specs.Borrow.{MutBor, Fml, RattleType, Lends}
use Rattle.std.specs.contracts.option.Option.{the_row as option}

abbrev pub LendsSome : (T : RattleType) → MutBor (Option T.Denot) → MutBor T.Denot → Fml
LendsSome T x r = Lends (option T) T x r Some
