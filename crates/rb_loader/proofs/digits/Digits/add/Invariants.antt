use Rattle.std.proofs.Common.{ℕ, List, ◌++◌, take}
use Rattle.rb_loader.specs.inner.Digits.{KeepsOf}
use Rattle.rb_loader.proofs.digits.Digits.add.Given as goal

abbrev pub invariant-loop-byte : goal.invariant-loop-byte
invariant-loop-byte l = (text : List ℕ) → KeepsOf text l.fn.self → KeepsOf (text ++ take l.byte-index l.piece) l.self
