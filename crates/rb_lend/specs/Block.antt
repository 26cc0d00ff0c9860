-- How a block lends its bytes, and its value after the loan.
use Rattle.std.specs.Prelude.{ℕ, List}
use Rattle.std.specs.Borrow.{MutBor, Fml, RattleType, Lends, Array, u8}
use Rattle.rb_lend.specs.Ranges.{written_at}
use Rattle.rb_lend.specs.contracts.block.Block.{the_row}

module _ (N : RattleType) where
  -- the block with the bytes from index `at` replaced
  abbrev pub block_with_part : (the_row N).Denot → ℕ → List ℕ → (the_row N).Denot
  block_with_part s at ws = record { bytes = written_at at s.bytes ws }

  -- a range of the block is lent
  abbrev pub LendsBlockRange : MutBor (the_row N).Denot → ℕ → MutBor (List ℕ) → Fml
  LendsBlockRange s at r = Lends (the_row N) (Array u8 0) s r (block_with_part s.now at)
