-- The join of abstract values: the least value above both.
use Rattle.rb_verifier.specs.declared.value.Abs.{Abs}
use Rattle.rb_verifier.specs.AbstractValues.{BelowValue}

-- the least value above both
pub record IsJoinValue (v w join : Abs) : Type 0 where
  pub left : BelowValue v join
  pub right : BelowValue w join
  pub least : (u : Abs) → BelowValue v u → BelowValue w u → BelowValue join u
