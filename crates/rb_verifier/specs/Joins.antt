-- The join of abstract states: the least state above both.
use Rattle.rb_verifier.specs.declared.state.AbsState.{AbsState}
use Rattle.rb_verifier.specs.AbstractStates.{Below}

-- the least state above both
pub record IsJoin (s t join : AbsState) : Type 0 where
  pub left : Below s join
  pub right : Below t join
  pub least : (u : AbsState) → Below s u → Below t u → Below join u
