use Rattle.rb_lend.proofs.RangeLaws.{ranges_are_alone}
use Rattle.rb_lend.proofs.range_laws.a_range_is_written_alone.Goals as goal

pub returns : goal.returns
returns c = ranges_are_alone
