use Rattle.rb_segments.proofs.Joined.{joins}
use Rattle.rb_segments.proofs.laws.joined_segments_are_the_tape.Goals as goal

pub returns : goal.returns
returns c = record { law = joins }
