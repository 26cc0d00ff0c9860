use Rattle.rb_history.proofs.HeaderLaws.{unique_tape, end_of-tape}
use Rattle.rb_history.proofs.tapes.tapes_are_unique.Goals as goal

pub returns-clause-unique : goal.returns-clause-unique
returns-clause-unique c = unique_tape

pub returns-clause-covers : goal.returns-clause-covers
returns-clause-covers c = end_of-tape
