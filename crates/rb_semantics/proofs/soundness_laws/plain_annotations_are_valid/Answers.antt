use Rattle.rb_semantics.proofs.PlainPrograms.{plain_valid}
use Rattle.rb_semantics.proofs.soundness_laws.plain_annotations_are_valid.Goals as goal

pub returns : goal.returns
returns c = plain_valid
