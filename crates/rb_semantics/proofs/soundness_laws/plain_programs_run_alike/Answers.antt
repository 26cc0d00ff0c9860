use Rattle.rb_semantics.proofs.PlainRuns.{plain_alike}
use Rattle.rb_semantics.proofs.soundness_laws.plain_programs_run_alike.Goals as goal

pub returns : goal.returns
returns c = plain_alike
