use Rattle.rb_program.proofs.Laws.{is_laid_out}
use Rattle.rb_program.proofs.program.Program.facts.Goals as goal

pub returns-clause-laid_out : goal.returns-clause-laid_out
returns-clause-laid_out c = is_laid_out c.args.self.now
