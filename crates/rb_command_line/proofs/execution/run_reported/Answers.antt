use Rattle.rb_command_line.proofs.SingleCommands.{runs_jobs}
use Rattle.rb_command_line.proofs.execution.run_reported.Goals as goal

pub returns : goal.returns
returns g c = record { ran = runs_jobs g.row.F.Denot g.F.Write.contents c.args.jobs _ _ c.run-answer.result c.run-answer.ensures.printed c.run-answer.ensures.bounds }
