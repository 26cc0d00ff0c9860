use Rattle.rb_run_commands.proofs.RunOutputs.{with_tape, without_tape}
use Rattle.rb_run_commands.proofs.run_command.run.Goals as goal

pub returns-in-None-clause-printed : goal.returns-in-None-clause-printed
returns-in-None-clause-printed g c =
    without_tape g.row.F.Denot g.F.Write.contents c.args.file.now.path _ c.in_ok-planned.planned c.args.request _ _ _ _ c.in_ok-planned.ensures.request c.in_ok-planned.ensures.accepted c.in_ok-run-in-None.field-0 c.in-None.is c.in_ok-run-in-None.ensures.ran
    c.in_ok-run-in-None.ensures.printed c.in_ok-run-in-None.ensures.told

pub returns-clause-printed : goal.returns-clause-printed
returns-clause-printed g c =
    with_tape g.row.F.Denot g.F.Write.contents c.args.file.now.path _ c.in_ok-planned.planned c.args.request _ _ _ _ c.in_ok-planned.ensures.request c.in_ok-planned.ensures.accepted _ c.in-Some.is c.in_ok-run_to_file-in-Some.ensures.printed
