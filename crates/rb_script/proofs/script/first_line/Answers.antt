use Rattle.std.proofs.Common.{sym, ◌∙◌}
use Rattle.rb_script.proofs.ScriptLineEnds.{first-cut, first-all}
use Rattle.rb_script.proofs.script.first_line.Goals as goal

pub returns-in-Some-clause-parted : goal.returns-in-Some-clause-parted
returns-in-Some-clause-parted c = first-cut c.args.text.now c.in-Some.end (sym c.line_end.ensures ∙ c.in-Some.is)

pub returns-in-None-clause-parted : goal.returns-in-None-clause-parted
returns-in-None-clause-parted c = first-all c.args.text.now c.requires.some (sym c.line_end.ensures ∙ c.in-None.is)
