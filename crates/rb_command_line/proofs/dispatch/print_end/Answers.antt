use Rattle.rb_json.specs.declared.form.LineForm.TheVariants.{Json, Words}
use Rattle.rb_command_line.proofs.CommandEndings.{end_as}
use Rattle.rb_command_line.proofs.dispatch.print_end.Goals as goal

pub returns-in-Words-clause-told : goal.returns-in-Words-clause-told
returns-in-Words-clause-told g c = λ zero. end_as c.args.form Words c.args.end _ _ c.in-Words.is (c.print_end_words.ensures.told zero)

pub returns-in-Json-clause-told : goal.returns-in-Json-clause-told
returns-in-Json-clause-told g c = λ zero. end_as c.args.form Json c.args.end _ _ c.in-Json.is (c.print_end_object.ensures.told zero)
