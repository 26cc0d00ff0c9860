use Rattle.std.specs.Prelude.{codes}
use Rattle.rb_json.specs.Json.{json_number}
use Rattle.rb_run_commands.specs.ReportLines.{outcome_fields}
use Rattle.rb_run_commands.proofs.Printing.{three_fields}
use Rattle.rb_run_commands.proofs.report_json.push_outcome.Goals as goal

pub returns : goal.returns
unfolding outcome_fields
returns c = record {
  fields =
      three_fields c.push_field-3.result c.args.lines.now.items c.push_field.new.line.items c.push_field-2.new.line.items c.push_field-3.new.line.items (codes ",\"refused\":") (json_number c.args.tally.refused) (codes ",\"submitted\":")
      (json_number c.args.tally.submitted) (codes ",\"discarded\":") (json_number c.args.tally.discarded) c.in_ok-push_field.ensures.field c.in_ok-push_field-2.ensures.field c.push_field-3.ensures.field;
}
