use Rattle.rb_json.proofs.TextFields.{no_text, text_added}
use Rattle.rb_json.proofs.words.push_text_field.Goals as goal

pub returns-in_ok-extend_from_slice-in-Ok : goal.returns-in_ok-extend_from_slice-in-Ok
returns-in_ok-extend_from_slice-in-Ok c = record {
  field = text_added c.push_text.result c.args.line.now.items c.extend_from_slice.new.self.items c.push_text.new.line.items c.in-Ok.text.now c.args.bytes.now
      c.in-Ok.ensures.cases.1 c.in-Ok.ensures.cases.0 c.in_ok-extend_from_slice-in-Ok.ensures.items c.push_text.ensures.text;
}

pub returns-in-Err : goal.returns-in-Err
returns-in-Err c = record { field = no_text c.args.line.now.items c.args.bytes.now c.in-Err.ensures.cases.0 }
