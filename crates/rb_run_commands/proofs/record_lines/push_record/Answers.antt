use Rattle.std.proofs.Common.{◌∙◌, ap, string_bytes}
use Rattle.rb_io.specs.Lines.{hex_text}
use Rattle.rb_run_commands.proofs.CheckPrinting.{event_written}
use Rattle.rb_run_commands.proofs.record_lines.push_record.Goals as goal

pub returns-in_ok-bytes-in-Event : goal.returns-in_ok-bytes-in-Event
returns-in_ok-bytes-in-Event c = record {
  line = event_written c.writeln.result (string_bytes c.args.text.now) (string_bytes c.writeln.new.self) (string_bytes c.in_ok-bytes-in-Event.bytes) c.in-Event.sheet c.args.ring c.in-Event.pos c.in-Event.worker c.in-Event.serial c.len-len.result c.args.taken.now c.in-Event.is
      (c.in_ok-bytes-in-Event.ensures.text ∙ ap hex_text c.bytes.ensures) c.len-len.ensures c.writeln.ensures.bytes;
}
