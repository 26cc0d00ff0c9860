use Rattle.rb_tape_commands.proofs.Gathering.{gathers_on, has_no_fault}
use Rattle.rb_tape_commands.proofs.tape_lines.gather_lines.Goals as goal

pub records-preserved : goal.records-preserved
records-preserved c =
    let more = c.in_ok-gather_next.field-0 in
    let gathered = c.in_ok-gather_next.ensures.gathered in
    record {
      reads = gathers_on c.args.form c.args.feed.now c.records.feed c.gather_next.new.feed c.records.lines.text c.gather_next.new.lines.text c.records.invariant.reads more gathered c.if-branch.true;
      no_fault = has_no_fault c.args.form c.records.feed c.gather_next.new.feed c.records.lines.text c.gather_next.new.lines.text more gathered c.if-branch.true;
    }
