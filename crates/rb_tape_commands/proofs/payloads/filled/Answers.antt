use Rattle.rb_tape_commands.proofs.PayloadReads.{written_over}
use Rattle.rb_tape_commands.proofs.payloads.filled.Goals as goal

pub returns : goal.returns
returns c = record { filled = written_over c.args.sheet c.copy_from_slice.new.self c.args.bytes.now c.copy_from_slice.ensures.after c.requires.sized }
