use Rattle.rb_tape_commands.proofs.TapeReads.{handed_on_answer, handed_on_whole, broken_answer, opened_answer, opened_whole}
use Rattle.rb_tape_commands.proofs.tape_command.tape.Goals as goal

pub returns-in-Ok-write_out-clause-answer : goal.returns-in-Ok-write_out-clause-answer
returns-in-Ok-write_out-clause-answer g c = handed_on_answer c.args.form c.args.size c.args.start _ _ _ _ c.print_pieces-printed.result c.write_out.ensures.bytes (opened_answer c.args.form c.args.size c.args.start c.in-Ok.feed _ _ _ _ c.in-Ok.ensures.opened c.print_pieces-printed.ensures.answer)

pub returns-clause-answer : goal.returns-clause-answer
returns-clause-answer g c = broken_answer c.args.form c.args.size c.args.start _ _ _ _ c.print_pieces-printed.result c.write_out.ensures.bytes c.print_pieces-printed.ensures.no_bounds (opened_answer c.args.form c.args.size c.args.start c.in-Ok.feed _ _ _ _ c.in-Ok.ensures.opened c.print_pieces-printed.ensures.answer)

pub returns-in-Ok-write_out-clause-printed : goal.returns-in-Ok-write_out-clause-printed
returns-in-Ok-write_out-clause-printed g c = handed_on_whole c.args.form c.args.size c.args.start _ _ _ _ c.print_pieces-printed.result c.write_out.ensures.bytes (opened_whole c.args.form c.args.size c.args.start c.in-Ok.feed _ _ _ c.print_pieces-printed.result c.in-Ok.ensures.opened c.print_pieces-printed.ensures.printed)
