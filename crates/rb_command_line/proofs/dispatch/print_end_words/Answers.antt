use Rattle.std.proofs.Common.{subst}
use Rattle.std.specs.Fmt.{decimal}
use Rattle.std.specs.Io.KnownBytes.{Appends}
use Rattle.rb_command_line.proofs.CommandEndings.{words_pieces}
use Rattle.rb_command_line.proofs.dispatch.print_end_words.Goals as goal

pub returns-in-Ok-clause-told : goal.returns-in-Ok-clause-told
returns-in-Ok-clause-told g c = λ zero. subst (Appends _ _) (words_pieces (decimal c.args.end.0) (decimal c.args.end.1)) c.in-Ok.ensures.bytes
