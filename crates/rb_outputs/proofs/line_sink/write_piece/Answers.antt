use Rattle.std.proofs.Common.{rules}
use Rattle.rb_outputs.proofs.LinesGiven.{cut_line}
use Rattle.rb_outputs.proofs.line_sink.write_piece.Goals as goal

pub returns-then-write_out-piece : goal.returns-then-write_out-piece
returns-then-write_out-piece g c = search (rules, cut_line)
