use Rattle.rb_tape.specs.TapeFront.{IsUndecided}
use Rattle.rb_tape_commands.specs.inner.TapePrinting.{PrintsSoFar}
use Rattle.rb_tape_commands.proofs.tape_command.print_pieces.Given as goal

-- what was read so far was printed, and the reader has no record and no fault
abbrev pub invariant-pieces : goal.invariant-pieces
invariant-pieces g l = record {
  so_far : PrintsSoFar l.form l.fn.feed.size l.fn.feed.start (g.R.Incoming.remaining l.fn.input) (g.R.Incoming.remaining l.input) (g.W.Write.contents l.fn.out) (g.W.Write.contents l.out) l.feed;
  undecided : IsUndecided l.feed.size l.feed.position l.feed.rest;
}
