use Rattle.rb_service.specs.PrintedStream.{AreAccepted}
use Rattle.rb_service.proofs.programs.read_programs.Given as goal

-- the programs of the first files were accepted
abbrev pub invariant-loop-at : goal.invariant-loop-at
invariant-loop-at g l = AreAccepted l.at l.bounds.ctx_len l.bounds.rings l.programs.items
