use Rattle.std.proofs.Common.{◌≡◌}
use Rattle.std.specs.Prelude.{None}
use Rattle.rb_tape.proofs.ItemsPut.{PutSoFar}
use Rattle.rb_tape.proofs.tape_writer.TapeWriter.put_all.Given as goal

abbrev pub invariant-loop-item : goal.invariant-loop-item
invariant-loop-item g l = record {
  finished : l.self.unfinished ≡ None;
  so_far : PutSoFar g.row.W.Denot g.W.Write.contents l.fn.self l.fn.items l.self l.items;
}
