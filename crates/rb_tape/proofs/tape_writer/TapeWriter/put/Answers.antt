use Rattle.rb_tape.specs.Items.{item_of}
use Rattle.rb_tape.proofs.TapeCalls.{makes_put}
use Rattle.rb_tape.proofs.tape_writer.TapeWriter.put.Goals as goal

pub returns-clause-call : goal.returns-clause-call
returns-clause-call g c =
    let w = c.write_on.ensures in
    makes_put g.W.Write.contents c.args.self.now c.write_on.new.self (item_of c.args.item.now) c.write_on.result w.all_sent w.not_all_sent w.unfinished w.size w.position w.failures c.requires.finished c.requires.stands w.bytes
