use Rattle.std.proofs.Common.{◌≤◌, ap, drop, subst, take}
use Rattle.std.specs.Io.KnownBytes.{Appends}
use Rattle.rb_history.specs.TapeBytes.{item_bytes}
use Rattle.rb_tape.specs.Items.{item_of}
use Rattle.rb_tape.proofs.TapeCalls.{makes_resume}
use Rattle.rb_tape.proofs.tape_writer.TapeWriter.resume.Goals as goal

pub returns-clause-call : goal.returns-clause-call
returns-clause-call g c =
    let w = c.write_on-2.ensures in
    let contents = g.W.Write.contents in
    let old = c.args.self.now in
    let new = c.write_on-2.new.self in
    let item = item_of c.args.item.now in
    let same = ap (λ t. t.sent) c.write_on.view_is in
    makes_resume contents old new item c.write_on-2.result w.all_sent w.not_all_sent w.unfinished w.size w.position w.failures c.requires.unfinished (subst (λ n. n ≤ new.sent) same w.more)
    (subst (λ n. Appends (contents old.writer) (contents new.writer) (drop n (take new.sent (item_bytes old.size item)))) same w.bytes)
