use Rattle.rb_segments.specs.SegmentTape.{directory_at}
use Rattle.rb_segments.proofs.Directories.{keeps_both, keeps_deleted}
use Rattle.rb_segments.proofs.rotation.roll_and_delete.Goals as goal

pub returns-clause-keeps : goal.returns-clause-keeps
returns-clause-keeps g c =
    let segments = g.S.SegmentStore.segments in
    let contents = g.F.Write.contents in
    let position = c.args.tape.now.position in
    let old = directory_at segments contents c.args.store.now c.args.tape.now.writer c.args.opened.now in
    let mid = directory_at segments contents c.roll.new.store c.roll.new.tape.writer c.roll.new.opened in
    let new = directory_at segments contents c.delete_old.new.store c.roll.new.tape.writer c.roll.new.opened in
    keeps_both old mid new position c.in_ok-roll.ensures.keeps
    (keeps_deleted (segments c.roll.new.store) (segments c.delete_old.new.store) (contents c.roll.new.tape.writer) c.roll.new.opened position c.delete_old.ensures.deletes)
