use Rattle.std.proofs.Common.{sym, subst}
use Rattle.rb_segments.specs.SegmentTape.{directory_at}
use Rattle.rb_segments.specs.inner.Rolling.{KeepsRecords}
use Rattle.rb_segments.proofs.rotation.roll.Goals as goal

pub returns-clause-keeps : goal.returns-clause-keeps
returns-clause-keeps g c =
    let directory = directory_at g.S.SegmentStore.segments g.F.Write.contents in
    subst (λ n. KeepsRecords (directory c.args.store.now c.args.tape.now.writer c.args.opened.now) c.args.tape.now.position (directory c.start_next.new.store c.start_next.new.tape.writer n)) (sym c.position-position.ensures.value) c.in_ok-start_next.ensures.keeps
