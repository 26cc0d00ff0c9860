use Rattle.std.proofs.Common.{sym, subst}
use Rattle.rb_segments.specs.Known.{IsOnlyCreated}
use Rattle.rb_segments.proofs.Directories.{is_first_created}
use Rattle.rb_segments.proofs.rotation.end.Goals as goal

pub close-requires-clause-first : goal.close-requires-clause-first
close-requires-clause-first g c =
    let created = g.S.SegmentStore.created in
    is_first_created c.args.opened (created c.sync.new.self) (subst (IsOnlyCreated c.args.opened) (sym c.sync.ensures.created) c.requires.created)
