use Rattle.std.proofs.Common.{drop, get_or, map, set, ap, ◌∙◌}
use Rattle.rb_history.specs.History.{Status}
use Rattle.rb_chapter_ring.specs.Snapshot.{no_record}
use Rattle.rb_chapter_ring.specs.UntakenRecords.{untaken_shown}
use Rattle.rb_chapter_ring.proofs.Places.{status-set}
use Rattle.rb_chapter_ring.proofs.snapshot_lists.set_end.Goals as goal

pub returns-clause-settled : goal.returns-clause-settled
returns-clause-settled c =
    let shown = map untaken_shown (drop c.args.first c.args.records.now) in
    status-set c.args.records.now c.args.first c.args.index _ c.status-status.result c.requires.within
    ∙ ap (λ (st : Status). set shown c.args.index (record (get_or shown c.args.index no_record) { status = st })) c.status-status.ensures.status
