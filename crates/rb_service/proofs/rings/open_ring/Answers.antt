use Rattle.std.proofs.Common.{Err, ap, subst, sym}
use Rattle.rb_history.specs.RingModel.{IsStartPosition}
use Rattle.rb_service.proofs.Opening.{fresh_for}
use Rattle.rb_service.proofs.rings.open_ring.Goals as goal

pub unreachable-requires : goal.unreachable-requires
unreachable-requires g c = c.in-Err-Size.ensures.size.0 (ap Err c.in-Err-Size.field-0-is) c.requires.size

pub unreachable-requires-in-Err-Start : goal.unreachable-requires-in-Err-Start
unreachable-requires-in-Err-Start g c = (c.in-Err-Start.ensures.start.0 (ap Err c.in-Err-Start.field-0-is)).1 (subst IsStartPosition (sym c.position-start.ensures.position) c.requires.begins)

pub unreachable-requires-in-Err-Workers : goal.unreachable-requires-in-Err-Workers
unreachable-requires-in-Err-Workers g c = (c.in-Err-Workers.ensures.workers.0 (ap Err c.in-Err-Workers.field-0-is)).2 c.requires.workers

pub unreachable-requires-in-Err-Chapter : goal.unreachable-requires-in-Err-Chapter
unreachable-requires-in-Err-Chapter g c = (c.in-Err-Chapter.ensures.chapter.0 (ap Err c.in-Err-Chapter.field-0-is)).3 c.chapter_room-room.ensures.within

pub returns-in-Ok-clause-fresh : goal.returns-in-Ok-clause-fresh
returns-in-Ok-clause-fresh g c =
    let e = c.in-Ok.ensures in
    fresh_for g.S.Sink.position_of c.args.workers c.chapter_room-room.result c.chapter_margin-margin.result c.args.number c.position-start.result c.args.plan c.in-Ok.one c.position-start.ensures.position c.chapter_room-room.ensures.room c.chapter_margin-margin.ensures.margin e.tag e.seats e.consumer e.keeper e.sink
