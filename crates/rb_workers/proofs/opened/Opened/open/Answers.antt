use Rattle.std.proofs.Common.{List, sym, subst, rules}
use Rattle.std.specs.Prelude.{All}
use Rattle.rb_ledger.specs.Seats.{HasSettledAll, WorkerSeat, fresh_book}
use Rattle.rb_workers.specs.declared.opened.Opened.{Opened}
use Rattle.rb_workers.proofs.Fresh.{fresh_opened, fresh_settled}
use Rattle.rb_workers.proofs.opened.Opened.open.Goals as goal

pub returns-in-Ok-new-clause-opened : goal.returns-in-Ok-new-clause-opened
returns-in-Ok-new-clause-opened g c =
    let o : Opened g.row.S.Denot = record { ring = c.in-Ok.ring; seats = c.in-Ok.seats; consumer = c.in-Ok.consumer; keeper = c.with_margin-keeper.result; sink = c.args.sink } in
    let e = c.in-Ok.ensures in
    fresh_opened g.S.Sink.position_of c.args.tag c.args.size c.args.start c.args.workers c.args.room c.args.margin o e.tag e.seats e.consumer (search rules) c.requires.begins

pub returns-in-Ok-new-clause-nothing_made : goal.returns-in-Ok-new-clause-nothing_made
returns-in-Ok-new-clause-nothing_made g c =
    subst (λ (l : List WorkerSeat). All HasSettledAll l) (sym c.in-Ok.ensures.seats) (fresh_settled c.args.tag c.in-Ok.ring.ring c.args.room (fresh_book c.args.size c.args.start c.args.workers) 0 c.args.workers)
