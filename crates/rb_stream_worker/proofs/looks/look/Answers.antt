use Rattle.rb_stream_worker.proofs.TakenTurns.{looks_by_query}
use Rattle.rb_stream_worker.proofs.looks.look.Goals as goal

pub returns : goal.returns
returns g c =
    let q = c.query.ensures in
    record { looked = looks_by_query c.in-Ok.untaken c.args.seat.now c.query.new.seat c.in-Ok.ensures.call q.seat q.released q.tally q.hands q.sent }
