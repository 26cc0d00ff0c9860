use Rattle.std.proofs.Common.{rules}
use Rattle.rb_stream_worker.proofs.TakenTurns.{finds_room, sees_itself, sees_on, still_at}
use Rattle.rb_stream_worker.proofs.looks.wait_for_room.Goals as goal

pub loop-init : goal.loop-init
loop-init g c = sees_itself c.args.seat.now

pub look-requires : goal.look-requires
look-requires g c = record { at = still_at c.args.ring.now c.args.seat.now c.loop.seat c.requires.at c.loop.invariant }

pub returns-then-look-limit : goal.returns-then-look-limit
returns-then-look-limit g c = search (rules, finds_room)

pub loop-preserved : goal.loop-preserved
loop-preserved g c = sees_on c.args.seat.now c.loop.seat c.look.new.seat c.loop.invariant c.look.ensures.looked.sees
