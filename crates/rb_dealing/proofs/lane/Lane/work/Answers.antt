use Rattle.rb_dealing.proofs.LaneLaws.{lane_more}
use Rattle.rb_dealing.proofs.lane.Lane.work.Goals as goal

pub loop-preserved-in-Ok : goal.loop-preserved-in-Ok
loop-preserved-in-Ok g c =
    lane_more g.W.Work.ready g.W.Work.runs g.met.W.Work.runs_both c.args.self.now c.loop.self c.run_piece.new.self c.in-Ok.piece c.pop.new.self c.loop.invariant c.pop.ensures.ring c.in-Ok.ensures.ok.0 c.run_piece.ensures.queue c.run_piece.ensures.ran c.run_piece.ensures.ready
