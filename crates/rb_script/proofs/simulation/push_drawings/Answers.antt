use Rattle.std.proofs.Common.{◌<◌, length, arith}
use Rattle.rb_script.specs.Simulation.{drawing_of}
use Rattle.rb_script.proofs.WorldEnds.{line-more}
use Rattle.rb_script.proofs.simulation.push_drawings.Goals as goal

pub loop-r-preserved : goal.loop-r-preserved
loop-r-preserved c = record {
  there = (let there : c.loop-r.r < length c.args.world.now.rings = c.has.ensures.0 c.if-not-has.false in omega arith);
  lines = line-more (drawing_of c.args.form c.args.world.now) c.loop-r.r c.args.text.now.items c.loop-r.text.items c.push_ring_drawing.new.text.items c.loop-r.invariant.lines c.in_ok-push_ring_drawing.ensures.line;
}
