use Rattle.std.proofs.Common.{◌++◌, ◌∷◌, [], length, ap, sym, ◌∙◌, append_assoc, arith}
use Rattle.rtrb.specs.Ring.{received, known_items}
use Rattle.rb_dealing.proofs.LaneLaws.{lane_more}
use Rattle.rb_dealing.proofs.lane.Lane.finish.Goals as goal

pub loop-preserved : goal.loop-preserved
loop-preserved g c =
    let i = c.loop.invariant in
    let popped = c.pop_known-piece.ensures.received in
    let q = c.pop_known-piece.new.self in
    let queue = c.run_piece.ensures.queue in
    let piece = c.pop_known-piece.result in
    let len = ap length popped.1 in
    let known = ap (λ x. length (known_items x)) queue in
    let count = i.3 in (
      lane_more g.W.Work.ready g.W.Work.runs g.met.W.Work.runs_both c.args.self.now c.loop.self c.run_piece.new.self piece q i.0 c.pop_known-piece.ensures.ring popped.0 queue c.run_piece.ensures.ran c.run_piece.ensures.ready,
      i.1,
      ap (λ x. received x ++ known_items x) queue ∙ (ap (λ l. l ++ known_items q) popped.0 ∙ (append_assoc (received c.loop.self.pieces) (piece ∷ []) (known_items q) ∙ (ap (λ l. received c.loop.self.pieces ++ l) (sym popped.1) ∙ i.2))),
      omega (arith, len, known, count),
      i.4,
    )
