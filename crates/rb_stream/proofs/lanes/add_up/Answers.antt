use Rattle.std.proofs.Common.{◌≡◌, ◌∙◌, ◌+◌, ◌<◌, ◌∷◌, ◌++◌, [], length, map, take, get_or, sym, ap, subst, arith}
use Rattle.std.proofs.lemmas.List.{map-append, take_more}
use Rattle.rb_dealing.specs.declared.lane.Lane.{Lane}
use Rattle.rb_stream_worker.specs.declared.stream_worker.StreamWorker.{StreamWorker}
use Rattle.rb_stream.specs.inner.Counts.{AddsCounts}
use Rattle.rb_stream.proofs.Lists.{adds_more}
use Rattle.rb_stream.proofs.lanes.add_up.Goals as goal

pub loop-lane-preserved : goal.loop-lane-preserved
loop-lane-preserved g c =
    let counts = λ (lane : Lane (StreamWorker g.row.R.Denot g.row.K.Denot)). lane.worker.counts in
    let lanes = c.args.lanes.now in
    let i = c.loop-lane.lane-index in
    let x = c.lane-item.result in
    let inside : i < length lanes = omega (arith, c.loop-lane-test.true) in
    let one : map counts (take (i + 1) lanes) ≡ map counts (take i lanes) ++ counts x ∷ [] =
    ap (map counts) (take_more lanes i x inside)
    ∙ (map-append counts (take i lanes) (get_or lanes i x ∷ []) ∙ ap (λ (lane : Lane (StreamWorker g.row.R.Denot g.row.K.Denot)). map counts (take i lanes) ++ counts lane ∷ []) (sym c.lane-item.is))
    in
    subst (λ all. AddsCounts all c.args.total.now c.add_counts.new.total) (sym one)
    (adds_more (map counts (take i lanes)) (counts x) c.args.total.now c.loop-lane.total c.add_counts.new.total c.loop-lane.invariant c.add_counts.ensures.added)
