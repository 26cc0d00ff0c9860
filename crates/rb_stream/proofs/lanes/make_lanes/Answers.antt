use Rattle.std.proofs.Common.{◌≡◌, ◌∙◌, ℕ, ◌∷◌, [], List, length, length-append, map, get_or, sym, ap, subst, arith}
use Rattle.std.proofs.lemmas.List.{get_or-map, length-map}
use Rattle.rb_dealing.specs.declared.lane.Lane.{Lane}
use Rattle.rb_stream_worker.specs.ContextRuns.{IsNewWorker}
use Rattle.rb_stream_worker.specs.declared.stream_worker.StreamWorker.{StreamWorker}
use Rattle.rb_stream.proofs.Lists.{each_appended}
use Rattle.rb_stream.proofs.lanes.make_lanes.Goals as goal

pub loop-at-preserved : goal.loop-at-preserved
loop-at-preserved g c =
    let own = λ (lane : Lane (StreamWorker g.row.R.Denot g.row.K.Denot)). lane.worker in
    let i = c.loop-at.invariant in
    let at = c.loop-at.at in
    let e = c.in_ok-add_lane.ensures.added in
    let w = c.in_ok-worker.worker in
    let xs = map own c.loop-at.lanes.items in
    let is = λ (k : ℕ) (x : StreamWorker g.row.R.Denot g.row.K.Denot). IsNewWorker k c.args.rings.now c.args.programs.now c.args.full.now c.args.ctx_len c.args.options.bound x in
    let number : (get_or c.args.workers.now at c.index-workers-at.result).number ≡ at = c.requires.numbered at c.index-workers-at.result (omega (arith, c.loop-at-test.true)) in
    let long = ap length e in
    let more = length-append xs (w ∷ []) in (
      c.in_ok-add_lane.ensures.pairs,
      c.in_ok-add_lane.ensures.empty,
      omega (arith, long, more, i.2),
      (λ k d below. subst (λ (l : List (StreamWorker g.row.R.Denot g.row.K.Denot)). is k (get_or l k d)) (sym e) (each_appended is xs at w i.2 i.3 (subst (λ n. is n w) number c.in_ok-worker.ensures.new) k d below)),
    )

pub returns : goal.returns
returns g c =
    let own = λ (lane : Lane (StreamWorker g.row.R.Denot g.row.K.Denot)). lane.worker in
    let i = c.loop-at.invariant in
    let lanes = c.loop-at.lanes.items in
    let many : c.loop-at.at ≡ length c.args.workers.now = omega (arith, c.loop-at.auto.at-end, c.loop-at-test.false) in
    let len : length lanes ≡ length c.args.workers.now = sym (length-map lanes own) ∙ (i.2 ∙ many) in
    record {
      new = record {
        as_many = len;
        pairs = i.0;
        empty = i.1;
        new = λ k d below. subst (IsNewWorker k c.args.rings.now c.args.programs.now c.args.full.now c.args.ctx_len c.args.options.bound) (get_or-map own lanes k d d.worker (omega (arith, below, len))) (i.3 k d.worker (omega (arith, below, many)));
      };
    }
