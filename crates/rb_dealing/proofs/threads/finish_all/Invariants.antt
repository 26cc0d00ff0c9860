use Rattle.std.proofs.Common.{◌≡◌, ◌<◌, ◌≤◌, ℕ, slice_index_or}
use Rattle.rb_dealing.specs.inner.Lanes.{LaneFinished}
use Rattle.rb_dealing.proofs.threads.finish_all.Given as goal

abbrev pub invariant-loop-at : goal.invariant-loop-at
invariant-loop-at g l =
    ((k : ℕ) (d : _) → l.at ≤ k → slice_index_or l.lanes k d ≡ slice_index_or l.fn.lanes k d)
    × ((k : ℕ) (d : _) → l.at ≤ k → slice_index_or l.feeds k d ≡ slice_index_or l.fn.feeds k d)
    × ((k : ℕ) (d : _) (e : _) → k < l.at → LaneFinished g.W.Work.ready g.W.Work.runs (slice_index_or l.fn.feeds k d) (slice_index_or l.fn.lanes k e) (slice_index_or l.lanes k e))
