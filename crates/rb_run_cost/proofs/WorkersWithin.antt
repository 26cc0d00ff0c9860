-- Each worker of a world stays within the cost of its program.
use Rattle.std.proofs.Common.{subst, ◌∷◌}
use Rattle.rb_cost.specs.Runs.{AreMoments}
use Rattle.rb_cost.proofs.Running.{runs_stay}
use Rattle.rb_run_cost.specs.WorldCosts.{moment_of, WorkersStayWithin}
use Rattle.rb_run_cost.proofs.WorkersCome.{all_start, all_run}

pub workers_within : WorkersStayWithin
workers_within first last actors events w cost opens run lt is runs =
    let o = opens.workers w lt in
    let came = (all_run first opens first actors events last (all_start first opens) run).each w lt in
    let stage = came.came runs in
    record {
      before = stage.before;
      moments = stage.moments;
      within = runs_stay (first.workers w).subject cost o.context (moment_of (last.workers w)) stage.before o.well_shaped o.begins o.verified is o.context_length
          (subst (λ s. AreMoments (first.workers w).subject.program s (moment_of (last.workers w) ∷ stage.before)) o.state_is stage.moments);
    }
