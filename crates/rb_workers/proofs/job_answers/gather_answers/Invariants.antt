use Rattle.std.proofs.Common.{◌≡◌, ◌+◌, length, vec_len, vec_capacity}
use Rattle.rb_workers.proofs.Merges.{IsGathered}
use Rattle.rb_workers.proofs.job_answers.gather_answers.Given as goal

abbrev pub invariant-loop-rest : goal.invariant-loop-rest
invariant-loop-rest l =
    (vec_len l.results + l.rest ≡ length l.jobs) × (vec_capacity l.results ≡ vec_capacity l.initial.results)
    × IsGathered l.jobs l.initial.workers l.rest l.results.items l.unlogged l.workers

abbrev pub decreases-loop-rest : goal.decreases-loop-rest
decreases-loop-rest l = l.rest
