-- The buffers of a whole run.
use Rattle.std.specs.Prelude.{◌≡◌, ℕ, ◌<◌, ◌≤◌, [], All, Vec, slice_index_or, vec_len, vec_capacity}
use Rattle.rb_workers.specs.declared.run_buffers.RunBuffers.{RunBuffers}
use Rattle.rb_workers.specs.inner.WorkerRuns.{IsNew}

-- an empty vector with room for this many elements
abbrev pub IsEmptyFor : {X Z : Type 0} → ℕ → Vec X Z → Type 0
IsEmptyFor count v = (v.items ≡ []) × (count ≤ vec_capacity v)

-- room for this many workers, rings and jobs
pub record HasRoomForRun {S : Type 0} (count rings jobs : ℕ) (r : RunBuffers S) : Type 0 where
  pub rings_fit : IsEmptyFor rings r.rings
  pub consumers_fit : IsEmptyFor rings r.consumers
  pub batches_count : vec_len r.batches ≡ rings
  pub merged_fits : IsEmptyFor rings r.merged
  pub ended_fit : IsEmptyFor rings r.ended
  pub workers_count : vec_len r.workers ≡ count
  pub workers_new : (k : ℕ) (d : _) → k < count → IsNew k rings (slice_index_or r.workers.items k d)
  pub tallies_count : vec_len r.tallies ≡ rings
  pub tallies_fit : All (IsEmptyFor count) r.tallies.items
  pub results_fit : IsEmptyFor jobs r.results
