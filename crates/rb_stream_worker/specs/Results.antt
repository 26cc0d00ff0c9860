-- The counts of a program's results (own).
use Rattle.std.specs.Prelude.{◌≡◌, ℕ, ◌+◌, ◌-◌, ◌<◌, ◌^◌, ◌==◌, List, length, min, nat_le, slice_index_or}
use Rattle.std.specs.List.{count_by}
use Rattle.rb_stream_worker.specs.declared.result_counts.ResultCounts.{ResultCounts}

-- a 64-bit count, raised by n, which saturates at the greatest number
abbrev pub raised : ℕ → ℕ → ℕ
raised count n = count + min n (2 ^ 64 - 1 - count)

-- how often a list has this result, and how often one that is not below the bound
abbrev pub times_of : ℕ → List ℕ → ℕ
times_of result results = count_by (λ n. n == result) results

abbrev pub times_from : ℕ → List ℕ → ℕ
times_from bound results = count_by (λ n. nat_le bound n) results

-- these results were counted: each one below the bound separately, and the others together
pub record CountsResults (results : List ℕ) (old new : ResultCounts) : Type 0 where
  pub same_bound : length new.below.items ≡ length old.below.items
  pub below_are : (r d : ℕ) → r < length old.below.items → slice_index_or new.below.items r d ≡ raised (slice_index_or old.below.items r d) (times_of r results)
  pub other_is : new.other ≡ raised old.other (times_from (length old.below.items) results)

-- nothing was counted, and results below the bound are counted separately
pub record IsNewResults (bound : ℕ) (counts : ResultCounts) : Type 0 where
  pub bound_is : length counts.below.items ≡ bound
  pub below_are : (r d : ℕ) → r < bound → slice_index_or counts.below.items r d ≡ 0
  pub other_is : counts.other ≡ 0
