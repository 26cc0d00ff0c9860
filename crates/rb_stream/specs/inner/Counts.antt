-- The counts of all workers together.
use Rattle.std.specs.Prelude.{◌≡◌, ℕ, ◌<◌, ◌||◌, List, Option, None, Some, length, slice_get, slice_index_or}
use Rattle.std.specs.List.{list_any, sum_by}
use Rattle.rb_stream_worker.specs.Results.{raised}
use Rattle.rb_stream_worker.specs.declared.result_counts.ResultCounts.{ResultCounts}
use Rattle.rb_stream_worker.specs.declared.stream_counts.StreamCounts.{StreamCounts}

-- how often this result was counted
abbrev pub below_in : ℕ → Option ResultCounts → ℕ
below_in result None = 0
below_in result (Some counts) = slice_index_or counts.below.items result 0

abbrev pub other_in : Option ResultCounts → ℕ
other_in None = 0
other_in (Some counts) = counts.other

-- how often this result, and how often any result without a separate count, was counted for a program
abbrev pub below_of : ℕ → ℕ → StreamCounts → ℕ
below_of program result counts = below_in result (slice_get counts.results.items program)

abbrev pub other_of : ℕ → StreamCounts → ℕ
other_of program counts = other_in (slice_get counts.results.items program)

-- both have tables for the same number of programs, and for the same number of results of each
pub record SameTables (a b : StreamCounts) : Type 0 where
  pub as_many : length a.results.items ≡ length b.results.items
  pub bounds_same : (p : ℕ) (d : ResultCounts) → p < length b.results.items → length (slice_index_or a.results.items p d).below.items ≡ length (slice_index_or b.results.items p d).below.items

-- a table was added to another with the same bound
pub record AddsResults (own old new : ResultCounts) : Type 0 where
  pub bound_same : length new.below.items ≡ length old.below.items
  pub below_are : (r : ℕ) → r < length old.below.items → slice_index_or new.below.items r 0 ≡ raised (slice_index_or old.below.items r 0) (slice_index_or own.below.items r 0)
  pub other_is : new.other ≡ raised old.other own.other

-- these counts were added
pub record AddsCounts (all : List StreamCounts) (old new : StreamCounts) : Type 0 where
  pub same_tables : SameTables new old
  pub below_are : (p r : ℕ) (d : ResultCounts) → p < length old.results.items → r < length (slice_index_or old.results.items p d).below.items → below_of p r new ≡ raised (below_of p r old) (sum_by (below_of p r) all)
  pub other_are : (p : ℕ) → p < length old.results.items → other_of p new ≡ raised (other_of p old) (sum_by (other_of p) all)
  pub contexts_is : new.contexts ≡ raised old.contexts (sum_by (λ c. c.contexts) all)
  pub left_is : new.left ≡ raised old.left (sum_by (λ c. c.left) all)
  pub unlogged_is : new.unlogged ≡ raised old.unlogged (sum_by (λ c. c.unlogged) all)
  pub stopped_is : new.stopped ≡ (old.stopped || list_any (λ c. c.stopped) all)
