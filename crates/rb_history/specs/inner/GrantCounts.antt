-- The numbers of granted records that an implementation keeps for its workers.
use Rattle.std.specs.Prelude.{ℕ, ◌≡◌, ◌<◌, List, length}
use Rattle.std.specs.List.{slice_index_or as get_or}
use Rattle.rb_history.specs.declared.entries.Entry.{Entry}
use Rattle.rb_history.specs.History.{grants}

-- the number kept for each worker is the number of records that were granted to it
pub record CountsGrants (ns : List ℕ) (h : List Entry) (workers : ℕ) : Type 0 where
  pub all : length ns ≡ workers
  pub each : (w : ℕ) → w < workers → get_or ns w 0 ≡ grants w h
