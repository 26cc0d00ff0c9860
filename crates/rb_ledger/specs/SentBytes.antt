-- Bytes by position: what a worker sent, what the consumer received, and everything that was sent (own).
use Rattle.std.specs.Prelude.{◌≡◌, ℕ, true, List, Some}
use Rattle.std.specs.FinMap.{get}
use Rattle.rb_history.specs.declared.entries.Entry.{Entry}
use Rattle.rb_history.specs.History.{is_submitted_at}
use Rattle.rb_history.specs.RingModel.{Contents}
use Rattle.rb_history.specs.WorkerCounts.{is_record_of}

-- each of `some` is also in `all`
abbrev pub IsWithin : Contents → Contents → Type 0
IsWithin some all = (p : ℕ) (bytes : List ℕ) → get some p ≡ Some bytes → get all p ≡ Some bytes

-- only records that were submitted have bytes there
abbrev pub AreSubmitted : List Entry → Contents → Type 0
AreSubmitted h all = (p : ℕ) (bytes : List ℕ) → get all p ≡ Some bytes → is_submitted_at h p ≡ true

-- the bytes of the worker's records in `all` are those that the worker sent
abbrev pub IsAllSentBy : ℕ → List Entry → Contents → Contents → Type 0
IsAllSentBy w h all sent = (p : ℕ) (bytes : List ℕ) → get all p ≡ Some bytes → is_record_of w h p ≡ true → get sent p ≡ Some bytes
