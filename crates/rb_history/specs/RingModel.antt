-- The view that contracts have of a ring, and when its state agrees with its history.
use Rattle.std.specs.Prelude.{ℕ, ◌≡◌, ◌+◌, ◌-◌, ◌≤◌, ◌^◌, ◌%◌, ◌↔◌, true, List, [], Some, is_some, length}
use Rattle.std.specs.List.{Contains}
use Rattle.std.specs.Ordering.{nat_cmp}
use Rattle.std.specs.FinMap.{FinMap, get, empty, code}
use Rattle.std.specs.Coded.{Coded, coded_ℕ, coded_list}
use Rattle.std.specs.Int.{IsPowerOfTwo}
use Rattle.rb_history.specs.declared.entries.Entry.{Entry}
use Rattle.rb_history.specs.declared.entries.Entry.TheVariants.{Res}
use Rattle.rb_history.specs.History.{producer_of, consumer_of, records, status_of, Shown}
use Rattle.rb_history.specs.History.Status.{Waiting}
use Rattle.rb_history.specs.RoomRule.{Setup}

-- the bytes of the waiting records, by position
abbrev pub Contents : Type 0
Contents = FinMap nat_cmp (List ℕ)

abbrev pub contents_code : Coded Contents
contents_code = code coded_ℕ (coded_list coded_ℕ)

-- a ring: its parameters, history and contents, and what its state shows
pub record Ring : Type 0 where
  pub setup : Setup
  pub history : List Entry
  pub contents : Contents
  pub shown : List Shown
  pub producer : ℕ
  pub consumer : ℕ

-- the history grants a record of n bytes at p
abbrev pub HasLength : List Entry → ℕ → ℕ → Type 0
HasLength h p n = (w : ℕ) × ((k : ℕ) × Contains h (Res w k n p))

-- The ring shows exactly the records without a Take, in order, and both positions. The contents are those of the
-- waiting records, each with the length of its record.
pub record StandsFor (v : Ring) : Type 0 where
  pub shown : v.shown ≡ records v.history
  pub producer_is : v.producer ≡ producer_of v.setup.start v.history
  pub consumer_is : v.consumer ≡ consumer_of v.setup.start v.history
  pub contents : (p : ℕ) → (is_some (get v.contents p) ≡ true) ↔ (status_of v.history p ≡ Waiting)
  pub sized : (p : ℕ) (bytes : List ℕ) → get v.contents p ≡ Some bytes → HasLength v.history p (length bytes)

-- a ring with an empty history
abbrev pub fresh : ℕ → ℕ → ℕ → Ring
fresh size start workers = record {
  setup = record { size = size; start = start; workers = workers };
  history = [];
  contents = empty;
  shown = [];
  producer = start;
  consumer = start;
}

-- a ring's size (ringbuf.rst: a power of two and a multiple of the page; the bounds are own)
abbrev pub IsRingSize : ℕ → Type 0
IsRingSize size = IsPowerOfTwo size × (4096 ≤ size) × (size ≤ 67108864)

-- a ring's first position (own)
abbrev pub IsStartPosition : ℕ → Type 0
IsStartPosition start = (start % 8 ≡ 0) × (start ≤ 2 ^ 61)

-- a ring's number of workers (own)
abbrev pub IsWorkerCount : ℕ → Type 0
IsWorkerCount workers = (1 ≤ workers) × (workers ≤ 256)

-- the bounds on a ring's parameters and positions
pub record IsWithinBounds (v : Ring) : Type 0 where
  pub size : IsRingSize v.setup.size
  pub start : IsStartPosition v.setup.start
  pub workers : IsWorkerCount v.setup.workers
  pub consumer : v.consumer ≤ v.producer
  pub producer : v.producer ≤ 2 ^ 62
  pub room : v.producer ≤ v.consumer + (v.setup.size - 1)
