-- What a worker that waits for room does with its seats: it looks at its rings, and then has a turn of some contexts
-- (own).
use Rattle.std.specs.Prelude.{◌≡◌, ℕ, ◌<◌, ◌≤◌, List, [], ◌∷◌, ◌++◌, length, map, slice_index_or}
use Rattle.std.specs.List.{flat_map}
use Rattle.rb_verifier.specs.Subject.{Subject}
use Rattle.rb_history.specs.declared.notices_and_queries.TheConstants.{AVAIL_DATA}
use Rattle.rb_history.specs.NoticesAndQueries.{query_answer}
use Rattle.rb_ledger.specs.Roles.{ExtendsSeen}
use Rattle.rb_ledger.specs.Roles.Role.{Worker}
use Rattle.rb_ledger.specs.Seats.{WorkerSeat}
use Rattle.rb_stream_worker.specs.Tasks.{StreamTask, TaskRun, RunsTasks, tasks_of}
use Rattle.rb_stream_worker.specs.declared.when_full.Turns.{Turns}
use Rattle.rb_stream_worker.specs.declared.when_full.WhenFull.{WhenFull}
use Rattle.rb_stream_worker.specs.declared.when_full.WhenFull.TheVariants.{Refuse, Wait}

-- ---- looks

-- Only what the seat has seen changed: its worker added nothing to the ring's history meanwhile.
pub record SeesMore (old new : WorkerSeat) : Type 0 where
  pub goes_on : ExtendsSeen (Worker old.worker) old.seen new.seen
  pub seat_same : new ≡ record old { seen = new.seen; cut = new.cut }

-- The worker queried a ring for its untaken bytes (bpf-helpers(7), bpf_ringbuf_query: BPF_RB_AVAIL_DATA) until there
-- were at most `limit`.
pub record FindsRoom (limit : ℕ) (old new : WorkerSeat) : Type 0 where
  pub sees : SeesMore old new
  pub has_room : query_answer new.seen.setup new.seen.history AVAIL_DATA ≤ limit

-- the same for each of its rings, with a limit for each
abbrev pub FindsRoomInEach : List ℕ → List WorkerSeat → List WorkerSeat → Type 0
FindsRoomInEach limits olds news =
    (length news ≡ length olds) × ((k d : ℕ) (b a : WorkerSeat) → k < length olds → FindsRoom (slice_index_or limits k d) (slice_index_or olds k b) (slice_index_or news k a))

-- ---- turns

-- One turn: the worker found room in each ring, and then ran the tasks of at most as many contexts as a turn has, or a
-- prefix of these tasks: every program over each context, in order, each once.
pub record RunsTurn (turns : Turns) (worker : ℕ) (programs : List Subject) (runs : List TaskRun) (old new : List WorkerSeat) : Type 0 where
  pub contexts : List (List ℕ)
  pub not_run : List StreamTask
  pub looked : List WorkerSeat
  pub few : length contexts ≤ turns.contexts
  pub tasks_are : map (λ run. run.task) runs ++ not_run ≡ tasks_of (length programs) contexts
  pub found : FindsRoomInEach turns.limits.items old looked
  pub ran : RunsTasks worker programs runs looked new

-- the turns, one after another, led from the old state of the seats to the new one
abbrev pub RunsTurns : Turns → ℕ → List Subject → List (List TaskRun) → List WorkerSeat → List WorkerSeat → Type 0
RunsTurns turns worker programs [] old new = new ≡ old
RunsTurns turns worker programs (runs ∷ more) old new =
    (mid : List WorkerSeat) × RunsTurn turns worker programs runs old mid × RunsTurns turns worker programs more mid new

-- The runs, one after another, led from the old state of the worker's seats to the new one: at once, or in turns before
-- each of which the worker found room.
abbrev pub RunsAs : WhenFull → ℕ → List Subject → List TaskRun → List WorkerSeat → List WorkerSeat → Type 0
RunsAs Refuse worker programs runs old new = RunsTasks worker programs runs old new
RunsAs (Wait turns) worker programs runs old new =
    (parts : List (List TaskRun)) × (runs ≡ flat_map (λ part. part) parts) × RunsTurns turns worker programs parts old new

-- a turn has at least one context, and there is a limit for each ring
abbrev pub FitsRings : WhenFull → ℕ → Type 0
FitsRings Refuse rings = Unit {0}
FitsRings (Wait turns) rings = (1 ≤ turns.contexts) × (length turns.limits.items ≡ rings)
