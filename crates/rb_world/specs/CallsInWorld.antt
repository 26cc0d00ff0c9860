-- How a ring of a world answers a program's call, and how it changes (bpf-helpers(7): bpf_ringbuf_reserve,
-- bpf_ringbuf_submit, bpf_ringbuf_discard, bpf_ringbuf_output). A ring answers as it would to a single thread.
use Rattle.std.specs.Prelude.{ℕ, ◌≡◌, ◌≢◌, ◌<◌, ◌≤◌, pos, neg_ℤ, List, [], ◌++◌, Some, length}
use Rattle.rb_history.specs.declared.answers.Taken.{Taken}
use Rattle.rb_history.specs.ReservationModel.{Granted}
use Rattle.rb_history.specs.History.{grants}
use Rattle.rb_history.specs.RingModel.{Ring, StandsFor}
use Rattle.rb_history.specs.Calls as ring
use Rattle.rb_semantics.specs.HelperCalls.{HelperAnswer, Granted as GrantedAnswer, Null, Taken as TakenAnswer, HandedBack, Code}
use Rattle.rb_interp.specs.ErrorNumbers.{EAGAIN, EINVAL}
use Rattle.rb_world.specs.Worlds.{RecordPlace, HeldRecords, WorldRing, table_with}

-- the ring made a step and represents its longer history, and these records were appended to what was taken
pub record RingSteps (step : Ring → Ring → Type 0) (taken : List Taken) (old new : WorldRing) : Type 0 where
  pub stepped : step old.ring new.ring
  pub stands : StandsFor new.ring
  pub taken_are : new.taken ≡ old.taken ++ taken

-- The outcome of a call for a record: its flags are invalid; memory or room in the ring's chapter is refused, which is
-- a free choice and leaves no entry in the history; the ring has no room; or the record is made, at a position and with
-- a serial.
pub data RecordOutcome : Type 0 where
  BadFlags : RecordOutcome
  Unlogged : RecordOutcome
  NoRoom : RecordOutcome
  Made : (p k : ℕ) → RecordOutcome

-- a worker's reserve; its flags must be 0
abbrev pub WorkerReserves : (w len flags : ℕ) → RecordOutcome → WorldRing → WorldRing → Type 0
WorkerReserves w len flags BadFlags old new = (flags ≢ 0) × (new ≡ old)
WorkerReserves w len flags Unlogged old new = (flags ≡ 0) × (new ≡ old)
WorkerReserves w len flags NoRoom old new = (flags ≡ 0) × RingSteps (λ v v'. ring.FindsFull v v' w len) [] old new
WorkerReserves w len flags (Made p k) old new = (flags ≡ 0) × RingSteps (λ v v'. ring.Grants v v' w len p k) [] old new

-- a record, or null
abbrev pub answer_to_reserve : RecordOutcome → HelperAnswer
answer_to_reserve (Made p k) = GrantedAnswer
answer_to_reserve outcome = Null

-- the records that a worker holds after its CALL at a unit reserved from a ring
abbrev pub held_after_reserve : ℕ → ℕ → RecordOutcome → HeldRecords → HeldRecords
held_after_reserve unit r (Made p k) held = table_with unit (Some (record { ring = r; pos = p; serial = k })) held
held_after_reserve unit r outcome held = held

-- a worker's output; its flags must be at most 3
abbrev pub WorkerOutputs : (w : ℕ) → List ℕ → (flags : ℕ) → RecordOutcome → WorldRing → WorldRing → Type 0
WorkerOutputs w bytes flags BadFlags old new = (3 < flags) × (new ≡ old)
WorkerOutputs w bytes flags Unlogged old new = (flags ≤ 3) × (new ≡ old)
WorkerOutputs w bytes flags NoRoom old new = (flags ≤ 3) × RingSteps (λ v v'. ring.FindsFull v v' w (length bytes)) [] old new
WorkerOutputs w bytes flags (Made p k) old new =
    (flags ≤ 3) × (p ≡ ring.producer_now old.ring) × (k ≡ grants w old.ring.history)
    × RingSteps (λ v v'. ring.Outputs v v' w bytes) [] old new

-- -EINVAL for other flags, -EAGAIN if no record was made, otherwise 0
abbrev pub answer_to_output : RecordOutcome → HelperAnswer
answer_to_output BadFlags = Code (neg_ℤ EINVAL)
answer_to_output Unlogged = Code (neg_ℤ EAGAIN)
answer_to_output NoRoom = Code (neg_ℤ EAGAIN)
answer_to_output (Made p k) = Code (pos 0)

-- a worker's record, with the bytes that it has in the worker's memory
abbrev pub granted_at : RecordPlace → ℕ → List ℕ → Granted
granted_at place w bytes = record { pos = place.pos; worker = w; serial = place.serial; bytes = bytes }

-- a submit and a discard: the record is taken, or it is handed back because no busy record of the ring matches it
abbrev pub WorkerSubmits : Granted → HelperAnswer → WorldRing → WorldRing → Type 0
WorkerSubmits r TakenAnswer old new = RingSteps (λ v v'. ring.Submits v v' r) [] old new
WorkerSubmits r HandedBack old new = (¬ ring.HoldsReservation old.ring r) × (new ≡ old)
WorkerSubmits r answer old new = ⊥

abbrev pub WorkerDiscards : Granted → HelperAnswer → WorldRing → WorldRing → Type 0
WorkerDiscards r TakenAnswer old new = RingSteps (λ v v'. ring.Discards v v' r) [] old new
WorkerDiscards r HandedBack old new = (¬ ring.HoldsReservation old.ring r) × (new ≡ old)
WorkerDiscards r answer old new = ⊥
