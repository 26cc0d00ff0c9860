-- The required size of a ring: when no record is refused for lack of room.
use Rattle.std.specs.Prelude.{ℕ, ◌+◌, ◌-◌, ◌*◌, ◌<◌, ◌≤◌, ◌^◌, ◌==◌, nat_lt, List, [], ◌∷◌, length, find, Option, Some, None, if◌then◌else◌}
use Rattle.std.specs.List.{All, Contains, sum_by}
use Rattle.rb_history.specs.declared.entries.Entry.{Entry}
use Rattle.rb_history.specs.Span.{span}
use Rattle.rb_history.specs.History.{Shown, records, producer_of}
use Rattle.rb_history.specs.Legal.{IsLegal}
use Rattle.rb_history.specs.RingModel.{IsRingSize}
use Rattle.rb_history.specs.RoomRule.{Setup, HasRoomFor}

-- the number of bytes of a ring that its untaken records occupy: the busy ones, the waiting ones and the discarded ones
abbrev pub untaken_bytes : List Entry → ℕ
untaken_bytes h = sum_by (λ s. span s.len) (records h)

-- after the next record of n bytes no position exceeds 2^62
abbrev pub IsBelowLimit : Setup → List Entry → ℕ → Type 0
IsBelowLimit r h n = producer_of r.start h + span n ≤ 2 ^ 62

-- the room rule for choosing a size: there is room if and only if the untaken bytes and the new record leave at least
-- one byte of the ring free
pub record RoomIsWhatIsLeft (r : Setup) (h : List Entry) (n : ℕ) : Type 0 where
  pub granted : untaken_bytes h + span n ≤ r.size - 1 → HasRoomFor r h n
  pub refused : HasRoomFor r h n → untaken_bytes h + span n ≤ r.size - 1

abbrev pub RoomIsLeft : Type 0
RoomIsLeft = (r : Setup) (h : List Entry) (n : ℕ) → IsLegal r h → IsBelowLimit r h n → RoomIsWhatIsLeft r h n

-- the bytes of one job among the untaken records
abbrev pub job_bytes : (Shown → ℕ) → ℕ → List Entry → ℕ
job_bytes job j h = sum_by (λ s. if job s == j then span s.len else 0) (records h)

-- Each untaken record belongs to a job of a list, and so does the next one, of n bytes. No job of the list has more
-- bytes among them than the most that a job requests.
pub record AreOfJobs (job : Shown → ℕ) (jobs : List ℕ) (asking most : ℕ) (h : List Entry) (n : ℕ) : Type 0 where
  pub untaken : All (λ s. Contains jobs (job s)) (records h)
  pub next : Contains jobs asking
  pub bytes : (j : ℕ) → Contains jobs j → job_bytes job j h + (if j == asking then span n else 0) ≤ most

-- Workers run jobs that request at most `most` bytes each, and the consumer lags behind by at most `behind` finished
-- jobs that left a record: a ring larger than what those jobs request together has room for each record that they
-- request.
abbrev pub NoneIsRefusedBehind : Type 0
NoneIsRefusedBehind =
    (r : Setup) (h : List Entry) (n workers behind most : ℕ) (job : Shown → ℕ) (jobs : List ℕ) (asking : ℕ) → IsLegal r h → IsBelowLimit r h n
    → AreOfJobs job jobs asking most h n → length jobs ≤ behind + workers → (behind + workers) * most < r.size → HasRoomFor r h n

-- ---- the size to choose

-- the possible sizes of a ring, from the smallest on (ringbuf.rst: a power of two and a multiple of the page; the
-- bounds are own)
abbrev pub ring_sizes : List ℕ
ring_sizes =
    4096 ∷ 8192 ∷ 16384 ∷ 32768 ∷ 65536 ∷ 131072 ∷ 262144 ∷ 524288 ∷ 1048576 ∷ 2097152 ∷ 4194304 ∷ 8388608 ∷ 16777216 ∷ 33554432 ∷ 67108864 ∷ []

-- the smallest ring of more than n bytes, if there is one
abbrev pub least_ring : ℕ → Option ℕ
least_ring n = find (λ size. nat_lt n size) ring_sizes

-- the size of a ring that is larger than n, and no smaller ring is; if there is none, no ring is larger than n
abbrev pub IsLeastRing : ℕ → Option ℕ → Type 0
IsLeastRing n (Some size) = IsRingSize size × (n < size) × ((other : ℕ) → IsRingSize other → n < other → size ≤ other)
IsLeastRing n None = (other : ℕ) → IsRingSize other → n < other → ⊥

abbrev pub LeastRingsAreLeast : Type 0
LeastRingsAreLeast = (n : ℕ) → IsLeastRing n (least_ring n)
