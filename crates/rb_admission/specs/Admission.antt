-- When a ring refuses no reservation, however slow its consumer is: each worker looks at the ring before it requests
-- more (own).
use Rattle.std.specs.Prelude.{◌≡◌, ℕ, ◌+◌, ◌-◌, ◌*◌, ◌<◌, ◌≤◌, ◌^◌, ◌==◌, List, [], ◌∷◌, ◌++◌, if◌then◌else◌}
use Rattle.std.specs.List.{count_by, flat_map, sum_by}
use Rattle.rb_history.specs.declared.entries.Entry.{Entry}
use Rattle.rb_history.specs.declared.entries.Entry.TheVariants.{Res, Full}
use Rattle.rb_history.specs.declared.notices_and_queries.TheConstants.{AVAIL_DATA}
use Rattle.rb_history.specs.Span.{span}
use Rattle.rb_history.specs.History.{producer_of}
use Rattle.rb_history.specs.Counting.{is_refusal_entry}
use Rattle.rb_history.specs.Legal.{IsLegal}
use Rattle.rb_history.specs.NoticesAndQueries.{query_answer}
use Rattle.rb_history.specs.RoomRule.{Setup}

-- the number of bytes of the ring that a worker requests by an entry: the span of its record, granted or refused
abbrev pub asked_span : ℕ → Entry → ℕ
asked_span w (Res v k n p) = if v == w then span n else 0
asked_span w (Full v n) = if v == w then span n else 0
asked_span w e = 0

-- the number of bytes that a worker requests by some entries of a history
abbrev pub asked_bytes : ℕ → List Entry → ℕ
asked_bytes w entries = sum_by (asked_span w) entries

-- A look at the ring after some entries of its history allows a worker to begin a turn. The bytes that were not taken
-- (bpf-helpers(7), bpf_ringbuf_query: BPF_RB_AVAIL_DATA) leave room for a turn of every worker, of `turn` bytes each.
-- One byte of a ring always stays free.
abbrev pub MayBegin : Setup → ℕ → List Entry → Type 0
MayBegin r turn seen = query_answer r seen AVAIL_DATA + r.workers * turn ≤ r.size - 1

-- From a look on, the history continues with the worker's turns: the worker may begin each of them by what it saw when
-- it looked, and requests at most `turn` bytes in it.
abbrev pub HasTurns : Setup → ℕ → ℕ → List Entry → List (List Entry) → Type 0
HasTurns r turn w seen [] = Unit {0}
HasTurns r turn w seen (entries ∷ more) = MayBegin r turn seen × (asked_bytes w entries ≤ turn) × HasTurns r turn w (seen ++ entries) more

-- The worker's looks cut the history into parts. Before the first look it requests nothing; after each look it has a
-- turn, up to its next look. The parts of one worker differ from those of another: entries of other workers lie in its
-- turns, and between its looks and its entries.
pub record LooksBeforeItAsks (r : Setup) (turn w : ℕ) (h : List Entry) : Type 0 where
  pub first : List Entry
  pub turns : List (List Entry)
  pub whole : h ≡ first ++ flat_map (λ entries. entries) turns
  pub idle : asked_bytes w first ≡ 0
  pub in_turns : HasTurns r turn w first turns

-- No reservation is refused for lack of room if each worker looks before it requests records. There is no premise on
-- the consumer. The ring's positions stay one turn below 2^62, beyond which no record is granted.
abbrev pub NoneIsRefusedAfterLooks : Type 0
NoneIsRefusedAfterLooks =
    (r : Setup) (turn : ℕ) (h : List Entry) → IsLegal r h → producer_of r.start h + turn ≤ 2 ^ 62 → ((w : ℕ) → w < r.workers → LooksBeforeItAsks r turn w h)
    → count_by is_refusal_entry h ≡ 0
