-- When a notification is due, and what a ring answers to a query.
use Rattle.std.specs.Prelude.{ℕ, ◌≡◌, ◌≢◌, ◌-◌, ◌==◌, ◌⊎◌, List, if◌then◌else◌, bit_and}
use Rattle.rb_history.specs.declared.entries.Entry.{Entry}
use Rattle.rb_history.specs.declared.notices_and_queries.TheConstants.{NO_WAKEUP, FORCE_WAKEUP, AVAIL_DATA, RING_SIZE, CONS_POS, PROD_POS}
use Rattle.rb_history.specs.History.{producer_of, consumer_of}
use Rattle.rb_history.specs.RoomRule.{Setup}

-- the flag, a power of two, is set
abbrev pub HasFlag : ℕ → ℕ → Type 0
HasFlag flags flag = bit_and flags flag ≢ 0

-- A notification of the record at p is due: always under FORCE_WAKEUP, otherwise not under NO_WAKEUP, otherwise if and
-- only if the record is at the consumer position (bpf-helpers(7), bpf_ringbuf_output; ringbuf.rst). For example, with
-- the consumer at 16 and no flags, a notification is due for the record at 16 and not for the one at 24; with both
-- flags it is due for either.
abbrev pub IsDue : ℕ → ℕ → ℕ → Type 0
IsDue consumer p flags = HasFlag flags FORCE_WAKEUP ⊎ (¬ HasFlag flags NO_WAKEUP × (p ≡ consumer))

-- the answer to each query; 0 for an unknown one (bpf-helpers(7), bpf_ringbuf_query)
abbrev pub query_answer : Setup → List Entry → ℕ → ℕ
query_answer r h q =
    if q == AVAIL_DATA then producer_of r.start h - consumer_of r.start h
    else if q == RING_SIZE then r.size
    else if q == CONS_POS then consumer_of r.start h
    else if q == PROD_POS then producer_of r.start h
    else 0
