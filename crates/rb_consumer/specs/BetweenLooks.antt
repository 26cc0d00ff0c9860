-- The room that a chapter needs so that it is full only after its ring was: the entries that may be logged and owed
-- between two looks of the keeper at it (own).
--
--      the keeper's look                                              its next look
--     +--------------------------------+-----------------------------+
--     | entries and owed entries then: | 3 for each grant, whose record is still there or was taken since
--     | not due                        | 1 for each refusal; a commit and a take were owed already
--     +--------------------------------+-----------------------------+
--
-- For example, a ring of 4,096 bytes has at most four records of 1,000 bytes at once. If one is taken between two
-- looks, five may be granted: a chapter of room 16 that was handed out at the first look has or owes 15 entries when
-- the ring is full, and has room for the entry of that refusal.
use Rattle.std.specs.Prelude.{ℕ, ◌≡◌, ◌+◌, ◌-◌, ◌*◌, ◌/◌, ◌<◌, ◌≤◌, ◌^◌, Bool, true, false, List, ◌++◌, length}
use Rattle.std.specs.List.{All, count_by}
use Rattle.rb_history.specs.declared.entries.Entry.{Entry}
use Rattle.rb_history.specs.declared.entries.Entry.TheVariants.{Full, Take}
use Rattle.rb_history.specs.History.{records}
use Rattle.rb_history.specs.Span.{span}
use Rattle.rb_history.specs.WorkerCounts.{tally_of}
use Rattle.rb_history.specs.RingModel.{Ring}
use Rattle.rb_ledger.specs.Ledger.{IsRing}
use Rattle.rb_ledger.specs.EntryRoom.{owed_by, FindsNoEntryRoom}
use Rattle.rb_consumer.specs.Turns.{IsTurnDue}

-- the maximal number of records of at least `least` bytes that a ring of this size can have at once
abbrev pub records_at_once : (size least : ℕ) → ℕ
records_at_once size least = (size - 1) / span least

abbrev pub is_take_entry : Entry → Bool
is_take_entry (Take p) = true
is_take_entry _ = false

abbrev pub is_refusal_entry : Entry → Bool
is_refusal_entry (Full w n) = true
is_refusal_entry _ = false

-- The room and the margin are enough for a ring of this size whose records have at least `least` bytes, if between two
-- looks at most `takes` records are taken, and at most `refusals` refusals are logged before the last one. One less of
-- either is not enough.
pub record SufficesBetweenLooks (room margin size least takes refusals : ℕ) : Type 0 where
  pub room_is : 3 * (records_at_once size least + takes) + refusals + 1 ≤ room
  pub margin_is : 3 * (records_at_once size least + takes) + refusals ≤ margin + 2

-- The ring at the keeper's last look: the keeper looked at the chapter, which began after the `cut` entries that were
-- handed out before, and it was not due; or it was handed out, and the next chapter has no entries. Since then at most
-- `takes` takes and `refusals` refusals were logged.
pub record WasLookedAt (room margin cut : ℕ) (looked now : Ring) (takes refusals : ℕ) : Type 0 where
  pub handed_out : cut ≤ length looked.history
  pub not_due : ¬ IsTurnDue margin room (length looked.history - cut) (owed_by looked)
  pub setup_same : now.setup ≡ looked.setup
  pub since : List Entry
  pub goes_on : now.history ≡ looked.history ++ since
  pub few_takes : count_by is_take_entry since ≤ takes
  pub few_refusals : count_by is_refusal_entry since ≤ refusals

-- So no call for a record of at least `least` bytes, by a worker with fewer than 2^62 refusals, finds the chapter full:
-- neither if the ring has room for the record, nor if it has none and the refusal is to be logged.
abbrev pub FullOnlyAfterTheRing : Type 0
FullOnlyAfterTheRing =
    (room margin cut least takes refusals : ℕ) (looked now after : Ring) (w n : ℕ)
    → SufficesBetweenLooks room margin now.setup.size least takes refusals → IsRing now → WasLookedAt room margin cut looked now takes refusals
    → All (λ s. least ≤ s.len) (records now.history) → least ≤ n → (tally_of w now.history).refused < 2 ^ 62
    → ¬ FindsNoEntryRoom room cut now after w n
