-- A tape as a whole: the result of a sequence of calls of its writer (own; rb_history defines the tape's bytes).
use Rattle.std.specs.Prelude.{ℕ, ◌≡◌, ◌+◌, Bool, true, if◌then◌else◌, All, List, [], ◌∷◌, ◌++◌, Option, None, Some, drop}
use Rattle.std.specs.List.{flat_map}
use Rattle.std.specs.Io.KnownBytes.{Appends}
use Rattle.rb_history.specs.TapeBytes.{Item, item_bytes, item_span, tape, end_of, AreItemsFrom}
use Rattle.rb_tape.specs.TapeOutput.{TapeOutput}

-- ---- the unfinished record

-- the bytes of a record after its first n
abbrev pub rest_of : ℕ → ℕ → Option Item → List ℕ
rest_of size n None = []
rest_of size n (Some item) = drop n (item_bytes size item)

-- the bytes of the unfinished record that were not written yet
abbrev pub still_missing : {W : Type 0} → TapeOutput W → List ℕ
still_missing t = rest_of t.size t.sent t.unfinished

abbrev pub end_after : ℕ → Option Item → ℕ
end_after position None = position
end_after position (Some item) = position + item_span item

-- the position at which the tape ends once the unfinished record is complete
abbrev pub end_of_begun : {W : Type 0} → TapeOutput W → ℕ
end_of_begun t = end_after t.position t.unfinished

-- ---- calls

-- These records were begun after the previous ones. The bytes that were missing before, and all bytes of these records,
-- were written, except those that are missing now. `contents` are the bytes that a writer has, if they are known.
pub record BeginsItems {W : Type 0} (contents : W → Option (List ℕ)) (old : TapeOutput W) (items : List Item) (new : TapeOutput W) : Type 0 where
  pub out : List ℕ
  pub wrote : Appends (contents old.writer) (contents new.writer) out
  pub bytes_are : out ++ still_missing new ≡ still_missing old ++ tape old.size items
  pub stand : AreItemsFrom old.size (end_of_begun old) items
  pub end_is : end_of_begun new ≡ end_of (end_of_begun old) items
  pub size_same : new.size ≡ old.size

-- one call: `put` of a record, `resume` of the unfinished one, `put_all`, with the records that it began, or
-- `write_out`
pub data TapeCall : Type 0 where
  Put : Item → TapeCall
  Resume : Item → TapeCall
  PutAll : List Item → TapeCall
  WriteOut : TapeCall

abbrev pub records_begun : TapeCall → List Item
records_begun (Put item) = item ∷ []
records_begun (PutAll items) = items
records_begun _ = []

-- the record that must be unfinished before the call
abbrev pub unfinished_before : TapeCall → Option Item
unfinished_before (Resume item) = Some item
unfinished_before _ = None

-- the number of failed calls after one more call, which returned Ok or not
abbrev pub failures_after : ℕ → Bool → ℕ
failures_after failures ok = if ok then failures else failures + 1

-- a lawful call, whether it returned Ok, and its effect; no record is unfinished after an Ok
pub record MakesTapeCall {W : Type 0} (contents : W → Option (List ℕ)) (old : TapeOutput W) (call : TapeCall) (ok : Bool) (new : TapeOutput W) : Type 0 where
  pub lawful : old.unfinished ≡ unfinished_before call
  pub begins : BeginsItems contents old (records_begun call) new
  pub finished : ok ≡ true → new.unfinished ≡ None
  pub failures_are : new.failures ≡ failures_after old.failures ok

-- `put_all` of these items, of which some are left: it began the others
abbrev pub PutsAll : {W : Type 0} → (W → Option (List ℕ)) → TapeOutput W → List Item → List Item → Bool → TapeOutput W → Type 0
PutsAll contents old items left ok new = (begun : List Item) × (items ≡ begun ++ left) × MakesTapeCall contents old (PutAll begun) ok new

-- ---- the tape as a whole

-- a sequence of lawful calls, each with whether it returned Ok
abbrev pub MakesCalls : {W : Type 0} → (W → Option (List ℕ)) → TapeOutput W → List (TapeCall × Bool) → TapeOutput W → Type 0
MakesCalls contents old [] new = new ≡ old
MakesCalls {W} contents old ((call, ok) ∷ calls) new = (mid : TapeOutput W) × MakesTapeCall contents old call ok mid × MakesCalls contents mid calls new

-- all records that the calls began, in order
abbrev pub all_begun : List (TapeCall × Bool) → List Item
all_begun calls = flat_map (λ c. records_begun c.0) calls

-- a tape to which nothing is written yet
abbrev pub fresh_tape : {W : Type 0} → W → ℕ → ℕ → TapeOutput W
fresh_tape writer size start = record { writer = writer; size = size; position = start; sent = 0; unfinished = None; failures = 0 }

-- A prefix of the tape of these records was written, and the whole tape if none of them is unfinished. The records lie
-- on the tape of a ring of this size, from its start on.
pub record LeavesTape {W : Type 0} (contents : W → Option (List ℕ)) (writer : W) (size start : ℕ) (items : List Item) (now : TapeOutput W) : Type 0 where
  pub out : List ℕ
  pub missing : List ℕ
  pub stand : AreItemsFrom size start items
  pub wrote : Appends (contents writer) (contents now.writer) out
  pub beginning : out ++ missing ≡ tape size items
  pub whole : now.unfinished ≡ None → (missing ≡ []) × (now.position ≡ end_of start items)

-- Beginning with a new writer, `put`, `resume`, `put_all` and `write_out` in any lawful order leave a prefix of the
-- tape of the records that they began, and the whole tape if all of them returned Ok.
abbrev pub CallsLeaveTape : {W : Type 0} → (W → Option (List ℕ)) → Type 0
CallsLeaveTape {W} contents = (writer : W) (size start : ℕ) (calls : List (TapeCall × Bool)) (now : TapeOutput W) → MakesCalls contents (fresh_tape writer size start) calls now →
    LeavesTape contents writer size start (all_begun calls) now × (All (λ c. c.1 ≡ true) calls → now.unfinished ≡ None)
