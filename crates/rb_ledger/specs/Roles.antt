-- The role of each entry of a history, and how a history continues one that was seen (own).
use Rattle.std.specs.Prelude.{◌≡◌, ℕ, ◌==◌, Bool, true, false, List, [], ◌∷◌, ◌++◌}
use Rattle.rb_history.specs.declared.entries.Entry.{Entry}
use Rattle.rb_history.specs.declared.entries.Entry.TheVariants.{Res, Full, Sub, Dis, Take}
use Rattle.rb_history.specs.RoomRule.{Setup}
use Rattle.rb_history.specs.RingModel.{Ring}
use Rattle.rb_history.specs.WorkerCounts.{is_record_of}

-- a party that adds entries to a ring's history
pub data Role : Type 0 where
  Consumer : Role
  Worker : ℕ → Role

-- The entry is the role's own, if h grants the record that it names: a worker's entries are its grants and refusals and
-- the commits of its records, the consumer's are the takes.
abbrev pub is_own : Role → List Entry → Entry → Bool
is_own Consumer h (Take p) = true
is_own Consumer h _ = false
is_own (Worker w) h (Res v k n p) = v == w
is_own (Worker w) h (Full v n) = v == w
is_own (Worker w) h (Sub p) = is_record_of w h p
is_own (Worker w) h (Dis p) = is_record_of w h p
is_own (Worker w) h (Take p) = false

-- none of the entries that follow `before` is the role's own
abbrev pub NoneOwn : Role → List Entry → List Entry → Type 0
NoneOwn role before [] = Unit {0}
NoneOwn role before (e ∷ es) = (is_own role before e ≡ false) × NoneOwn role (before ++ e ∷ []) es

-- a ring's setup and history, without its contents
pub record Book : Type 0 where
  pub setup : Setup
  pub history : List Entry

abbrev pub book_of : Ring → Book
book_of r = record { setup = r.setup; history = r.history }

-- the book `new` begins with what the role had seen, and has no entry of the role's own after that
pub record ExtendsSeen (role : Role) (seen new : Book) : Type 0 where
  pub setup_same : new.setup ≡ seen.setup
  pub behind : List Entry
  pub history_is : new.history ≡ seen.history ++ behind
  pub none_own : NoneOwn role seen.history behind

-- the book `new` begins with everything that was seen: it has the same setup, and its history continues the one that
-- was seen
pub record BeginsWith (new seen : Book) : Type 0 where
  pub setup_same : new.setup ≡ seen.setup
  pub behind : List Entry
  pub history_is : new.history ≡ seen.history ++ behind
