-- What an implementation preserves about its records from call to call, independent of how they are stored.
use Rattle.std.specs.Prelude.{ℕ, ◌≡◌, ◌+◌, ◌<◌, ◌||◌, true, List, [], ◌∷◌, length}
use Rattle.std.specs.List.{count_by, All, slice_index_or as get_or}
use Rattle.rb_history.specs.declared.entries.Entry.{Entry}
use Rattle.rb_history.specs.declared.entries.Entry.TheVariants.{Res, Full, Sub, Dis, Take}
use Rattle.rb_history.specs.Span.{span}
use Rattle.rb_history.specs.History.{Shown, producer_of, consumer_of, records, is_granted_at, is_submitted_at, is_discarded_at, is_taken_at, is_grant_at}
use Rattle.rb_history.specs.History.Status.{Busy, Discarded}
use Rattle.rb_history.specs.Counting.{is_discard_entry, status_count}
use Rattle.rb_history.specs.RoomRule.{Setup}
use Rattle.rb_history.specs.Legal.{IsLegal}

-- the records follow one another without a gap, from one position to the other
abbrev pub InRow : ℕ → List Shown → ℕ → Type 0
InRow from [] to = from ≡ to
InRow from (s ∷ ss) to = (s.pos ≡ from) × InRow (from + span s.len) ss to

-- the record that an entry names begins below a position
abbrev pub NamesBelow : ℕ → Entry → Type 0
NamesBelow p (Res w k n q) = q < p
NamesBelow p (Full w n) = Unit {0}
NamesBelow p (Sub q) = q < p
NamesBelow p (Dis q) = q < p
NamesBelow p (Take q) = q < p

-- facts about a legal history, the records that it shows, and its two positions
pub record HistoryFacts (r : Setup) (h : List Entry) (ss : List Shown) (p c : ℕ) : Type 0 where
  pub legal : IsLegal r h
  pub shown : ss ≡ records h
  pub producer_is : p ≡ producer_of r.start h
  pub consumer_is : c ≡ consumer_of r.start h
  pub in_row : InRow c ss p
  pub below : All (NamesBelow p) h
  pub closed : (q : ℕ) → is_taken_at h q ≡ true → (is_submitted_at h q || is_discarded_at h q) ≡ true
  pub named : (q : ℕ) → (is_submitted_at h q || is_discarded_at h q) ≡ true → is_granted_at h q ≡ true
  pub passed : (q : ℕ) → is_taken_at h q ≡ true → q < c
  pub single : (q : ℕ) → is_granted_at h q ≡ true → count_by (is_grant_at q) h ≡ 1
  pub given_up : status_count Discarded h ≡ count_by is_discard_entry h

-- the i-th record that is shown is busy
pub record IsBusyAt (ss : List Shown) (i p n : ℕ) : Type 0 where
  pub within : i < length ss
  pub here : (d : Shown) → ((get_or ss i d).pos ≡ p) × ((get_or ss i d).len ≡ n) × ((get_or ss i d).status ≡ Busy)
