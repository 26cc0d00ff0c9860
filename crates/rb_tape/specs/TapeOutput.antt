-- The state of a tape's writer (own; rb_history defines the tape's bytes).
use Rattle.std.specs.Prelude.{ℕ, ◌≡◌, List, ◌∷◌, ◌++◌, Option, take}
use Rattle.std.specs.Io.KnownBytes.{Appends}
use Rattle.rb_history.specs.TapeBytes.{Item, item_bytes, tape, end_of}
use Rattle.rb_history.specs.declared.answers.Taken.{Taken}
use Rattle.rb_tape.specs.declared.item.Item as given
use Rattle.rb_tape.specs.Items.{item_of, item_taken, tape_items}

-- A writer of a tape: the underlying writer, the ring's size, the position of the next record, the number of bytes of
-- the last record that were written, that record if some of its bytes are still to be written, and the number of failed
-- calls.
pub record TapeOutput (W : Type 0) : Type 0 where
  pub writer : W
  pub size : ℕ
  pub position : ℕ
  pub sent : ℕ
  pub unfinished : Option Item
  pub failures : ℕ

-- Of these items, those before this one were written completely, then the first `sent` bytes of this one, and nothing
-- of those after it, which are left. `contents` are the bytes that a writer has, if they are known.
pub record StopsWithin (W : Type 0) (contents : W → Option (List ℕ)) (old new : TapeOutput W) (items left : List Taken) (item : given.Item) : Type 0 where
  pub whole : List Taken
  pub items_are : items ≡ whole ++ item_taken item ∷ left
  pub position_is : new.position ≡ end_of old.position (tape_items whole)
  pub bytes : Appends (contents old.writer) (contents new.writer) (tape old.size (tape_items whole) ++ take new.sent (item_bytes old.size (item_of item)))
