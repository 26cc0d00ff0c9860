-- What a lent item describes: the result of `take` that found it, and its record on a tape (own).
use Rattle.std.specs.Prelude.{ℕ, ◌≡◌, List, [], ◌∷◌, Option, None, Some}
use Rattle.rb_history.specs.TapeBytes.{Item, item_span}
use Rattle.rb_history.specs.TapeBytes.Item.{Event, Skip}
use Rattle.rb_history.specs.declared.answers.Taken.{Taken}
use Rattle.rb_history.specs.declared.answers.Taken.TheVariants as answers
use Rattle.rb_history.specs.ManyTakes.{HasRecord}
use Rattle.rb_tape.specs.declared.item.Event as lent
use Rattle.rb_tape.specs.declared.item.Item as given
use Rattle.rb_tape.specs.declared.item.Item.TheVariants as kinds

abbrev pub event_taken : lent.Event → Taken
event_taken e = answers.Event e.pos e.worker e.serial e.bytes.now

abbrev pub item_taken : given.Item → Taken
item_taken (kinds.Event e) = event_taken e
item_taken (kinds.Skip pos n) = answers.Skipped pos n

-- each of these results found a record
abbrev pub AreRecords : List Taken → Type 0
AreRecords [] = Unit {0}
AreRecords (t ∷ ts) = HasRecord t × AreRecords ts

-- the next item is the one that was taken first; none if nothing is left
abbrev pub LendsItem : List Taken → List Taken → Option given.Item → Type 0
LendsItem old new None = (old ≡ []) × (new ≡ [])
LendsItem old new (Some i) = old ≡ item_taken i ∷ new

-- the item as a record of a tape, as rb_history defines it
abbrev pub item_of : given.Item → Item
item_of (kinds.Event e) = Event e.pos e.bytes.now
item_of (kinds.Skip pos n) = Skip pos n

-- the records that the results of `take` found, in order, as records of a tape
abbrev pub tape_items : List Taken → List Item
tape_items [] = []
tape_items (answers.Event position worker serial bytes ∷ ts) = Event position bytes ∷ tape_items ts
tape_items (answers.Skipped position n ∷ ts) = Skip position n ∷ tape_items ts
tape_items (answers.BusyFront ∷ ts) = tape_items ts
tape_items (answers.Empty ∷ ts) = tape_items ts

-- how many bytes of the last record were written once all of these were; `before` if there are none
abbrev pub sent_after : ℕ → List Item → ℕ
sent_after before [] = before
sent_after before (item ∷ items) = sent_after (item_span item) items
