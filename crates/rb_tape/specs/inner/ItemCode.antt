-- The encoding of a tape's record in the logic.
use Rattle.std.specs.Prelude.{◌≡◌, ℕ, List, [], ◌==◌, cond, refl}
use Rattle.std.specs.Coded.{Coded, code_by, coded×, coded_ℕ, coded_list}
use Rattle.rb_history.specs.TapeBytes.{Item}
use Rattle.rb_history.specs.TapeBytes.Item.{Event, Skip}

-- whether it is a skip, the position, a skip's length, and an event's bytes
abbrev Parts : Type 0
Parts = ℕ × (ℕ × (ℕ × List ℕ))

abbrev parts_of : Item → Parts
parts_of (Event position bytes) = (0, (position, (0, bytes)))
parts_of (Skip position len) = (1, (position, (len, [])))

abbrev item_of_parts : Parts → Item
item_of_parts p = cond (p.0 == 0) (Event p.1.0 p.1.1.1) (Skip p.1.0 p.1.1.0)

pub item_of_parts-parts_of : (item : Item) → item_of_parts (parts_of item) ≡ item
item_of_parts-parts_of (Event position bytes) = refl
item_of_parts-parts_of (Skip position len) = refl

abbrev pub coded_item : Coded Item
coded_item = code_by Parts (coded× coded_ℕ (coded× coded_ℕ (coded× coded_ℕ (coded_list coded_ℕ)))) parts_of item_of_parts item_of_parts-parts_of
