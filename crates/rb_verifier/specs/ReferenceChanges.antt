-- How a null test, and the submit or discard of a record, change every register, place of the stack and reference (own
-- profile).
use Rattle.std.specs.Prelude.{ℕ, pos, ◌==◌, map, filter, if◌then◌else◌}
use Rattle.rb_verifier.specs.declared.value.Abs.{Abs}
use Rattle.rb_verifier.specs.declared.value.Abs.TheVariants.{Unreadable, Number, Known, Perhaps, Record}
use Rattle.rb_verifier.specs.declared.state.AbsState.{AbsState}
use Rattle.rb_verifier.specs.KeptPointers.{listed_places, known_in}
use Rattle.rb_verifier.specs.References.{other_than, tested_in}

-- the reservation with this id is null
abbrev pub if_null : ℕ → Abs → Abs
if_null id (Perhaps other) = if other == id then Known 0 else Perhaps other
if_null id v = v

-- a place that holds it then has data: eight zero bytes
abbrev pub place_if_null : ℕ → Abs → Abs
place_if_null id (Perhaps other) = if other == id then Number else Perhaps other
place_if_null id v = v

-- the reservation with this id is a record
abbrev pub if_there : ℕ → Abs → Abs
if_there id (Perhaps other) = if other == id then Record id (pos 0) else Perhaps other
if_there id v = v

-- the record with this id was submitted or discarded
abbrev pub if_given_back : ℕ → Abs → Abs
if_given_back id (Record other offset) = if other == id then Unreadable else Record other offset
if_given_back id v = v

-- if the reservation is null, its reference is dropped
abbrev pub null_state : ℕ → AbsState → AbsState
null_state id s = record { values = map (if_null id) s.values; held = filter (other_than id) s.held; places = listed_places (λ place. place_if_null id (known_in s.places place)) }

-- if the reservation is a record, its reference is marked as tested
abbrev pub there_state : ℕ → AbsState → AbsState
there_state id s = record { values = map (if_there id) s.values; held = map (tested_in id) s.held; places = listed_places (λ place. if_there id (known_in s.places place)) }

-- after the record was submitted or discarded, its reference is dropped
abbrev pub given_back_state : ℕ → AbsState → AbsState
given_back_state id s = record { values = map (if_given_back id) s.values; held = filter (other_than id) s.held; places = listed_places (λ place. if_given_back id (known_in s.places place)) }
