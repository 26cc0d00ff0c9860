-- What was read from a whole input, in one piece or in many: the longest list of items whose tape is a prefix of it
-- (own).
use Rattle.std.specs.Prelude.{ℕ, ◌≡◌, ◌-◌, ◌≤◌, Option, IfNone, IfSome, List, [], ◌++◌, length, ◌⊎◌}
use Rattle.rb_history.specs.TapeBytes.{Item, AreItemsFrom, tape, end_of}
use Rattle.rb_tape.specs.declared.fault.TapeKind.{TapeKind}
use Rattle.rb_tape.specs.declared.fault.TapeFault.{TapeFault}
use Rattle.rb_tape.specs.TapeFront.{ShowsFault, IsUndecided}
use Rattle.rb_tape.specs.TapeReading.{IsToldAtEnd, reading_from}

-- the input is the tape of these items, followed by the rest
pub record IsTapeAndRest (size start : ℕ) (input : List ℕ) (items : List Item) (rest : List ℕ) : Type 0 where
  pub stand : AreItemsFrom size start items
  pub text : input ≡ tape size items ++ rest

-- no longer list of items has a tape that is a prefix of the input
abbrev pub IsLongestList : ℕ → ℕ → List ℕ → List Item → Type 0
IsLongestList size start input items = (others : List Item) (more : List ℕ) → IsTapeAndRest size start input others more → length others ≤ length items

-- these items of the input were read: the next record is at this position, and the rest is left
pub record HasReadItems (size start : ℕ) (input : List ℕ) (items : List Item) (position : ℕ) (rest : List ℕ) : Type 0 where
  pub splits : IsTapeAndRest size start input items rest
  pub here : position ≡ end_of start items

-- there is no next item: nothing is left, or the rest shows a fault, or it is undecided
abbrev pub HasNoItemNext : ℕ → ℕ → List ℕ → Type 0
HasNoItemNext size position rest = (rest ≡ []) ⊎ (((kind : TapeKind) × ShowsFault size position rest kind) ⊎ IsUndecided size position rest)

-- The longest list whose tape is a prefix of the input has `count` items. After them nothing is left, or this fault is
-- reported there.
pub record IsReadThrough (size start : ℕ) (input : List ℕ) (count : ℕ) (fault : Option TapeFault) : Type 0 where
  pub items : List Item
  pub rest : List ℕ
  pub splits : IsTapeAndRest size start input items rest
  pub longest : IsLongestList size start input items
  pub count_is : length items ≡ count
  pub whole : IfNone fault (rest ≡ [])
  pub told : IfSome fault (λ f. (f.offset ≡ end_of start items - start) × IsToldAtEnd (record (reading_from size start input) { position = end_of start items; rest = rest }) f.kind)
