-- The state of a tape's reader, and what each of its calls returns and leaves (own).
use Rattle.std.specs.Prelude.{ℕ, ◌≡◌, ◌≢◌, ◌+◌, ◌-◌, ◌^◌, ◌≤◌, if◌then◌else◌, List, [], ◌++◌, length, Option, None, Some, is_some, IfNone, IfSome, Result, Ok, Err, ◌⊎◌}
use Rattle.rb_history.specs.TapeBytes.{Item, item_span}
use Rattle.rb_history.specs.TapeBytes.Item.{Event, Skip}
use Rattle.rb_history.specs.RingModel.{IsRingSize}
use Rattle.rb_tape.specs.declared.fault.TapeKind.{TapeKind}
use Rattle.rb_tape.specs.declared.fault.TapeKind.TheVariants.{Truncated, Memory}
use Rattle.rb_tape.specs.declared.fault.TapeFault.{TapeFault}
use Rattle.rb_tape.specs.declared.record.Record.{Record}
use Rattle.rb_tape.specs.TapeFront.{StartsWithItem, ShowsFault, IsUndecided}

-- A reader: the ring's size and the tape's first position, the position of the next record, the bytes that it has and
-- has not read yet, and the fault that it reported, if any.
pub record Reading : Type 0 where
  pub size : ℕ
  pub start : ℕ
  pub position : ℕ
  pub rest : List ℕ
  pub told : Option TapeKind

-- the invariant of a reader
pub record IsReading (r : Reading) : Type 0 where
  pub size : IsRingSize r.size
  pub start : r.start ≤ r.position
  pub bounded : r.position ≤ 2 ^ 62

-- a reader that has these bytes and has read nothing
abbrev pub reading_from : ℕ → ℕ → List ℕ → Reading
reading_from size start bytes = record { size = size; start = start; position = start; rest = bytes; told = None }

-- a fault of the next record, whose offset is the number of the tape's bytes before that record
abbrev pub fault_at : Reading → TapeKind → TapeFault
fault_at r kind = record { kind = kind; offset = r.position - r.start }

-- the reader after it reported this fault, which it keeps from then on
abbrev pub with_told : Reading → TapeKind → Reading
with_told r kind = record r { told = Some kind }

-- the item that a record describes
abbrev pub item_read : Record → Item
item_read r = if r.discarded then Skip r.pos r.len else Event r.pos r.bytes.now

-- a record has as many bytes as its length; a discarded one lends none
abbrev pub HasItsLength : Record → Type 0
HasItsLength r = length r.bytes.now ≡ (if r.discarded then 0 else r.len)

-- the reader reads an item, with which its bytes begin
pub record PassesItem (old : Reading) (item : Item) (new : Reading) : Type 0 where
  pub starts : StartsWithItem old.size old.position old.rest item new.rest
  pub moves : new.position ≡ old.position + item_span item
  pub size : new.size ≡ old.size
  pub start : new.start ≡ old.start
  pub told : new.told ≡ None

-- The fault at the end of a tape's input if no whole item is next: the first fault that the bytes show, otherwise that
-- they are truncated.
abbrev pub IsToldAtEnd : Reading → TapeKind → Type 0
IsToldAtEnd r kind =
    ShowsFault r.size r.position r.rest kind ⊎ (IsUndecided r.size r.position r.rest × (r.rest ≢ []) × (kind ≡ Truncated))

-- The next result of a reader that gets no more bytes: none after a fault and at the end; a whole item; or the fault of
-- bytes that begin with no item.
abbrev pub ReadsToEnd : Reading → Reading → Option (Result Record TapeFault) → Type 0
ReadsToEnd old new None = ((old.told ≢ None) ⊎ (old.rest ≡ [])) × (new ≡ old)
ReadsToEnd old new (Some (Ok r)) = (old.told ≡ None) × PassesItem old (item_read r) new × HasItsLength r
ReadsToEnd old new (Some (Err f)) = (old.told ≡ None) × (f ≡ fault_at old f.kind) × IsToldAtEnd old f.kind × (new ≡ with_told old f.kind)

-- the number of bytes that such a reader has still to examine
abbrev pub bytes_to_read : Reading → ℕ
bytes_to_read r = if is_some r.told then 0 else length r.rest

-- The next result of a reader that may get more bytes: none while the bytes are undecided; a whole item; or the first
-- fault that they show, and from then on that fault.
abbrev pub ReadsSoFar : Reading → Reading → Option (Result Record TapeFault) → Type 0
ReadsSoFar old new None = (old.told ≡ None) × IsUndecided old.size old.position old.rest × (new ≡ old)
ReadsSoFar old new (Some (Ok r)) = (old.told ≡ None) × PassesItem old (item_read r) new × HasItsLength r
ReadsSoFar old new (Some (Err f)) =
    (f ≡ fault_at old f.kind) × (new ≡ with_told old f.kind)
    × IfNone old.told (ShowsFault old.size old.position old.rest f.kind) × IfSome old.told (λ kind. f.kind ≡ kind)

-- A piece is appended to the bytes. After a fault it is not, and that fault is returned. If no memory can be allocated,
-- nothing changes.
abbrev pub AddsPiece : Reading → Reading → List ℕ → Result (Unit {0}) TapeFault → Type 0
AddsPiece old new piece (Ok _) = (old.told ≡ None) × (new ≡ record old { rest = old.rest ++ piece })
AddsPiece old new piece (Err f) =
    (new ≡ old) × IfNone old.told (f ≡ fault_at old Memory) × IfSome old.told (λ kind. f ≡ fault_at old kind)

-- the input ends: no bytes are left, or they are truncated; after a fault, that fault is returned
abbrev pub EndsInput : Reading → Result (Unit {0}) TapeFault → Type 0
EndsInput r (Ok _) = (r.told ≡ None) × (r.rest ≡ [])
EndsInput r (Err f) = IfNone r.told ((r.rest ≢ []) × (f ≡ fault_at r Truncated)) × IfSome r.told (λ kind. f ≡ fault_at r kind)
