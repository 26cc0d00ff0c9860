-- The result of examining the front of a tape's bytes, which both readers use.
use Rattle.std.specs.Prelude.{ℕ, ◌≤◌, if◌then◌else◌, List, length, drop, Option, None, Some, Result, Ok, Err}
use Rattle.rb_history.specs.declared.headers.Header.{Header}
use Rattle.rb_history.specs.Span.{span}
use Rattle.rb_history.specs.TapeBytes.{Item}
use Rattle.rb_history.specs.TapeBytes.Item.{Event, Skip}
use Rattle.rb_tape.specs.declared.fault.TapeKind.{TapeKind}
use Rattle.rb_tape.specs.TapeFront.{StartsWithItem, ShowsFault, IsUndecided, payload_after}

-- the item that a header and the bytes after it form
abbrev pub item_after : ℕ → Header → List ℕ → Item
item_after position h behind = if h.discard then Skip position h.len else Event position (payload_after h behind)

-- the bytes begin with the whole item of this header
pub record HasWholeItem (size position : ℕ) (bytes : List ℕ) (h : Header) : Type 0 where
  pub starts : StartsWithItem size position bytes (item_after position h (drop 8 bytes)) (drop (span h.len) bytes)
  pub there : span h.len ≤ length bytes

-- the possible results
abbrev pub FindsAtFront : ℕ → ℕ → List ℕ → Result (Option Header) TapeKind → Type 0
FindsAtFront size position bytes (Err kind) = ShowsFault size position bytes kind
FindsAtFront size position bytes (Ok None) = IsUndecided size position bytes
FindsAtFront size position bytes (Ok (Some h)) = HasWholeItem size position bytes h
