-- The input of `feed`: payloads in sequence, each preceded by its length (own).
use Rattle.std.specs.Prelude.{ℕ, ◌≡◌, ◌+◌, ◌<◌, ◌≤◌, ◌^◌, ◌⊎◌, List, [], ◌∷◌, ◌++◌, length}
use Rattle.std.specs.Int.{w32, to_le_bytes}
use Rattle.std.specs.List.{flat_map}
use Rattle.rb_history.specs.Span.{span}
use Rattle.rb_history.specs.TapeBytes.{Item, AreItemsFrom, end_of}
use Rattle.rb_history.specs.TapeBytes.Item.{Event}

-- ---- payloads, as bytes and as records

-- a payload in the input: its length in four bytes, little-endian, followed by its bytes
abbrev pub framed : List ℕ → List ℕ
framed payload = to_le_bytes w32 (length payload) ++ payload

-- payloads in the input, with nothing between them
abbrev pub framed_all : List (List ℕ) → List ℕ
framed_all payloads = flat_map framed payloads

-- the records of payloads: each is an event, and starts where the one before it ends
abbrev pub payload_events : ℕ → List (List ℕ) → List Item
payload_events position [] = []
payload_events position (payload ∷ payloads) = Event position payload ∷ payload_events (position + span (length payload)) payloads

-- ---- what may follow them

-- a length whose record does not fit in the ring, which is never completely full; anything may follow the length
pub record IsTooLongPayload (size : ℕ) (text : List ℕ) : Type 0 where
  pub len : ℕ
  pub rest : List ℕ
  pub text_is : text ≡ to_le_bytes w32 len ++ rest
  pub has_field : len < 2 ^ 32
  pub no_room : size ≤ span len

-- a whole payload whose record would end past 2^62
pub record IsTooFarPayload (size position : ℕ) (text : List ℕ) : Type 0 where
  pub payload : List ℕ
  pub rest : List ℕ
  pub text_is : text ≡ framed payload ++ rest
  pub has_field : length payload < 2 ^ 32
  pub room : span (length payload) < size
  pub past : 2 ^ 62 < position + span (length payload)

-- part of a length
pub record IsCutLength (text : List ℕ) : Type 0 where
  pub some : 0 < length text
  pub short : length text < 4

-- a length followed by fewer bytes
pub record IsCutPayload (size : ℕ) (text : List ℕ) : Type 0 where
  pub len : ℕ
  pub part : List ℕ
  pub text_is : text ≡ to_le_bytes w32 len ++ part
  pub has_field : len < 2 ^ 32
  pub room : span len < size
  pub short : length part < len

-- how an input continues after some payloads: not at all, with a payload that does not fit into the ring, or with less
-- than a whole payload
pub data Ending : Type 0 where
  Whole : Ending
  Unfit : Ending
  Cut : Ending

-- the text after the payloads, if the next record would start at this position of a ring of this size
abbrev pub Follows : ℕ → ℕ → Ending → List ℕ → Type 0
Follows size position Whole text = text ≡ []
Follows size position Unfit text = IsTooLongPayload size text ⊎ IsTooFarPayload size position text
Follows size position Cut text = IsCutLength text ⊎ IsCutPayload size text

-- the input consists of these payloads, whose records form a tape of a ring of this size from the start on, and then
-- continues in this way
pub record InputIs (size start : ℕ) (input : List ℕ) (payloads : List (List ℕ)) (ending : Ending) : Type 0 where
  pub rest : List ℕ
  pub input_is : input ≡ framed_all payloads ++ rest
  pub stand : AreItemsFrom size start (payload_events start payloads)
  pub goes_on : Follows size (end_of start (payload_events start payloads)) ending rest
