-- How contexts are framed in a stream of bytes: as frames, one after the other with nothing between them, or as lines
-- (own).
use Rattle.std.specs.Prelude.{ℕ, ◌≡◌, ◌≢◌, ◌+◌, ◌<◌, ◌⊎◌, List, [], ◌∷◌, ◌++◌, length, take}
use Rattle.std.specs.List.{flat_map}
use Rattle.std.specs.Int.{w32, to_le_bytes}
use Rattle.rb_source.specs.declared.framing.Framing.{Framing}
use Rattle.rb_source.specs.declared.framing.Framing.TheVariants.{Frames, Fixed, Lines}

-- a portion of a stream: the bytes of one context, or the request that the contexts before it are given at once
pub data Portion : Type 0 where
  Content : (bytes : List ℕ) → Portion
  Flush : Portion

-- the bytes of the contexts, in order
abbrev pub contents : List Portion → List (List ℕ)
contents [] = []
contents (Content bytes ∷ portions) = bytes ∷ contents portions
contents (Flush ∷ portions) = contents portions

-- the lengths that do not belong to a frame
abbrev pub flush_length : ℕ
flush_length = 4294967294

abbrev pub end_length : ℕ
end_length = 4294967295

abbrev pub line_feed : ℕ
line_feed = 10

-- no byte is a line feed
abbrev pub HasNoLineFeed : List ℕ → Type 0
HasNoLineFeed [] = Unit {0}
HasNoLineFeed (b ∷ bs) = (b ≢ line_feed) × HasNoLineFeed bs

-- the possible portions: a frame of less than 2^32 - 2 bytes; a context of exactly the requested length; a line without
-- a line feed inside
abbrev pub IsPortion : Framing → ℕ → Portion → Type 0
IsPortion Frames len (Content bytes) = length bytes < flush_length
IsPortion Fixed len (Content bytes) = length bytes ≡ len
IsPortion Lines len (Content bytes) = HasNoLineFeed bytes
IsPortion Frames len Flush = Unit {0}
IsPortion Fixed len Flush = ⊥
IsPortion Lines len Flush = ⊥

abbrev pub ArePortions : Framing → ℕ → List Portion → Type 0
ArePortions framing len [] = Unit {0}
ArePortions framing len (p ∷ ps) = IsPortion framing len p × ArePortions framing len ps

-- its bytes: a frame has its length in front, as a little-endian u32; a line is followed by a line feed
abbrev pub portion_bytes : Framing → Portion → List ℕ
portion_bytes Frames (Content bytes) = to_le_bytes w32 (length bytes) ++ bytes
portion_bytes Fixed (Content bytes) = bytes
portion_bytes Lines (Content bytes) = bytes ++ line_feed ∷ []
portion_bytes Frames Flush = to_le_bytes w32 flush_length
portion_bytes Fixed Flush = []
portion_bytes Lines Flush = []

-- the bytes of portions, one after the other
abbrev pub text_of : Framing → List Portion → List ℕ
text_of framing portions = flat_map (portion_bytes framing) portions

-- the bytes begin with no whole portion, and more bytes may turn them into one
abbrev pub IsPartial : Framing → ℕ → List ℕ → Type 0
IsPartial Frames len bytes =
    (length bytes < 4) ⊎ ((n : ℕ) × (n < flush_length) × (take 4 bytes ≡ to_le_bytes w32 n) × (length bytes < 4 + n))
IsPartial Fixed len bytes = length bytes < len
IsPartial Lines len bytes = HasNoLineFeed bytes

-- the bytes begin with the length that ends a stream of frames
abbrev pub BeginsWithEnd : Framing → List ℕ → Type 0
BeginsWithEnd framing bytes = (framing ≡ Frames) × (take 4 bytes ≡ to_le_bytes w32 end_length)
