-- What a read of the next payload finds. `old` and `new` are the reader's bytes before and after.
use Rattle.std.specs.Prelude.{ℕ, ◌≡◌, ◌<◌, ◌≤◌, ◌^◌, ◌⊎◌, List, [], length, Option, Some, None, Result, Ok, Err}
use Rattle.std.specs.Int.{w32, to_le_bytes}
use Rattle.std.specs.Io.KnownBytes.{Consumes, IsAtEnd}
use Rattle.rb_history.specs.Span.{span}
use Rattle.rb_tape_commands.specs.Input.{framed, IsCutLength, IsCutPayload}
use Rattle.rb_tape_commands.specs.declared.feed_fault.FeedFault.{FeedFault}
use Rattle.rb_tape_commands.specs.declared.feed_fault.FeedFault.TheVariants.{Size, Start, Fit, Ends, Memory, Device}

-- a whole payload for which the ring has room
pub record FindsPayload (size : ℕ) (old new : Option (List ℕ)) (payload : List ℕ) : Type 0 where
  pub read : Consumes old new (framed payload)
  pub room : span (length payload) < size

-- nothing
pub record FindsEnd (old new : Option (List ℕ)) : Type 0 where
  pub read : Consumes old new []
  pub at_end : IsAtEnd new

-- a length that is too long for the ring
pub record FindsUnfit (size : ℕ) (old new : Option (List ℕ)) : Type 0 where
  pub len : ℕ
  pub read : Consumes old new (to_le_bytes w32 len)
  pub has_field : len < 2 ^ 32
  pub no_room : size ≤ span len

-- less than a whole payload, followed by the end
pub record FindsCut (size : ℕ) (old new : Option (List ℕ)) : Type 0 where
  pub part : List ℕ
  pub read : Consumes old new part
  pub cut : IsCutLength part ⊎ IsCutPayload size part
  pub at_end : IsAtEnd new

-- some bytes
pub record FindsSome (old new : Option (List ℕ)) : Type 0 where
  pub part : List ℕ
  pub read : Consumes old new part

-- the finding for each result, for the payload with this number
abbrev pub FindsNext : ℕ → ℕ → Option (List ℕ) → Option (List ℕ) → Result (Option (List ℕ)) FeedFault → Type 0
FindsNext size number old new (Ok (Some payload)) = FindsPayload size old new payload
FindsNext size number old new (Ok None) = FindsEnd old new
FindsNext size number old new (Err Size) = ⊥
FindsNext size number old new (Err Start) = ⊥
FindsNext size number old new (Err (Fit k)) = (k ≡ number) × FindsUnfit size old new
FindsNext size number old new (Err (Ends k)) = (k ≡ number) × FindsCut size old new
FindsNext size number old new (Err Memory) = FindsSome old new
FindsNext size number old new (Err Device) = FindsSome old new
