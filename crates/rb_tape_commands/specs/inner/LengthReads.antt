-- What a read of a payload's length finds.
use Rattle.std.specs.Prelude.{ℕ, ◌≡◌, ◌<◌, ◌^◌, List, Option, Some, None, Result, Ok, Err}
use Rattle.std.specs.Int.{w32, to_le_bytes}
use Rattle.std.specs.Io.KnownBytes.{Consumes, IsAtEnd}
use Rattle.rb_tape_commands.specs.Input.{IsCutLength}
use Rattle.rb_tape_commands.specs.PayloadReads.{FindsEnd, FindsSome}
use Rattle.rb_tape_commands.specs.declared.feed_fault.FeedFault.{FeedFault}
use Rattle.rb_tape_commands.specs.declared.feed_fault.FeedFault.TheVariants.{Size, Start, Fit, Ends, Memory, Device}

-- what a read of a length finds
abbrev pub FindsLength : ℕ → Option (List ℕ) → Option (List ℕ) → Result (Option ℕ) FeedFault → Type 0
FindsLength number old new (Ok (Some len)) = (len < 2 ^ 32) × Consumes old new (to_le_bytes w32 len)
FindsLength number old new (Ok None) = FindsEnd old new
FindsLength number old new (Err Size) = ⊥
FindsLength number old new (Err Start) = ⊥
FindsLength number old new (Err (Fit k)) = ⊥
FindsLength number old new (Err (Ends k)) = (k ≡ number) × ((part : List ℕ) × Consumes old new part × IsCutLength part × IsAtEnd new)
FindsLength number old new (Err Memory) = ⊥
FindsLength number old new (Err Device) = FindsSome old new
