-- What one payload appends to the output, why opening a ring is refused, and inputs of whole payloads.
use Rattle.std.specs.Prelude.{ℕ, ◌≡◌, ◌+◌, ◌<◌, ◌^◌, List, length, take, Option, Result, Ok, Err, IfSome}
use Rattle.std.specs.Io.KnownBytes.{Appends, Keeps}
use Rattle.rb_history.specs.TapeBytes.{IsItemAt, item_bytes}
use Rattle.rb_history.specs.TapeBytes.Item.{Event}
use Rattle.rb_history.specs.Span.{span}
use Rattle.rb_tape_commands.specs.Input.{InputIs}
use Rattle.rb_tape_commands.specs.Input.Ending.{Whole}
use Rattle.rb_tape_commands.specs.declared.feed_fault.FeedFault.{FeedFault}
use Rattle.rb_tape_commands.specs.declared.feed_fault.FeedFault.TheVariants.{Size, Start, Fit, Ends, Memory, Device}

-- what the payload with this number, at this position, appends to the writer's output
abbrev pub FeedsOne : ℕ → ℕ → ℕ → List ℕ → Option (List ℕ) → Option (List ℕ) → Result (List ℕ) FeedFault → Type 0
FeedsOne size position number payload held held' (Ok sheet) = IsItemAt size position (Event position payload) × Appends held held' (item_bytes size (Event position payload))
FeedsOne size position number payload held held' (Err Size) = ⊥
FeedsOne size position number payload held held' (Err Start) = ⊥
FeedsOne size position number payload held held' (Err (Fit k)) = (k ≡ number) × (2 ^ 62 < position + span (length payload)) × Keeps held held'
FeedsOne size position number payload held held' (Err (Ends k)) = ⊥
FeedsOne size position number payload held held' (Err Memory) = ⊥
FeedsOne size position number payload held held' (Err Device) = IsItemAt size position (Event position payload) × (n : ℕ) × Appends held held' (take n (item_bytes size (Event position payload)))

-- why opening a ring is refused
abbrev pub IsOpeningFault : FeedFault → Type 0
IsOpeningFault Size = Unit {0}
IsOpeningFault Start = Unit {0}
IsOpeningFault Memory = Unit {0}
IsOpeningFault (Fit k) = ⊥
IsOpeningFault (Ends k) = ⊥
IsOpeningFault Device = ⊥

-- the input, if it is known, consists of whole payloads for which the ring has room
abbrev pub IsWholeInput : ℕ → ℕ → Option (List ℕ) → Type 0
IsWholeInput size start unread = IfSome unread (λ input. (payloads : List (List ℕ)) × InputIs size start input payloads Whole)
