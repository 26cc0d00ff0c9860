-- A payload that is complete in a reader's buffer.
use Rattle.std.specs.Prelude.{ℕ, ◌≡◌, ◌+◌, ◌<◌, ◌≤◌, ◌^◌, List, length, take}
use Rattle.rb_history.specs.Span.{span}
use Rattle.rb_tape_commands.specs.Input.{framed}

-- the payload is at the front of the bytes, after its length, and a ring of this size has room for its record
pub record IsSeenWhole (size : ℕ) (seen payload : List ℕ) : Type 0 where
  pub has_field : length payload < 2 ^ 32
  pub room : span (length payload) < size
  pub within : 4 + length payload ≤ length seen
  pub front : take (4 + length payload) seen ≡ framed payload
