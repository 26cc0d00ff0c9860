-- A tape whose writer flushes what waits in it.
use Rattle.std.specs.Prelude.{ℕ, ◌≡◌, List, Option, None}
use Rattle.std.specs.Io.KnownBytes.{Keeps}
use Rattle.rb_tape.specs.TapeOutput.{TapeOutput}
use Rattle.rb_tape_commands.specs.Retries.{LeadsByCalls}

-- calls of the tape's writer led from one state to the other, no record was begun, and none is unfinished
pub record IsSameTape {W : Type 0} (contents : W → Option (List ℕ)) (old new : TapeOutput W) : Type 0 where
  pub size_same : new.size ≡ old.size
  pub position_same : new.position ≡ old.position
  pub finished : new.unfinished ≡ None
  pub kept : Keeps (contents old.writer) (contents new.writer)
  pub calls : LeadsByCalls contents old new
