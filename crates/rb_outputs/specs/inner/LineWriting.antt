-- Writing one line.
use Rattle.std.specs.Prelude.{◌≡◌, ◌≢◌, ℕ, List, [], ◌++◌, Option, Result, OnErr, OnOk}
use Rattle.std.specs.Io.KnownBytes.{Appends}
use Rattle.rb_io.specs.declared.device.DeviceFault.{DeviceFault}

-- a prefix of the line was written: all of it at Ok, and not all of it at an error
pub record WritesLine (before after : Option (List ℕ)) (line : List ℕ) (answer : Result (Unit {0}) DeviceFault) : Type 0 where
  pub out : List ℕ
  pub missing : List ℕ
  pub wrote : Appends before after out
  pub beginning : out ++ missing ≡ line
  pub all_out : OnOk answer (missing ≡ [])
  pub not_all_out : OnErr answer (missing ≢ [])
