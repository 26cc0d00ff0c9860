-- What `sim` prints of a script's run, and when it refuses the script (own).
use Rattle.std.specs.Prelude.{ℕ, ◌≡◌, ◌⊎◌, Bool, List, [], Option, Result, Err, length, map}
use Rattle.std.specs.Io.KnownBytes.{Appends, Keeps}
use Rattle.rb_json.specs.declared.form.LineForm.{LineForm}
use Rattle.rb_script.specs.declared.script.Script.{Script}
use Rattle.rb_script.specs.Programs.{IsFirstRefused}
use Rattle.rb_script.specs.ScriptText.{lines_of}
use Rattle.rb_script.specs.Scripts.{IsFirstFault, StandFor, worker_text}
use Rattle.rb_script.specs.Simulation.{Simulates, BreaksOff}
use Rattle.rb_script.specs.declared.sim_command.SimFault.{SimFault}
use Rattle.rb_script.specs.declared.sim_command.SimFault.TheVariants.{Line, Memory, Device}

-- the script of the text was run with its workers' programs, and the lines of its turns were printed in the requested
-- form, followed by those of its workers and rings
pub record PrintsSim (form : LineForm) (draw : Bool) (text : List ℕ) (before after : Option (List ℕ)) : Type 0 where
  pub script : Script
  pub turns : List ℕ
  pub ends : List ℕ
  pub between : Option (List ℕ)
  pub stands : StandFor (lines_of text) script
  pub simulated : Simulates form draw script [] turns ends
  pub turns_printed : Appends before between turns
  pub ends_printed : Appends between after ends

-- memory ran out: nothing was printed, or the lines of the first turns of the text's script
pub record PrintsBeginning (form : LineForm) (draw : Bool) (text : List ℕ) (before after : Option (List ℕ)) : Type 0 where
  pub script : Script
  pub turns : List ℕ
  pub stands : StandFor (lines_of text) script
  pub broken_off : BreaksOff form draw script [] turns
  pub turns_printed : Appends before after turns

abbrev pub BreaksOffSim : LineForm → Bool → List ℕ → (before after : Option (List ℕ)) → Type 0
BreaksOffSim form draw text before after = Keeps before after ⊎ PrintsBeginning form draw text before after

-- no line of the text is at fault, and the first worker whose program is refused is on this line
pub record IsRefusedScript (text : List ℕ) (line : ℕ) : Type 0 where
  pub script : Script
  pub stands : StandFor (lines_of text) script
  pub first : IsFirstRefused (length script.rings.items) (map worker_text script.workers.items) line

-- the fault reported for the text: the first line at fault or, if there is none, the first line whose program is
-- refused
abbrev pub IsSimFaultOf : List ℕ → SimFault → Type 0
IsSimFaultOf text (Line line) = IsFirstFault (lines_of text) line ⊎ IsRefusedScript text line
IsSimFaultOf text Memory = Unit {0}
IsSimFaultOf text Device = Unit {0}

-- a line that is at fault, or the first whose program is refused, is reported unless memory ran out or the device
-- failed
abbrev pub IsTold : ℕ → Result (Unit {0}) SimFault → Type 0
IsTold line r = (r ≡ Err (Line line)) ⊎ ((r ≡ Err Memory) ⊎ (r ≡ Err Device))
