-- What was printed of a script's run, after the lines of its turns and of its end were written.
use Rattle.std.proofs.Common.{Bool, ◌≡◌, ℕ, List, [], Result, Ok, Err, subst}
use Rattle.std.specs.Prelude.{Option, OnOk}
use Rattle.std.specs.Io.KnownBytes.{Appends}
use Rattle.rb_json.specs.declared.form.LineForm.{LineForm}
use Rattle.rb_script.specs.declared.script.Script.{Script}
use Rattle.rb_script.specs.ScriptText.{lines_of}
use Rattle.rb_script.specs.Scripts.{StandFor}
use Rattle.rb_script.specs.Simulation.{Simulates}
use Rattle.rb_script.specs.declared.sim_command.SimFault.{SimFault}
use Rattle.rb_script.specs.Simulated.{PrintsSim}

-- the slices that were printed are the run's lines
pub prints_run : (form : LineForm) (draw : Bool) (text : List ℕ) (script : Script) (none turns ends turns_lent ends_lent : List ℕ) (before between after : Option (List ℕ)) (r : Result (Unit {0}) SimFault) → StandFor (lines_of text) script → none ≡ [] → Simulates form draw script none turns ends → turns_lent ≡ turns → ends_lent ≡ ends → Appends before between turns_lent → OnOk r (Appends between after ends_lent) → OnOk r (PrintsSim form draw text before after)
prints_run form draw text script none turns ends turns_lent ends_lent before between after (Ok done) stands empty ran same_turns same_ends first second = record {
  script = script;
  turns = turns;
  ends = ends;
  between = between;
  stands = stands;
  simulated = subst (λ old. Simulates form draw script old turns ends) empty ran;
  turns_printed = subst (Appends before between) same_turns first;
  ends_printed = subst (Appends between after) same_ends second;
}
prints_run form draw text script none turns ends turns_lent ends_lent before between after (Err fault) stands empty ran same_turns same_ends first second = tt
