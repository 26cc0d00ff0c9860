-- The line of a turn, from what is visible in the world after it.
use Rattle.std.specs.Prelude.{ℕ, List, [], ◌∷◌}
use Rattle.rb_history.specs.declared.answers.Taken.{Taken}
use Rattle.rb_history.specs.declared.answers.Taken.TheVariants.{BusyFront, Empty}
use Rattle.rb_world.specs.declared.actor.Actor.{Actor}
use Rattle.rb_world.specs.declared.actor.Actor.TheVariants.{Worker, Consumer, Keeper}
use Rattle.rb_world.specs.Worlds.{World}
use Rattle.rb_world.specs.declared.turn_done.TurnDone.{TurnDone}
use Rattle.rb_world.specs.declared.turn_done.TurnDone.TheVariants as turn
use Rattle.rb_json.specs.declared.form.LineForm.{LineForm}
use Rattle.rb_script.specs.OutputLines.{take_line, chapter_line}

-- the line of the last record taken
abbrev pub last_line : LineForm → ℕ → List Taken → List ℕ
last_line form r [] = []
last_line form r (found ∷ []) = take_line form r found
last_line form r (found ∷ next ∷ more) = last_line form r (next ∷ more)

abbrev pub consumer_text : LineForm → ℕ → TurnDone → List Taken → List ℕ
consumer_text form r turn.Took taken = last_line form r taken
consumer_text form r turn.Skipped taken = last_line form r taken
consumer_text form r turn.BusyFront taken = take_line form r BusyFront
consumer_text form r turn.Empty taken = take_line form r Empty
consumer_text form r done taken = []

abbrev pub keeper_text : LineForm → ℕ → TurnDone → List ℕ
keeper_text form r (turn.Chapter n) = chapter_line form r n
keeper_text form r done = []

abbrev pub shown_text : LineForm → Actor → TurnDone → World → List ℕ
shown_text form (Worker w) done world = []
shown_text form (Consumer r) done world = consumer_text form r done (world.rings r).taken
shown_text form (Keeper r) done world = keeper_text form r done
