-- The lines of turns, in sequence.
use Rattle.std.specs.Prelude.{slice_get}
use Rattle.std.proofs.Common.{◌≡◌, ℕ, Bool, ◌+◌, ◌-◌, ◌<◌, Some, None, arith, List, [], ◌∷◌, ◌++◌, length, take, get_or, refl, sym, ap, subst, ◌∙◌, append-nil, append_assoc}
use Rattle.std.specs.List.{AllZip}
use Rattle.std.proofs.lemmas.List.{take_more}
use Rattle.rb_history.specs.declared.answers.Taken.{Taken}
use Rattle.rb_history.specs.declared.answers.Taken.TheVariants.{Event, Skipped, BusyFront, Empty}
use Rattle.rb_world.specs.declared.actor.Actor.{Actor}
use Rattle.rb_world.specs.declared.actor.Actor.TheVariants.{Worker, Consumer, Keeper}
use Rattle.rb_world.specs.Worlds.{WorldRing, World, table_with}
use Rattle.rb_world.specs.Turns.{TurnEvent, Went, HandedOver, Ended, GotStuck, GotBack, Idle, Took, HandedChapter, NoMemory, WorldStep, WorldRun, TakesConsumerTurn, taken_by}
use Rattle.std.proofs.lemmas.Bool.{eq-eqb}
use Rattle.rb_world.proofs.WholeRuns.{run-push}
use Rattle.rb_world.specs.declared.turn_done.TurnDone.{TurnDone}
use Rattle.rb_world.specs.declared.turn_done.TurnDone.TheVariants as turn
use Rattle.rb_world.specs.WorldValue.{WorldValue, world_of}
use Rattle.rb_world.specs.TurnsDone.{TellsEvent, IsTurnOf, TurnsChaptersOf}
use Rattle.rb_world.specs.RecordReasons.{TurnHasReasons}
use Rattle.rb_world.proofs.Runs.{tell-push, turns-push}
use Rattle.rb_json.specs.declared.form.LineForm.{LineForm}
use Rattle.rb_script.specs.OutputLines.{take_line}
use Rattle.rb_script.specs.Simulation.{PassesWorlds, drawings, turn_text, turns_text, WritesRun}
use Rattle.rb_script.specs.inner.ShownTurns.{last_line, consumer_text, keeper_text, shown_text}

pub last-pushed : (form : LineForm) (r : ℕ) (taken : List Taken) (found : Taken) → last_line form r (taken ++ found ∷ []) ≡ take_line form r found
last-pushed form r [] found = refl
last-pushed form r (t ∷ []) found = refl
last-pushed form r (t ∷ u ∷ taken) found = last-pushed form r (u ∷ taken) found

-- the line of the last element
last-at : (form : LineForm) (r : ℕ) (taken : List Taken) (i : ℕ) (found : Taken) → ℕ.suc i ≡ length taken → Some found ≡ slice_get taken i → last_line form r taken ≡ take_line form r found
last-at form r [] i found n e = absurd (omega arith)
last-at form r (t ∷ []) ℕ.zero found n e = let same : found ≡ t = cc in ap (take_line form r) (sym same)
last-at form r (t ∷ []) (ℕ.suc i) found n e = absurd (omega arith)
last-at form r (t ∷ u ∷ taken) ℕ.zero found n e = absurd (omega arith)
last-at form r (t ∷ u ∷ taken) (ℕ.suc i) found n e = last-at form r (u ∷ taken) i found (omega arith) e

pub last-found : (form : LineForm) (r : ℕ) (taken : List Taken) (found : Taken) → Some found ≡ slice_get taken (length taken - 1) → last_line form r taken ≡ take_line form r found
last-found form r [] found e = absurd (let no : Some found ≡ None = e in cc)
last-found form r (t ∷ taken) found e = last-at form r (t ∷ taken) (length (t ∷ taken) - 1) found (omega arith) e

-- what was taken from the ring after a take
taken-now : (old new : World) (r : ℕ) (found : Taken) → TakesConsumerTurn r old (Took found) new → (new.rings r).taken ≡ (old.rings r).taken ++ taken_by found
taken-now old new r found (b, m, e) = ap (λ (world : World). (world.rings r).taken) e ∙ (ap (λ (s : WorldRing). s.taken) (placed-here-now b) ∙ m.taken_are)
  where
    placed-here-now : (b : WorldRing) → table_with r b old.rings r ≡ b
    placed-here-now b = rw (eq-eqb r r refl) refl

module _ (form : LineForm) (r : ℕ) (old new : World) where
  took-shown : (done : TurnDone) (found : Taken) → TellsEvent done (Took found) → TakesConsumerTurn r old (Took found) new → consumer_text form r done (new.rings r).taken ≡ take_line form r found
  took-shown turn.Went (Event p w k bytes) tells step = absurd tells
  took-shown (turn.Finished n) (Event p w k bytes) tells step = absurd tells
  took-shown turn.Idle (Event p w k bytes) tells step = absurd tells
  took-shown turn.Took (Event p w k bytes) tells step = ap (last_line form r) (taken-now old new r (Event p w k bytes) step) ∙ last-pushed form r (old.rings r).taken (Event p w k bytes)
  took-shown turn.Skipped (Event p w k bytes) tells step = absurd tells
  took-shown turn.BusyFront (Event p w k bytes) tells step = absurd tells
  took-shown turn.Empty (Event p w k bytes) tells step = absurd tells
  took-shown (turn.Chapter n) (Event p w k bytes) tells step = absurd tells
  took-shown turn.Memory (Event p w k bytes) tells step = absurd tells
  took-shown turn.Went (Skipped p m) tells step = absurd tells
  took-shown (turn.Finished n) (Skipped p m) tells step = absurd tells
  took-shown turn.Idle (Skipped p m) tells step = absurd tells
  took-shown turn.Took (Skipped p m) tells step = absurd tells
  took-shown turn.Skipped (Skipped p m) tells step = ap (last_line form r) (taken-now old new r (Skipped p m) step) ∙ last-pushed form r (old.rings r).taken (Skipped p m)
  took-shown turn.BusyFront (Skipped p m) tells step = absurd tells
  took-shown turn.Empty (Skipped p m) tells step = absurd tells
  took-shown (turn.Chapter n) (Skipped p m) tells step = absurd tells
  took-shown turn.Memory (Skipped p m) tells step = absurd tells
  took-shown turn.Went BusyFront tells step = absurd tells
  took-shown (turn.Finished n) BusyFront tells step = absurd tells
  took-shown turn.Idle BusyFront tells step = absurd tells
  took-shown turn.Took BusyFront tells step = absurd tells
  took-shown turn.Skipped BusyFront tells step = absurd tells
  took-shown turn.BusyFront BusyFront tells step = refl
  took-shown turn.Empty BusyFront tells step = absurd tells
  took-shown (turn.Chapter n) BusyFront tells step = absurd tells
  took-shown turn.Memory BusyFront tells step = absurd tells
  took-shown turn.Went Empty tells step = absurd tells
  took-shown (turn.Finished n) Empty tells step = absurd tells
  took-shown turn.Idle Empty tells step = absurd tells
  took-shown turn.Took Empty tells step = absurd tells
  took-shown turn.Skipped Empty tells step = absurd tells
  took-shown turn.BusyFront Empty tells step = absurd tells
  took-shown turn.Empty Empty tells step = refl
  took-shown (turn.Chapter n) Empty tells step = absurd tells
  took-shown turn.Memory Empty tells step = absurd tells

  none-shown : (done : TurnDone) → TellsEvent done NoMemory → consumer_text form r done (new.rings r).taken ≡ []
  none-shown turn.Went tells = absurd tells
  none-shown (turn.Finished n) tells = absurd tells
  none-shown turn.Idle tells = absurd tells
  none-shown turn.Took tells = absurd tells
  none-shown turn.Skipped tells = absurd tells
  none-shown turn.BusyFront tells = absurd tells
  none-shown turn.Empty tells = absurd tells
  none-shown (turn.Chapter n) tells = absurd tells
  none-shown turn.Memory tells = refl

  keeper-shown : (done : TurnDone) (event : TurnEvent) → TellsEvent done event → keeper_text form r done ≡ turn_text form (Keeper r) done event
  keeper-shown turn.Went event tells = refl
  keeper-shown (turn.Finished n) event tells = refl
  keeper-shown turn.Idle event tells = refl
  keeper-shown turn.Took event tells = refl
  keeper-shown turn.Skipped event tells = refl
  keeper-shown turn.BusyFront event tells = refl
  keeper-shown turn.Empty event tells = refl
  keeper-shown (turn.Chapter n) event tells = refl
  keeper-shown turn.Memory event tells = refl

-- the line from what is visible is the line of what happened
pub shown-is : (form : LineForm) (actor : Actor) (old new : World) (done : TurnDone) (event : TurnEvent) → TellsEvent done event → WorldStep old actor event new → shown_text form actor done new ≡ turn_text form actor done event
shown-is form (Worker w) old new done event tells step = refl
shown-is form (Keeper r) old new done event tells step = keeper-shown form r old new done event tells
shown-is form (Consumer r) old new done (Took found) tells step = took-shown form r old new done found tells step
shown-is form (Consumer r) old new done NoMemory tells step = none-shown form r old new done tells
shown-is form (Consumer r) old new done Went tells step = absurd step
shown-is form (Consumer r) old new done (HandedOver s w p bytes) tells step = absurd step
shown-is form (Consumer r) old new done (Ended n) tells step = absurd step
shown-is form (Consumer r) old new done GotStuck tells step = absurd step
shown-is form (Consumer r) old new done GotBack tells step = absurd step
shown-is form (Consumer r) old new done Idle tells step = absurd step
shown-is form (Consumer r) old new done HandedChapter tells step = absurd step

-- ---- one more turn

text-push : (form : LineForm) (draw : Bool) (old new : World) (first last : WorldValue) (actors : List Actor) (dones : List TurnDone) (events : List TurnEvent) (worlds : List WorldValue) (actor : Actor) (done : TurnDone) (event : TurnEvent) (world : WorldValue)
    → AllZip TellsEvent dones events → WorldRun old actors events new → PassesWorlds actors first dones worlds last
    → turns_text form draw (actors ++ actor ∷ []) (dones ++ done ∷ []) (events ++ event ∷ []) (worlds ++ world ∷ []) ≡ turns_text form draw actors dones events worlds ++ (turn_text form actor done event ++ drawings form draw world)
text-push form draw old new first last [] [] [] [] actor done event world told run passed = append-nil (turn_text form actor done event ++ drawings form draw world)
text-push form draw old new first last [] [] [] (w ∷ worlds) actor done event world told run passed = absurd passed
text-push form draw old new first last [] (d ∷ dones) [] worlds actor done event world told run passed = absurd told
text-push form draw old new first last [] dones (e ∷ events) worlds actor done event world told run passed = absurd run
text-push form draw old new first last (a ∷ actors) dones [] worlds actor done event world told run passed = absurd run
text-push form draw old new first last (a ∷ actors) [] (e ∷ events) worlds actor done event world told run passed = absurd told
text-push form draw old new first last (a ∷ actors) (d ∷ dones) (e ∷ events) [] actor done event world told run passed = absurd passed
text-push form draw old new first last (a ∷ actors) (d ∷ dones) (e ∷ events) (w ∷ worlds) actor done event world told run passed =
    ap (λ l. turn_text form a d e ++ drawings form draw w ++ l) (text-push form draw run.0 new w last actors dones events worlds actor done event world told.1 run.2 passed.2)
    ∙ sym (append_assoc (turn_text form a d e ++ drawings form draw w) (turns_text form draw actors dones events worlds) (turn_text form actor done event ++ drawings form draw world))

passed-push : (actors : List Actor) (old mid new : WorldValue) (dones : List TurnDone) (worlds : List WorldValue) (actor : Actor) (done : TurnDone) → PassesWorlds actors old dones worlds mid → IsTurnOf actor mid done new → TurnsChaptersOf actor done mid.rings new.rings
    → PassesWorlds (actors ++ actor ∷ []) old (dones ++ done ∷ []) (worlds ++ new ∷ []) new
passed-push [] old mid new [] [] actor done same turned chapters = (subst (λ (v : WorldValue). IsTurnOf actor v done new) same turned, subst (λ (v : WorldValue). TurnsChaptersOf actor done v.rings new.rings) same chapters, refl)
passed-push [] old mid new [] (w ∷ worlds) actor done before turned chapters = absurd before
passed-push [] old mid new (d ∷ dones) worlds actor done before turned chapters = absurd before
passed-push (a ∷ actors) old mid new [] worlds actor done before turned chapters = absurd before
passed-push (a ∷ actors) old mid new (d ∷ dones) [] actor done before turned chapters = absurd before
passed-push (a ∷ actors) old mid new (d ∷ dones) (w ∷ worlds) actor done before turned chapters = (before.0, before.1, passed-push actors w mid new dones worlds actor done before.2 turned chapters)

-- a line that was written to a buffer of its own and then appended to the text
pub line-joined : (text cleared line shown joined : List ℕ) → cleared ≡ [] → line ≡ cleared ++ shown → joined ≡ text ++ line → joined ≡ text ++ shown
line-joined text cleared line shown joined none wrote more = more ∙ ap (λ l. text ++ l) (wrote ∙ ap (λ l. l ++ shown) none)

pub writes-none : (form : LineForm) (draw : Bool) (v : WorldValue) (text : List ℕ) → WritesRun form draw [] v v text text
writes-none form draw v text = record { dones = []; events = []; told = tt; run = refl; turns = refl; worlds = []; passed = refl; text_is = sym (append-nil text) }

pub writes-more : (form : LineForm) (draw : Bool) (actors : List Actor) (i : ℕ) (d : Actor) (old mid new : WorldValue) (before between after : List ℕ) (done : TurnDone) → i < length actors → WritesRun form draw (take i actors) old mid before between → IsTurnOf (get_or actors i d) mid done new
    → TurnsChaptersOf (get_or actors i d) done mid.rings new.rings → TurnHasReasons (get_or actors i d) mid new → after ≡ between ++ (shown_text form (get_or actors i d) done (world_of new) ++ drawings form draw new) → WritesRun form draw (take (i + 1) actors) old new before after
writes-more form draw actors i d old mid new before between after done low w turned chapters reasons wrote =
    let actor = get_or actors i d in
    let event = turned.0 in
    subst (λ l. WritesRun form draw l old new before after) (sym (take_more actors i d low)) (record {
      dones = w.dones ++ done ∷ [];
      events = w.events ++ event ∷ [];
      told = tell-push w.dones w.events done event w.told turned.1;
      run = run-push (world_of old) (world_of mid) (world_of new) (take i actors) w.events actor event w.run turned.2;
      turns = turns-push (take i actors) old mid new w.dones actor done w.turns turned chapters reasons;
      worlds = w.worlds ++ new ∷ [];
      passed = passed-push (take i actors) old mid new w.dones w.worlds actor done w.passed turned chapters;
      text_is =
          wrote
          ∙ (ap (λ t. between ++ (t ++ drawings form draw new)) (shown-is form actor (world_of mid) (world_of new) done event turned.1 turned.2)
          ∙ (ap (λ t. t ++ (turn_text form actor done event ++ drawings form draw new)) w.text_is
          ∙ (append_assoc before (turns_text form draw (take i actors) w.dones w.events w.worlds) (turn_text form actor done event ++ drawings form draw new)
          ∙ ap (λ t. before ++ t) (sym (text-push form draw (world_of old) (world_of mid) old mid (take i actors) w.dones w.events w.worlds actor done event new w.told w.run w.passed)))));
    })
