-- Runs, turn by turn.
use Rattle.std.proofs.Common.{◌≡◌, ℕ, ◌+◌, ◌<◌, List, [], ◌∷◌, ◌++◌, length, take, get_or, refl, sym, subst, arith}
use Rattle.std.specs.Prelude.{All}
use Rattle.std.specs.List.{AllZip}
use Rattle.std.proofs.lemmas.List.{take_more}
use Rattle.std.proofs.lemmas.List.Elements.{All-head, All-tail}
use Rattle.rb_world.specs.declared.actor.Actor.{Actor}
use Rattle.rb_world.specs.declared.actor.Actor.TheVariants.{Worker, Consumer, Keeper}
use Rattle.rb_world.specs.Turns.{TurnEvent, WorldRun}
use Rattle.rb_world.proofs.WholeRuns.{run-push}
use Rattle.rb_world.specs.declared.turn_done.TurnDone.{TurnDone}
use Rattle.rb_world.specs.WorldValue.{WorldValue, world_of, IsThere}
use Rattle.rb_world.specs.RecordReasons.{TurnHasReasons}
use Rattle.rb_world.specs.TurnsDone.{TellsEvent, IsTurnOf, TurnsChaptersOf}
use Rattle.rb_world.specs.WorldRuns.{IsFirstUnknown, IsRunOf, TakesTurns}

pub tell-push : (dones : List TurnDone) (events : List TurnEvent) (done : TurnDone) (event : TurnEvent) → AllZip TellsEvent dones events → TellsEvent done event → AllZip TellsEvent (dones ++ done ∷ []) (events ++ event ∷ [])
tell-push [] [] done event h t = (t, tt)
tell-push [] (e ∷ events) done event h t = absurd h
tell-push (d ∷ dones) [] done event h t = absurd h
tell-push (d ∷ dones) (e ∷ events) done event h t = (h.0, tell-push dones events done event h.1 t)

-- one more turn
pub run-more : (actors : List Actor) (i : ℕ) (d : Actor) (old mid new : WorldValue) (dones : List TurnDone) (done : TurnDone) → i < length actors → IsRunOf (take i actors) old dones mid → IsTurnOf (get_or actors i d) mid done new → IsRunOf (take (i + 1) actors) old (dones ++ done ∷ []) new
run-more actors i d old mid new dones done low run turned = (
  run.0 ++ turned.0 ∷ [],
  tell-push dones run.0 done turned.0 run.1 turned.1,
  subst (λ l. WorldRun (world_of old) l (run.0 ++ turned.0 ∷ []) (world_of new)) (sym (take_more actors i d low))
      (run-push (world_of old) (world_of mid) (world_of new) (take i actors) run.0 (get_or actors i d) turned.0 run.2 turned.2),
)

pub turns-push : (actors : List Actor) (old mid new : WorldValue) (dones : List TurnDone) (actor : Actor) (done : TurnDone) → TakesTurns actors old dones mid → IsTurnOf actor mid done new → TurnsChaptersOf actor done mid.rings new.rings → TurnHasReasons actor mid new → TakesTurns (actors ++ actor ∷ []) old (dones ++ done ∷ []) new
turns-push [] old mid new [] actor done same turned chapters reasons = (
  new,
  subst (λ (v : WorldValue). IsTurnOf actor v done new) same turned,
  subst (λ (v : WorldValue). TurnsChaptersOf actor done v.rings new.rings) same chapters,
  subst (λ (v : WorldValue). TurnHasReasons actor v new) same reasons,
  refl,
)
turns-push [] old mid new (d ∷ dones) actor done before turned chapters reasons = absurd before
turns-push (a ∷ actors) old mid new [] actor done before turned chapters reasons = absurd before
turns-push (a ∷ actors) old mid new (d ∷ dones) actor done before turned chapters reasons =
    (before.0, before.1, before.2, before.3, turns-push actors before.0 mid new dones actor done before.4 turned chapters reasons)

-- one more turn, in the world that the previous turns left
pub turns-more : (actors : List Actor) (i : ℕ) (d : Actor) (old mid new : WorldValue) (dones : List TurnDone) (done : TurnDone) → i < length actors → TakesTurns (take i actors) old dones mid → IsTurnOf (get_or actors i d) mid done new
    → TurnsChaptersOf (get_or actors i d) done mid.rings new.rings → TurnHasReasons (get_or actors i d) mid new → TakesTurns (take (i + 1) actors) old (dones ++ done ∷ []) new
turns-more actors i d old mid new dones done low before turned chapters reasons =
    subst (λ l. TakesTurns l old (dones ++ done ∷ []) new) (sym (take_more actors i d low)) (turns-push (take i actors) old mid new dones (get_or actors i d) done before turned chapters reasons)

-- the first actor that does not exist
pub first-at : (v : WorldValue) (actors : List Actor) (i : ℕ) (d : Actor) → All (IsThere v) (take i actors) → i < length actors → (IsThere v (get_or actors i d) → ⊥) → IsFirstUnknown v actors i
first-at v [] i d all low fails = absurd (omega arith)
first-at v (a ∷ actors) ℕ.zero d all low fails = fails
first-at v (a ∷ actors) (ℕ.suc i) d all low fails = (All-head (IsThere v) a (take i actors) all, first-at v actors i d (All-tail (IsThere v) a (take i actors) all) (omega arith) fails)

-- the same actors exist in a world with as many workers and rings
pub there-still : (old new : WorldValue) (actor : Actor) → length new.machines ≡ length old.machines → length new.rings ≡ length old.rings → IsThere old actor → IsThere new actor
there-still old new (Worker w) workers rings there = subst (λ n. w < n) (sym workers) there
there-still old new (Consumer r) workers rings there = subst (λ n. r < n) (sym rings) there
there-still old new (Keeper r) workers rings there = subst (λ n. r < n) (sym rings) there
