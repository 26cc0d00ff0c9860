-- What every turn preserves for a ring is preserved by a run.
use Rattle.std.proofs.Common.{◌≡◌, ℕ, suc, ◌+◌, List, [], ◌∷◌, ◌++◌, length, refl, sym, ap, subst, ◌∙◌, inl, inr, arith}
use Rattle.std.specs.List.{All}
use Rattle.std.proofs.lemmas.List.Elements.{All-head, All-tail}
use Rattle.rb_history.specs.declared.answers.Taken.{Taken}
use Rattle.rb_history.specs.Legal.{IsLegal}
use Rattle.rb_history.specs.Calls as ring
use Rattle.rb_world.specs.Worlds.{WorldRing, World, table_with}
use Rattle.rb_world.specs.CallsInWorld.{RingSteps}
use Rattle.rb_world.specs.declared.actor.Actor.{Actor}
use Rattle.rb_world.specs.declared.actor.Actor.TheVariants.{Worker, Consumer, Keeper}
use Rattle.rb_world.specs.Turns.{TurnEvent, Went, HandedOver, Ended, GotStuck, GotBack, Idle, Took, HandedChapter, NoMemory, taken_by, TakesConsumerTurn, TakesKeeperTurn, WorldStep, WorldRun}
use Rattle.rb_world.specs.OpeningWorld.{IsActor}
use Rattle.rb_world.specs.EveryInterleaving.{handed_at, IsReachedWorld}
use Rattle.rb_world.proofs.Tables.{eq_cases, placed-here, placed-else}
use Rattle.rb_world.proofs.RingSteps.{ledger, Keeps}
use Rattle.rb_world.proofs.WholeRuns.{after-reached, count-stays, leads-on}
use Rattle.rb_world.proofs.RingTurns.{Quiet, quiet-same, worker-turned}

-- the invariant of each ring of a reachable world
pub kept-at : (world : World) (x : IsReachedWorld world) (r : ℕ) → Keeps world.worker_count (ledger (handed_at r x.events) (world.rings r))
kept-at world x r = (after-reached world x).kept.rings r

abbrev pub IsLegalRing : WorldRing → Type 0
IsLegalRing b = IsLegal b.ring.setup b.ring.history

abbrev pub TakesOf : Taken → WorldRing → WorldRing → Type 0
TakesOf found old new = RingSteps (λ v v'. ring.Takes v v' found) (taken_by found) old new

-- a turn does to the ring with a number what a quiet turn does, or what a take does
pub data RingTurn (old new : WorldRing) : Type 0 where
  Quietly : Quiet old new → RingTurn old new
  ByTake : (found : Taken) → TakesOf found old new → RingTurn old new

module _ (old new : World) (r : ℕ) where
  unchanged : new ≡ old → RingTurn (old.rings r) (new.rings r)
  unchanged e = Quietly (quiet-same (old.rings r) (new.rings r) (ap (λ (w : World). w.rings r) e))

  consumer-turn : (s : ℕ) (event : TurnEvent) → TakesConsumerTurn s old event new → RingTurn (old.rings r) (new.rings r)
  consumer-turn s (Took found) (b, m, is) = subst (λ (w : World). RingTurn (old.rings r) (w.rings r)) (sym is) (elim (eq_cases r s) [
    | inl same ↦ ByTake found (subst (λ x. TakesOf found (old.rings r) x) (sym (placed-here s b old.rings r same.1)) (subst (λ i. TakesOf found (old.rings i) b) (sym same.1) m))
    | inr else ↦ Quietly (quiet-same (old.rings r) (table_with s b old.rings r) (placed-else s b old.rings r else.1))
  ])
  consumer-turn s NoMemory h = unchanged h
  consumer-turn s Went h = absurd h
  consumer-turn s (HandedOver t w p bytes) h = absurd h
  consumer-turn s (Ended n) h = absurd h
  consumer-turn s GotStuck h = absurd h
  consumer-turn s GotBack h = absurd h
  consumer-turn s Idle h = absurd h
  consumer-turn s HandedChapter h = absurd h

  keeper-turn : (event : TurnEvent) → TakesKeeperTurn old event new → RingTurn (old.rings r) (new.rings r)
  keeper-turn HandedChapter h = unchanged h
  keeper-turn NoMemory h = unchanged h
  keeper-turn (Took found) h = absurd h
  keeper-turn Went h = absurd h
  keeper-turn (HandedOver t w p bytes) h = absurd h
  keeper-turn (Ended n) h = absurd h
  keeper-turn GotStuck h = absurd h
  keeper-turn GotBack h = absurd h
  keeper-turn Idle h = absurd h

  pub ring-turn : ((s : ℕ) → IsLegalRing (old.rings s)) → (actor : Actor) (event : TurnEvent) → WorldStep old actor event new → RingTurn (old.rings r) (new.rings r)
  ring-turn legal (Worker w) event h = Quietly ((worker-turned old new legal w event (old.workers w).status h).rings r)
  ring-turn legal (Consumer s) event h = consumer-turn s event h
  ring-turn legal (Keeper s) event h = keeper-turn event h

-- a property of a ring with a counter that each turn increments holds after a run
module _ (P : ℕ → WorldRing → Type 0) (r : ℕ)
    (turns : (n : ℕ) (old new : WorldRing) → IsLegalRing old → RingTurn old new → P n old → P (n + 1) new) where
  pub along : (n : ℕ) (old new : World) (actors : List Actor) (events : List TurnEvent) → IsReachedWorld old → All (IsActor old.worker_count) actors → WorldRun old actors events new → P n (old.rings r) → P (n + length actors) (new.rings r)
  along n old new [] [] x all e h = let same : n ≡ n + 0 = omega arith in subst (λ m. P m (new.rings r)) same (subst (λ (w : World). P n (w.rings r)) (sym e) h)
  along n old new [] (event ∷ events) x all h p = absurd h
  along n old new (actor ∷ actors) [] x all h p = absurd h
  along n old new (actor ∷ actors) (event ∷ events) x all h p =
      let next : World = h.0 in
      let here : IsActor old.worker_count actor = All-head (IsActor old.worker_count) actor actors all in
      let reached : IsReachedWorld next = leads-on old next actor event x here h.1 in
      let count : next.worker_count ≡ old.worker_count = count-stays old next actor event x here h.1 in
      let first : P (n + 1) (next.rings r) = turns n (old.rings r) (next.rings r) (kept-at old x r).legal (ring-turn old next r (λ s. (kept-at old x s).legal) actor event h.1) p in
      let rest = along (n + 1) next new actors events reached (subst (λ m. All (IsActor m) actors) (sym count) (All-tail (IsActor old.worker_count) actor actors all)) h.2 first in
      let same : n + 1 + length actors ≡ n + suc (length actors) = omega arith in
      subst (λ m. P m (new.rings r)) same rest

-- ---- programs do not change

module _ (old new : World) where
  subject-of-consumer : (s : ℕ) (event : TurnEvent) → TakesConsumerTurn s old event new → (v : ℕ) → (new.workers v).subject ≡ (old.workers v).subject
  subject-of-consumer s (Took found) (b, m, is) v = ap (λ (w : World). (w.workers v).subject) is
  subject-of-consumer s NoMemory h v = ap (λ (w : World). (w.workers v).subject) h
  subject-of-consumer s Went h v = absurd h
  subject-of-consumer s (HandedOver t w p bytes) h v = absurd h
  subject-of-consumer s (Ended n) h v = absurd h
  subject-of-consumer s GotStuck h v = absurd h
  subject-of-consumer s GotBack h v = absurd h
  subject-of-consumer s Idle h v = absurd h
  subject-of-consumer s HandedChapter h v = absurd h

  subject-of-keeper : (event : TurnEvent) → TakesKeeperTurn old event new → (v : ℕ) → (new.workers v).subject ≡ (old.workers v).subject
  subject-of-keeper HandedChapter h v = ap (λ (w : World). (w.workers v).subject) h
  subject-of-keeper NoMemory h v = ap (λ (w : World). (w.workers v).subject) h
  subject-of-keeper (Took found) h v = absurd h
  subject-of-keeper Went h v = absurd h
  subject-of-keeper (HandedOver t w p bytes) h v = absurd h
  subject-of-keeper (Ended n) h v = absurd h
  subject-of-keeper GotStuck h v = absurd h
  subject-of-keeper GotBack h v = absurd h
  subject-of-keeper Idle h v = absurd h

  subject-of : ((s : ℕ) → IsLegalRing (old.rings s)) → (actor : Actor) (event : TurnEvent) → WorldStep old actor event new → (v : ℕ) → (new.workers v).subject ≡ (old.workers v).subject
  subject-of legal (Worker w) event h v = (worker-turned old new legal w event (old.workers w).status h).subjects v
  subject-of legal (Consumer s) event h v = subject-of-consumer s event h v
  subject-of legal (Keeper s) event h v = subject-of-keeper event h v

pub subjects-stay : (old new : World) (actors : List Actor) (events : List TurnEvent) → IsReachedWorld old → All (IsActor old.worker_count) actors → WorldRun old actors events new → (v : ℕ) → (new.workers v).subject ≡ (old.workers v).subject
subjects-stay old new [] [] x all e v = ap (λ (w : World). (w.workers v).subject) e
subjects-stay old new [] (event ∷ events) x all h v = absurd h
subjects-stay old new (actor ∷ actors) [] x all h v = absurd h
subjects-stay old new (actor ∷ actors) (event ∷ events) x all h v =
    let next : World = h.0 in
    let here : IsActor old.worker_count actor = All-head (IsActor old.worker_count) actor actors all in
    let reached : IsReachedWorld next = leads-on old next actor event x here h.1 in
    let count : next.worker_count ≡ old.worker_count = count-stays old next actor event x here h.1 in
    subjects-stay next new actors events reached (subst (λ m. All (IsActor m) actors) (sym count) (All-tail (IsActor old.worker_count) actor actors all)) h.2 v
    ∙ subject-of old next (λ s. (kept-at old x s).legal) actor event h.1 v

-- ---- a run split into two parts

-- the world between the two parts of a run, and what happened in each
pub record InTwo (old : World) (front back : List Actor) (events : List TurnEvent) (new : World) : Type 0 where
  pub mid : World
  pub first : List TurnEvent
  pub second : List TurnEvent
  pub events_are : events ≡ first ++ second
  pub to_mid : WorldRun old front first mid
  pub from_mid : WorldRun mid back second new

pub run-in-two : (old new : World) (front back : List Actor) (events : List TurnEvent) → WorldRun old (front ++ back) events new → InTwo old front back events new
run-in-two old new [] back events h = record { mid = old; first = []; second = events; events_are = refl; to_mid = refl; from_mid = h }
run-in-two old new (actor ∷ front) back [] h = absurd h
run-in-two old new (actor ∷ front) back (event ∷ events) h =
    let rest = run-in-two h.0 new front back events h.2 in
    record { mid = rest.mid; first = event ∷ rest.first; second = rest.second; events_are = ap (λ l. event ∷ l) rest.events_are; to_mid = (h.0, h.1, rest.to_mid); from_mid = rest.from_mid }
