-- The model world that a world represents, after one ring or one worker changed.
use Rattle.std.proofs.Common.{◌≡◌, ℕ, ◌<◌, List, [], ◌∷◌, ◌++◌, length, get_or, set, refl, sym, ap, subst, ◌∙◌, inl, inr, get_or-set_same, get_or-set_other}
use Rattle.std.proofs.lemmas.Bool.{cases_eq, eq-eqb, ne_eqb}
use Rattle.rb_history.specs.declared.answers.Taken.{Taken}
use Rattle.rb_history.specs.RingModel.{Ring, StandsFor}
use Rattle.rb_history.specs.Calls.{Takes}
use Rattle.rb_history.proofs.Row.{get_or-default}
use Rattle.rb_world.specs.Worlds.{with_ring, table_with, WorldRing}
use Rattle.rb_world.specs.Turns.{TurnEvent, Went, HandedOver, Ended, GotStuck, GotBack, Idle, Took, HandedChapter, NoMemory, WorldStep, taken_by}
use Rattle.rb_world.specs.declared.actor.Actor.TheVariants.{Consumer}
use Rattle.rb_world.specs.declared.turn_done.TurnDone.{TurnDone}
use Rattle.rb_world.specs.declared.turn_done.TurnDone.TheVariants as turn
use Rattle.rb_world.specs.WorldValue.{WholeWorld, shown_world, no_ring}
use Rattle.rb_world.specs.TurnsDone.{TellsEvent, IsWholeTurn}
use Rattle.rb_world.specs.inner.WorkerTurn.{DoesTake, TakesOnce}

module _ (body : WholeWorld) (r : ℕ) (s : WorldRing) (inside : r < length body.rings) where
  book-at : (j : ℕ) → (shown_world (record body { rings = set body.rings r s })).rings j ≡ table_with r s (shown_world body).rings j
  book-at j = elim (cases_eq j r) [
    | inl same ↦ rw (eq-eqb j r same) (ap (λ i. (shown_world (record body { rings = set body.rings r s })).rings i) same ∙ (get_or-set_same body.rings r s (no_ring (length body.machines)) inside))
    | inr else ↦ rw (ne_eqb j r else) ((get_or-set_other body.rings r j s (no_ring (length body.machines)) else))
  ]

  -- one ring is replaced
  pub shown-book : shown_world (record body { rings = set body.rings r s }) ≡ with_ring r s (shown_world body)
  shown-book = ap (λ rings. record (shown_world body) { rings = rings }) (λ i j. book-at j i)

pub set-get : {X : Type 0} (xs : List X) (r : ℕ) (d : X) → set xs r (get_or xs r d) ≡ xs
set-get [] r d = refl
set-get (x ∷ xs) ℕ.zero d = refl
set-get (x ∷ xs) (ℕ.suc r) d = ap (λ l. x ∷ l) (set-get xs r d)

-- one take's effect on the ring is a turn of its consumer
pub take-turn : (body : WholeWorld) (r : ℕ) (s : WorldRing) (done : TurnDone) → r < length body.rings → TakesOnce (get_or body.rings r (no_ring (length body.machines))) done s → IsWholeTurn (Consumer r) body done (record body { rings = set body.rings r s })
take-turn body r s done inside (event, tells, does) = (event, tells, by_done event does)
  where
    by_done : (event : TurnEvent) → DoesTake event (get_or body.rings r (no_ring (length body.machines))) s → WorldStep (shown_world body) (Consumer r) event (shown_world (record body { rings = set body.rings r s }))
    by_done (Took found) d = (s, record { stepped = d.0; stands = d.1; taken_are = d.2 }, shown-book body r s inside)
    by_done NoMemory d = ap (λ l. shown_world (record body { rings = l })) (ap (set body.rings r) d ∙ set-get body.rings r (no_ring (length body.machines)))
    by_done Went d = absurd d
    by_done (HandedOver ring worker pos bytes) d = absurd d
    by_done (Ended n) d = absurd d
    by_done GotStuck d = absurd d
    by_done GotBack d = absurd d
    by_done Idle d = absurd d
    by_done HandedChapter d = absurd d

pub took : (before : WorldRing) (v w : Ring) (items items' : List Taken) (found : Taken) (done : TurnDone) → before ≡ record { ring = v; taken = items } → Takes v w found → StandsFor w → items' ≡ items ++ taken_by found → TellsEvent done (Took found)
    → TakesOnce before done (record { ring = w; taken = items' })
took before v w items items' found done is takes stands more tells =
    (Took found, tells, (subst (λ (s : WorldRing). Takes s.ring w found) (sym is) takes, stands, more ∙ ap (λ (s : WorldRing). s.taken ++ taken_by found) (sym is)))

pub refused-take : (before : WorldRing) (v : Ring) (items items' : List Taken) → before ≡ record { ring = v; taken = items } → items' ≡ items → TakesOnce before turn.Memory (record { ring = v; taken = items' })
refused-take before v items items' is same = (NoMemory, tt, ap (λ l. record { ring = v; taken = l }) same ∙ sym is)

-- an element in range does not depend on the default
pub at-default : {X : Type 0} (xs : List X) (i : ℕ) (x d : X) → i < length xs → x ≡ get_or xs i x → x ≡ get_or xs i d
at-default xs i x d lt e = e ∙ get_or-default xs i x d lt
