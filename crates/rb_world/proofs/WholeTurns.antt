-- The turns of consumers and keepers, in a world whose rings keep chapters.
use Rattle.std.proofs.Common.{◌≡◌, ℕ, ◌<◌, length, map, get_or, set, refl, sym, ap, subst, ◌∙◌}
use Rattle.rb_world.specs.Worlds.{WorldRing}
use Rattle.rb_world.specs.Turns.{HandedChapter, NoMemory}
use Rattle.rb_world.specs.declared.actor.Actor.TheVariants.{Consumer, Keeper}
use Rattle.rb_world.specs.declared.turn_done.TurnDone.{TurnDone}
use Rattle.rb_world.specs.declared.turn_done.TurnDone.TheVariants as turn
use Rattle.rb_world.specs.WorldValue.{KeptRing, world_ring, WorldValue, whole_world, shown_world, no_ring, no_kept_ring, ring_at, world_of}
use Rattle.rb_world.specs.TurnsDone.{IsWholeTurn, IsTurnOf, HandsChapterOut, TurnsChaptersOf, chapters_of}
use Rattle.rb_world.specs.inner.WorkerTurn.{TakesOnce, KeepsChapter}
use Rattle.rb_world.specs.inner.FittingWorlds.{IsSoundWorld}
use Rattle.rb_world.proofs.ShownWorlds.{take-turn, at-default, set-get}
use Rattle.rb_world.proofs.SoundWorlds.{sound-after}
use Rattle.rb_world.proofs.MachineAnswers.{fits-rings}
use Rattle.rb_world.proofs.WholeLists.{map-low, map-there, map-at, map-set, map-set-same, setups-by-chapters}

-- a ring with its whole history is the world's ring
pub ring-shown : (v : WorldValue) (r : ℕ) → r < length v.rings → (world_of v).rings r ≡ world_ring (ring_at v r)
ring-shown v r low = map-at world_ring v.rings r no_kept_ring (no_ring (length v.machines)) low

module _ (v : WorldValue) (r : ℕ) (s s' : KeptRing) (done : TurnDone) (low : r < length v.rings) (there : s ≡ get_or v.rings r s) where
  abbrev after : WorldValue
  after = record v { rings = set v.rings r s' }

  pub consumer-turn : TakesOnce (world_ring s) done (world_ring s') → IsTurnOf (Consumer r) v done after
  consumer-turn takes =
      let whole = whole_world v in
      let here : world_ring s ≡ get_or whole.rings r (no_ring (length v.machines)) = at-default whole.rings r (world_ring s) (no_ring (length v.machines)) (map-low world_ring v.rings r low) (map-there world_ring v.rings r s there) in
      subst (λ l. IsWholeTurn (Consumer r) whole done (record whole { rings = l })) (sym (map-set world_ring v.rings r s'))
      (take-turn whole r (world_ring s') done (map-low world_ring v.rings r low) (subst (λ (b : WorldRing). TakesOnce b done (world_ring s')) here takes))

  pub consumer-sound : IsSoundWorld (whole_world v) → TakesOnce (world_ring s) done (world_ring s') → chapters_of s' ≡ chapters_of s → IsSoundWorld (whole_world after)
  consumer-sound sound takes same =
      sound-after (whole_world v) (whole_world after) (Consumer r) done sound tt (consumer-turn takes)
      (fits-rings (whole_world v) (map world_ring (set v.rings r s')) sound.fitting (setups-by-chapters (set v.rings r s') v.rings (map-set-same chapters_of v.rings r s s' there same)))

  pub consumer-chapters : chapters_of s' ≡ chapters_of s → TurnsChaptersOf (Consumer r) done v.rings (set v.rings r s')
  consumer-chapters same = map-set-same chapters_of v.rings r s s' there same

  whole-same : world_ring s' ≡ world_ring s → map world_ring (set v.rings r s') ≡ map world_ring v.rings
  whole-same same = map-set-same world_ring v.rings r s s' there same

  pub keeper-sound : IsSoundWorld (whole_world v) → world_ring s' ≡ world_ring s → IsSoundWorld (whole_world after)
  keeper-sound sound same = subst (λ l. IsSoundWorld (record { rings = l; machines = v.machines })) (sym (whole-same same)) sound

pub keeper-turn : (v : WorldValue) (r : ℕ) (s s' : KeptRing) (done : TurnDone) → s ≡ get_or v.rings r s → r < length v.rings → world_ring s' ≡ world_ring s → KeepsChapter s done s' → IsTurnOf (Keeper r) v done (record v { rings = set v.rings r s' })
keeper-turn v r s s' done there low same keeps = by_done done keeps
  where
    stays : shown_world (whole_world (record v { rings = set v.rings r s' })) ≡ shown_world (whole_world v)
    stays = ap (λ l. shown_world (record { rings = l; machines = v.machines })) (map-set-same world_ring v.rings r s s' there same)

    by_done : (d : TurnDone) → KeepsChapter s d s' → IsTurnOf (Keeper r) v d (record v { rings = set v.rings r s' })
    by_done (turn.Chapter n) k = (HandedChapter, tt, stays)
    by_done turn.Memory k = (NoMemory, tt, stays)
    by_done turn.Went k = absurd k
    by_done (turn.Finished n) k = absurd k
    by_done turn.Idle k = absurd k
    by_done turn.Took k = absurd k
    by_done turn.Skipped k = absurd k
    by_done turn.BusyFront k = absurd k
    by_done turn.Empty k = absurd k

pub keeper-chapters : (v : WorldValue) (r : ℕ) (s s' : KeptRing) (done : TurnDone) → s ≡ get_or v.rings r s → r < length v.rings → KeepsChapter s done s' → TurnsChaptersOf (Keeper r) done v.rings (set v.rings r s')
keeper-chapters v r s s' done there low keeps = by_done done keeps
  where
    by_done : (d : TurnDone) → KeepsChapter s d s' → TurnsChaptersOf (Keeper r) d v.rings (set v.rings r s')
    by_done (turn.Chapter n) k = (s', subst (λ (u : KeptRing). HandsChapterOut n u s') (at-default v.rings r s no_kept_ring low there) k, refl)
    by_done turn.Memory k = ap (set v.rings r) (k ∙ there) ∙ set-get v.rings r s
    by_done turn.Went k = absurd k
    by_done (turn.Finished n) k = absurd k
    by_done turn.Idle k = absurd k
    by_done turn.Took k = absurd k
    by_done turn.Skipped k = absurd k
    by_done turn.BusyFront k = absurd k
    by_done turn.Empty k = absurd k
