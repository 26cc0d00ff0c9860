use Rattle.std.proofs.Common.{◌<◌, length, map, set, ap, sym, subst, ◌∙◌}
use Rattle.rb_world.specs.declared.actor.Actor.TheVariants.{Worker}
use Rattle.rb_world.specs.RecordReasons.{HasReasons, TurnHasReasons}
use Rattle.rb_world.specs.WorldValue.{world_ring, WorldValue, no_worker, whole_world, worker_of}
use Rattle.rb_world.specs.TurnsDone.{IsTurnOf}
use Rattle.rb_world.specs.inner.FittingWorlds.{AreOwn, IsSoundWorld}
use Rattle.rb_world.proofs.MachineAnswers.{fits-worker, fits-rings}
use Rattle.rb_world.proofs.WholeLists.{length-by-chapters, map-at, map-length, setups-by-chapters}
use Rattle.rb_world.proofs.SoundWorlds.{sound-after}
use Rattle.rb_world.proofs.HeldInHands.{still-tagged, tags-by-chapters, worker-in-hand}
use Rattle.rb_world.proofs.world.World.turn_worker.Goals as goal

pub returns-clause-turned : goal.returns-clause-turned
returns-clause-turned c =
    let inside : WorldValue = record { rings = c.self.inside.rings.items; machines = c.self.inside.machines.items } in
    let low : c.args.w < length inside.machines = subst (λ (b : WorldValue). c.args.w < length b.machines) (sym c.self.view_is) c.requires.worker in
    subst (λ (b : WorldValue). IsTurnOf (Worker c.args.w) b c.work.result (record { rings = c.work.new.rings.items; machines = set inside.machines c.args.w c.work.new.machine })) c.self.view_is
    (c.work.ensures.turned inside.machines low c.index_mut.ensures.value)

pub invariant_of-self : goal.invariant_of-self
invariant_of-self c =
    let inside : WorldValue = record { rings = c.self.inside.rings.items; machines = c.self.inside.machines.items } in
    let new : WorldValue = record { rings = c.work.new.rings.items; machines = set inside.machines c.args.w c.work.new.machine } in
    let low : c.args.w < length inside.machines = subst (λ (b : WorldValue). c.args.w < length b.machines) (sym c.self.view_is) c.requires.worker in
    let sound : IsSoundWorld (whole_world inside) = c.self.invariant.sound in
    let long = length-by-chapters c.work.new.rings.items inside.rings c.work.ensures.chapters in
    let after : IsSoundWorld (whole_world new) =
    sound-after (whole_world inside) (whole_world new) (Worker c.args.w) c.work.result sound low (c.work.ensures.turned inside.machines low c.index_mut.ensures.value)
    (fits-worker (whole_world (record inside { rings = c.work.new.rings.items })) c.args.w c.index_mut.result.now c.work.new.machine
    (fits-rings (whole_world inside) (map world_ring c.work.new.rings.items) sound.fitting (setups-by-chapters c.work.new.rings.items inside.rings c.work.ensures.chapters)) low c.index_mut.ensures.value c.work.ensures.program
    (subst (λ n. AreOwn c.args.w n c.work.new.machine.records) (sym (map-length world_ring c.work.new.rings.items)) c.work.ensures.own)) in
    record {
      sound = after;
      in_hand = worker-in-hand inside c.work.new.rings.items c.args.w c.index_mut.result.now c.work.new.machine c.self.invariant.in_hand low c.index_mut.ensures.value after long c.work.ensures.hands c.work.ensures.held;
      tagged = still-tagged inside c.work.new.rings.items new.machines c.self.invariant.tagged (tags-by-chapters c.work.new.rings.items inside.rings c.work.ensures.chapters);
    }

pub work-requires-clause-in_hand : goal.work-requires-clause-in_hand
work-requires-clause-in_hand c =
    let inside : WorldValue = record { rings = c.self.inside.rings.items; machines = c.self.inside.machines.items } in
    let low : c.args.w < length inside.machines = subst (λ (b : WorldValue). c.args.w < length b.machines) (sym c.self.view_is) c.requires.worker in
    c.self.invariant.in_hand c.args.w c.index_mut.result.now low c.index_mut.ensures.value

pub returns-clause-reasons : goal.returns-clause-reasons
returns-clause-reasons c =
    let inside : WorldValue = record { rings = c.self.inside.rings.items; machines = c.self.inside.machines.items } in
    let new : WorldValue = record { rings = c.work.new.rings.items; machines = set inside.machines c.args.w c.work.new.machine } in
    let low : c.args.w < length inside.machines = subst (λ (b : WorldValue). c.args.w < length b.machines) (sym c.self.view_is) c.requires.worker in
    let is = ap worker_of c.index_mut.ensures.value ∙ sym (map-at worker_of inside.machines c.args.w c.index_mut.result.now no_worker low) in
    subst (λ (b : WorldValue). TurnHasReasons (Worker c.args.w) b new) c.self.view_is
    (subst (λ x. HasReasons c.args.w x inside.rings new.rings) is c.work.ensures.reasons)
