use Rattle.std.proofs.Common.{◌≡◌, ◌<◌, length, set, sym, subst}
use Rattle.rb_world.specs.declared.actor.Actor.TheVariants.{Consumer}
use Rattle.rb_world.specs.WorldValue.{WorldValue}
use Rattle.rb_world.specs.TurnsDone.{IsTurnOf, TurnsChaptersOf}
use Rattle.rb_world.proofs.MachineAnswers.{set-length}
use Rattle.rb_world.proofs.WholeTurns.{consumer-turn, consumer-chapters}
use Rattle.rb_world.proofs.HeldInHands.{consumer-held}
use Rattle.rb_world.proofs.world.World.turn_consumer.Goals as goal

pub returns-clause-turned : goal.returns-clause-turned
returns-clause-turned c =
    let inside : WorldValue = record { rings = c.self.inside.rings.items; machines = c.self.inside.machines.items } in
    let low : c.args.r < length inside.rings = subst (λ (b : WorldValue). c.args.r < length b.rings) (sym c.self.view_is) c.requires.ring in
    subst (λ (b : WorldValue). IsTurnOf (Consumer c.args.r) b c.consume.result (record inside { rings = set inside.rings c.args.r c.consume.new.self })) c.self.view_is
    (consumer-turn inside c.args.r c.index_mut.result.now c.consume.new.self c.consume.result low c.index_mut.ensures.value c.consume.ensures.taken)

pub invariant_of-self : goal.invariant_of-self
invariant_of-self c =
    let inside : WorldValue = record { rings = c.self.inside.rings.items; machines = c.self.inside.machines.items } in
    let low : c.args.r < length inside.rings = subst (λ (b : WorldValue). c.args.r < length b.rings) (sym c.self.view_is) c.requires.ring in
    consumer-held inside c.args.r c.index_mut.result.now c.consume.new.self c.consume.result low c.index_mut.ensures.value c.self.invariant c.consume.ensures.hands c.consume.ensures.taken c.consume.ensures.chapters

pub returns-clause-chapters : goal.returns-clause-chapters
returns-clause-chapters c =
    let inside : WorldValue = record { rings = c.self.inside.rings.items; machines = c.self.inside.machines.items } in
    let low : c.args.r < length inside.rings = subst (λ (b : WorldValue). c.args.r < length b.rings) (sym c.self.view_is) c.requires.ring in
    subst (λ (b : WorldValue). TurnsChaptersOf (Consumer c.args.r) c.consume.result b.rings (set inside.rings c.args.r c.consume.new.self)) c.self.view_is
    (consumer-chapters inside c.args.r c.index_mut.result.now c.consume.new.self c.consume.result low c.index_mut.ensures.value c.consume.ensures.chapters)

pub returns-clause-rings : goal.returns-clause-rings
returns-clause-rings c =
    subst (λ (b : WorldValue). length (set c.self.inside.rings.items c.args.r c.consume.new.self) ≡ length b.rings) c.self.view_is (set-length c.self.inside.rings.items c.args.r c.consume.new.self)
