use Rattle.std.proofs.Common.{◌≡◌, ◌<◌, length, set, sym, subst}
use Rattle.rb_world.specs.declared.actor.Actor.TheVariants.{Keeper}
use Rattle.rb_world.specs.WorldValue.{WorldValue}
use Rattle.rb_world.specs.TurnsDone.{IsTurnOf, TurnsChaptersOf}
use Rattle.rb_world.proofs.MachineAnswers.{set-length}
use Rattle.rb_world.proofs.WholeTurns.{keeper-turn, keeper-chapters}
use Rattle.rb_world.proofs.HeldInHands.{keeper-held}
use Rattle.rb_world.proofs.world.World.turn_keeper.Goals as goal

pub returns-clause-turned : goal.returns-clause-turned
returns-clause-turned c =
    let inside : WorldValue = record { rings = c.self.inside.rings.items; machines = c.self.inside.machines.items } in
    let low : c.args.r < length inside.rings = subst (λ (b : WorldValue). c.args.r < length b.rings) (sym c.self.view_is) c.requires.ring in
    subst (λ (b : WorldValue). IsTurnOf (Keeper c.args.r) b c.hand_out.result (record inside { rings = set inside.rings c.args.r c.hand_out.new.self })) c.self.view_is
    (keeper-turn inside c.args.r c.index_mut.result.now c.hand_out.new.self c.hand_out.result c.index_mut.ensures.value low c.hand_out.ensures.same_history c.hand_out.ensures.turned)

pub invariant_of-self : goal.invariant_of-self
invariant_of-self c =
    let inside : WorldValue = record { rings = c.self.inside.rings.items; machines = c.self.inside.machines.items } in
    let low : c.args.r < length inside.rings = subst (λ (b : WorldValue). c.args.r < length b.rings) (sym c.self.view_is) c.requires.ring in
    keeper-held inside c.args.r c.index_mut.result.now c.hand_out.new.self c.hand_out.result low c.index_mut.ensures.value c.self.invariant c.hand_out.ensures.hands c.hand_out.ensures.same_history c.hand_out.ensures.turned

pub returns-clause-chapters : goal.returns-clause-chapters
returns-clause-chapters c =
    let inside : WorldValue = record { rings = c.self.inside.rings.items; machines = c.self.inside.machines.items } in
    let low : c.args.r < length inside.rings = subst (λ (b : WorldValue). c.args.r < length b.rings) (sym c.self.view_is) c.requires.ring in
    subst (λ (b : WorldValue). TurnsChaptersOf (Keeper c.args.r) c.hand_out.result b.rings (set inside.rings c.args.r c.hand_out.new.self)) c.self.view_is
    (keeper-chapters inside c.args.r c.index_mut.result.now c.hand_out.new.self c.hand_out.result c.index_mut.ensures.value low c.hand_out.ensures.turned)

pub returns-clause-rings : goal.returns-clause-rings
returns-clause-rings c =
    subst (λ (b : WorldValue). length (set c.self.inside.rings.items c.args.r c.hand_out.new.self) ≡ length b.rings) c.self.view_is (set-length c.self.inside.rings.items c.args.r c.hand_out.new.self)
