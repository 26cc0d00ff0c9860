use Rattle.std.proofs.Common.{◌≡◌, ◌++◌, ◌∙◌, ◌≤◌, refl, rules, subst, sym}
use Rattle.std.proofs.lemmas.List.Elements.{All-get_or}
use Rattle.rb_world.specs.WorldValue.{IsThere}
use Rattle.rb_world.proofs.Runs.{there-still}
use Rattle.rb_script.proofs.TurnLines.{writes-none, writes-more, line-joined}
use Rattle.rb_script.proofs.simulation.run.Goals as goal

pub loop-actor-init : goal.loop-actor-init
loop-actor-init g c = record { written = writes-none c.args.form c.args.draw c.args.world.now c.args.text.now.items; workers = refl; rings = refl }

pub turn-done-requires : goal.turn-done-requires
turn-done-requires g c = record {
  there = there-still c.args.world.now c.loop-actor.world _ c.loop-actor.invariant.workers c.loop-actor.invariant.rings (All-get_or (IsThere c.args.world.now) c.args.actors.now c.loop-actor.actor-index _ c.loop-actor-test.true c.requires.there);
}

pub push_drawn_turn-requires : goal.push_drawn_turn-requires
push_drawn_turn-requires g c = record {
  there =
      there-still c.args.world.now c.turn-done.new.self _ (c.turn-done.ensures.workers ∙ c.loop-actor.invariant.workers) (c.turn-done.ensures.rings ∙ c.loop-actor.invariant.rings)
      (All-get_or (IsThere c.args.world.now) c.args.actors.now c.loop-actor.actor-index _ c.loop-actor-test.true c.requires.there);
  few = subst (λ n. n ≤ 16) (sym (c.turn-done.ensures.rings ∙ c.loop-actor.invariant.rings)) c.requires.few;
}

pub loop-actor-preserved : goal.loop-actor-preserved
loop-actor-preserved g c =
    let more : c.extend_from_slice.new.self.items ≡ c.loop-actor.text.items ++ c.push_drawn_turn.new.text.items = search rules in
    record {
      written =
          writes-more c.args.form c.args.draw c.args.actors.now c.loop-actor.actor-index _ c.args.world.now c.loop-actor.world c.turn-done.new.self c.args.text.now.items c.loop-actor.text.items c.extend_from_slice.new.self.items c.turn-done.result c.loop-actor-test.true
          c.loop-actor.invariant.written c.turn-done.ensures.turned c.turn-done.ensures.chapters c.turn-done.ensures.reasons (line-joined _ _ _ _ _ c.clear.ensures.items c.in-Ok.ensures.lines more);
      workers = c.turn-done.ensures.workers ∙ c.loop-actor.invariant.workers;
      rings = c.turn-done.ensures.rings ∙ c.loop-actor.invariant.rings;
    }
