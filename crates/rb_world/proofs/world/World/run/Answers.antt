use Rattle.std.proofs.Common.{◌+◌, take, sym, subst, ◌∙◌, arith}
use Rattle.std.proofs.lemmas.List.Elements.{All-get_or}
use Rattle.rb_world.specs.WorldValue.{IsThere}
use Rattle.rb_world.specs.WorldRuns.{IsRunOf, TakesTurns}
use Rattle.rb_world.specs.declared.world_fault.WorldFault.TheVariants.{Memory}
use Rattle.rb_world.proofs.Refusals.{none-unknown, unknown-exactly}
use Rattle.rb_world.proofs.Runs.{run-more, turns-more, there-still}
use Rattle.rb_world.proofs.world.World.run.Goals as goal

pub turn-done-requires : goal.turn-done-requires
turn-done-requires c = record {
  there = there-still c.args.self.now c.loop-actor.self _ c.loop-actor.invariant.workers c.loop-actor.invariant.rings (All-get_or (IsThere c.args.self.now) c.args.actors.now c.loop-actor.actor-index _ c.loop-actor-test.true c.in_default.ensures.known);
}

pub loop-actor-preserved : goal.loop-actor-preserved
loop-actor-preserved c = record {
  so_far = subst (λ l. IsRunOf (take (c.loop-actor.actor-index + 1) c.args.actors.now) c.args.self.now l c.turn-done.new.self) (sym c.push_reserved.ensures.items)
      (run-more c.args.actors.now c.loop-actor.actor-index _ c.args.self.now c.loop-actor.self c.turn-done.new.self c.loop-actor.turns.items c.turn-done.result c.loop-actor-test.true c.loop-actor.invariant.so_far c.turn-done.ensures.turned);
  turns_so_far = subst (λ l. TakesTurns (take (c.loop-actor.actor-index + 1) c.args.actors.now) c.args.self.now l c.turn-done.new.self) (sym c.push_reserved.ensures.items)
      (turns-more c.args.actors.now c.loop-actor.actor-index _ c.args.self.now c.loop-actor.self c.turn-done.new.self c.loop-actor.turns.items c.turn-done.result c.loop-actor-test.true c.loop-actor.invariant.turns_so_far c.turn-done.ensures.turned c.turn-done.ensures.chapters c.turn-done.ensures.reasons);
  count = (let more = c.push_reserved.ensures.len in let before = c.loop-actor.invariant.count in omega arith);
  room = (let same = c.push_reserved.ensures.capacity in let before = c.loop-actor.invariant.room in omega arith);
  workers = c.turn-done.ensures.workers ∙ c.loop-actor.invariant.workers;
  rings = c.turn-done.ensures.rings ∙ c.loop-actor.invariant.rings;
}

pub returns-in-Err-clause-unknown : goal.returns-in-Err-clause-unknown
returns-in-Err-clause-unknown c = unknown-exactly c.args.self.now c.args.actors.now c.in-Err.fault c.in-Err.ensures.refused

pub returns-clause-unknown : goal.returns-clause-unknown
returns-clause-unknown c = λ place. ((λ is. absurd (cc)), λ first. absurd (none-unknown c.args.self.now c.args.actors.now place c.in_default.ensures.known first))

pub returns-in_default-with_capacity-clause-unknown : goal.returns-in_default-with_capacity-clause-unknown
returns-in_default-with_capacity-clause-unknown c = unknown-exactly c.args.self.now c.args.actors.now Memory c.in_default.ensures.known
