use Rattle.std.proofs.Common.{◌≡◌, ◌≤◌, take, length, vec_len, vec_capacity}
use Rattle.rb_world.specs.WorldRuns.{IsRunOf, TakesTurns}
use Rattle.rb_world.proofs.world.World.run.Given as goal

abbrev pub invariant-loop-actor : goal.invariant-loop-actor
invariant-loop-actor l = record {
  so_far : IsRunOf (take l.actor-index l.actors) l.initial.self l.turns.items l.self;
  turns_so_far : TakesTurns (take l.actor-index l.actors) l.initial.self l.turns.items l.self;
  count : vec_len l.turns ≡ l.actor-index;
  room : length l.actors ≤ vec_capacity l.turns;
  workers : length l.self.machines ≡ length l.initial.self.machines;
  rings : length l.self.rings ≡ length l.initial.self.rings;
}
