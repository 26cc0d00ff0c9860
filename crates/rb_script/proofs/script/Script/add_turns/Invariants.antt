use Rattle.std.proofs.Common.{◌≡◌, ◌++◌, replicate}
use Rattle.rb_script.proofs.script.Script.add_turns.Given as goal

abbrev pub invariant-loop-added : goal.invariant-loop-added
invariant-loop-added l = record {
  rings : l.self.rings ≡ l.initial.self.rings;
  workers : l.self.workers ≡ l.initial.self.workers;
  turns : l.self.actors.items ≡ l.initial.self.actors.items ++ replicate l.added l.actor;
}
