use Rattle.std.proofs.Common.{◌+◌, ◌≤◌, length}
use Rattle.rb_script.specs.Scripts.{IsWithinLimits}
use Rattle.rb_script.specs.inner.ScriptRead.{HasRead}
use Rattle.rb_script.proofs.script.Script.read.Given as goal

abbrev pub invariant-loop-rest : goal.invariant-loop-rest
invariant-loop-rest l = record {
  lines : l.number + length l.rest ≤ length l.input;
  limits : IsWithinLimits l.script;
  read : HasRead l.input l.rest l.number l.script;
}

abbrev pub decreases-loop-rest : goal.decreases-loop-rest
decreases-loop-rest l = length l.rest
