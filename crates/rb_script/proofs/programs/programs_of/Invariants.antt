use Rattle.std.proofs.Common.{map, take}
use Rattle.std.specs.List.{AllZip}
use Rattle.rb_script.specs.Programs.{IsWorkersProgram}
use Rattle.rb_script.specs.Scripts.{worker_text}
use Rattle.rb_script.proofs.programs.programs_of.Given as goal

abbrev pub invariant-loop-worker : goal.invariant-loop-worker
invariant-loop-worker l = AllZip (IsWorkersProgram l.rings) (map worker_text (take l.worker-index l.workers)) l.programs.items
