use Rattle.std.proofs.Common.{◌≡◌}
use Rattle.rb_verifier.specs.Annotation.{state_at}
use Rattle.rb_portable.specs.Findings.{found_below}
use Rattle.rb_portable.proofs.all_findings.findings_of.Given as goal

abbrev pub invariant-loop-unit : goal.invariant-loop-unit
invariant-loop-unit l = l.found.items ≡ found_below l.program (state_at l.states) l.unit
