-- When a program is refused.
use Rattle.std.specs.Prelude.{List}
use Rattle.rb_insn.specs.declared.insn.Insn.{Insn}
use Rattle.rb_verifier.specs.declared.limits.Limits.{Limits}
use Rattle.rb_verifier.specs.declared.refusal.Refusal.{Refusal}
use Rattle.rb_verifier.specs.declared.refusal.Refusal.TheVariants as refusal
use Rattle.rb_verifier.specs.Annotation.{HasNoValid, IsFirstBrokenRule}

-- no annotation is valid, and the rule is the first one that is broken; a failed allocation says nothing about the
-- program
abbrev pub IsRightRefusal : Limits → List Insn → Refusal → Type 0
IsRightRefusal limits program (refusal.Rule unit rule) = HasNoValid limits program × IsFirstBrokenRule limits program unit rule
IsRightRefusal limits program refusal.Memory = Unit {0}
