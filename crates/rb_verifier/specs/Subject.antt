-- The subject of verification: a program, and what it may access.
use Rattle.std.specs.Prelude.{ℕ, Bool, true, false, List, count_by, Option, Some, None}
use Rattle.rb_insn.specs.declared.insn.Insn.{Insn}
use Rattle.rb_insn.specs.declared.insn.Insn.TheVariants.{Call}
use Rattle.rb_verifier.specs.declared.limits.Limits.{Limits}

-- a program, the length of its context in bytes, and the number of rings that it may use
pub record Subject : Type 0 where
  pub program : List Insn
  pub ctx_len : ℕ
  pub rings : ℕ

abbrev pub limits_of : Subject → Limits
limits_of subject = record { ctx_len = subject.ctx_len; rings = subject.rings }

abbrev pub is_call : Insn → Bool
is_call (Call helper) = true
is_call insn = false

-- a CALL begins at this unit
abbrev pub calls : Option Insn → Bool
calls None = false
calls (Some insn) = is_call insn

-- how many CALL instructions a program has
abbrev pub call_count : List Insn → ℕ
call_count program = count_by is_call program
