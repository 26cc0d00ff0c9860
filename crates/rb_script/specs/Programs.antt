-- The programs that a script's workers run, and the first worker whose program is refused (own).
use Rattle.std.specs.Prelude.{ℕ, ◌≡◌, ◌≤◌, List, ◌∷◌, ◌++◌, length}
use Rattle.std.specs.List.{AllZip}
use Rattle.rb_insn.specs.Spelling.{SpellsAll}
use Rattle.rb_program.specs.Program.{IsProgram}
use Rattle.rb_program.specs.Text.{IsHexOf, without_white_space}
use Rattle.rb_program.specs.Shape.{IsWellShaped}
use Rattle.rb_verifier.specs.Annotation.{HasValid}
use Rattle.rb_verifier.specs.Subject.{Subject, limits_of}
use Rattle.rb_script.specs.declared.script_fault.ScriptFault.{ScriptFault}
use Rattle.rb_script.specs.declared.script_fault.ScriptFault.TheVariants.{Line, Memory}
use Rattle.rb_script.specs.Scripts.{WorkerText}

-- the worker's text is this program in hex; the program is well-shaped, and has a valid annotation for this number of
-- rings and a context as long as the worker's
pub record IsWorkersProgram (rings : ℕ) (worker : WorkerText) (subject : Subject) : Type 0 where
  pub bytes : List ℕ
  pub hex : IsHexOf (without_white_space worker.program) bytes
  pub program : IsProgram subject.program
  pub spelled : SpellsAll subject.program bytes
  pub well_shaped : IsWellShaped subject.program
  pub valid : HasValid (limits_of subject) subject.program
  pub rings_are : subject.rings ≡ rings
  pub context_is : subject.ctx_len ≡ length worker.context
  pub few_rings : rings ≤ 16
  pub short_context : length worker.context ≤ 65536

-- the worker's text is some program
abbrev pub HasProgram : ℕ → WorkerText → Type 0
HasProgram rings worker = (subject : Subject) × IsWorkersProgram rings worker subject

-- the worker on this line is the first whose program is refused
pub record IsFirstRefused (rings : ℕ) (workers : List WorkerText) (line : ℕ) : Type 0 where
  pub front : List WorkerText
  pub worker : WorkerText
  pub behind : List WorkerText
  pub parted : workers ≡ front ++ worker ∷ behind
  pub accepted : (programs : List Subject) × AllZip (IsWorkersProgram rings) front programs
  pub refused : HasProgram rings worker → ⊥
  pub line_is : worker.line ≡ line

-- the fault reported for the programs
abbrev pub IsProgramsFault : ℕ → List WorkerText → ScriptFault → Type 0
IsProgramsFault rings workers (Line line) = IsFirstRefused rings workers line
IsProgramsFault rings workers Memory = Unit {0}
