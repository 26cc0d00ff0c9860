-- The maximal cost of a program.
use Rattle.std.specs.Prelude.{◌≡◌, ℕ, ◌<◌, List, length, count_by, sum_by, slice_index_or}
use Rattle.rb_insn.specs.declared.insn.Insn.{Insn}
use Rattle.rb_program.specs.Program.{slot_at}
use Rattle.rb_program.specs.Shape.{IsInstructionStart}
use Rattle.rb_verifier.specs.Annotation.{Annotation, IsValid}
use Rattle.rb_verifier.specs.Subject.{Subject, limits_of, calls}
use Rattle.rb_cost.specs.declared.cost.Cost.{Cost}
use Rattle.rb_cost.specs.declared.cost.RingCost.{RingCost}
use Rattle.rb_cost.specs.Paths.{IsPath, IsMost}
use Rattle.rb_cost.specs.Requests.{asked_at, is_on, bytes_on, is_of_ring, held_span}

-- for one ring: the most records that the calls of a path request, their bytes, and the most records and bytes that are
-- held before an instruction
pub record IsRingCost (program : List Insn) (a : Annotation) (ring : ℕ) (cost : RingCost) : Type 0 where
  pub records : IsMost (IsPath program) (λ path. count_by (λ unit. is_on ring (asked_at program a unit)) path) cost.records
  pub bytes : IsMost (IsPath program) (λ path. sum_by (λ unit. bytes_on ring (asked_at program a unit)) path) cost.bytes
  pub held_records : IsMost (IsInstructionStart program) (λ unit. count_by (is_of_ring ring) (a unit).held) cost.held_records
  pub held_bytes : IsMost (IsInstructionStart program) (λ unit. sum_by (held_span ring) (a unit).held) cost.held_bytes

-- no record of a ring
abbrev pub no_ring_cost : RingCost
no_ring_cost = record { records = 0; bytes = 0; held_records = 0; held_bytes = 0 }

-- for the paths of a program: the most instructions, the most calls, and what they request from each ring
pub record IsCostUnder (program : List Insn) (a : Annotation) (ring_count : ℕ) (cost : Cost) : Type 0 where
  pub steps : IsMost (IsPath program) (λ path. length path) cost.steps
  pub calls : IsMost (IsPath program) (λ path. count_by (λ unit. calls (slot_at program unit)) path) cost.calls
  pub count : length cost.rings.items ≡ ring_count
  pub rings : (ring : ℕ) → ring < ring_count → IsRingCost program a ring (slice_index_or cost.rings.items ring no_ring_cost)

-- the cost of a verified program, by any of its valid annotations, which agree on what it requests and holds
abbrev pub IsCost : Subject → Cost → Type 0
IsCost subject cost = (a : Annotation) → IsValid (limits_of subject) subject.program a → IsCostUnder subject.program a subject.rings cost
