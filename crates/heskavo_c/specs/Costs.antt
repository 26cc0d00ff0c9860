-- What is reported of a program's cost (own; rb_cost defines the cost).
use Rattle.std.specs.Prelude.{◌≡◌, ℕ, List, map}
use Rattle.rb_cost.specs.declared.cost.Cost.{Cost}
use Rattle.rb_cost.specs.declared.cost.RingCost.{RingCost}
use Rattle.rb_cost.specs.Cost.{IsCost}
use Rattle.rb_verifier.specs.Subject.{Subject}
use Rattle.heskavo_c.specs.declared.program_cost.ProgramCost.{ProgramCost}
use Rattle.heskavo_c.specs.declared.program_cost.ProgramRingCost.{ProgramRingCost}
use Rattle.heskavo_c.specs.Verdicts.{BytesAreAccepted}

-- what is reported of the cost at a ring
abbrev pub ring_row : RingCost → ProgramRingCost
ring_row cost = record { records = cost.records; bytes = cost.bytes; held_records = cost.held_records; held_bytes = cost.held_bytes }

-- the bytes encode an accepted program, and its cost is reported, with that of each ring in its place
pub record TellsCost (bytes : List ℕ) (ctx_len ring_count : ℕ) (told : ProgramCost) (rows : List ProgramRingCost) : Type 0 where
  pub subject : Subject
  pub accepted : BytesAreAccepted bytes ctx_len ring_count subject
  pub cost : Cost
  pub exact : IsCost subject cost
  pub steps : told.steps ≡ cost.steps
  pub calls : told.calls ≡ cost.calls
  pub rings : rows ≡ map ring_row cost.rings.items
