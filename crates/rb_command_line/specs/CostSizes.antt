-- The output of `cost` with the sizes of rings for workers that wait for room (own).
use Rattle.std.specs.Prelude.{ℕ, List, ◌++◌, Option, None}
use Rattle.std.specs.Io.KnownBytes.{Appends}
use Rattle.rb_cost.specs.declared.cost.Cost.{Cost}
use Rattle.rb_cost.specs.Cost.{IsCost}
use Rattle.rb_cost.specs.CostLines.{cost_text}
use Rattle.rb_json.specs.declared.form.LineForm.{LineForm}
use Rattle.rb_verifier.specs.Subject.{Subject}
use Rattle.rb_loader.specs.Acceptance.{IsAccepted}
use Rattle.rb_waiting.specs.TurnSizes.{turn_sizes_text}

-- the program that the input encodes is accepted, and exactly the lines of its cost and of the sizes were printed
pub record PrintsTurnSizes (form : LineForm) (workers : ℕ) (input : List ℕ) (ctx_len rings : ℕ) (before after : Option (List ℕ)) : Type 0 where
  pub subject : Subject
  pub accepted : IsAccepted input ctx_len rings subject
  pub cost : Cost
  pub exact : IsCost subject cost
  pub printed : Appends before after (cost_text form None cost ++ turn_sizes_text form workers cost)
