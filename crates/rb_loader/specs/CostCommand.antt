-- The output of `cost` for a program's text (own).
use Rattle.std.specs.Prelude.{ℕ, List, Option}
use Rattle.std.specs.Io.KnownBytes.{Appends}
use Rattle.rb_cost.specs.declared.cost.Cost.{Cost}
use Rattle.rb_cost.specs.declared.ring_size.JobsAtOnce.{JobsAtOnce}
use Rattle.rb_cost.specs.Cost.{IsCost}
use Rattle.rb_cost.specs.CostLines.{cost_text}
use Rattle.rb_json.specs.declared.form.LineForm.{LineForm}
use Rattle.rb_verifier.specs.Subject.{Subject}
use Rattle.rb_loader.specs.Acceptance.{IsAccepted}

-- the program that the input encodes is accepted, and exactly the lines of its cost were printed
pub record PrintsCost (form : LineForm) (jobs : Option JobsAtOnce) (input : List ℕ) (ctx_len rings : ℕ) (before after : Option (List ℕ)) : Type 0 where
  pub subject : Subject
  pub accepted : IsAccepted input ctx_len rings subject
  pub cost : Cost
  pub exact : IsCost subject cost
  pub printed : Appends before after (cost_text form jobs cost)
