use Rattle.std.proofs.Common.{◌∙◌, ℕ, List, ◌++◌, None, ap, subst}
use Rattle.std.proofs.lemmas.Option.{IfSome_then}
use Rattle.std.specs.Io.KnownBytes.{Appends}
use Rattle.rb_cost.specs.CostLines.{cost_text}
use Rattle.rb_command_line.proofs.cost_sizes.cost_with_turns.Goals as goal

pub returns-in-Ok-clause-printed : goal.returns-in-Ok-clause-printed
returns-in-Ok-clause-printed g c =
    IfSome_then (g.R.Read.remaining c.args.input.now) c.in_ok-verified.ensures.accepted (λ text accepted.
    record {
      subject = c.in_ok-verified.verified;
      accepted = accepted;
      cost = c.in_ok-cost.cost;
      exact = c.in_ok-cost.ensures;
      printed = subst (Appends _ _)
          (c.as_bytes.ensures.value ∙ c.in_ok-push_str.ensures.bytes ∙ ap (λ (all : List ℕ). all ++ c.as_str.result.now) c.in_ok-lines.ensures.text
          ∙ ap (λ (all : List ℕ). cost_text c.args.form None c.in_ok-cost.cost ++ all) (c.as_str.ensures.value ∙ c.in_ok-sizes.ensures.text))
          c.in-Ok.ensures.whole;
    })
