use Rattle.std.proofs.Common.{◌∙◌, ap, map}
use Rattle.heskavo_c.specs.Costs.{ring_row}
use Rattle.heskavo_c.proofs.program_cost.heskavo_cost.Goals as goal

pub returns-clause-told : goal.returns-clause-told
returns-clause-told c =
    λ done. record {
      subject = c.in-Ok.verified;
      accepted = c.in-Ok.ensures.accepted;
      cost = c.in-Ok-cost_of.found;
      exact = c.in-Ok-cost_of.ensures;
      steps = c.total_of.ensures.steps;
      calls = c.total_of.ensures.calls;
      rings = c.put_rows.ensures ∙ ap (map ring_row) c.as_slice.ensures.value;
    }
