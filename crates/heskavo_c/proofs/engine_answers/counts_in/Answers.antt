use Rattle.std.proofs.Common.{ap, ◌∙◌}
use Rattle.heskavo_c.specs.Engines.{counts_of_ring}
use Rattle.heskavo_c.proofs.engine_answers.counts_in.Goals as goal

pub returns-clause-counted : goal.returns-clause-counted
returns-clause-counted c = λ _. record {
  asked = c.counts.ensures.counts.asked;
  asked_is = c.counts.ensures.counts.asked_is;
  holds = c.counts_for.ensures ∙ ap counts_of_ring c.counts.ensures.counts.holds;
}
