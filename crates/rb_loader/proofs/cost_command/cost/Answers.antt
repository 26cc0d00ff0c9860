use Rattle.std.proofs.Common.{◌∙◌, subst}
use Rattle.std.proofs.lemmas.Result.{err_from_is_err_and}
use Rattle.std.specs.Io.KnownBytes.{Appends}
use Rattle.rb_loader.proofs.StandIns.{accepted, holds_for_input, right_fault}
use Rattle.rb_loader.proofs.cost_command.cost.Goals as goal

pub returns-in_err-verified-clause-refused : goal.returns-in_err-verified-clause-refused
returns-in_err-verified-clause-refused g c =
    let p = err_from_is_err_and c.from_residual-in_err-verified.result c.from_residual-in_err-verified.ensures.1 in
    rw (p.1, p.2)
    (holds_for_input _ (g.R.Read.remaining c.args.input.now) _ c.as_str-text.result.now c.as_str-text.ensures.value c.in_ok-text.ensures.stands (λ unread stands.
    right_fault unread c.as_str-text.result.now stands c.args.bounds.ctx_len c.args.bounds.rings _ c.in_err-verified.ensures.refused))

pub returns-in-Ok-clause-printed : goal.returns-in-Ok-clause-printed
returns-in-Ok-clause-printed g c =
    holds_for_input _ (g.R.Read.remaining c.args.input.now) _ c.as_str-text.result.now c.as_str-text.ensures.value c.in_ok-text.ensures.stands (λ unread stands.
    record {
      subject = c.in_ok-verified.verified;
      accepted = accepted unread c.as_str-text.result.now stands c.args.bounds.ctx_len c.args.bounds.rings c.in_ok-verified.verified c.in_ok-verified.ensures.accepted;
      cost = c.in_ok-cost.cost;
      exact = c.in_ok-cost.ensures;
      printed = subst (Appends _ _) (c.as_bytes.ensures.value ∙ c.in_ok-lines.ensures.text) c.in-Ok.ensures.whole;
    })
