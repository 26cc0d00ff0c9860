use Rattle.std.proofs.Common.{◌∙◌, ◌++◌, ap, map, subst}
use Rattle.std.specs.Prelude.{string_bytes}
use Rattle.std.proofs.lemmas.Result.{err_from_is_err_and}
use Rattle.std.specs.Io.KnownBytes.{Appends}
use Rattle.rb_loader.proofs.StandIns.{holds_for_input, requested, right_fault}
use Rattle.rb_run_commands.specs.Printed.{check_lines}
use Rattle.rb_run_commands.proofs.Checking.{checks_moves}
use Rattle.rb_run_commands.proofs.check_command.check.Goals as goal

pub returns-in_err-value-clause-refused : goal.returns-in_err-value-clause-refused
returns-in_err-value-clause-refused g c =
    let p = err_from_is_err_and c.from_residual-in_err-value.result c.from_residual-in_err-value.ensures.1 in
    rw (p.1, p.2)
    (holds_for_input _ (g.R.Read.remaining c.args.input.now) _ c.as_str-text.result.now c.as_str-text.ensures.value c.in_ok-text.ensures.stands (λ unread stands.
    right_fault unread c.as_str-text.result.now stands c.args.bounds.ctx_len c.args.bounds.rings _ c.in_err-value.ensures.refused))

pub returns-in_err-findings-clause-refused : goal.returns-in_err-findings-clause-refused
returns-in_err-findings-clause-refused g c =
    let p = err_from_is_err_and c.from_residual-in_err-findings.result c.from_residual-in_err-findings.ensures.1 in
    rw (p.1, p.2)
    (holds_for_input _ (g.R.Read.remaining c.args.input.now) _ c.as_str-text.result.now c.as_str-text.ensures.value c.in_ok-text.ensures.stands (λ unread stands.
    right_fault unread c.as_str-text.result.now stands c.args.bounds.ctx_len c.args.bounds.rings _ c.in_err-findings.ensures.refused))

pub returns-in-Ok-clause-printed : goal.returns-in-Ok-clause-printed
returns-in-Ok-clause-printed g c =
    holds_for_input _ (g.R.Read.remaining c.args.input.now) _ c.as_str-text.result.now c.as_str-text.ensures.value c.in_ok-text.ensures.stands (λ unread stands.
    record {
      value = c.in_ok-value.field-0.value;
      records = map (λ ring. ring.items) c.in_ok-value.field-0.records.items;
      checked = checks_moves unread c.as_str-text.result.now stands c.args.bounds.ctx_len c.args.bounds.rings _ _ c.in_ok-value.ensures.checked;
      findings = string_bytes c.in_ok-findings.findings;
      found = requested unread c.as_str-text.result.now stands c.args.portable c.args.form c.args.bounds.ctx_len c.args.bounds.rings (string_bytes c.in_ok-findings.findings) c.in_ok-findings.ensures.found;
      printed = subst (Appends _ _)
          (c.as_slice-2.ensures.value ∙ c.in_ok-extend_from_slice.ensures.items
          ∙ ap (λ front. front ++ c.as_bytes.result.now) (c.in_ok-printed.ensures.lines ∙ ap (λ rings. check_lines c.args.form c.in_ok-value.field-0.value (map (λ ring. ring.items) rings)) c.as_slice.ensures.value)
          ∙ ap (λ back. check_lines c.args.form c.in_ok-value.field-0.value (map (λ ring. ring.items) c.in_ok-value.field-0.records.items) ++ back) c.as_bytes.ensures.value)
          c.in-Ok.ensures.whole;
    })
