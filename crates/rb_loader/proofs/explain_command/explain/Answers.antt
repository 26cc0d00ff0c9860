use Rattle.std.proofs.Common.{Some, subst}
use Rattle.std.specs.Prelude.{string_bytes}
use Rattle.std.specs.Io.KnownBytes.{Appends}
use Rattle.rb_verifier.specs.declared.limits.Limits.{Limits}
use Rattle.rb_loader.specs.inner.ExplainedText.{ExplainsText}
use Rattle.rb_loader.proofs.Explaining.{accepted_of, refusal_of}
use Rattle.rb_loader.proofs.StandIns.{accepted_explained, explained, holds_for_input}
use Rattle.rb_loader.proofs.explain_command.explain.Goals as goal

pub returns-in-Some-clause-refused : goal.returns-in-Some-clause-refused
returns-in-Some-clause-refused g c =
    let limits : Limits = record { ctx_len = c.args.bounds.ctx_len; rings = c.args.bounds.rings } in
    let text = c.as_str-text.result.now in
    let told = string_bytes c.in-Ok.explanation.text in
    holds_for_input _ (g.R.Read.remaining c.args.input.now) _ text c.as_str-text.ensures.value c.in_ok-text.ensures.stands (λ unread stands.
    refusal_of c.args.form unread c.args.bounds.ctx_len c.args.bounds.rings _ _ c.in-Some.reason c.fault_of.result _ c.as_bytes.result.now c.fault_of.ensures
    (explained unread text stands c.args.form limits (Some c.in-Some.reason) told (subst (λ reason. ExplainsText c.args.portable c.args.form text limits reason told) c.in-Some.is c.in-Ok.ensures.explained))
    c.as_bytes.ensures.value c.in-Ok-write_whole.ensures.whole)

pub returns-clause-accepted : goal.returns-clause-accepted
returns-clause-accepted g c =
    let limits : Limits = record { ctx_len = c.args.bounds.ctx_len; rings = c.args.bounds.rings } in
    let text = c.as_str-text.result.now in
    let told = string_bytes c.in-Ok.explanation.text in
    holds_for_input _ (g.R.Read.remaining c.args.input.now) _ text c.as_str-text.ensures.value c.in_ok-text.ensures.stands (λ unread stands.
    let e = accepted_explained unread text stands c.args.portable c.args.form limits told (subst (λ reason. ExplainsText c.args.portable c.args.form text limits reason told) c.in-None.is c.in-Ok.ensures.explained) in
    accepted_of c.args.form unread c.args.bounds.ctx_len c.args.bounds.rings _ e.explained)

pub returns-clause-explained : goal.returns-clause-explained
returns-clause-explained g c =
    let limits : Limits = record { ctx_len = c.args.bounds.ctx_len; rings = c.args.bounds.rings } in
    let text = c.as_str-text.result.now in
    let told = string_bytes c.in-Ok.explanation.text in
    holds_for_input _ (g.R.Read.remaining c.args.input.now) _ text c.as_str-text.ensures.value c.in_ok-text.ensures.stands (λ unread stands. (
      told,
      accepted_explained unread text stands c.args.portable c.args.form limits told (subst (λ reason. ExplainsText c.args.portable c.args.form text limits reason told) c.in-None.is c.in-Ok.ensures.explained),
      subst (Appends _ _) c.as_bytes.ensures.value c.in-Ok-write_whole.ensures.whole,
    ))
