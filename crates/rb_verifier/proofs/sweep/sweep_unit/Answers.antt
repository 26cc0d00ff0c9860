use Rattle.std.proofs.Common.{◌≡◌, ◌+◌, sym, ◌∙◌, ap, subst, None}
use Rattle.std.proofs.lemmas.Result.{on_ok_weaker}
use Rattle.rb_program.specs.Program.{slot_at}
use Rattle.rb_verifier.specs.inner.Sweep.{Progress}
use Rattle.rb_verifier.proofs.Passing.{sweep_over}
use Rattle.rb_verifier.proofs.sweep.sweep_unit.Goals as goal

pub returns-in-None-clause-progress : goal.returns-in-None-clause-progress
returns-in-None-clause-progress c =
    let none : slot_at c.args.shape.now c.args.unit ≡ None = ap (λ p. slot_at p c.args.unit) (sym c.program.ensures) ∙ sym c.in-None.ensures in
    on_ok_weaker c.sweep_over.result
    (λ pushed. subst (λ states. Progress c.args.limits c.args.shape.now states c.args.arrivals.now.items (c.args.unit + 1)) (sym pushed) (sweep_over c.requires.progress c.facts.ensures.forward none))
    c.sweep_over.ensures.pushed
