use Rattle.std.proofs.Common.{◌≡◌, ◌<◌, ◌∙◌, ap, sym, subst, arith}
use Rattle.rb_program.specs.Program.{unit_count}
use Rattle.rb_verifier.specs.Annotation.{state_at, IsLeastBefore}
use Rattle.rb_verifier.specs.inner.Sweep.{Progress, AreFirstArrivals}
use Rattle.rb_verifier.proofs.Passing.{progress_start}
use Rattle.rb_verifier.proofs.sweep.annotate.Goals as goal

pub loop-unit-init : goal.loop-unit-init
loop-unit-init c =
    let units : c.units-units.result ≡ unit_count c.args.shape.now = c.units-units.ensures ∙ ap unit_count c.program-2.ensures in
    let bound = c.facts.ensures.bounds.not_empty in
    let same : unit_count c.program.result.now ≡ unit_count c.args.shape.now = ap unit_count c.program.ensures in
    let some : 0 < unit_count c.args.shape.now = omega (arith, bound, same) in
    let start : AreFirstArrivals (unit_count c.args.shape.now) c.in-Ok.arrivals.items = subst (λ n. AreFirstArrivals n c.in-Ok.arrivals.items) units c.in-Ok.ensures in
    subst (λ states. Progress c.args.limits c.args.shape.now states c.in-Ok.arrivals.items 0) (sym c.in-Ok-with_capacity.ensures.items) (progress_start c.args.limits c.args.shape.now c.in-Ok.arrivals.items some start)

pub returns-clause-least : goal.returns-clause-least
returns-clause-least c =
    let units : c.units-units.result ≡ unit_count c.args.shape.now = c.units-units.ensures ∙ ap unit_count c.program-2.ensures in
    let last : c.loop-unit.unit ≡ unit_count c.args.shape.now = omega (arith, units) in
    subst (λ n. IsLeastBefore c.args.limits c.args.shape.now (state_at c.loop-unit.states.items) n) last c.loop-unit.invariant.least
