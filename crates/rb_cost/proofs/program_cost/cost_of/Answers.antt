use Rattle.std.proofs.Common.{sym, subst, Result, Ok, Err}
use Rattle.rb_program.specs.Shape.{EdgesLeadForward}
use Rattle.rb_program.proofs.Laws.{is_laid_out}
use Rattle.rb_program.proofs.ShapeLaws.{edges_forward}
use Rattle.rb_verifier.specs.Annotation.{state_at}
use Rattle.rb_verifier.specs.Subject.{limits_of}
use Rattle.std.specs.Prelude.{IfOk}
use Rattle.rb_cost.specs.Requests.{asked_at}
use Rattle.rb_cost.specs.Cost.{IsCostUnder}
use Rattle.rb_cost.specs.inner.Pass.{IsSmall}
use Rattle.rb_cost.proofs.Sizes.{asked_small}
use Rattle.rb_cost.proofs.Agreeing.{cost_same}
use Rattle.rb_cost.proofs.program_cost.cost_of.Goals as goal

if_ok_weaker : {T E : Type 0} {P Q : T → Type 0} (r : Result T E) → ((x : T) → P x → Q x) → IfOk r P → IfOk r Q
if_ok_weaker (Ok x) k h = k x h
if_ok_weaker (Err e) k h = h

pub cost_under-requires-clause-small : goal.cost_under-requires-clause-small
cost_under-requires-clause-small c =
    let subject = c.args.verified.now in
    let forward : EdgesLeadForward subject.program = edges_forward subject.program (is_laid_out subject.program) c.facts.ensures.well_shaped in
    λ unit. subst (λ program. IsSmall (asked_at program (state_at c.states.result.now) unit)) (sym c.program.ensures)
    (asked_small (limits_of subject) subject.program (state_at c.states.result.now) c.facts.ensures.context forward c.facts.ensures.well_shaped.reached c.states.ensures.least.valid unit)

pub returns : goal.returns
returns c =
    let subject = c.args.verified.now in
    let states = state_at c.states.result.now in
    if_ok_weaker c.cost_under.result
    (λ cost h b valid. cost_same (limits_of subject) subject.program states b c.states.ensures.least valid subject.rings cost
    (subst (λ program. IsCostUnder program states subject.rings cost) c.program.ensures (subst (λ rings. IsCostUnder c.program.result.now states rings cost) c.rings.ensures h)))
    c.cost_under.ensures
