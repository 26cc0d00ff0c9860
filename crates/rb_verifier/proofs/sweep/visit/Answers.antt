use Rattle.std.proofs.Common.{◌≡◌, ◌+◌, ◌<◌, ◌++◌, [], ◌∷◌, length, ap, sym, ◌∙◌, subst, arith, rules, Err}
use Rattle.rb_program.specs.Edges.{Next, Target}
use Rattle.rb_verifier.specs.declared.state.Effect.{Effect}
use Rattle.rb_verifier.specs.declared.rule.StepFault.TheVariants as fault
use Rattle.rb_verifier.specs.AbstractStates.{IsLeft, along_jump}
use Rattle.rb_verifier.specs.VerifierChecks.{abstract_step}
use Rattle.rb_verifier.specs.inner.Sweep.{Flows, Progress}
use Rattle.rb_verifier.proofs.Turning.{more}
use Rattle.rb_verifier.proofs.Passing.{formed_here, not_nothing, refused_differ, refused_check, advance, leads_inside}
use Rattle.rb_verifier.proofs.sweep.visit.Goals as goal

pub unreachable-requires : goal.unreachable-requires
unreachable-requires c =
    not_nothing c.requires.progress c.requires.inside c.facts.ensures.entered c.args.insn.now c.requires.begins (sym c.take.ensures.noted ∙ c.in-Nothing.is)

pub returns-in-Differ-clause-refused : goal.returns-in-Differ-clause-refused
returns-in-Differ-clause-refused c = refused_differ c.requires.progress c.requires.inside (sym c.take.ensures.noted ∙ c.in-Differ.is)

pub step_in_place-requires : goal.step_in_place-requires
step_in_place-requires c = (formed_here c.requires.progress c.in-Least.state (sym c.take.ensures.noted ∙ c.in-Least.is)).earlier

pub returns-in-Err-Rule-clause-refused : goal.returns-in-Err-Rule-clause-refused
returns-in-Err-Rule-clause-refused c =
    let broken : c.in-Err-Rule.field-0 ≡ fault.Rule c.in-Err-Rule.rule = search rules in
    refused_check c.requires.progress c.requires.inside c.args.insn.now c.in-Least.state c.in-Err-Rule.rule c.requires.begins (sym c.take.ensures.noted ∙ c.in-Least.is)
    (subst (λ f. IsLeft (Err f) c.step_in_place.new.state (abstract_step c.args.limits c.args.unit c.args.insn.now c.in-Least.state)) broken c.in-Err-Rule.ensures.effect)

pub flow_jump-requires : goal.flow_jump-requires
flow_jump-requires c =
    λ to e.
    let inside : to < length c.args.arrivals.now.items = leads_inside c.requires.progress c.facts.ensures.forward c.args.insn.now to Target c.requires.begins (sym c.jump_target.ensures ∙ e) in
    omega (arith, c.take.ensures.rest.count)

pub flow-requires : goal.flow-requires
flow-requires c =
    λ to e.
    let inside : to < length c.args.arrivals.now.items = leads_inside c.requires.progress c.facts.ensures.forward c.args.insn.now to Next c.requires.begins (sym c.next_unit.ensures ∙ e) in
    let jumped : Flows c.jump_target.result (along_jump c.in-Ok-step_in_place.jump c.step_in_place.new.state) c.take.new.arrivals.items c.flow_jump.new.arrivals.items = search rules in
    omega (arith, c.take.ensures.rest.count, jumped.count)

pub returns-clause-progress : goal.returns-clause-progress
returns-clause-progress c =
    let effect : Effect = record { next = c.step_in_place.new.state; jump = along_jump c.in-Ok-step_in_place.jump c.step_in_place.new.state } in
    let same : c.keep.new.states.items ≡ more c.args.states.now.items c.in-Least.state = search rules in
    let jumped : Flows c.jump_target.result effect.jump c.take.new.arrivals.items c.flow_jump.new.arrivals.items = search rules in
    let flowed : Flows c.next_unit.result effect.next c.flow_jump.new.arrivals.items c.flow.new.arrivals.items = search rules in
    let to_target = subst (λ t. Flows t effect.jump c.take.new.arrivals.items c.flow_jump.new.arrivals.items) c.jump_target.ensures jumped in
    let to_next = subst (λ t. Flows t effect.next c.flow_jump.new.arrivals.items c.flow.new.arrivals.items) c.next_unit.ensures flowed in
    subst (λ states. Progress c.args.limits c.args.shape.now states c.flow.new.arrivals.items (c.args.unit + 1)) (sym same)
    (advance c.requires.progress c.requires.inside c.facts.ensures.forward c.args.insn.now c.in-Least.state effect c.take.new.arrivals.items c.flow_jump.new.arrivals.items c.flow.new.arrivals.items c.requires.begins (sym c.take.ensures.noted ∙ c.in-Least.is) c.in-Ok-step_in_place.ensures.effect c.take.ensures.rest to_target to_next)
