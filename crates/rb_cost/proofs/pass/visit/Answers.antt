use Rattle.std.proofs.Common.{◌≡◌, ◌≤◌, ◌<◌, ◌+◌, ◌^◌, Some, sym, ◌∙◌, ap, subst, length, arith}
use Rattle.std.specs.Prelude.{slice_index}
use Rattle.rb_program.specs.Program.{unit_count}
use Rattle.rb_program.specs.Edges.{Next, Target}
use Rattle.rb_program.specs.Shape.{EdgesLeadForward}
use Rattle.rb_program.proofs.ShapeLaws.{begins-lt, edges_forward}
use Rattle.std.proofs.lemmas.List.{get_or_default}
use Rattle.rb_verifier.specs.AbstractStates.{entry_state}
use Rattle.rb_verifier.specs.Annotation.{state_at}
use Rattle.rb_cost.specs.inner.Pass.{weight_in, weight_at, Raises, Progress}
use Rattle.rb_cost.proofs.Passing.{leads_inside, advance}
use Rattle.rb_cost.proofs.pass.visit.Goals as goal

pub raise-requires : goal.raise-requires
raise-requires c =
    λ to e.
    let inside : to < unit_count c.args.program.now = leads_inside c.args.program.now c.facts.ensures.laid_out c.requires.well_shaped c.args.unit c.args.insn.now c.requires.begins Target to (sym c.jump_target.ensures ∙ e) in
    omega (arith, c.requires.progress.count)

pub raise-requires-2 : goal.raise-requires-2
raise-requires-2 c =
    λ to e.
    let inside : to < unit_count c.args.program.now = leads_inside c.args.program.now c.facts.ensures.laid_out c.requires.well_shaped c.args.unit c.args.insn.now c.requires.begins Next to (sym c.next_unit.ensures ∙ e) in
    omega (arith, c.requires.progress.count, c.raise.ensures.count)

pub returns : goal.returns
returns c =
    let program = c.args.program.now in
    let forward : EdgesLeadForward program = edges_forward program c.facts.ensures.laid_out c.requires.well_shaped in
    let weight = weight_at c.args.counted program (state_at c.args.states.now) in
    let state : c.index-states-unit.result ≡ state_at c.args.states.now c.args.unit = c.index-states-unit.is ∙ get_or_default c.args.states.now c.args.unit c.index-states-unit.result entry_state c.requires.inside in
    let weighs : c.weight.result ≡ weight c.args.unit = c.weight.ensures.value ∙ (ap (weight_in c.args.counted (Some c.args.insn.now)) state ∙ ap (λ slot. weight_in c.args.counted slot (state_at c.args.states.now c.args.unit)) (sym c.requires.begins)) in
    let inside : c.args.unit < unit_count program = begins-lt program c.args.unit c.args.insn.now c.requires.begins in
    let here : c.args.unit < length c.args.pass.now.before.items = omega (arith, c.requires.progress.count) in
    let before : c.index.result.now ≡ slice_index c.args.pass.now.before.items c.args.unit = c.index.ensures ∙ get_or_default c.args.pass.now.before.items c.args.unit c.index.result.now 0 here in
    let total : c.index.result.now + c.weight.result ≡ slice_index c.args.pass.now.before.items c.args.unit + weight c.args.unit = omega arith in
    let light : weight c.args.unit ≤ 2 ^ 27 = subst (λ n. n ≤ 2 ^ 27) weighs c.weight.ensures.bound in
    let to_target = subst (λ t. Raises t (c.index.result.now + c.weight.result) c.args.pass.now.before.items c.raise.new.before.items) c.jump_target.ensures c.raise.ensures in
    let to_next = subst (λ t. Raises t (c.index.result.now + c.weight.result) c.raise.new.before.items c.raise-2.new.before.items) c.next_unit.ensures c.raise-2.ensures in
    subst (λ most. Progress program weight c.raise-2.new.before.items most (c.args.unit + 1)) (sym c.max-pass.ensures)
    (advance program weight c.requires.progress forward c.args.insn.now c.requires.begins (c.requires.well_shaped.reached c.args.unit (c.args.insn.now, c.requires.begins)) light (c.index.result.now + c.weight.result) total c.raise.new.before.items c.raise-2.new.before.items to_target to_next)
