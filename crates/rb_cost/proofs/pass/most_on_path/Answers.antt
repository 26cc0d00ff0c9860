use Rattle.std.proofs.Common.{◌≡◌, ℕ, ◌+◌, ⊎_elim, length, None, sym, ◌∙◌, ap, subst, arith}
use Rattle.std.specs.Prelude.{slice_index, replicate}
use Rattle.std.specs.Option.{option_copied}
use Rattle.std.proofs.lemmas.Bool.{cases_lt}
use Rattle.std.proofs.lemmas.List.{get_or-replicate, get_or_past}
use Rattle.std.proofs.Math.ListN.{length-replicate}
use Rattle.rb_program.specs.Program.{unit_count, slot_at}
use Rattle.rb_program.specs.Shape.{EdgesLeadForward, IsInstructionStart}
use Rattle.rb_program.proofs.ShapeLaws.{edges_forward, begins_first}
use Rattle.rb_verifier.specs.Annotation.{state_at}
use Rattle.rb_cost.specs.inner.Pass.{weight_at, Progress}
use Rattle.rb_cost.proofs.Passing.{progress_start, passed_over, most_end}
use Rattle.rb_cost.proofs.pass.most_on_path.Goals as goal
use Rattle.rb_cost.proofs.pass.most_on_path.Goals.{in-Some, in_default}

zeros : (n unit : ℕ) → slice_index (replicate n 0) unit ≡ 0
zeros n unit = ⊎_elim
    (λ inside. get_or-replicate n unit 0 0 inside)
    (λ past. get_or_past (replicate n 0) unit 0 (let count : length (replicate {A = ℕ} n 0) ≡ n = length-replicate {A = ℕ} n 0 in omega arith))
    (cases_lt unit n)

pub loop-unit-init : goal.loop-unit-init
loop-unit-init c =
    let items : c.in_ok-before.before.items ≡ replicate c.units-units.result 0 = c.in_ok-before.ensures.items_if_clones_equal (λ y e. e) in
    let count : length c.in_ok-before.before.items ≡ unit_count c.args.program.now = ap length items ∙ (length-replicate c.units-units.result 0 ∙ c.units-units.ensures) in
    progress_start c.args.program.now (weight_at c.args.counted c.args.program.now (state_at c.args.states.now)) c.in_ok-before.before.items count
    (λ unit. ap (λ xs. slice_index xs unit) items ∙ zeros c.units-units.result unit)

pub loop-unit-preserved : goal.loop-unit-preserved
loop-unit-preserved c =
    let program = c.args.program.now in
    let forward : EdgesLeadForward program = edges_forward program c.facts.ensures.laid_out c.requires.well_shaped in
    let first : IsInstructionStart program 0 = begins_first program c.facts.ensures.bounds c.facts.ensures.laid_out in
    elim c.match-at.branch [
      | in-Some w ↦ subst (λ pass. Progress program (weight_at c.args.counted program (state_at c.args.states.now)) pass.before.items pass.most (c.loop-unit.unit + 1)) (sym w.pass-is) w.visit.ensures
      | in_default w ↦
          let none : slot_at program c.loop-unit.unit ≡ None = sym c.at.ensures ∙ ap option_copied w.in_default.is in
          subst (λ pass. Progress program (weight_at c.args.counted program (state_at c.args.states.now)) pass.before.items pass.most (c.loop-unit.unit + 1)) (sym w.pass-is)
          (passed_over program (weight_at c.args.counted program (state_at c.args.states.now)) c.loop-unit.invariant first forward none)
    ]

pub returns : goal.returns
returns c =
    let program = c.args.program.now in
    let forward : EdgesLeadForward program = edges_forward program c.facts.ensures.laid_out c.requires.well_shaped in
    let first : IsInstructionStart program 0 = begins_first program c.facts.ensures.bounds c.facts.ensures.laid_out in
    most_end program (weight_at c.args.counted program (state_at c.args.states.now)) c.loop-unit.invariant (omega (arith, c.units-units.ensures)) first forward
