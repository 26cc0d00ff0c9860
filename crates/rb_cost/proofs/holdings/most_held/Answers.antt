use Rattle.std.proofs.Common.{◌≡◌, ◌+◌, ◌<◌, length, Some, None, sym, ◌∙◌, ap, subst, arith}
use Rattle.std.specs.Option.{option_copied}
use Rattle.rb_program.specs.Program.{unit_count, slot_at}
use Rattle.std.specs.Prelude.{count_by, sum_by}
use Rattle.std.proofs.lemmas.List.{get_or_default}
use Rattle.rb_verifier.specs.AbstractStates.{entry_state}
use Rattle.rb_verifier.specs.Annotation.{state_at}
use Rattle.rb_cost.specs.Requests.{is_of_ring, held_span}
use Rattle.rb_cost.specs.inner.Pass.{IsMostBefore, records_held, bytes_held}
use Rattle.rb_cost.proofs.Holding.{none_here, one_more, most_of_units}
use Rattle.rb_cost.proofs.holdings.most_held.Goals as goal
use Rattle.rb_cost.proofs.holdings.most_held.Goals.{in-Some, in_default}

pub loop-unit-preserved : goal.loop-unit-preserved
loop-unit-preserved c =
    let program = c.args.program.now in
    let states = c.args.states.now in
    let ring = c.args.ring in
    elim c.match-at.branch [
      | in-Some w ↦
          let begins : slot_at program c.loop-unit.unit ≡ Some w.in-Some.field-0.now = sym c.at.ensures ∙ ap option_copied w.in-Some.is in
          let inside : c.loop-unit.unit < length states = omega (arith, c.requires.count, c.units-unit-end.ensures) in
          let held : w.as_slice-references.result.now ≡ (state_at states c.loop-unit.unit).held = w.as_slice-references.ensures.items ∙ ap (λ s. s.held) (get_or_default states c.loop-unit.unit w.index-states-unit.result entry_state inside) in
          record {
            records = subst (λ most. IsMostBefore program (records_held states ring) most (c.loop-unit.unit + 1)) (sym (ap (λ m. m.records) w.most-is ∙ w.max.ensures))
                (one_more program (records_held states ring) c.loop-unit.invariant.records w.in-Some.field-0.now begins w.held_records.result (w.held_records.ensures ∙ ap (count_by (is_of_ring ring)) held));
            bytes = subst (λ most. IsMostBefore program (bytes_held states ring) most (c.loop-unit.unit + 1)) (sym (ap (λ m. m.bytes) w.most-is ∙ w.max-in-Some.ensures))
                (one_more program (bytes_held states ring) c.loop-unit.invariant.bytes w.in-Some.field-0.now begins w.held_bytes.result (w.held_bytes.ensures ∙ ap (sum_by (held_span ring)) held));
          }
      | in_default w ↦
          let none : slot_at program c.loop-unit.unit ≡ None = sym c.at.ensures ∙ ap option_copied w.in_default.is in
          record {
            records = subst (λ most. IsMostBefore program (records_held states ring) most.records (c.loop-unit.unit + 1)) (sym w.most-is) (none_here program (records_held states ring) c.loop-unit.invariant.records none);
            bytes = subst (λ most. IsMostBefore program (bytes_held states ring) most.bytes (c.loop-unit.unit + 1)) (sym w.most-is) (none_here program (bytes_held states ring) c.loop-unit.invariant.bytes none);
          }
    ]

pub returns-clause-records : goal.returns-clause-records
returns-clause-records c =
    let last : c.loop-unit.unit ≡ unit_count c.args.program.now = omega (arith, c.units-unit-end.ensures) in
    most_of_units c.args.program.now (records_held c.args.states.now c.args.ring) c.loop-unit.invariant.records last c.requires.first

pub returns-clause-bytes : goal.returns-clause-bytes
returns-clause-bytes c =
    let last : c.loop-unit.unit ≡ unit_count c.args.program.now = omega (arith, c.units-unit-end.ensures) in
    most_of_units c.args.program.now (bytes_held c.args.states.now c.args.ring) c.loop-unit.invariant.bytes last c.requires.first
