use Rattle.std.proofs.Common.{◌≡◌, false, Some, length, replicate, ap, ◌∙◌, subst, rules}
use Rattle.std.proofs.Math.ListN.{length-replicate}
use Rattle.rb_program.specs.inner.Reach.{Marks, IsMarked}
use Rattle.rb_program.proofs.Searching.{started, finished, none_marked}
use Rattle.rb_program.proofs.reach.reached_units.Goals as goal

pub loop-unit-init : goal.loop-unit-init
loop-unit-init c =
    let clear : c.in_ok-marks.marks.items ≡ replicate c.units.result false = c.in_ok-marks.ensures.items_if_clones_equal (λ y e. e) in
    started {none = c.in_ok-marks.marks.items} (ap length clear ∙ length-replicate c.units.result false ∙ c.units.ensures)
    (λ unit marked. none_marked c.units.result unit (subst (λ marks. IsMarked marks unit) clear marked))
    (subst (λ waiting. Marks (Some 0) c.in_ok-marks.marks.items waiting c.mark.new.marks.items c.mark.new.waiting.items) c.new-waiting.ensures.items c.in_ok-mark.ensures)

pub returns : goal.returns
returns c =
    let empty : length c.loop-unit.waiting.items ≡ 0 = search rules in
    finished c.loop-unit.waiting.items empty c.loop-unit.invariant
