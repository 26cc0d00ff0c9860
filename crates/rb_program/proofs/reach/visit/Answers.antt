use Rattle.std.proofs.Common.{sym, ◌∙◌, ap, subst}
use Rattle.std.specs.Option.{option_copied}
use Rattle.rb_program.specs.inner.Reach.{Marks}
use Rattle.rb_program.proofs.Searching.{looked_at, nothing_there}
use Rattle.rb_program.proofs.reach.visit.Goals as goal

pub returns-in_ok-mark-2-clause-search : goal.returns-in_ok-mark-2-clause-search
returns-in_ok-mark-2-clause-search c =
    looked_at c.args.waiting.now.items c.args.unit c.in-Some.insn.now (sym c.at.ensures ∙ ap option_copied c.in-Some.is) c.requires
    (subst (λ target. Marks target c.args.marks.now.items c.args.waiting.now.items c.mark.new.marks.items c.mark.new.waiting.items) c.next_unit.ensures c.in_ok-mark.ensures)
    (subst (λ target. Marks target c.mark.new.marks.items c.mark.new.waiting.items c.mark-in-Some.new.marks.items c.mark-in-Some.new.waiting.items) c.jump_target.ensures c.in_ok-mark-2.ensures)

pub returns-in_default-clause-search : goal.returns-in_default-clause-search
returns-in_default-clause-search c = nothing_there c.args.waiting.now.items c.args.unit (sym c.at.ensures ∙ ap option_copied c.in_default.is) c.requires
