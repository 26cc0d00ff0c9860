use Rattle.std.proofs.Common.{◌≡◌, ◌<◌, Some, true, false, length, get_or, set, sym, subst, rules, arith}
use Rattle.rb_program.specs.inner.Reach.{Marks}
use Rattle.rb_program.proofs.Searching.{marks_one}
use Rattle.rb_program.proofs.reach.mark.Goals as goal

pub returns-in_ok-push : goal.returns-in_ok-push
returns-in_ok-push c =
    let inside : c.in-Some.unit < length c.args.marks.now.items = omega arith in
    let clear : get_or c.args.marks.now.items c.in-Some.unit false ≡ false = search rules in
    subst (λ unit. Marks unit c.args.marks.now.items c.args.waiting.now.items (set c.args.marks.now.items c.in-Some.unit true) c.push.new.self.items) (sym c.in-Some.is)
    (subst (Marks (Some c.in-Some.unit) c.args.marks.now.items c.args.waiting.now.items (set c.args.marks.now.items c.in-Some.unit true)) (sym c.in_ok-push.ensures.items)
    (marks_one c.args.marks.now.items c.args.waiting.now.items c.in-Some.unit inside clear))
