use Rattle.std.proofs.Common.{◌≡◌, map, sym, subst, arith}
use Rattle.std.proofs.lemmas.Grind.{common_steps}
use Rattle.rb_verifier.specs.References.{IsAscending, tested_in}
use Rattle.rb_verifier.proofs.Ascending.{ascending_tested}
use Rattle.rb_verifier.proofs.references.Held.tested.Goals as goal

pub invariant_of-result : goal.invariant_of-result
invariant_of-result c =
    let all : c.loop-reference.items.items ≡ map (tested_in c.args.id) c.self.inside.items.items = grind (arith, common_steps) in
    (omega arith, grind (arith, common_steps), subst IsAscending (sym all) (ascending_tested c.args.id c.self.inside.items.items c.self.invariant.2))
