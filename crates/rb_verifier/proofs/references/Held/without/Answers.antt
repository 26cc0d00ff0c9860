use Rattle.std.proofs.Common.{◌≡◌, filter, sym, subst, arith}
use Rattle.std.proofs.lemmas.Grind.{common_steps}
use Rattle.rb_verifier.specs.References.{IsAscending, other_than}
use Rattle.rb_verifier.proofs.Ascending.{ascending_filtered}
use Rattle.rb_verifier.proofs.references.Held.without.Goals as goal

pub invariant_of-result : goal.invariant_of-result
invariant_of-result c =
    let all : c.loop-reference.items.items ≡ filter (other_than c.args.id) c.self.inside.items.items = grind (arith, common_steps) in
    (omega arith, grind (arith, common_steps), subst IsAscending (sym all) (ascending_filtered (other_than c.args.id) c.self.inside.items.items c.self.invariant.2))
