use Rattle.std.proofs.Common.{◌≡◌, ◌≤◌, ◌∙◌, sym, subst, length, length-append, arith, [], ◌∷◌}
use Rattle.rb_verifier.specs.References.{IsAscending, AreEarlier}
use Rattle.rb_verifier.proofs.Ascending.{ascending_added}
use Rattle.rb_verifier.proofs.references.Held.added.Goals as goal

pub invariant_of-held : goal.invariant_of-held
invariant_of-held c =
    let same : c.held.inside.items.items ≡ c.args.self.now = c.held.view_is ∙ c.copy-held.ensures in
    let items = c.push_reserved.ensures.items in
    let short = length-append c.held.inside.items.items (c.args.reference ∷ []) in (
      omega arith,
      subst (λ xs. length xs ≤ 4) (sym items) (rw short (rw same (omega arith))),
      subst IsAscending (sym items) (ascending_added c.args.reference c.held.inside.items.items c.held.invariant.2 (subst (AreEarlier c.args.reference.id) (sym same) c.requires.later)),
    )
